-- The nodes of a plain book: the record at index i has number i + 1.
use Rattle.std.specs.Prelude.{◌≡◌, ◌≢◌, ℕ, zero, suc, ◌+◌, ◌-◌, ◌^◌, ◌<◌, ◌≤◌, ◌==◌, nat_le, ◌&&◌, Bool, true, false, if◌then◌else◌, List, [], ◌∷◌, ◌++◌, map, slice_get, IsTrue, Option, Some, None, is_some, option_and_then}
use Rattle.std.specs.BTreeMap.{BTreeMap, get}
use Rattle.std.specs.Ordering.{nat_cmp, ordering_then}
use Rattle.std.specs.declared.cmp.Ordering.{Ordering}
use Rattle.plane.specs.declared.cell.TheConstants.{HIGHEST_LEVEL}
use Rattle.plane.specs.Plane.{Plane}
use Rattle.plane.specs.Square.{joined, empty, bits_plane}
use Rattle.rule_text.specs.CountRule.{CountRule}
use Rattle.squares.specs.Book.{Book, IsFuture, numbered, own_store}
use Rattle.squares.specs.declared.node.PlainNode.{PlainNode}
use Rattle.squares.specs.declared.node.PlainNode.TheVariants.{Leaf, Inner}
use Rattle.squares.specs.declared.node.Quarters.{Quarters}
use Rattle.squares.specs.declared.node.Record.{Record}
use Rattle.squares.specs.declared.sq.Num.{Num}
use Rattle.squares.specs.declared.sq.Sq.{Sq}

abbrev pub nodes_of : List Record → List PlainNode
nodes_of records = map (λ (r : Record). r.node) records

-- the records and one of this node, whose result isn't known
abbrev pub with_node : List Record → PlainNode → List Record
with_node records node = records ++ record { node = node; future = None } ∷ []

-- the node that has this number
abbrev pub node_at : List PlainNode → ℕ → Option PlainNode
node_at nodes zero = None
node_at nodes (suc i) = slice_get nodes i

abbrev pub level_of : PlainNode → ℕ
level_of (Leaf word) = 3
level_of (Inner quarters) = quarters.level

abbrev pub has_level : ℕ → Option PlainNode → Bool
has_level level None = false
has_level level (Some node) = level_of node == level

-- whether a square of this level has this number
abbrev pub knows_number : List PlainNode → ℕ → ℕ → Bool
knows_number nodes level n =
    if n == 0 then nat_le 3 level && nat_le level HIGHEST_LEVEL else has_level level (node_at nodes n)

abbrev pub leaf_plane : Option PlainNode → Plane
leaf_plane (Some (Leaf word)) = bits_plane word
leaf_plane _ = empty

abbrev pub inner_plane : (ℕ → Plane) → ℕ → Option PlainNode → Plane
inner_plane plane side (Some (Inner quarters)) =
    joined side (plane quarters.nw.0) (plane quarters.ne.0) (plane quarters.sw.0)
    (plane quarters.se.0)
inner_plane plane side _ = empty

-- the cells of a number's square, of level 3 and so many more
abbrev pub plane_at : List PlainNode → ℕ → ℕ → Plane
plane_at nodes zero n = leaf_plane (node_at nodes n)
plane_at nodes (suc more) n = inner_plane (plane_at nodes more) (2 ^ (more + 3)) (node_at nodes n)

-- the squares of the records whose result is known, where the first record has the number behind
-- this one
abbrev pub results_from : ℕ → List Record → List Sq
results_from n [] = []
results_from n (r ∷ rs) =
    if is_some r.future then numbered (level_of r.node) (suc n) ∷ results_from (suc n) rs
    else results_from (suc n) rs

abbrev pub plain_book : CountRule → ℕ → List Record → Book
plain_book rule exponent records = record {
  rule = rule;
  exponent = exponent;
  knows = λ sq. knows_number (nodes_of records) sq.level sq.num.0;
  cells = λ sq. plane_at (nodes_of records) (sq.level - 3) sq.num.0;
  results = results_from 0 records;
  learned = 0;
  is_full = false;
  takes_memory = true;
  store = own_store;
  facts = [];
}

-- the quarters are known, and not all empty
pub record AreNodeQuarters (nodes : List PlainNode) (quarters : Quarters) : Type 0 where
  pub low : 3 < quarters.level
  pub high : quarters.level ≤ HIGHEST_LEVEL
  pub nw : IsTrue (knows_number nodes (quarters.level - 1) quarters.nw.0)
  pub ne : IsTrue (knows_number nodes (quarters.level - 1) quarters.ne.0)
  pub sw : IsTrue (knows_number nodes (quarters.level - 1) quarters.sw.0)
  pub se : IsTrue (knows_number nodes (quarters.level - 1) quarters.se.0)
  pub some : quarters.nw.0 + quarters.ne.0 + quarters.sw.0 + quarters.se.0 ≢ 0

-- no node stands for an empty square, and no two for the same
pub record IsGood (nodes : List PlainNode) : Type 0 where
  pub leaf : (n word : ℕ) → node_at nodes n ≡ Some (Leaf word) → (word ≢ 0) × (word < 2 ^ 64)
  pub inner : (n : ℕ) (quarters : Quarters) → node_at nodes n ≡ Some (Inner quarters) →
      AreNodeQuarters nodes quarters
  pub distinct : (n m : ℕ) (node : PlainNode) → node_at nodes n ≡ Some node →
      node_at nodes m ≡ Some node → n ≡ m

-- the map has the number of each node of a kind
pub record HasNumbers {Key : Type 0} (order : Key → Key → Ordering) (node : Key → PlainNode)
    (nodes : List PlainNode) (numbers : BTreeMap Key Num) : Type 0 where
  pub listed : (key : Key) (num : Num) → node_at nodes num.0 ≡ Some (node key) →
      get order numbers key ≡ Some num
  pub found : (key : Key) (num : Num) → get order numbers key ≡ Some num →
      node_at nodes num.0 ≡ Some (node key)

-- quarters are ordered by their level, and then by their numbers
abbrev pub quarters_order : Quarters → Quarters → Ordering
quarters_order a b =
    ordering_then (nat_cmp a.level b.level)
    (ordering_then (nat_cmp a.nw.0 b.nw.0)
    (ordering_then (nat_cmp a.ne.0 b.ne.0)
    (ordering_then (nat_cmp a.sw.0 b.sw.0) (nat_cmp a.se.0 b.se.0))))

-- the number of a number's result
abbrev pub future_at : List Record → ℕ → Option Num
future_at records zero = None
future_at records (suc i) = option_and_then (λ (r : Record). r.future) (slice_get records i)

-- each result is the future of its square
pub record AreFutures (rule : CountRule) (exponent : ℕ) (records : List Record) : Type 0 where
  pub futures : (n : ℕ) (node : PlainNode) (num : Num) → node_at (nodes_of records) n ≡ Some node →
      future_at records n ≡ Some num →
      (3 < level_of node)
      × IsFuture (plain_book rule exponent records) (numbered (level_of node) n)
      (numbered (level_of node - 1) num.0)
