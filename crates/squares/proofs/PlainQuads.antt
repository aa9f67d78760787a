-- The square that four squares of a plain book make.
use Rattle.std.proofs.Common.{◌≡◌, ◌≢◌, ℕ, suc, ◌+◌, ◌-◌, ◌^◌, ◌<◌, ◌≤◌, Bool, true, false, List, [], ◌∷◌, ◌++◌, length, sym, ◌∙◌, ap, subst, arith, refl}
use Rattle.std.specs.Prelude.{IsTrue, Some, None}
use Rattle.std.specs.BTreeMap.{BTreeMap, get}
use Rattle.std.specs.List.{AllByRecursion}
use Rattle.std.proofs.lemmas.Bool.{false≢true}
use Rattle.rule_text.specs.CountRule.{CountRule}
use Rattle.plane.specs.Square.{IsSame, joined, empty}
use Rattle.plane.proofs.Cuts.{joined_same}
use Rattle.plane.proofs.Same.{same_sym, same_trans}
use Rattle.squares.specs.Book.{IsKnown, IsEmpty, Shows, Keeps, joined_squares, numbered, nth}
use Rattle.squares.specs.declared.node.PlainNode.{PlainNode}
use Rattle.squares.specs.declared.node.PlainNode.TheVariants.{Inner}
use Rattle.squares.specs.declared.node.Quarters.{Quarters}
use Rattle.squares.specs.declared.node.Record.{Record}
use Rattle.squares.specs.declared.sq.Num.{Num}
use Rattle.squares.specs.declared.sq.Sq.{Sq}
use Rattle.squares.specs.Nodes.{nodes_of, node_at, knows_number, plane_at, plain_book, quarters_order, AreNodeQuarters, HasNumbers, IsGood}
use Rattle.squares.specs.Quarters.{quarters_of}
use Rattle.squares.proofs.NodeLaws.{node_is, joined_is, zero_plane}
use Rattle.squares.proofs.NodeLists.{node_known, not_zero}
use Rattle.squares.proofs.NumberMaps.{inner_apart, no_leaf, not_there}
use Rattle.squares.proofs.PlainLaws.{is_known, zero_known}
use Rattle.squares.proofs.Pushed.{good_pushed}

-- four squares of a list
pub record AllFour (P : Sq → Type 0) (squares : List Sq) : Type 0 where
  pub nw : P (nth squares 0)
  pub ne : P (nth squares 1)
  pub sw : P (nth squares 2)
  pub se : P (nth squares 3)

pub all_four : (P : Sq → Type 0) (squares : List Sq) → length squares ≡ 4 → AllByRecursion P squares → AllFour P squares
all_four P [] size h = absurd (omega arith)
all_four P (a ∷ []) size h = absurd (omega arith)
all_four P (a ∷ b ∷ []) size h = absurd (omega arith)
all_four P (a ∷ b ∷ c ∷ []) size h = absurd (omega arith)
all_four P (a ∷ b ∷ c ∷ d ∷ rest) size h = record { nw = h.0; ne = h.1.0; sw = h.1.1.0; se = h.1.1.1.0 }

pub sum_of_empty : (squares : List Sq) → AllFour IsEmpty squares → (nth squares 0).num.0 + (nth squares 1).num.0 + (nth squares 2).num.0 + (nth squares 3).num.0 ≡ 0
sum_of_empty squares h = let a = h.nw in let b = h.ne in let c = h.sw in let d = h.se in omega arith

-- a node of quarters that had none
pub good_quad : (nodes : List PlainNode) (inner : BTreeMap Quarters Num) (q : Quarters) → AreNodeQuarters nodes q → HasNumbers quarters_order Inner nodes inner → get quarters_order inner q ≡ None → IsGood nodes → IsGood (nodes ++ Inner q ∷ [])
good_quad nodes inner q known listed none good = good_pushed nodes (Inner q) (not_there quarters_order Inner nodes inner q listed none)
    (λ w e. absurd (no_leaf q w e)) (λ p e. subst (AreNodeQuarters nodes) (inner_apart q p e) known) good

module _ (rule : CountRule) (exponent : ℕ) (records : List Record) (squares : List Sq) (size : length squares ≡ 4) (all : AllByRecursion (IsKnown (plain_book rule exponent records) (nth squares 0).level) squares) where
  known : AllFour (IsKnown (plain_book rule exponent records) (nth squares 0).level) squares
  known = all_four (IsKnown (plain_book rule exponent records) (nth squares 0).level) squares size all

  number_known : (n : ℕ) (sq : Sq) (k : IsKnown (plain_book rule exponent records) (nth squares 0).level sq) → IsTrue (knows_number (nodes_of records) ((nth squares 0).level + 1 - 1) sq.num.0)
  number_known n sq k = subst (λ l. IsTrue (knows_number (nodes_of records) l sq.num.0)) (let is = k.at_level in let e : sq.level ≡ (nth squares 0).level + 1 - 1 = omega arith in e) k.known

  quarters_known : (nth squares 0).level < 65 → (nth squares 0).num.0 + (nth squares 1).num.0 + (nth squares 2).num.0 + (nth squares 3).num.0 ≢ 0 → AreNodeQuarters (nodes_of records) (quarters_of squares)
  quarters_known fits some = record {
    low = (let l = known.nw.low in omega arith);
    high = omega arith;
    nw = number_known 0 (nth squares 0) known.nw;
    ne = number_known 1 (nth squares 1) known.ne;
    sw = number_known 2 (nth squares 2) known.sw;
    se = number_known 3 (nth squares 3) known.se;
    some = some;
  }

  -- the quarters that were tested are known, and not all empty
  pub tested_known : (q : Quarters) (test : Bool) → (nth squares 0).level < 65 → q ≡ quarters_of squares → (q.nw.0 + q.ne.0 + q.sw.0 + q.se.0 ≡ 0 → test ≡ true) → test ≡ false → AreNodeQuarters (nodes_of records) q
  tested_known q test fits is tested failed =
      subst (AreNodeQuarters (nodes_of records)) (sym is) (quarters_known fits (λ e. false≢true (sym failed ∙ tested (ap (λ (p : Quarters). p.nw.0 + p.ne.0 + p.sw.0 + p.se.0) is ∙ e))))

  -- a node of these quarters shows their cells
  pub node_shows : (new : List Record) (n : ℕ) → IsGood (nodes_of new) → Keeps (plain_book rule exponent records) (plain_book rule exponent new) → node_at (nodes_of new) n ≡ Some (Inner (quarters_of squares)) →
      Shows (plain_book rule exponent new) ((nth squares 0).level + 1) (joined_squares (plain_book rule exponent records) (nth squares 0).level squares) (numbered ((nth squares 0).level + 1) n)
  node_shows new n good keeps at =
      let level = (nth squares 0).level in
      let low : 3 ≤ level = known.nw.low in
      let nodes = nodes_of new in
      let more = level - 3 in
      let up : level + 1 - 3 ≡ suc more = omega arith in
      let side : more + 3 ≡ level = omega arith in
      let part = λ (sq : Sq) (k : IsKnown (plain_book rule exponent records) level sq).
      subst (λ l. IsSame (plane_at nodes (l - 3) sq.num.0) ((plain_book rule exponent records).cells sq)) k.at_level (keeps.cells sq k.known) in
      let whole : IsSame (plane_at nodes (suc more) n) (joined (2 ^ (more + 3)) (plane_at nodes more (nth squares 0).num.0) (plane_at nodes more (nth squares 1).num.0) (plane_at nodes more (nth squares 2).num.0) (plane_at nodes more (nth squares 3).num.0)) =
      same_trans (node_is nodes more (quarters_of squares) n at) (joined_is nodes more (quarters_of squares)) in
      let parts = joined_same (2 ^ (more + 3)) _ _ _ _ _ _ _ _ (part (nth squares 0) known.nw) (part (nth squares 1) known.ne) (part (nth squares 2) known.sw) (part (nth squares 3) known.se) in
      record {
        known = is_known rule exponent new good (level + 1) n (node_known nodes (level + 1) n (Inner (quarters_of squares)) (not_zero nodes n _ at) at refl);
        cells = subst (λ m. IsSame (plane_at nodes m n) (joined_squares (plain_book rule exponent records) level squares)) (sym up)
            (subst (λ l. IsSame (plane_at nodes (suc more) n) (joined (2 ^ l) ((plain_book rule exponent records).cells (nth squares 0)) ((plain_book rule exponent records).cells (nth squares 1)) ((plain_book rule exponent records).cells (nth squares 2)) ((plain_book rule exponent records).cells (nth squares 3)))) side (same_trans whole parts));
      }

  empty_part : (sq : Sq) → sq.num.0 ≡ 0 → IsSame ((plain_book rule exponent records).cells sq) empty
  empty_part sq e = subst (λ n. IsSame (plane_at (nodes_of records) (sq.level - 3) n) empty) (sym e) (zero_plane (nodes_of records) (sq.level - 3))

  joined_empty : (side : ℕ) → IsSame (joined side empty empty empty empty) empty
  joined_empty side = record { same = λ x y. grind arith }

  -- four empty squares make an empty one
  pub empty_shows : IsGood (nodes_of records) → (nth squares 0).level < 65 → (nth squares 0).num.0 + (nth squares 1).num.0 + (nth squares 2).num.0 + (nth squares 3).num.0 ≡ 0 →
      Shows (plain_book rule exponent records) ((nth squares 0).level + 1) (joined_squares (plain_book rule exponent records) (nth squares 0).level squares) (numbered ((nth squares 0).level + 1) 0)
  empty_shows good fits none =
      let level = (nth squares 0).level in
      let low : 3 ≤ level = known.nw.low in
      record {
        known = is_known rule exponent records good (level + 1) 0 (zero_known (nodes_of records) (level + 1) (omega arith) (omega arith));
        cells = same_trans (zero_plane (nodes_of records) (level + 1 - 3)) (same_sym (same_trans
            (joined_same (2 ^ level) _ _ _ _ _ _ _ _ (empty_part (nth squares 0) (omega arith)) (empty_part (nth squares 1) (omega arith)) (empty_part (nth squares 2) (omega arith)) (empty_part (nth squares 3) (omega arith)))
            (joined_empty (2 ^ level))));
      }
