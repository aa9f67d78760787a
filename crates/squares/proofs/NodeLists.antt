-- Lists of nodes, and what stays of them as they grow.
use Rattle.std.proofs.Common.{◌≡◌, ◌≢◌, ℕ, zero, suc, ◌+◌, ◌-◌, ◌^◌, ◌≤◌, ◌⊎◌, Bool, true, false, cond, eqb, List, [], ◌∷◌, ◌++◌, length, sym, ◌∙◌, ap, subst, arith, refl, inl, inr, ⊎_elim}
use Rattle.std.specs.Prelude.{IsTrue, Option, Some, None, ◌&&◌, ◌==◌, nat_le}
use Rattle.std.proofs.lemmas.Bool.{eqb-true, leb-true, false≢true}
use Rattle.plane.specs.Plane.{Plane}
use Rattle.plane.specs.Square.{IsSame, empty}
use Rattle.plane.proofs.Cuts.{joined_same, and_left, and_right}
use Rattle.plane.proofs.Same.{same_refl}
use Rattle.squares.specs.declared.node.PlainNode.{PlainNode}
use Rattle.squares.specs.declared.node.PlainNode.TheVariants.{Leaf, Inner}
use Rattle.squares.specs.declared.node.Quarters.{Quarters}
use Rattle.squares.proofs.Places.{get_later, get_last, get_push}
use Rattle.squares.specs.Nodes.{node_at, level_of, has_level, knows_number, leaf_plane, inner_plane, plane_at, IsGood}

-- no node stands under 0
pub not_zero : (nodes : List PlainNode) (n : ℕ) (node : PlainNode) → node_at nodes n ≡ Some node → n ≢ 0
not_zero nodes zero node h e = let no : ⊥ = cc in no
not_zero nodes (suc n) node h e = let no : ⊥ = cc in no

pub node_later : (nodes more : List PlainNode) (n : ℕ) (node : PlainNode) → node_at nodes n ≡ Some node → node_at (nodes ++ more) n ≡ Some node
node_later nodes more zero node h = h
node_later nodes more (suc i) node h = get_later nodes more i node h

pub node_last : (nodes : List PlainNode) (node : PlainNode) → node_at (nodes ++ node ∷ []) (suc (length nodes)) ≡ Some node
node_last nodes node = get_last nodes node

-- the node that came last has the last number
pub node_pushed : (nodes new : List PlainNode) (node : PlainNode) (n : ℕ) → new ≡ nodes ++ node ∷ [] → suc (length nodes) ≡ n → node_at new n ≡ Some node
node_pushed nodes new node n all is = subst (λ ns. node_at ns n ≡ Some node) (sym all) (subst (λ m. node_at (nodes ++ node ∷ []) m ≡ Some node) is (node_last nodes node))

pub node_snoc : (nodes : List PlainNode) (last node : PlainNode) (n : ℕ) → node_at (nodes ++ last ∷ []) n ≡ Some node → (node_at nodes n ≡ Some node) ⊎ ((n ≡ suc (length nodes)) × (last ≡ node))
node_snoc nodes last node zero h = inl h
node_snoc nodes last node (suc i) h = ⊎_elim (λ t. inl t) (λ t. inr (ap suc t.0, t.1)) (get_push nodes last node i h)

known_step : (b zeros : Bool) (level : ℕ) (o p : Option PlainNode) → ((node : PlainNode) → o ≡ Some node → p ≡ Some node) → IsTrue (cond b zeros (has_level level o)) → IsTrue (cond b zeros (has_level level p))
known_step true zeros level o p f h = h
known_step false zeros level None p f h = absurd (false≢true h)
known_step false zeros level (Some node) p f h = subst (λ t. IsTrue (has_level level t)) (sym (f node refl)) h

pub known_later : (nodes more : List PlainNode) (level n : ℕ) → IsTrue (knows_number nodes level n) → IsTrue (knows_number (nodes ++ more) level n)
known_later nodes more level n h = known_step (eqb n 0) (nat_le 3 level && nat_le level 65) level (node_at nodes n) (node_at (nodes ++ more) n) (node_later nodes more n) h

-- a known number is 0, or a node of the level stands under it
Stands : List PlainNode → ℕ → ℕ → Type 0
Stands nodes level n = (n ≡ 0) ⊎ ((node : PlainNode) × (node_at nodes n ≡ Some node) × (level_of node ≡ level))

stands_step : (nodes : List PlainNode) (level n : ℕ) (b zeros : Bool) (o : Option PlainNode) → eqb n 0 ≡ b → node_at nodes n ≡ o → IsTrue (cond b zeros (has_level level o)) → Stands nodes level n
unfolding Stands
stands_step nodes level n true zeros o e f h = inl (eqb-true n 0 e)
stands_step nodes level n false zeros None e f h = absurd (false≢true h)
stands_step nodes level n false zeros (Some node) e f h = inr (node, f, eqb-true (level_of node) level h)

pub stands : (nodes : List PlainNode) (level n : ℕ) → IsTrue (knows_number nodes level n) → (n ≡ 0) ⊎ ((node : PlainNode) × (node_at nodes n ≡ Some node) × (level_of node ≡ level))
unfolding Stands
stands nodes level n h = stands_step nodes level n (eqb n 0) (nat_le 3 level && nat_le level 65) (node_at nodes n) refl refl h

-- a number other than 0 with a node of the level is known
known_from : (b zeros : Bool) (level : ℕ) (o : Option PlainNode) (node : PlainNode) → b ≡ false → o ≡ Some node → level_of node ≡ level → IsTrue (cond b zeros (has_level level o))
known_from true zeros level o node e f l = absurd (false≢true (sym e))
known_from false zeros level o node e f l = subst (λ t. IsTrue (has_level level t)) (sym f) (subst (λ m. IsTrue (level_of node == m)) l (same_number (level_of node)))
  where
    same_number : (n : ℕ) → (n == n) ≡ true
    same_number n = grind arith

pub node_known : (nodes : List PlainNode) (level n : ℕ) (node : PlainNode) → n ≢ 0 → node_at nodes n ≡ Some node → level_of node ≡ level → IsTrue (knows_number nodes level n)
node_known nodes level n node some at l = known_from (eqb n 0) (nat_le 3 level && nat_le level 65) level (node_at nodes n) node (grind arith) at l

same_node : (nodes more : List PlainNode) (level n : ℕ) → IsTrue (knows_number nodes level n) → node_at (nodes ++ more) n ≡ node_at nodes n
same_node nodes more level n h =
    ⊎_elim (λ e. subst (λ m. node_at (nodes ++ more) m ≡ node_at nodes m) (sym e) refl) (λ t. node_later nodes more n t.0 t.1 ∙ sym t.1) (stands nodes level n h)

inner_same : (f g : ℕ → Plane) (side : ℕ) (o : Option PlainNode) →
    ((q : Quarters) → o ≡ Some (Inner q) → IsSame (f q.nw.0) (g q.nw.0) × IsSame (f q.ne.0) (g q.ne.0) × IsSame (f q.sw.0) (g q.sw.0) × IsSame (f q.se.0) (g q.se.0)) →
    IsSame (inner_plane f side o) (inner_plane g side o)
inner_same f g side None h = same_refl empty
inner_same f g side (Some (Leaf word)) h = same_refl empty
inner_same f g side (Some (Inner q)) h = let k = h q refl in joined_same side (f q.nw.0) (f q.ne.0) (f q.sw.0) (f q.se.0) (g q.nw.0) (g q.ne.0) (g q.sw.0) (g q.se.0) k.0 k.1 k.2 k.3

-- the level of a node that stands under a known number
pub level_at : (nodes : List PlainNode) (level n : ℕ) (node : PlainNode) → IsTrue (knows_number nodes level n) → node_at nodes n ≡ Some node → level_of node ≡ level
level_at nodes level n node h f =
    ⊎_elim (λ e. let no : None ≡ Some node = subst (λ m. node_at nodes m ≡ Some node) e f in let nope : ⊥ = cc in absurd nope)
    (λ t. let same : Some t.0 ≡ Some node = sym t.1 ∙ f in let one : t.0 ≡ node = cc in ap level_of (sym one) ∙ t.2)
    (stands nodes level n h)

pub lower : (nodes : List PlainNode) (level more n : ℕ) → level ≡ suc more + 3 → IsTrue (knows_number nodes (level - 1) n) → IsTrue (knows_number nodes (more + 3) n)
lower nodes level more n e h = subst (λ l. IsTrue (knows_number nodes l n)) (let k : level - 1 ≡ more + 3 = omega arith in k) h

pub plane_later : (nodes others : List PlainNode) → IsGood nodes → (more n : ℕ) → IsTrue (knows_number nodes (more + 3) n) → IsSame (plane_at (nodes ++ others) more n) (plane_at nodes more n)
plane_later nodes others good zero n h = record { same = λ x y. ap (λ o. leaf_plane o x y) (same_node nodes others 3 n h) }
plane_later nodes others good (suc more) n h =
    subst (λ o. IsSame (inner_plane (plane_at (nodes ++ others) more) (2 ^ (more + 3)) o) (inner_plane (plane_at nodes more) (2 ^ (more + 3)) (node_at nodes n))) (sym (same_node nodes others (suc more + 3) n h))
    (inner_same (plane_at (nodes ++ others) more) (plane_at nodes more) (2 ^ (more + 3)) (node_at nodes n) (λ q is.
    let k = good.inner n q is in
    let e : q.level ≡ suc more + 3 = level_at nodes (suc more + 3) n (Inner q) h is in (
      plane_later nodes others good more q.nw.0 (lower nodes q.level more q.nw.0 e k.nw),
      plane_later nodes others good more q.ne.0 (lower nodes q.level more q.ne.0 e k.ne),
      plane_later nodes others good more q.sw.0 (lower nodes q.level more q.sw.0 e k.sw),
      plane_later nodes others good more q.se.0 (lower nodes q.level more q.se.0 e k.se),
    )))

zero_levels : (nodes : List PlainNode) (level n : ℕ) → n ≡ 0 → IsTrue (knows_number nodes level n) → (3 ≤ level) × (level ≤ 65)
zero_levels nodes level n e h =
    let both : (nat_le 3 level && nat_le level 65) ≡ true = subst (λ m. IsTrue (knows_number nodes level m)) e h in
    (leb-true 3 level (and_left (nat_le 3 level) (nat_le level 65) both), leb-true level 65 (and_right (nat_le 3 level) (nat_le level 65) both))

node_levels : (nodes : List PlainNode) (n : ℕ) (node : PlainNode) → IsGood nodes → node_at nodes n ≡ Some node → (3 ≤ level_of node) × (level_of node ≤ 65)
node_levels nodes n (Leaf word) good f = (omega arith, omega arith)
node_levels nodes n (Inner q) good f = let k = good.inner n q f in let low = k.low in (omega arith, k.high)

pub levels : (nodes : List PlainNode) → IsGood nodes → (level n : ℕ) → IsTrue (knows_number nodes level n) → (3 ≤ level) × (level ≤ 65)
levels nodes good level n h = ⊎_elim (λ e. zero_levels nodes level n e h) (λ t. subst (λ l. (3 ≤ l) × (l ≤ 65)) t.2 (node_levels nodes n t.0 good t.1)) (stands nodes level n h)

pub at_height : (nodes : List PlainNode) (level n : ℕ) → 3 ≤ level → IsTrue (knows_number nodes level n) → IsTrue (knows_number nodes (level - 3 + 3) n)
at_height nodes level n above h = subst (λ l. IsTrue (knows_number nodes l n)) (let e : level ≡ level - 3 + 3 = omega arith in e) h
