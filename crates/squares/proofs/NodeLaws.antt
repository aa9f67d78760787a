-- A list of good nodes has one number for each square.
use Rattle.std.proofs.Common.{◌≡◌, ℕ, zero, suc, ◌+◌, ◌*◌, ◌^◌, List, sym, ◌∙◌, ap, subst, arith, refl, ⊎_elim}
use Rattle.std.specs.Prelude.{IsTrue, Option, Some, None, ◌&&◌, unsigned_abs}
use Rattle.std.proofs.Math.Nat.{pow-suc}
use Rattle.plane.specs.Plane.{Plane}
use Rattle.plane.specs.Square.{IsSame, IsSquare, cut, joined, empty, bits_plane, bit}
use Rattle.plane.proofs.Cuts.{joined_within, joined_nw, joined_ne, joined_sw, joined_se, cut_same, cut_empty}
use Rattle.plane.proofs.LeafBits.{bits_same, bits_none}
use Rattle.plane.proofs.Same.{same_refl, same_sym, same_trans}
use Rattle.squares.specs.declared.sq.Num.{Num}
use Rattle.squares.specs.declared.node.PlainNode.{PlainNode}
use Rattle.squares.specs.declared.node.PlainNode.TheVariants.{Leaf, Inner}
use Rattle.squares.specs.declared.node.Quarters.{Quarters}
use Rattle.squares.specs.Nodes.{node_at, level_of, knows_number, leaf_plane, inner_plane, plane_at, IsGood}
use Rattle.squares.proofs.NodeLists.{stands, lower}

pub double : (more : ℕ) → 2 ^ (more + 3) + 2 ^ (more + 3) ≡ 2 ^ (suc more + 3)
double more =
    let two : 2 ^ suc (more + 3) ≡ 2 ^ (more + 3) * 2 = pow-suc 2 (more + 3) in
    let e : suc (more + 3) ≡ suc more + 3 = omega arith in
    let s : 2 ^ (more + 3) + 2 ^ (more + 3) ≡ 2 ^ suc (more + 3) = omega (arith, two) in
    s ∙ ap (λ n. 2 ^ n) e

leaf_square : (o : Option PlainNode) → IsSquare 8 (leaf_plane o)
leaf_square None = record { dead = λ x y e. refl }
leaf_square (Some (Leaf word)) = record { dead = λ x y e. ap (λ b. b && bit word (8 * unsigned_abs y + unsigned_abs x)) e }
leaf_square (Some (Inner q)) = record { dead = λ x y e. refl }

inner_square : (plane : ℕ → Plane) (side : ℕ) (o : Option PlainNode) → ((n : ℕ) → IsSquare side (plane n)) → IsSquare (side + side) (inner_plane plane side o)
inner_square plane side None h = record { dead = λ x y e. refl }
inner_square plane side (Some (Leaf word)) h = record { dead = λ x y e. refl }
inner_square plane side (Some (Inner q)) h = joined_within side (plane q.nw.0) (plane q.ne.0) (plane q.sw.0) (plane q.se.0) (h q.nw.0) (h q.ne.0) (h q.sw.0) (h q.se.0)

pub plane_square : (nodes : List PlainNode) (more n : ℕ) → IsSquare (2 ^ (more + 3)) (plane_at nodes more n)
plane_square nodes zero n = leaf_square (node_at nodes n)
plane_square nodes (suc more) n = subst (λ side. IsSquare side (plane_at nodes (suc more) n)) (double more) (inner_square (plane_at nodes more) (2 ^ (more + 3)) (node_at nodes n) (plane_square nodes more))

pub zero_plane : (nodes : List PlainNode) (more : ℕ) → IsSame (plane_at nodes more 0) empty
zero_plane nodes zero = same_refl empty
zero_plane nodes (suc more) = same_refl empty

-- what stands under a number, seen in its plane
pub leaf_is : (nodes : List PlainNode) (n word : ℕ) → node_at nodes n ≡ Some (Leaf word) → IsSame (plane_at nodes zero n) (bits_plane word)
leaf_is nodes n word at = record { same = λ x y. ap (λ o. leaf_plane o x y) at }

-- the cells of four quarters, joined
module _ (nodes : List PlainNode) (more : ℕ) (q : Quarters) where
  pub all_joined : Plane
  all_joined = joined (2 ^ (more + 3)) (plane_at nodes more q.nw.0) (plane_at nodes more q.ne.0) (plane_at nodes more q.sw.0) (plane_at nodes more q.se.0)

  pub node_is : (n : ℕ) → node_at nodes n ≡ Some (Inner q) → IsSame (plane_at nodes (suc more) n) all_joined
  unfolding all_joined
  node_is n at = record { same = λ x y. ap (λ o. inner_plane (plane_at nodes more) (2 ^ (more + 3)) o x y) at }

  pub joined_is : IsSame all_joined (joined (2 ^ (more + 3)) (plane_at nodes more q.nw.0) (plane_at nodes more q.ne.0) (plane_at nodes more q.sw.0) (plane_at nodes more q.se.0))
  unfolding all_joined
  joined_is = record { same = λ x y. refl }

  pub at_nw : IsSame (plane_at nodes more q.nw.0) (cut (2 ^ (more + 3)) 0 0 all_joined)
  unfolding all_joined
  at_nw = joined_nw (2 ^ (more + 3)) _ _ _ _ (plane_square nodes more q.nw.0) (plane_square nodes more q.ne.0) (plane_square nodes more q.sw.0) (plane_square nodes more q.se.0)

  pub at_ne : IsSame (plane_at nodes more q.ne.0) (cut (2 ^ (more + 3)) (2 ^ (more + 3)) 0 all_joined)
  unfolding all_joined
  at_ne = joined_ne (2 ^ (more + 3)) _ _ _ _ (plane_square nodes more q.nw.0) (plane_square nodes more q.ne.0) (plane_square nodes more q.sw.0) (plane_square nodes more q.se.0)

  pub at_sw : IsSame (plane_at nodes more q.sw.0) (cut (2 ^ (more + 3)) 0 (2 ^ (more + 3)) all_joined)
  unfolding all_joined
  at_sw = joined_sw (2 ^ (more + 3)) _ _ _ _ (plane_square nodes more q.nw.0) (plane_square nodes more q.ne.0) (plane_square nodes more q.sw.0) (plane_square nodes more q.se.0)

  pub at_se : IsSame (plane_at nodes more q.se.0) (cut (2 ^ (more + 3)) (2 ^ (more + 3)) (2 ^ (more + 3)) all_joined)
  unfolding all_joined
  at_se = joined_se (2 ^ (more + 3)) _ _ _ _ (plane_square nodes more q.nw.0) (plane_square nodes more q.ne.0) (plane_square nodes more q.sw.0) (plane_square nodes more q.se.0)

-- a number whose square is empty is 0
empty_leaf : (nodes : List PlainNode) → IsGood nodes → (n : ℕ) (node : PlainNode) → node_at nodes n ≡ Some node → level_of node ≡ 3 → IsSame (plane_at nodes zero n) empty → ⊥
empty_leaf nodes good n (Leaf word) at level same =
    let k = good.leaf n word at in k.0 (bits_none word k.1 (same_trans (same_sym (leaf_is nodes n word at)) same))
empty_leaf nodes good n (Inner q) at level same = let k = (good.inner n q at).low in omega arith

empty_inner : (nodes : List PlainNode) → IsGood nodes → (more : ℕ) → ((m : ℕ) → IsTrue (knows_number nodes (more + 3) m) → IsSame (plane_at nodes more m) empty → m ≡ 0) →
    (n : ℕ) (node : PlainNode) → node_at nodes n ≡ Some node → level_of node ≡ suc more + 3 → IsSame (plane_at nodes (suc more) n) empty → ⊥
empty_inner nodes good more below n (Leaf word) at level same = omega arith
empty_inner nodes good more below n (Inner q) at level same =
    let k = good.inner n q at in
    let all : IsSame (all_joined nodes more q) empty = same_trans (same_sym (node_is nodes more q n at)) same in
    let s = 2 ^ (more + 3) in
    let a : q.nw.0 ≡ 0 = below q.nw.0 (lower nodes q.level more q.nw.0 level k.nw) (same_trans (at_nw nodes more q) (same_trans (cut_same s 0 0 _ _ all) (cut_empty s 0 0))) in
    let b : q.ne.0 ≡ 0 = below q.ne.0 (lower nodes q.level more q.ne.0 level k.ne) (same_trans (at_ne nodes more q) (same_trans (cut_same s s 0 _ _ all) (cut_empty s s 0))) in
    let c : q.sw.0 ≡ 0 = below q.sw.0 (lower nodes q.level more q.sw.0 level k.sw) (same_trans (at_sw nodes more q) (same_trans (cut_same s 0 s _ _ all) (cut_empty s 0 s))) in
    let d : q.se.0 ≡ 0 = below q.se.0 (lower nodes q.level more q.se.0 level k.se) (same_trans (at_se nodes more q) (same_trans (cut_same s s s _ _ all) (cut_empty s s s))) in
    k.some (omega arith)

pub empty_number : (nodes : List PlainNode) → IsGood nodes → (more n : ℕ) → IsTrue (knows_number nodes (more + 3) n) → IsSame (plane_at nodes more n) empty → n ≡ 0
empty_number nodes good zero n h same = ⊎_elim (λ e. e) (λ t. absurd (empty_leaf nodes good n t.0 t.1 t.2 same)) (stands nodes 3 n h)
empty_number nodes good (suc more) n h same = ⊎_elim (λ e. e) (λ t. absurd (empty_inner nodes good more (empty_number nodes good more) n t.0 t.1 t.2 same)) (stands nodes (suc more + 3) n h)

-- squares with the same cells have one number
one_leaf : (nodes : List PlainNode) → IsGood nodes → (n m : ℕ) (x y : PlainNode) → node_at nodes n ≡ Some x → level_of x ≡ 3 → node_at nodes m ≡ Some y → level_of y ≡ 3 → IsSame (plane_at nodes zero n) (plane_at nodes zero m) → n ≡ m
one_leaf nodes good n m (Leaf w) (Leaf v) at_n ln at_m lm same =
    let e : w ≡ v = bits_same w v (good.leaf n w at_n).1 (good.leaf m v at_m).1 (same_trans (same_sym (leaf_is nodes n w at_n)) (same_trans same (leaf_is nodes m v at_m))) in
    good.distinct n m (Leaf v) (subst (λ u. node_at nodes n ≡ Some (Leaf u)) e at_n) at_m
one_leaf nodes good n m (Leaf w) (Inner q) at_n ln at_m lm same = let k = (good.inner m q at_m).low in absurd (omega arith)
one_leaf nodes good n m (Inner q) y at_n ln at_m lm same = let k = (good.inner n q at_n).low in absurd (omega arith)

one_inner : (nodes : List PlainNode) → IsGood nodes → (more : ℕ) → ((a b : ℕ) → IsTrue (knows_number nodes (more + 3) a) → IsTrue (knows_number nodes (more + 3) b) → IsSame (plane_at nodes more a) (plane_at nodes more b) → a ≡ b) →
    (n m : ℕ) (x y : PlainNode) → node_at nodes n ≡ Some x → level_of x ≡ suc more + 3 → node_at nodes m ≡ Some y → level_of y ≡ suc more + 3 → IsSame (plane_at nodes (suc more) n) (plane_at nodes (suc more) m) → n ≡ m
one_inner nodes good more below n m (Leaf w) y at_n ln at_m lm same = absurd (omega arith)
one_inner nodes good more below n m (Inner q) (Leaf w) at_n ln at_m lm same = absurd (omega arith)
one_inner nodes good more below n m (Inner q) (Inner r) at_n ln at_m lm same =
    let k = good.inner n q at_n in
    let j = good.inner m r at_m in
    let all : IsSame (all_joined nodes more q) (all_joined nodes more r) = same_trans (same_sym (node_is nodes more q n at_n)) (same_trans same (node_is nodes more r m at_m)) in
    let s = 2 ^ (more + 3) in
    let a : q.nw.0 ≡ r.nw.0 = below q.nw.0 r.nw.0 (lower nodes q.level more q.nw.0 ln k.nw) (lower nodes r.level more r.nw.0 lm j.nw) (same_trans (at_nw nodes more q) (same_trans (cut_same s 0 0 _ _ all) (same_sym (at_nw nodes more r)))) in
    let b : q.ne.0 ≡ r.ne.0 = below q.ne.0 r.ne.0 (lower nodes q.level more q.ne.0 ln k.ne) (lower nodes r.level more r.ne.0 lm j.ne) (same_trans (at_ne nodes more q) (same_trans (cut_same s s 0 _ _ all) (same_sym (at_ne nodes more r)))) in
    let c : q.sw.0 ≡ r.sw.0 = below q.sw.0 r.sw.0 (lower nodes q.level more q.sw.0 ln k.sw) (lower nodes r.level more r.sw.0 lm j.sw) (same_trans (at_sw nodes more q) (same_trans (cut_same s 0 s _ _ all) (same_sym (at_sw nodes more r)))) in
    let d : q.se.0 ≡ r.se.0 = below q.se.0 r.se.0 (lower nodes q.level more q.se.0 ln k.se) (lower nodes r.level more r.se.0 lm j.se) (same_trans (at_se nodes more q) (same_trans (cut_same s s s _ _ all) (same_sym (at_se nodes more r)))) in
    let l : q.level ≡ r.level = ln ∙ sym lm in
    let number : ℕ → Num = λ v. record { 0 = v } in
    let same_quarters : q ≡ r = λ i. record { level = l i; nw = number (a i); ne = number (b i); sw = number (c i); se = number (d i) } in
    good.distinct n m (Inner r) (at_n ∙ ap (λ p. Some (Inner p)) same_quarters) at_m

none_like : (nodes : List PlainNode) (more n m : ℕ) → n ≡ 0 → IsSame (plane_at nodes more n) (plane_at nodes more m) → IsSame (plane_at nodes more m) empty
none_like nodes more n m e same = same_trans (same_sym same) (subst (λ k. IsSame (plane_at nodes more k) empty) (sym e) (zero_plane nodes more))

pub one_number : (nodes : List PlainNode) → IsGood nodes → (more n m : ℕ) → IsTrue (knows_number nodes (more + 3) n) → IsTrue (knows_number nodes (more + 3) m) → IsSame (plane_at nodes more n) (plane_at nodes more m) → n ≡ m
one_number nodes good zero n m h k same =
    ⊎_elim (λ e. e ∙ sym (empty_number nodes good zero m k (none_like nodes zero n m e same)))
    (λ t. ⊎_elim (λ e. empty_number nodes good zero n h (none_like nodes zero m n e (same_sym same)) ∙ sym e)
    (λ u. one_leaf nodes good n m t.0 u.0 t.1 t.2 u.1 u.2 same) (stands nodes 3 m k))
    (stands nodes 3 n h)
one_number nodes good (suc more) n m h k same =
    ⊎_elim (λ e. e ∙ sym (empty_number nodes good (suc more) m k (none_like nodes (suc more) n m e same)))
    (λ t. ⊎_elim (λ e. empty_number nodes good (suc more) n h (none_like nodes (suc more) m n e (same_sym same)) ∙ sym e)
    (λ u. one_inner nodes good more (one_number nodes good more) n m t.0 u.0 t.1 t.2 u.1 u.2 same) (stands nodes (suc more + 3) m k))
    (stands nodes (suc more + 3) n h)
