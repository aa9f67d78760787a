-- Maps from the nodes of a kind to their numbers, as nodes are added.
use Rattle.std.proofs.Common.{◌≡◌, ℕ, suc, Bool, true, false, List, [], ◌∷◌, ◌++◌, length, sym, ◌∙◌, ap, subst, refl, ⊎_elim}
use Rattle.std.specs.Prelude.{Option, Some, None, Result, Ok, Err, is_err, OnOk, OnErr}
use Rattle.std.specs.Map.{lookup}
use Rattle.std.specs.BTreeMap.{BTreeMap, get, is_at, Updates}
use Rattle.std.specs.Ordering.{nat_cmp, is_eq, ordering_then}
use Rattle.std.specs.declared.cmp.Ordering.{Ordering}
use Rattle.std.specs.declared.cmp.Ordering.TheVariants.{Less, Equal, Greater}
use Rattle.std.proofs.lemmas.Map.Lookups.{CmpEqualImpliesEq, exact_unsigned}
use Rattle.std.proofs.lemmas.Bool.{false≢true}
use Rattle.squares.specs.declared.node.PlainNode.{PlainNode}
use Rattle.squares.specs.declared.node.PlainNode.TheVariants.{Leaf, Inner}
use Rattle.squares.specs.declared.node.Quarters.{Quarters}
use Rattle.squares.specs.declared.sq.Num.{Num}
use Rattle.squares.specs.Nodes.{node_at, HasNumbers, quarters_order}
use Rattle.squares.proofs.NodeLists.{node_later, node_last, node_snoc}

num : ℕ → Num
num n = record { 0 = n }

both_equal : (a b : Ordering) → ordering_then a b ≡ Equal → (a ≡ Equal) × (b ≡ Equal)
both_equal Less b h = let no : ⊥ = cc in absurd no
both_equal Equal b h = (refl, h)
both_equal Greater b h = let no : ⊥ = cc in absurd no

pub exact_quarters : CmpEqualImpliesEq quarters_order
exact_quarters a b h =
    let one = both_equal (nat_cmp a.level b.level) _ h in
    let two = both_equal (nat_cmp a.nw.0 b.nw.0) _ one.1 in
    let three = both_equal (nat_cmp a.ne.0 b.ne.0) _ two.1 in
    let four = both_equal (nat_cmp a.sw.0 b.sw.0) _ three.1 in
    let level = exact_unsigned a.level b.level one.0 in
    let nw = exact_unsigned a.nw.0 b.nw.0 two.0 in
    let ne = exact_unsigned a.ne.0 b.ne.0 three.0 in
    let sw = exact_unsigned a.sw.0 b.sw.0 four.0 in
    let se = exact_unsigned a.se.0 b.se.0 four.1 in
    λ i. record { level = level i; nw = record { 0 = nw i }; ne = record { 0 = ne i }; sw = record { 0 = sw i }; se = record { 0 = se i } }

equal_from : (o : Ordering) → is_eq o ≡ true → o ≡ Equal
equal_from Less h = absurd (false≢true h)
equal_from Equal h = refl
equal_from Greater h = absurd (false≢true h)

pub by_cases : {A : Type 0} (b : Bool) → (b ≡ true → A) → (b ≡ false → A) → A
by_cases true h k = h refl
by_cases false h k = k refl

some_num : (a b : Num) → Some a ≡ Some b → a ≡ b
some_num a b e = cc

none_some : (o : Option Num) (n : Num) → o ≡ None → o ≡ Some n → ⊥
none_some o n h k = cc

-- the node of a new key comes last, and the map has it
pub numbers_added : {Key : Type 0} (order : Key → Key → Ordering) → CmpEqualImpliesEq order → (node : Key → PlainNode) → ((a b : Key) → node a ≡ node b → a ≡ b) →
    (nodes : List PlainNode) (old new : BTreeMap Key Num) (key : Key) (given : Num) → given.0 ≡ suc (length nodes) → HasNumbers order node nodes old →
    get order old key ≡ None → Updates order old new key (Some given) → HasNumbers order node (nodes ++ node key ∷ []) new
numbers_added order exact node apart nodes old new key given is_last h none up = record {
  listed = λ q n at. ⊎_elim
      (λ t. let had = h.listed q n t in by_cases (is_eq (order key q))
      (λ e. absurd (none_some (get order old key) n none (ap (get order old) (exact key q (equal_from (order key q) e)) ∙ had)))
      (λ e. up.2 q e ∙ had))
      (λ t. let same : given.0 ≡ n.0 = is_last ∙ sym t.0 in
      ap (get order new) (sym (apart key q t.1)) ∙ up.1 ∙ (λ i. Some (record { 0 = same i })))
      (node_snoc nodes (node key) (node q) n.0 at);
  found = λ q n at. by_cases (is_eq (order key q))
      (λ e. let same : key ≡ q = exact key q (equal_from (order key q) e) in
      let number : given ≡ n = some_num given n (sym up.1 ∙ ap (get order new) same ∙ at) in
      let place : suc (length nodes) ≡ n.0 = sym is_last ∙ ap (λ m. m.0) number in
      subst (λ m. node_at (nodes ++ node key ∷ []) m ≡ Some (node q)) place (node_last nodes (node key) ∙ ap (λ k. Some (node k)) same))
      (λ e. node_later nodes (node key ∷ []) n.0 (node q) (h.found q n (sym (up.2 q e) ∙ at)));
}

-- a node of another kind comes last
pub numbers_kept : {Key : Type 0} (order : Key → Key → Ordering) (node : Key → PlainNode) (nodes : List PlainNode) (numbers : BTreeMap Key Num) (last : PlainNode) →
    ((key : Key) → last ≡ node key → ⊥) → HasNumbers order node nodes numbers → HasNumbers order node (nodes ++ last ∷ []) numbers
numbers_kept order node nodes numbers last other h = record {
  listed = λ q n at. ⊎_elim (λ t. h.listed q n t) (λ t. absurd (other q t.1)) (node_snoc nodes last (node q) n.0 at);
  found = λ q n at. node_later nodes (last ∷ []) n.0 (node q) (h.found q n at);
}

pub leaves_apart : (a b : ℕ) → Leaf a ≡ Leaf b → a ≡ b
leaves_apart a b e = cc

pub inner_apart : (a b : Quarters) → Inner a ≡ Inner b → a ≡ b
inner_apart a b e = cc

pub no_leaf : (q : Quarters) (w : ℕ) → Inner q ≡ Leaf w → ⊥
no_leaf q w e = cc

pub no_inner : (w : ℕ) (q : Quarters) → Leaf w ≡ Inner q → ⊥
no_inner w q e = cc

-- what is not in the map has no node
pub not_there : {Key : Type 0} (order : Key → Key → Ordering) (node : Key → PlainNode) (nodes : List PlainNode) (numbers : BTreeMap Key Num) (key : Key) →
    HasNumbers order node nodes numbers → get order numbers key ≡ None → (n : ℕ) → ¬ (node_at nodes n ≡ Some (node key))
unfolding num
not_there order node nodes numbers key h none n at = none_some (get order numbers key) (num n) none (h.listed key (num n) at)

-- what an insertion that was made has done
pub inserted : {X E : Type 0} {P : Type 0} (r : Result X E) → false ≡ is_err r → OnOk r P → P
inserted (Ok x) e h = h
inserted (Err x) e h = absurd (false≢true e)

-- what an insertion that was refused has left
pub refused : {X E : Type 0} {P : Type 0} (r : Result X E) → true ≡ is_err r → OnErr r P → P
refused (Ok x) e h = absurd (false≢true (sym e))
refused (Err x) e h = h

same_look_up : {Key : Type 0} (order : Key → Key → Ordering) (old new : BTreeMap Key Num) → new.entries ≡ old.entries → (key : Key) → get order new key ≡ get order old key
same_look_up order old new e key = ap (λ es. lookup (is_at (order key)) es) e

-- a map with the same entries
pub numbers_same : {Key : Type 0} (order : Key → Key → Ordering) (node : Key → PlainNode) (nodes : List PlainNode) (old new : BTreeMap Key Num) → new.entries ≡ old.entries → HasNumbers order node nodes old → HasNumbers order node nodes new
numbers_same order node nodes old new e h = record {
  listed = λ q n at. same_look_up order old new e q ∙ h.listed q n at;
  found = λ q n at. h.found q n (sym (same_look_up order old new e q) ∙ at);
}
