-- What stands at a place of a list that grows or changes.
use Rattle.std.proofs.Common.{◌≡◌, ◌≢◌, ◌↔◌, ℕ, zero, suc, ◌+◌, ◌<◌, ◌≤◌, max, ◌⊎◌, List, [], ◌∷◌, ◌++◌, length, ◌∙◌, ap, refl, inl, inr, subst, ⊎_elim, arith}
use Rattle.std.specs.Prelude.{Some, None, slice_get, slice_set, slice_index_or}
use Rattle.std.specs.List.{AllByRecursion, AllWithin}
use Rattle.std.proofs.lemmas.List.{get_or_default}
use Rattle.std.proofs.lemmas.List.Elements.{All-from_all_within, All-from_recursion, AllWithin-from_all, AllWithin-more, AllWithin-upto, recursion_from_All}

some_same : {X : Type 0} (a b : X) → Some a ≡ Some b → a ≡ b
some_same a b e = cc

none_there : {X : Type 0} (x : X) → None ≡ Some x → ⊥
none_there x e = cc

pub get_later : {X : Type 0} (xs more : List X) (i : ℕ) (x : X) → slice_get xs i ≡ Some x → slice_get (xs ++ more) i ≡ Some x
get_later [] more i x h = absurd (none_there x h)
get_later (y ∷ ys) more zero x h = h
get_later (y ∷ ys) more (suc i) x h = get_later ys more i x h

pub get_last : {X : Type 0} (xs : List X) (x : X) → slice_get (xs ++ x ∷ []) (length xs) ≡ Some x
get_last [] x = refl
get_last (y ∷ ys) x = get_last ys x

pub get_push : {X : Type 0} (xs : List X) (last x : X) (i : ℕ) → slice_get (xs ++ last ∷ []) i ≡ Some x → (slice_get xs i ≡ Some x) ⊎ ((i ≡ length xs) × (last ≡ x))
get_push [] last x zero h = inr (refl, some_same last x h)
get_push [] last x (suc i) h = absurd (none_there x h)
get_push (y ∷ ys) last x zero h = inl h
get_push (y ∷ ys) last x (suc i) h = ⊎_elim (λ t. inl t) (λ t. inr (ap suc t.0, t.1)) (get_push ys last x i h)

pub set_same : {X : Type 0} (xs : List X) (i : ℕ) (old new : X) → slice_get xs i ≡ Some old → slice_get (slice_set xs i new) i ≡ Some new
set_same [] i old new h = absurd (none_there old h)
set_same (x ∷ xs) zero old new h = refl
set_same (x ∷ xs) (suc i) old new h = set_same xs i old new h

pub set_other : {X : Type 0} (xs : List X) (i j : ℕ) (new : X) → j ≢ i → slice_get (slice_set xs i new) j ≡ slice_get xs j
set_other [] i j new h = refl
set_other (x ∷ xs) zero zero new h = absurd (h refl)
set_other (x ∷ xs) zero (suc j) new h = refl
set_other (x ∷ xs) (suc i) zero new h = refl
set_other (x ∷ xs) (suc i) (suc j) new h = set_other xs i j new (λ e. h (ap suc e))

-- what a read gives
pub read_there : {X : Type 0} (xs : List X) (i : ℕ) (x read : X) → slice_get xs i ≡ Some x → read ≡ slice_index_or xs i read → read ≡ x
read_there [] i x read h e = absurd (none_there x h)
read_there (y ∷ ys) zero x read h e = e ∙ some_same y x h
read_there (y ∷ ys) (suc i) x read h e = read_there ys i x read h e

-- a fact of each of some, at one more and at one of them
pub all_push : {X : Type 0} (P : X → Type 0) (xs : List X) (x : X) → AllByRecursion P xs → P x → AllByRecursion P (xs ++ x ∷ [])
all_push P [] x all h = (h, all)
all_push P (y ∷ ys) x all h = (all.0, all_push P ys x all.1 h)

pub all_at : {X : Type 0} (P : X → Type 0) (xs : List X) (i : ℕ) (d : X) → AllByRecursion P xs → i < length xs → P (slice_index_or xs i d)
all_at P [] i d all h = absurd (omega arith)
all_at P (x ∷ xs) zero d all h = all.0
all_at P (x ∷ xs) (suc i) d all h = all_at P xs i d all.1 (omega arith)

pub all_within : {X : Type 0} (P : X → Type 0) (xs : List X) → AllWithin P xs 0 (length xs) ↔ AllByRecursion P xs
all_within P xs = (
  (λ within. recursion_from_All P xs (All-from_all_within P xs within)),
  (λ all. AllWithin-from_all P xs (All-from_recursion P xs all)),
)

-- a fact of each of some, and one of the next one, where both hold from some number on
pub within_more : {X : Type 0} (P : X → Type 0) (xs : List X) (i : ℕ) (d : X) (far near most : ℕ) → i < length xs → AllWithin P xs 0 i ↔ (far ≤ most) → P (slice_index_or xs i d) ↔ (near ≤ most) →
    AllWithin P xs 0 (i + 1) ↔ (max far near ≤ most)
within_more P xs i d far near most inside before here = (
  (λ all. let low = before.0 (AllWithin-upto P xs 0 (i + 1) i (omega arith) all) in let there = here.0 (all i d (omega arith) (omega arith)) in omega (arith, low, there)),
  (λ le. AllWithin-more P xs 0 i (before.1 (omega (arith, le))) (λ e. subst P (get_or_default xs i d e inside) (here.1 (omega (arith, le))))),
)
