-- Lists: what holds of each element, and of an element at a place.
use Rattle.std.proofs.Common.{◌≡◌, ◌≢◌, ℕ, zero, suc, ◌<◌, List, [], ◌∷◌, ◌++◌, length, ap, sym, subst, arith, refl}
use Rattle.std.specs.Prelude.{Any, Contains, slice_index_or, slice_set, slice_get, Some}
use Rattle.std.specs.List.{AllByRecursion}

all_at : {X : Type 0} (P : X → Type 0) (xs : List X) (x : X) (k : ℕ) → AllByRecursion P xs → k < length xs → slice_index_or xs k x ≡ x → P x
all_at P [] x k all below e = absurd (omega arith)
all_at P (y ∷ ys) x zero all below e = subst P e all.0
all_at P (y ∷ ys) x (suc k) all below e = all_at P ys x k all.1 (omega arith) e

pub all_contains : {X : Type 0} (P : X → Type 0) (xs : List X) (x : X) → AllByRecursion P xs → Contains xs x → P x
all_contains P xs x all has = all_at P xs x has.0 all has.1 has.2

pub all_weaker : {X : Type 0} (P Q : X → Type 0) → ((x : X) → P x → Q x) → (xs : List X) → AllByRecursion P xs → AllByRecursion Q xs
all_weaker P Q f [] all = tt
all_weaker P Q f (x ∷ xs) all = (f x all.0, all_weaker P Q f xs all.1)

pub all_append : {X : Type 0} (P : X → Type 0) (xs ys : List X) → AllByRecursion P xs → AllByRecursion P ys → AllByRecursion P (xs ++ ys)
all_append P [] ys h k = k
all_append P (x ∷ xs) ys h k = (h.0, all_append P xs ys h.1 k)

pub all_set : {X : Type 0} (P : X → Type 0) (xs : List X) (i : ℕ) (a : X) → AllByRecursion P xs → P a → AllByRecursion P (slice_set xs i a)
all_set P [] i a all one = tt
all_set P (x ∷ xs) zero a all one = (one, all.1)
all_set P (x ∷ xs) (suc i) a all one = (all.0, all_set P xs i a all.1 one)

pub all_get : {X : Type 0} (P : X → Type 0) (xs : List X) (i : ℕ) (a : X) → AllByRecursion P xs → slice_get xs i ≡ Some a → P a
all_get P [] i a all e = let no : ⊥ = cc in absurd no
all_get P (x ∷ xs) zero a all e = let same : x ≡ a = cc in subst P same all.0
all_get P (x ∷ xs) (suc i) a all e = all_get P xs i a all.1 e

pub length_set : {X : Type 0} (xs : List X) (i : ℕ) (a : X) → length (slice_set xs i a) ≡ length xs
length_set [] i a = refl
length_set (x ∷ xs) zero a = refl
length_set (x ∷ xs) (suc i) a = ap suc (length_set xs i a)

pub get_set_same : {X : Type 0} (xs : List X) (i : ℕ) (a b : X) → slice_get xs i ≡ Some a → slice_get (slice_set xs i b) i ≡ Some b
get_set_same [] i a b e = let no : ⊥ = cc in absurd no
get_set_same (x ∷ xs) zero a b e = refl
get_set_same (x ∷ xs) (suc i) a b e = get_set_same xs i a b e

pub get_set_other : {X : Type 0} (xs : List X) (i j : ℕ) (b : X) → i ≢ j → slice_get (slice_set xs j b) i ≡ slice_get xs i
get_set_other [] i j b other = refl
get_set_other (x ∷ xs) zero zero b other = absurd (other refl)
get_set_other (x ∷ xs) zero (suc j) b other = refl
get_set_other (x ∷ xs) (suc i) zero b other = refl
get_set_other (x ∷ xs) (suc i) (suc j) b other = get_set_other xs i j b (λ e. other (ap suc e))

pub get_append : {X : Type 0} (xs ys : List X) (i : ℕ) (a : X) → slice_get xs i ≡ Some a → slice_get (xs ++ ys) i ≡ Some a
get_append [] ys i a e = let no : ⊥ = cc in absurd no
get_append (x ∷ xs) ys zero a e = e
get_append (x ∷ xs) ys (suc i) a e = get_append xs ys i a e

pub contains_here : {X : Type 0} (x : X) (xs : List X) → Contains (x ∷ xs) x
contains_here x xs = (0, omega arith, refl)

-- an element that something holds of, and its place
pub any_of_get : {X : Type 0} (P : X → Type 0) (xs : List X) (i : ℕ) (a : X) → slice_get xs i ≡ Some a → P a → Any P xs
any_of_get P [] i a e one = let no : ⊥ = cc in absurd no
any_of_get P (x ∷ xs) zero a e one = let same : x ≡ a = cc in (0, x, omega arith, refl, subst P (sym same) one)
any_of_get P (x ∷ xs) (suc i) a e one = let t = any_of_get P xs i a e one in (suc t.0, t.1, omega arith, t.3, t.4)

at_place : {X : Type 0} (xs : List X) (i : ℕ) (a : X) → i < length xs → slice_index_or xs i a ≡ a → slice_get xs i ≡ Some a
at_place [] i a less e = absurd (omega arith)
at_place (x ∷ xs) zero a less e = ap (λ y. Some y) e
at_place (x ∷ xs) (suc i) a less e = at_place xs i a (omega arith) e

pub get_of_any : {X : Type 0} (P : X → Type 0) (xs : List X) → Any P xs → (i : ℕ) × (a : X) × (slice_get xs i ≡ Some a) × P a
get_of_any P xs t = (t.0, t.1, at_place xs t.0 t.1 t.2 t.3, t.4)

pub any_before : {X : Type 0} (P : X → Type 0) (xs ys : List X) → Any P xs → Any P (xs ++ ys)
any_before P xs ys any = let t = get_of_any P xs any in any_of_get P (xs ++ ys) t.0 t.1 (get_append xs ys t.0 t.1 t.2) t.3
