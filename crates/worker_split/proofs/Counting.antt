-- A list of different elements is no longer than one that has them all.
use Rattle.std.proofs.Common.{◌≡◌, ◌≢◌, ◌<◌, ◌≤◌, ℕ, zero, suc, List, [], ◌∷◌, length, sym, refl, ap, ◌∙◌, arith, Some}
use Rattle.std.specs.Prelude.{Contains, slice_get, slice_index_or}
use Rattle.std.specs.Option.{unwrap_or}

-- it stands somewhere
abbrev pub Has : {X : Type 0} → List X → X → Type 0
Has xs x = (k : ℕ) × (slice_get xs k ≡ Some x)

found : {X : Type 0} (xs : List X) (x : X) (k : ℕ) → k < length xs → slice_index_or xs k x ≡ x → Has xs x
found [] x k less e = absurd (omega (arith, less))
found (y ∷ ys) x zero less e = (0, ap Some e)
found (y ∷ ys) x (suc k) less e = let t = found ys x k (omega (arith, less)) e in (suc t.0, t.1)

pub has : {X : Type 0} (xs : List X) (x : X) → Contains xs x → Has xs x
has xs x h = found xs x h.0 h.1 h.2

pub contains : {X : Type 0} (xs : List X) (x : X) (k : ℕ) → slice_get xs k ≡ Some x → Contains xs x
contains [] x k e = let no : ⊥ = cc in absurd no
contains (y ∷ ys) x zero e = (0, omega arith, ap (λ o. unwrap_or o x) e)
contains (y ∷ ys) x (suc k) e = let t = contains ys x k e in (suc t.0, (let l = t.1 in omega (arith, l)), t.2)

remove : {X : Type 0} → ℕ → List X → List X
remove k [] = []
remove zero (y ∷ ys) = ys
remove (suc k) (y ∷ ys) = y ∷ remove k ys

one_less : {X : Type 0} (k : ℕ) (x : X) (ys : List X) → slice_get ys k ≡ Some x → length ys ≡ suc (length (remove k ys))
unfolding remove
one_less k x [] e = let no : ⊥ = cc in absurd no
one_less zero x (y ∷ ys) e = refl
one_less (suc k) x (y ∷ ys) e = ap suc (one_less k x ys e)

still_there : {X : Type 0} (ys : List X) (k j : ℕ) (z : X) → slice_get ys j ≡ Some z → j ≢ k → Has (remove k ys) z
unfolding remove
still_there [] k j z e other = let no : ⊥ = cc in absurd no
still_there (y ∷ ys) zero zero z e other = absurd (other refl)
still_there (y ∷ ys) zero (suc j) z e other = (j, e)
still_there (y ∷ ys) (suc k) zero z e other = (0, e)
still_there (y ∷ ys) (suc k) (suc j) z e other = let t = still_there ys k j z e (λ same. other (ap suc same)) in (suc t.0, t.1)

pub fewer : {X : Type 0} (xs ys : List X) → ((i j : ℕ) (x : X) → slice_get xs i ≡ Some x → slice_get xs j ≡ Some x → i ≡ j) →
    ((i : ℕ) (x : X) → slice_get xs i ≡ Some x → Has ys x) → length xs ≤ length ys
fewer [] ys once all = omega arith
fewer (x ∷ xs) ys once all =
    let there = all 0 x refl in
    let rest = fewer xs (remove there.0 ys) (λ i j z a b. let s = once (suc i) (suc j) z a b in omega (arith, s))
    (λ i z e.
    let t = all (suc i) z e in
    still_there ys there.0 t.0 z t.1 (λ same.
    let is : Some x ≡ Some z = sym there.1 ∙ (sym (ap (slice_get ys) same) ∙ t.1) in
    let s = once (suc i) 0 z e is in absurd (omega (arith, s))))
    in
    let n = one_less there.0 x ys there.1 in
    omega (arith, rest, n)
