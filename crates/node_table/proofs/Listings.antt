-- Lists in which nothing stands twice.
use Rattle.std.proofs.Common.{◌≡◌, ℕ, zero, suc, ◌+◌, ◌<◌, ◌≤◌, ◌⊎◌, Bool, true, false, cond, List, [], ◌∷◌, ◌++◌, map, length, sym, ◌∙◌, ap, subst, arith, refl, inl, inr, ⊎_elim}
use Rattle.std.specs.Prelude.{Contains, filter, slice_get, slice_index_or, Some}
use Rattle.std.specs.List.{flat_map, range_with_len}
use Rattle.std.proofs.lemmas.List.Elements.{Contains-append_right}
use Rattle.table_core.proofs.Comparisons.{same_or_other}
use Rattle.table_core.proofs.Lists.{contains_here}

abbrev pub Among : {X : Type 0} → X → List X → Type 0
Among x [] = ⊥
Among x (y ∷ ys) = (y ≡ x) ⊎ Among x ys

abbrev pub Apart : {X : Type 0} → List X → Type 0
Apart [] = Unit {0}
Apart (x ∷ xs) = (¬ Among x xs) × Apart xs

module _ {X : Type 0} where
  among_at : (xs : List X) (x : X) (k : ℕ) → k < length xs → slice_index_or xs k x ≡ x → Among x xs
  among_at [] x k less e = absurd (omega arith)
  among_at (y ∷ ys) x zero less e = inl e
  among_at (y ∷ ys) x (suc k) less e = inr (among_at ys x k (omega arith) e)

  pub among_those : (xs : List X) (x : X) → Contains xs x → Among x xs
  among_those xs x has = among_at xs x has.0 has.1 has.2

  pub contains_among : (xs : List X) (x : X) → Among x xs → Contains xs x
  contains_among [] x h = absurd h
  contains_among (y ∷ ys) x h = ⊎_elim (λ e. subst (Contains (y ∷ ys)) e (contains_here y ys)) (λ t. Contains-append_right (y ∷ []) ys x (contains_among ys x t)) h

  among_first : (xs ys : List X) (x : X) → Among x xs → Among x (xs ++ ys)
  among_first [] ys x h = absurd h
  among_first (z ∷ zs) ys x h = ⊎_elim (λ e. inl e) (λ t. inr (among_first zs ys x t)) h

  among_last : (xs ys : List X) (x : X) → Among x ys → Among x (xs ++ ys)
  among_last [] ys x h = h
  among_last (z ∷ zs) ys x h = inr (among_last zs ys x h)

  among_either : (xs ys : List X) (x : X) → Among x (xs ++ ys) → Among x xs ⊎ Among x ys
  among_either [] ys x h = inr h
  among_either (z ∷ zs) ys x h = ⊎_elim (λ e. inl (inl e)) (λ t. ⊎_elim (λ u. inl (inr u)) (λ u. inr u) (among_either zs ys x t)) h

  apart_append : (xs ys : List X) → Apart xs → Apart ys → ((x : X) → Among x xs → ¬ Among x ys) → Apart (xs ++ ys)
  apart_append [] ys h k other = k
  apart_append (x ∷ xs) ys h k other =
      ((λ t. ⊎_elim (λ u. h.0 u) (λ u. other x (inl refl) u) (among_either xs ys x t)), apart_append xs ys h.1 k (λ y t. other y (inr t)))

  -- those that pass a test
  passed_step : (p : X → Bool) (x y : X) (ys : List X) (b : Bool) → p y ≡ b → (Among x (filter p ys) → Among x ys × (p x ≡ true)) →
      Among x (cond b (y ∷ filter p ys) (filter p ys)) → Among x (y ∷ ys) × (p x ≡ true)
  passed_step p x y ys true e f h = ⊎_elim (λ s. (inl s, sym (ap p s) ∙ e)) (λ t. let u = f t in (inr u.0, u.1)) h
  passed_step p x y ys false e f h = let u = f h in (inr u.0, u.1)

  pub passed_among : (p : X → Bool) (xs : List X) (x : X) → Among x (filter p xs) → Among x xs × (p x ≡ true)
  passed_among p [] x h = absurd h
  passed_among p (y ∷ ys) x h = passed_step p x y ys (p y) refl (passed_among p ys x) h

  pass_step : (p : X → Bool) (x y : X) (ys : List X) (b : Bool) → p y ≡ b → p x ≡ true → (Among x ys → Among x (filter p ys)) →
      (y ≡ x) ⊎ Among x ys → Among x (cond b (y ∷ filter p ys) (filter p ys))
  pass_step p x y ys true e is f h = ⊎_elim (λ s. inl s) (λ t. inr (f t)) h
  pass_step p x y ys false e is f h = ⊎_elim (λ s. let no : false ≡ true = sym e ∙ ap p s ∙ is in let absurdity : ⊥ = cc in absurd absurdity) (λ t. f t) h

  pub among_passed : (p : X → Bool) (xs : List X) (x : X) → p x ≡ true → Among x xs → Among x (filter p xs)
  among_passed p [] x is h = absurd h
  among_passed p (y ∷ ys) x is h = pass_step p x y ys (p y) refl is (among_passed p ys x is) h

  apart_step : (p : X → Bool) (y : X) (ys : List X) (b : Bool) → ¬ Among y ys → Apart (filter p ys) → Apart (cond b (y ∷ filter p ys) (filter p ys))
  apart_step p y ys true not h = ((λ t. not (passed_among p ys y t).0), h)
  apart_step p y ys false not h = h

  pub apart_passed : (p : X → Bool) (xs : List X) → Apart xs → Apart (filter p xs)
  apart_passed p [] h = tt
  apart_passed p (y ∷ ys) h = apart_step p y ys (p y) h.0 (apart_passed p ys h.1)

  got_among : (xs : List X) (i : ℕ) (a : X) → slice_get xs i ≡ Some a → Among a xs
  got_among [] i a e = let no : ⊥ = cc in absurd no
  got_among (x ∷ xs) zero a e = inl (let same : x ≡ a = cc in same)
  got_among (x ∷ xs) (suc i) a e = inr (got_among xs i a e)

  -- each stands at one place
  pub one_place : (xs : List X) (i j : ℕ) (a : X) → Apart xs → slice_get xs i ≡ Some a → slice_get xs j ≡ Some a → i ≡ j
  one_place [] i j a h e f = let no : ⊥ = cc in absurd no
  one_place (x ∷ xs) zero zero a h e f = refl
  one_place (x ∷ xs) zero (suc j) a h e f = let same : x ≡ a = cc in absurd (h.0 (subst (λ y. Among y xs) (sym same) (got_among xs j a f)))
  one_place (x ∷ xs) (suc i) zero a h e f = let same : x ≡ a = cc in absurd (h.0 (subst (λ y. Among y xs) (sym same) (got_among xs i a e)))
  one_place (x ∷ xs) (suc i) (suc j) a h e f = ap suc (one_place xs i j a h.1 e f)

module _ {X Y : Type 0} where
  pub among_map : (f : X → Y) (xs : List X) (x : X) → Among x xs → Among (f x) (map f xs)
  among_map f [] x h = absurd h
  among_map f (z ∷ zs) x h = ⊎_elim (λ e. inl (ap f e)) (λ t. inr (among_map f zs x t)) h

  pub map_among : (f : X → Y) (xs : List X) (y : Y) → Among y (map f xs) → (x : X) × Among x xs × (f x ≡ y)
  map_among f [] y h = absurd h
  map_among f (z ∷ zs) y h = ⊎_elim (λ e. (z, inl refl, e)) (λ t. let u = map_among f zs y t in (u.0, inr u.1, u.2)) h

  pub apart_map : (f : X → Y) (xs : List X) → ((x z : X) → f x ≡ f z → x ≡ z) → Apart xs → Apart (map f xs)
  apart_map f [] one h = tt
  apart_map f (x ∷ xs) one h =
      ((λ t. let u = map_among f xs (f x) t in h.0 (subst (λ z. Among z xs) (one u.0 x u.2) u.1)), apart_map f xs one h.1)

  pub among_flat : (f : X → List Y) (xs : List X) (x : X) (y : Y) → Among x xs → Among y (f x) → Among y (flat_map f xs)
  among_flat f [] x y h k = absurd h
  among_flat f (z ∷ zs) x y h k = ⊎_elim
      (λ e. among_first (f z) (flat_map f zs) y (subst (λ w. Among y (f w)) (sym e) k))
      (λ t. among_last (f z) (flat_map f zs) y (among_flat f zs x y t k)) h

  pub flat_among : (f : X → List Y) (xs : List X) (y : Y) → Among y (flat_map f xs) → (x : X) × Among x xs × Among y (f x)
  flat_among f [] y h = absurd h
  flat_among f (z ∷ zs) y h = ⊎_elim (λ t. (z, inl refl, t)) (λ t. let u = flat_among f zs y t in (u.0, inr u.1, u.2)) (among_either (f z) (flat_map f zs) y h)

  pub apart_flat : (f : X → List Y) (xs : List X) → ((x : X) → Apart (f x)) → ((x z : X) (y : Y) → Among y (f x) → Among y (f z) → z ≡ x) → Apart xs →
      Apart (flat_map f xs)
  apart_flat f [] each one h = tt
  apart_flat f (x ∷ xs) each one h = apart_append (f x) (flat_map f xs) (each x) (apart_flat f xs each one h.1)
      (λ y s t. let u = flat_among f xs y t in h.0 (subst (λ z. Among z xs) (one x u.0 y s u.2) u.1))

pub among_range : (a n k : ℕ) → a ≤ k → k < a + n → Among k (range_with_len a n)
among_range a zero k from below = absurd (omega arith)
among_range a (suc n) k from below = ⊎_elim (λ e. inl e) (λ other. inr (among_range (a + 1) n k (omega arith) (omega arith))) (same_or_other a k)

pub range_among : (a n k : ℕ) → Among k (range_with_len a n) → (a ≤ k) × (k < a + n)
range_among a zero k h = absurd h
range_among a (suc n) k h = ⊎_elim (λ e. (omega arith, omega arith)) (λ t. let u = range_among (a + 1) n k t in let from = u.0 in let below = u.1 in (omega arith, omega arith)) h

pub apart_range : (a n : ℕ) → Apart (range_with_len a n)
apart_range a zero = tt
apart_range a (suc n) = ((λ t. let u = range_among (a + 1) n a t in let from = u.0 in absurd (omega arith)), apart_range (a + 1) n)
