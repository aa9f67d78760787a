-- The cells of four squares beside and below one another.
use Rattle.std.proofs.Common.{◌≡◌, ℕ, ◌+◌, ◌-◌, ◌<◌, pos, ◌-ℤ◌, Bool, true, false, sym, ◌∙◌, ap, subst, arith, inl, inr}
use Rattle.std.specs.Prelude.{int_lt}
use Rattle.std.proofs.lemmas.Bool.{cases_lt, cond-true, cond-false}
use Rattle.std.proofs.lemmas.Int.{ints}
use Rattle.plane.specs.Plane.{Plane}
use Rattle.plane.specs.Square.{joined}

-- the cells of four squares that are joined
before_side : (s i : ℕ) → i < s → int_lt (pos i) (pos s) ≡ true
before_side s i h = grind (arith, ints)

from_side : (s i : ℕ) → int_lt (pos (s + i)) (pos s) ≡ false
from_side s i = grind (arith, ints)

side_back : (s i : ℕ) → pos (s + i) -ℤ pos s ≡ pos i
side_back s i = omega (arith, ints)

module _ (s : ℕ) (nw ne sw se : Plane) (i j : ℕ) (h : i < s) (k : j < s) where
  joined_nw : joined s nw ne sw se (pos i) (pos j) ≡ nw (pos i) (pos j)
  joined_nw = cond-true (int_lt (pos j) (pos s)) _ _ (before_side s j k) ∙ cond-true (int_lt (pos i) (pos s)) _ _ (before_side s i h)

  joined_ne : joined s nw ne sw se (pos (s + i)) (pos j) ≡ ne (pos i) (pos j)
  joined_ne =
      cond-true (int_lt (pos j) (pos s)) _ _ (before_side s j k) ∙ cond-false (int_lt (pos (s + i)) (pos s)) _ _ (from_side s i)
      ∙ ap (λ z. ne z (pos j)) (side_back s i)

  joined_sw : joined s nw ne sw se (pos i) (pos (s + j)) ≡ sw (pos i) (pos j)
  joined_sw =
      cond-false (int_lt (pos (s + j)) (pos s)) _ _ (from_side s j) ∙ cond-true (int_lt (pos i) (pos s)) _ _ (before_side s i h)
      ∙ ap (λ z. sw (pos i) z) (side_back s j)

  joined_se : joined s nw ne sw se (pos (s + i)) (pos (s + j)) ≡ se (pos i) (pos j)
  joined_se =
      cond-false (int_lt (pos (s + j)) (pos s)) _ _ (from_side s j) ∙ cond-false (int_lt (pos (s + i)) (pos s)) _ _ (from_side s i)
      ∙ ap (λ z. se z (pos (s + j) -ℤ pos s)) (side_back s i) ∙ ap (λ z. se (pos i) z) (side_back s j)

-- a number below twice a side is below the side, or the side more than one that is
halves : (s : ℕ) (P : ℕ → Type 0) → ((k : ℕ) → k < s → P k) → ((k : ℕ) → k < s → P (s + k)) → (n : ℕ) → n < s + s → P n
halves s P low high n h = elim (cases_lt n s) [
  | inl l ↦ low n l
  | inr g ↦ let back : s + (n - s) ≡ n = omega arith in subst P back (high (n - s) (omega arith))
]

-- a test of columns and rows that says what four squares do says what they do when they are joined
pub four_squares : (s : ℕ) (nw ne sw se : Plane) (f : ℕ → ℕ → Bool) →
    ((i j : ℕ) → i < s → j < s → f i j ≡ nw (pos i) (pos j)) → ((i j : ℕ) → i < s → j < s → f (s + i) j ≡ ne (pos i) (pos j)) →
    ((i j : ℕ) → i < s → j < s → f i (s + j) ≡ sw (pos i) (pos j)) → ((i j : ℕ) → i < s → j < s → f (s + i) (s + j) ≡ se (pos i) (pos j)) →
    (i j : ℕ) → i < s + s → j < s + s → f i j ≡ joined s nw ne sw se (pos i) (pos j)
four_squares s nw ne sw se f is_nw is_ne is_sw is_se i j h k = halves s (λ m. f m j ≡ joined s nw ne sw se (pos m) (pos j))
    (λ m l. halves s (λ n. f m n ≡ joined s nw ne sw se (pos m) (pos n))
    (λ n o. is_nw m n l o ∙ sym (joined_nw s nw ne sw se m n l o)) (λ n o. is_sw m n l o ∙ sym (joined_sw s nw ne sw se m n l o)) j k)
    (λ m l. halves s (λ n. f (s + m) n ≡ joined s nw ne sw se (pos (s + m)) (pos n))
    (λ n o. is_ne m n l o ∙ sym (joined_ne s nw ne sw se m n l o)) (λ n o. is_se m n l o ∙ sym (joined_se s nw ne sw se m n l o)) j k) i h
