-- The bits of numbers, as tests.
use mir.Syntax.{Width}
use mir.Val.{bits}
use Rattle.std.proofs.Common.{◌≡◌, ℕ, zero, suc, ◌+◌, ◌-◌, ◌*◌, ◌/◌, ◌%◌, ◌^◌, ◌<◌, ◌≤◌, min, max, Bool, true, false, not, refl, sym, ◌∙◌, ap, add-zero, arith, bit_and, bit_or}
use Rattle.std.specs.Prelude.{bit_xor, ◌==◌, ◌&&◌, ◌||◌}
use Rattle.std.specs.Int.{bit_at, bit_not}
use Rattle.std.proofs.lemmas.Nat.{shr-shr, shr_split, pow_pos}
use Rattle.std.proofs.lemmas.Nat.Bits.{bit_at-lt, bit_at_and, bit_at_or, bit_at_xor, bit_at_not, bit_at-zero, bit_at_ones, bit_at_cat_low, bit_at_cat_high, bit_at_above}
use Rattle.plane.specs.Square.{bit}

-- a law of two tests that holds of 0 and 1
by_digits : (f : ℕ → ℕ → ℕ) (g : Bool → Bool → Bool) → (f 0 0 == 1) ≡ g false false → (f 0 1 == 1) ≡ g false true → (f 1 0 == 1) ≡ g true false → (f 1 1 == 1) ≡ g true true →
    (m n : ℕ) → m < 2 → n < 2 → (f m n == 1) ≡ g (m == 1) (n == 1)
by_digits f g a b c d zero zero h k = a
by_digits f g a b c d zero (suc zero) h k = b
by_digits f g a b c d zero (suc (suc n)) h k = absurd (omega arith)
by_digits f g a b c d (suc zero) zero h k = c
by_digits f g a b c d (suc zero) (suc zero) h k = d
by_digits f g a b c d (suc zero) (suc (suc n)) h k = absurd (omega arith)
by_digits f g a b c d (suc (suc m)) n h k = absurd (omega arith)

pub bit-and : (a b i : ℕ) → bit (bit_and a b) i ≡ (bit a i && bit b i)
bit-and a b i = ap (λ n. n == 1) (bit_at_and a b i) ∙ by_digits min (λ p q. p && q) refl refl refl refl (bit_at a i) (bit_at b i) (bit_at-lt a i) (bit_at-lt b i)

pub bit-or : (a b i : ℕ) → bit (bit_or a b) i ≡ (bit a i || bit b i)
bit-or a b i = ap (λ n. n == 1) (bit_at_or a b i) ∙ by_digits max (λ p q. p || q) refl refl refl refl (bit_at a i) (bit_at b i) (bit_at-lt a i) (bit_at-lt b i)

-- whether one of the two is true, and not the other
abbrev pub differ : Bool → Bool → Bool
differ true b = not b
differ false b = b

pub bit-xor : (a b i : ℕ) → bit (bit_xor a b) i ≡ differ (bit a i) (bit b i)
bit-xor a b i = ap (λ n. n == 1) (bit_at_xor a b i) ∙ by_digits (λ m n. (m + n) % 2) differ refl refl refl refl (bit_at a i) (bit_at b i) (bit_at-lt a i) (bit_at-lt b i)

less_one : (m : ℕ) → m < 2 → (1 - m == 1) ≡ not (m == 1)
less_one zero h = refl
less_one (suc zero) h = refl
less_one (suc (suc m)) h = absurd (omega arith)

-- a shift to the right
pub bit-shr : (n k i : ℕ) → bit (n / 2 ^ k) i ≡ bit n (k + i)
bit-shr n k i = ap (λ m. m % 2 == 1) (shr-shr n k i)

-- what is left of a number after its low bits were kept
pub bit-low : (n k i : ℕ) → i < k → bit (n % 2 ^ k) i ≡ bit n i
bit-low n k i h = ap (λ m. m == 1) (sym (bit_at_cat_low (n / 2 ^ k) k (n % 2 ^ k) i h) ∙ ap (λ m. bit_at m i) (shr_split n k))

pub bit-above : (n k i : ℕ) → n < 2 ^ k → k ≤ i → bit n i ≡ false
bit-above n k i h le = ap (λ m. m == 1) (bit_at_above n k i h le)

pub bit-none : (i : ℕ) → bit 0 i ≡ false
bit-none i = ap (λ m. m == 1) (bit_at-zero i)

module _ (w : Width) where
  pub bit-not : (a i : ℕ) → a < 2 ^ bits w → i < bits w → bit (bit_not w a) i ≡ not (bit a i)
  bit-not a i h k = ap (λ n. n == 1) (bit_at_not w a i h k) ∙ less_one (bit_at a i) (bit_at-lt a i)

  -- a shift to the left
  pub bit-shl_below : (n k i : ℕ) → i < k → i < bits w → bit (n * 2 ^ k % 2 ^ bits w) i ≡ false
  bit-shl_below n k i h room =
      bit-low (n * 2 ^ k) (bits w) i room ∙ ap (λ m. bit m i) (sym (add-zero (n * 2 ^ k))) ∙ ap (λ m. m == 1) (bit_at_cat_low n k 0 i h ∙ bit_at-zero i)

  pub bit-shl : (n k i place : ℕ) → place ≡ k + i → place < bits w → bit (n * 2 ^ k % 2 ^ bits w) place ≡ bit n i
  bit-shl n k i place e room =
      bit-low (n * 2 ^ k) (bits w) place room ∙ ap (λ m. bit m place) (sym (add-zero (n * 2 ^ k)))
      ∙ ap (λ m. m == 1) (bit_at_cat_high n k 0 place (pow_pos k) (omega arith) ∙ ap (bit_at n) (back place e))
    where
      back : (place : ℕ) → place ≡ k + i → place - k ≡ i
      back place e = omega arith

  pub bit-ones : (i : ℕ) → i < bits w → bit (2 ^ bits w - 1) i ≡ true
  bit-ones i h = ap (λ m. m == 1) (bit_at_ones (bits w) i h)
