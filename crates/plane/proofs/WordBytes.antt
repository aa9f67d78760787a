-- The bits of numbers made of bytes.
use Rattle.std.proofs.Common.{◌≡◌, ℕ, zero, suc, ◌+◌, ◌-◌, ◌*◌, ◌/◌, ◌%◌, ◌^◌, ◌<◌, List, [], ◌∷◌, length, get_or, refl, sym, ◌∙◌, ap, arith}
use Rattle.std.specs.Prelude.{◌==◌}
use Rattle.std.specs.Int.{bit_at}
use Rattle.std.proofs.Common.{zero-add}
use Rattle.std.proofs.Math.Nat.{pow-suc}
use Rattle.std.proofs.lemmas.Nat.{pow-add}
use Rattle.std.proofs.lemmas.Nat.Bits.{bit_at_cat_low, bit_at_cat_high}
use lib.Lanes.{Each1, number_l}
use Rattle.plane.specs.Square.{bit}
use Rattle.plane.proofs.WordBits.{bit-shr, bit-low}

swapped : (u v : ℕ) → u + 256 * v ≡ v * 2 ^ 8 + u
swapped u v = omega arith

bit-first_byte : (u v i : ℕ) → i < 8 → bit (u + 256 * v) i ≡ bit u i
bit-first_byte u v i h = ap (λ n. bit n i) (swapped u v) ∙ ap (λ n. n == 1) (bit_at_cat_low v 8 u i h)

bit-next_bytes : (u v i : ℕ) → u < 256 → bit (u + 256 * v) (8 + i) ≡ bit v i
bit-next_bytes u v i h = ap (λ n. bit n (8 + i)) (swapped u v) ∙ ap (λ n. n == 1) (bit_at_cat_high v 8 u (8 + i) h (omega arith) ∙ ap (bit_at v) (back i))
  where
    back : (i : ℕ) → 8 + i - 8 ≡ i
    back i = omega arith

power_of_bytes : (k : ℕ) → 256 ^ k ≡ 2 ^ (8 * k)
power_of_bytes zero = refl
power_of_bytes (suc k) = pow-suc 256 k ∙ ap (λ n. n * 2 ^ 8) (power_of_bytes k) ∙ sym (pow-add 2 (8 * k) 8) ∙ ap (λ n. 2 ^ n) (eight_more k)
  where
    eight_more : (k : ℕ) → 8 * k + 8 ≡ 8 * suc k
    eight_more k = omega arith

-- a byte of a word
pub bit-byte : (w k i : ℕ) → i < 8 → bit (w / 256 ^ k % 256) i ≡ bit w (8 * k + i)
bit-byte w k i h = bit-low (w / 256 ^ k) 8 i h ∙ ap (λ p. bit (w / p) i) (power_of_bytes k) ∙ bit-shr w (8 * k) i

next_place : (k i : ℕ) → 8 * suc k + i ≡ 8 + (8 * k + i)
next_place k i = omega arith

-- a word made of bytes
pub bit-number : (bytes : List ℕ) (k i : ℕ) → Each1 (λ b. b < 256) bytes → k < length bytes → i < 8 → bit (number_l 256 bytes) (8 * k + i) ≡ bit (get_or bytes k 0) i
bit-number [] k i small within h = absurd (omega arith)
bit-number (b ∷ bytes) zero i small within h = ap (bit (b + 256 * number_l 256 bytes)) (zero-add i) ∙ bit-first_byte b (number_l 256 bytes) i h
bit-number (b ∷ bytes) (suc k) i small within h =
    ap (bit (b + 256 * number_l 256 bytes)) (next_place k i) ∙ bit-next_bytes b (number_l 256 bytes) (8 * k + i) small.0 ∙ bit-number bytes k i small.1 (omega arith) h

-- eight equations one by one
pub each_of_eight : (f g : ℕ → ℕ) → f 0 ≡ g 0 → f 1 ≡ g 1 → f 2 ≡ g 2 → f 3 ≡ g 3 → f 4 ≡ g 4 → f 5 ≡ g 5 → f 6 ≡ g 6 → f 7 ≡ g 7 → (k : ℕ) → k < 8 → f k ≡ g k
each_of_eight f g a b c d e p q r zero h = a
each_of_eight f g a b c d e p q r (suc zero) h = b
each_of_eight f g a b c d e p q r (suc (suc zero)) h = c
each_of_eight f g a b c d e p q r (suc (suc (suc zero))) h = d
each_of_eight f g a b c d e p q r (suc (suc (suc (suc zero)))) h = e
each_of_eight f g a b c d e p q r (suc (suc (suc (suc (suc zero))))) h = p
each_of_eight f g a b c d e p q r (suc (suc (suc (suc (suc (suc zero)))))) h = q
each_of_eight f g a b c d e p q r (suc (suc (suc (suc (suc (suc (suc zero))))))) h = r
each_of_eight f g a b c d e p q r (suc (suc (suc (suc (suc (suc (suc (suc k)))))))) h = absurd (omega arith)

pub each_of_four : (f g : ℕ → ℕ) → f 0 ≡ g 0 → f 1 ≡ g 1 → f 2 ≡ g 2 → f 3 ≡ g 3 → (k : ℕ) → k < 4 → f k ≡ g k
each_of_four f g a b c d zero h = a
each_of_four f g a b c d (suc zero) h = b
each_of_four f g a b c d (suc (suc zero)) h = c
each_of_four f g a b c d (suc (suc (suc zero))) h = d
each_of_four f g a b c d (suc (suc (suc (suc k)))) h = absurd (omega arith)
