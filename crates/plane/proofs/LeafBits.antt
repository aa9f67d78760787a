-- The bits of a leaf and its cells.
use Rattle.std.proofs.Common.{◌≡◌, ℕ, zero, suc, ◌+◌, ◌*◌, ◌/◌, ◌%◌, ◌^◌, ◌<◌, pos, sym, ◌∙◌, ap, arith, refl}
use Rattle.std.specs.Prelude.{◌==◌}
use Rattle.std.specs.Int.{bit_at}
use Rattle.std.proofs.lemmas.Bool.{false≢true}
use Rattle.std.proofs.lemmas.Nat.Bits.{same_from_bits_below, bit_at-lt, bit_at-zero}
use Rattle.plane.specs.Square.{IsSame, empty, bits_plane}
use Rattle.plane.proofs.LeafCells.{leaf_cell}

bit_same : (a b : ℕ) → a < 2 → b < 2 → (a == 1) ≡ (b == 1) → a ≡ b
bit_same zero zero h k e = refl
bit_same zero (suc zero) h k e = absurd (false≢true e)
bit_same zero (suc (suc b)) h k e = absurd (omega arith)
bit_same (suc zero) zero h k e = absurd (false≢true (sym e))
bit_same (suc zero) (suc zero) h k e = refl
bit_same (suc zero) (suc (suc b)) h k e = absurd (omega arith)
bit_same (suc (suc a)) b h k e = absurd (omega arith)

shows_bit : (w i : ℕ) → i < 64 → bits_plane w (pos (i % 8)) (pos (i / 8)) ≡ (bit_at w i == 1)
shows_bit w i h =
    let place : 8 * (i / 8) + i % 8 ≡ i = omega arith in
    leaf_cell w (i % 8) (i / 8) (omega arith) (omega arith) ∙ ap (λ k. bit_at w k == 1) place

pub bits_same : (w v : ℕ) → w < 2 ^ 64 → v < 2 ^ 64 → IsSame (bits_plane w) (bits_plane v) → w ≡ v
bits_same w v h k same = same_from_bits_below 64 w v h k (λ i below.
    bit_same (bit_at w i) (bit_at v i) (bit_at-lt w i) (bit_at-lt v i) (sym (shows_bit w i below) ∙ same.same (pos (i % 8)) (pos (i / 8)) ∙ shows_bit v i below))

pub bits_none : (w : ℕ) → w < 2 ^ 64 → IsSame (bits_plane w) empty → w ≡ 0
bits_none w h same = same_from_bits_below 64 w 0 h (omega arith) (λ i below.
    bit_same (bit_at w i) (bit_at 0 i) (bit_at-lt w i) (bit_at-lt 0 i) (sym (shows_bit w i below) ∙ same.same (pos (i % 8)) (pos (i / 8)) ∙ ap (λ t. t == 1) (sym (bit_at-zero i))))
