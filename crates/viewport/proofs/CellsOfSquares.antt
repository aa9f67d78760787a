-- Where the cells of a square lie, counted from (0,0).
use Rattle.std.proofs.Common.{◌≡◌, ℕ, ◌-◌, ◌^◌, ◌<◌, ◌≤◌, ℤ, pos, ◌+ℤ◌, ◌-ℤ◌, true, false, sym, ◌∙◌, ap, arith}
use Rattle.std.specs.Prelude.{int_lt, int_le}
use Rattle.std.proofs.lemmas.Int.{ints}
use lib.IntN.{nat_abs}
use Rattle.plane.specs.Square.{spans}
use Rattle.plane.proofs.Paddings.{twice_half}
use Rattle.viewport.proofs.RowsOfSquares.{high_out, is_less, is_most, low_out}

-- a place that the square has, counted from its first one
pub place_low : (z half : ℤ) (level : ℕ) → 1 ≤ level → half ≡ pos (2 ^ (level - 1)) → int_lt z (pos 0 -ℤ half) ≡ false → int_le half z ≡ false → nat_abs (z +ℤ half) < 2 ^ level
place_low z half level least e before behind = let twice = twice_half level least in grind (arith, ints, twice)

pub place_is : (z half : ℤ) (level : ℕ) → half ≡ pos (2 ^ (level - 1)) → int_lt z (pos 0 -ℤ half) ≡ false → pos (nat_abs (z +ℤ half)) ≡ z +ℤ pos (2 ^ (level - 1))
place_is z half level e before = grind (arith, ints)

module _ (level : ℕ) (half : ℤ) (side : half ≡ pos (2 ^ (level - 1))) (z : ℤ) where
  -- a place that the square has not
  pub out_before : int_lt z (pos 0 -ℤ half) ≡ true → spans (2 ^ level) (z +ℤ pos (2 ^ (level - 1))) ≡ false
  out_before e = low_out (2 ^ level) (2 ^ (level - 1)) z (is_less _ _ (ap (λ h. int_lt z (pos 0 -ℤ h)) (sym side) ∙ e))

  pub out_behind : 1 ≤ level → int_le half z ≡ true → spans (2 ^ level) (z +ℤ pos (2 ^ (level - 1))) ≡ false
  out_behind least e = high_out (2 ^ level) (2 ^ (level - 1)) z (twice_half level least) (is_most _ _ (ap (λ h. int_le h z) (sym side) ∙ e))
