use Rattle.std.proofs.Common.{◌≡◌, ℕ, ℤ, pos, negsuc, ◌^◌, refl}
use Rattle.std.proofs.Math.Nat.{lt_of_le_of_lt}
use Rattle.std.proofs.lemmas.Int.{to_z-of_z}
use Rattle.std.specs.Int.{int_shr, w64}
use lib.Signed.{mag_shr}
use mir.Val.{SFits}
use Rattle.pattern_picture.specs.Scale.{block_at}
use Rattle.pattern_picture.proofs.scale.block_at.Goals as goal

shifted : (z : ℤ) (exponent : ℕ) → int_shr z exponent ≡ block_at exponent z
unfolding block_at
shifted (pos a) exponent = refl
shifted (negsuc a) exponent = refl

pub returns : goal.returns
returns c =
    let fits : SFits w64 (int_shr c.args.z c.args.exponent) = record { sfits = lt_of_le_of_lt (mag_shr c.args.z (2 ^ c.args.exponent)) c.ranges.z.sfits } in
    rw (to_z-of_z w64 c.args.z c.ranges.z, to_z-of_z w64 (int_shr c.args.z c.args.exponent) fits) (shifted c.args.z c.args.exponent)
