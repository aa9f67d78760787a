-- Where columns and rows, counted from (0,0), lie in a square.
use Rattle.std.specs.Prelude.{◌≡◌, ℕ, ◌<◌, ◌-◌, ◌^◌, ℤ, pos, ◌+ℤ◌, false, Option, None, Some}
use Rattle.plane.specs.Square.{spans}

-- how far it lies from the side or the top of a square of this level, which is none where it lies
-- outside
abbrev pub IsOffsetIn : ℕ → ℤ → Option ℕ → Type 0
IsOffsetIn level z None = spans (2 ^ level) (z +ℤ pos (2 ^ (level - 1))) ≡ false
IsOffsetIn level z (Some offset) = (pos offset ≡ z +ℤ pos (2 ^ (level - 1))) × (offset < 2 ^ level)
