-- Runs that the square of level 63 around (0,0) holds.
use Rattle.std.specs.Prelude.{ℕ, ◌≤◌}
use Rattle.rule_text.specs.CountRule.{CountRule}
use Rattle.plane.specs.Centred.{Holds}
use Rattle.plane.specs.Plane.{Plane, after}

-- the cells of each of so many generations lie in the range
abbrev pub StaysWithinRoot : CountRule → Plane → ℕ → Type 0
StaysWithinRoot rule plane generations = (n : ℕ) → n ≤ generations → Holds 63 (after rule plane n)
