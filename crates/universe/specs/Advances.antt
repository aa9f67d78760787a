-- How far a universe has come.
use Rattle.std.specs.Prelude.{ℕ, ◌+◌}
use Rattle.universe.specs.Later.{IsLater, IsStuckAt}
use Rattle.universe.specs.declared.advances.Advance.{Advance}
use Rattle.universe.specs.declared.advances.Advance.TheVariants.{Done, Stuck}
use Rattle.universe.specs.declared.universe.Universe.{Universe}

-- the universe so many generations on, or, where it is stuck, fewer
abbrev pub IsAdvance : Universe → ℕ → Advance → Type 0
IsAdvance start generations (Done later) = IsLater start generations later
IsAdvance start generations (Stuck there done) = IsStuckAt start generations there done

-- after how many generations it is stuck; 0 where it is not
abbrev pub stuck_after : Advance → ℕ
stuck_after (Done later) = 0
stuck_after (Stuck there done) = done

-- the same, after so many generations more
abbrev pub with_earlier : ℕ → Advance → Advance
with_earlier earlier (Done later) = Done later
with_earlier earlier (Stuck there done) = Stuck there (earlier + done)
