-- A universe before and after some generations.
use Rattle.std.specs.Prelude.{◌≡◌, ℕ, ◌^◌, ◌<◌, ◌≤◌, ◌⊎◌, IsTrue}
use Rattle.node_table.specs.declared.still.Still.{Still}
use Rattle.node_table.specs.Stills.{book_in}
use Rattle.node_sweep.specs.CopiedStills.{HasNoRoomFor, IsSwept}
use Rattle.plane.specs.Centred.{Holds}
use Rattle.plane.specs.Plane.{after}
use Rattle.plane.specs.Square.{IsSame}
use Rattle.squares.specs.Book.{IsKnown}
use Rattle.squares.specs.declared.sq.Sq.{Sq}
use Rattle.squares.specs.Roots.{square_plane}
use Rattle.universe.specs.Cells.{exponent_of, limit_of, live_cells, rule_of}
use Rattle.universe.specs.Tables.{HasFilledUp, StaysOpen, known_at, pairs_in}
use Rattle.universe.specs.declared.attempts.Attempt.{Attempt}
use Rattle.universe.specs.declared.attempts.Attempt.TheVariants.{Done, Full}
use Rattle.universe.specs.declared.universe.Universe.{Universe}

-- the same cells, under the same rule and limit
pub record IsSameUniverse (old new : Universe) : Type 0 where
  pub cells : IsSame (live_cells new) (live_cells old)
  pub rule : rule_of new ≡ rule_of old
  pub limit : new.others.limit ≡ old.others.limit

-- so it is, at a table of this exponent
pub record IsAtExponent (wanted : ℕ) (old new : Universe) : Type 0 where
  pub same : IsSameUniverse old new
  pub exponent : exponent_of new ≡ wanted

-- the cells after so many generations, under the same rule and limit
pub record IsLater (old : Universe) (generations : ℕ) (new : Universe) : Type 0 where
  pub cells : IsSame (live_cells new) (after (rule_of old) (live_cells old) generations)
  pub rule : rule_of new ≡ rule_of old
  pub limit : new.others.limit ≡ old.others.limit

-- one step of its table may be taken, and leads to cells in the range
pub record MayStep (universe : Universe) : Type 0 where
  pub exponent : exponent_of universe ≤ 62
  pub held : Holds 63 (after (rule_of universe) (live_cells universe) (2 ^ exponent_of universe))

-- the universe after one step of its table, or, where a table was full, before it
abbrev pub IsAttempt : Universe → Attempt → Type 0
IsAttempt start (Done later) = IsLater start (2 ^ exponent_of start) later
IsAttempt start (Full same) = IsAtExponent (exponent_of start) start same

-- the universe at a table of this exponent, or, where that was full, as it was
abbrev pub ReachesExponent : ℕ → Universe → Attempt → Type 0
ReachesExponent exponent start (Done at_exponent) = IsAtExponent exponent start at_exponent
ReachesExponent exponent start (Full same) = IsSameUniverse start same

-- where the step was not taken, the table is the same, and full
abbrev pub IsFullInPlace : Universe → Attempt → Type 0
IsFullInPlace start (Done later) = Unit {0}
IsFullInPlace start (Full same) =
    StaysOpen start.here same.here × IsTrue (known_at same.here).is_full

-- the table has the largest size, was opened from words with what the root reaches and nothing
-- else, and is full now
pub record IsFullFromAlone (still : Still) (root : Sq) (universe : Universe) : Type 0 where
  pub alone : Still
  pub copy : Sq
  pub swept : IsSwept still root (limit_of universe) alone copy
  pub size : pairs_in universe.here ≡ limit_of universe
  pub filled : HasFilledUp alone (rule_of universe) (exponent_of universe) universe.here

-- no table helps any more. Words show the cells by a square. The table has the largest size, was
-- opened with what this square reaches and nothing else, and is full; or the largest size has no
-- room for what the square reaches
pub record IsExhausted (universe : Universe) : Type 0 where
  pub still : Still
  pub root : Sq
  pub known : IsKnown (book_in still) root.level root
  pub cells : IsSame (square_plane (book_in still) root) (live_cells universe)
  pub full : IsFullFromAlone still root universe ⊎ HasNoRoomFor still root (limit_of universe)

-- where the step was not taken, there is no larger table to take it at
abbrev pub IsFullAtLimit : Attempt → Type 0
IsFullAtLimit (Done later) = Unit {0}
IsFullAtLimit (Full start) = IsExhausted start

-- fewer than so many generations on, at a table for single generations, there is no larger one to
-- take the next step at
pub record IsStuckAt (start : Universe) (generations : ℕ) (there : Universe) (done : ℕ) : Type 0 where
  pub before : done < generations
  pub later : IsLater start done there
  pub one : exponent_of there ≡ 0
  pub exhausted : IsExhausted there

-- so it is at some generation before so many
pub record IsStuck (start : Universe) (generations : ℕ) : Type 0 where
  pub there : Universe
  pub done : ℕ
  pub stuck : IsStuckAt start generations there done
