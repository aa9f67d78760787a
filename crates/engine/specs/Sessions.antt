-- Open patterns: what they are, and what is the same or later of them.
use Rattle.std.specs.Prelude.{◌≡◌, ◌⊎◌, ℕ, ◌+◌, ◌<◌, Bool, true, false, List, Option}
use Rattle.rule_text.specs.CountRule.{CountRule}
use Rattle.plane.specs.Plane.{Plane, after}
use Rattle.plane.specs.Square.{IsSame}
use Rattle.plane.specs.declared.refusal.Refusal.{Refusal}
use Rattle.plane.specs.declared.refusal.Refusal.TheVariants.{NodesFull, NoMemory, TooFar}
use Rattle.pattern_files.specs.Meaning.{Meaning}
use Rattle.run_options.specs.declared.options.RunOptions.{RunOptions}
use Rattle.universe.specs.Cells.{exponent_of}
use Rattle.universe.specs.Ranges.{LeavesRange}
use Rattle.universe.specs.Later.{IsExhausted}
use Rattle.universe.specs.declared.universe.Universe.{Universe}
use Rattle.engine.specs.Accepted.{IsAccepted}
use Rattle.engine.specs.KeptComments.{comments_in}
use Rattle.engine.specs.States.{is_there, state_cells, state_limit}
use Rattle.engine.specs.declared.session.Session.{Session}
use Rattle.engine.specs.declared.state.State.TheVariants.{AtWork}

abbrev pub cells_of : Session → Plane
cells_of session = state_cells session.state

abbrev pub pairs_of : Session → ℕ
pairs_of session = state_limit session.state

abbrev pub is_open : Session → Bool
is_open session = is_there session.state

abbrev pub comments_of : Session → List (List ℕ)
comments_of session = comments_in session.comments

-- the same comments, rule and limit of its tables, and open as before
pub record IsSamePattern (old new : Session) : Type 0 where
  pub comments : comments_of new ≡ comments_of old
  pub rule : new.rule ≡ old.rule
  pub limit : pairs_of new ≡ pairs_of old
  pub opened : is_open new ≡ is_open old

-- the same generation of it
pub record IsSameSession (old new : Session) : Type 0 where
  pub pattern : IsSamePattern old new
  pub generation : new.generation ≡ old.generation
  pub cells : IsSame (cells_of new) (cells_of old)

-- so many generations later
pub record IsLaterSession (old : Session) (generations : ℕ) (new : Session) : Type 0 where
  pub pattern : IsSamePattern old new
  pub generation : new.generation ≡ old.generation + generations
  pub cells : IsSame (cells_of new) (after old.rule (cells_of old) generations)

-- its tables are too small for the next generation: its cells stand at one for single generations,
-- of the largest size, which was opened with what these cells need and nothing else, and is full;
-- or the largest size has no room for what they need
pub record IsStuckHere (session : Session) : Type 0 where
  pub universe : Universe
  pub is : session.state ≡ AtWork universe
  pub one : exponent_of universe ≡ 0
  pub exhausted : IsExhausted universe

-- it came to a generation before so many, and its tables are too small for the next
pub record IsStuckOnTheWay (old : Session) (generations : ℕ) (new : Session) : Type 0 where
  pub done : ℕ
  pub before : done < generations
  pub later : IsLaterSession old done new
  pub stuck : IsStuckHere new

-- the same comments, rule and number of its generation, but closed: its cells are lost
pub record IsLostSession (old new : Session) : Type 0 where
  pub comments : comments_of new ≡ comments_of old
  pub rule : new.rule ≡ old.rule
  pub generation : new.generation ≡ old.generation
  pub closed : is_open new ≡ false

-- why it did not advance, and what it is then. So many generations leave the range, and it is as it
-- was; or its tables are too small for one of them, and it is the generation before; or memory ran
-- out, and it is as it was, or its cells are lost
abbrev pub IsNotAdvanced : Session → ℕ → Session → Refusal → Type 0
IsNotAdvanced old generations new refusal =
    ((refusal ≡ TooFar) × LeavesRange (cells_of old) old.generation generations
    × IsSameSession old new)
    ⊎ ((refusal ≡ NodesFull) × IsStuckOnTheWay old generations new)
    ⊎ ((refusal ≡ NoMemory) × (IsSameSession old new ⊎ IsLostSession old new))

-- a session that was opened of these bytes for a run of these options: it has the comments, the
-- generation and the cells of the file, and the run is accepted by its rule
pub record IsOpenedFor (bytes : List ℕ) (run : RunOptions) (session : Session) : Type 0 where
  pub meaning : Meaning
  pub accepted : IsAccepted bytes run meaning session.rule (cells_of session)
  pub comments : comments_of session ≡ meaning.comments
  pub generation : session.generation ≡ meaning.generation
  pub limit : pairs_of session ≡ run.pairs
  pub opened : is_open session ≡ true

-- a run of no generation, which is judged where a file is opened
abbrev pub opening : Option CountRule → ℕ → RunOptions
opening rule pairs = record { gens = 0; rule = rule; pairs = pairs; workers = 1 }
