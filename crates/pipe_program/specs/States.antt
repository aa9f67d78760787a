-- The pattern that is open between two requests.
use Rattle.std.specs.Prelude.{◌≡◌, ℕ, ◌+◌, Bool, true, false, List, Option, None, Some}
use Rattle.rule_text.specs.CountRule.{CountRule}
use Rattle.plane.specs.Plane.{Plane, after}
use Rattle.plane.specs.Square.{IsSame}
use Rattle.engine.specs.Sessions.{cells_of, comments_of, is_open, pairs_of}
use Rattle.engine.specs.declared.session.Session.{Session}

-- a pattern that is open
pub record Opened : Type 0 where
  pub rule : CountRule
  pub generation : ℕ
  pub comments : List (List ℕ)
  -- its live cells; none where they were lost, since memory ran out while it advanced
  pub cells : Option Plane

-- the pattern that is open, if one is
abbrev pub State : Type 0
State = Option Opened

-- two planes with the same cells, or none
abbrev pub AreSameCells : Option Plane → Option Plane → Type 0
AreSameCells None None = Unit {0}
AreSameCells (Some plane) (Some other) = IsSame plane other
AreSameCells one other = ⊥

-- the same pattern, and the same generation of it
pub record IsSameOpened (old new : Opened) : Type 0 where
  pub rule : new.rule ≡ old.rule
  pub generation : new.generation ≡ old.generation
  pub comments : new.comments ≡ old.comments
  pub cells : AreSameCells new.cells old.cells

-- the same pattern is open, or none
abbrev pub IsSameState : State → State → Type 0
IsSameState None None = Unit {0}
IsSameState (Some old) (Some new) = IsSameOpened old new
IsSameState one other = ⊥

-- so many generations later
pub record IsLaterOpened (old : Opened) (generations : ℕ) (new : Opened) : Type 0 where
  pub plane : Plane
  pub later : Plane
  pub rule : new.rule ≡ old.rule
  pub generation : new.generation ≡ old.generation + generations
  pub comments : new.comments ≡ old.comments
  pub before : old.cells ≡ Some plane
  pub cells : new.cells ≡ Some later
  pub same : IsSame later (after old.rule plane generations)

-- the same pattern and number of its generation, but its cells are lost
pub record IsLost (old new : Opened) : Type 0 where
  pub rule : new.rule ≡ old.rule
  pub generation : new.generation ≡ old.generation
  pub comments : new.comments ≡ old.comments
  pub cells : new.cells ≡ None

-- the cells of a session, if it has them
abbrev pub cells_if : Bool → Plane → Option Plane
cells_if true plane = Some plane
cells_if false plane = None

-- the pattern that a session has open
abbrev pub opened_of : Session → Opened
opened_of session = record {
  rule = session.rule;
  generation = session.generation;
  comments = comments_of session;
  cells = cells_if (is_open session) (cells_of session);
}

-- the session has tables of so many pair slots at most, where it has its cells
abbrev pub HasLimit : ℕ → Session → Type 0
HasLimit pairs session = is_open session ≡ true → pairs_of session ≡ pairs

-- so has a session, if there is one
abbrev pub IsWithin : ℕ → Option Session → Type 0
IsWithin pairs None = Unit {0}
IsWithin pairs (Some session) = HasLimit pairs session

-- the state that a session, if there is one, stands for
abbrev pub state_of : Option Session → State
state_of None = None
state_of (Some session) = Some (opened_of session)
