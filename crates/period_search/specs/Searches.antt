-- Searches for periods: what they answer, and how they end early.
use Rattle.std.specs.Prelude.{◌≡◌, ◌⊎◌, ℕ, ◌+◌, ◌-◌, ◌≤◌, pos, true, List, None, Option, Some}
use Rattle.rule_text.specs.CountRule.{CountRule}
use Rattle.plane.specs.Listing.{IsListing}
use Rattle.plane.specs.Plane.{Plane, after}
use Rattle.plane.specs.Square.{IsSame, empty}
use Rattle.plane.specs.declared.cell.Cell.{Cell}
use Rattle.plane.specs.declared.refusal.Refusal.{Refusal}
use Rattle.plane.specs.declared.refusal.Refusal.TheVariants.{NodesFull, NoMemory, TooFar}
use Rattle.universe.specs.Ranges.{LeavesRange}
use Rattle.engine.specs.Room.{IsStuckWithin}
use Rattle.engine.specs.Sessions.{IsLaterSession, IsNotAdvanced, IsSameSession, cells_of, is_open}
use Rattle.engine.specs.declared.session.Session.{Session}
use Rattle.periods.specs.Periods.{HasPeriod, IsLeastPeriod}
use Rattle.period_search.specs.Candidates.{IsCandidate, IsNext, last_of}
use Rattle.period_search.specs.declared.candidates.Candidates.{Candidates}
use Rattle.period_search.specs.declared.period.Period.{Period}

-- ---- answers

abbrev pub IsNoPeriod : CountRule → Plane → ℕ → Type 0
IsNoPeriod rule plane generations = HasPeriod rule plane generations → ⊥

-- the least period of the plane is one of the candidates, and this is it
pub record IsLeastAmong (rule : CountRule) (plane : Plane) (candidates : Candidates)
    (period : Period) : Type 0 where
  pub least : IsLeastPeriod rule plane period.generations period.right period.down
  pub among : IsCandidate candidates period.generations
  -- where no cell is live, nothing moves
  pub still : IsSame plane empty → (period.right ≡ pos 0) × (period.down ≡ pos 0)

-- the least period, if it is one of the candidates; else none of them is a period
abbrev pub IsAnswer : CountRule → Plane → Candidates → Option Period → Type 0
IsAnswer rule plane candidates (Some period) = IsLeastAmong rule plane candidates period
IsAnswer rule plane candidates None =
    (n : ℕ) → IsCandidate candidates n → IsNoPeriod rule plane n

-- a plane whose live cells a list can name has one answer only
abbrev pub OneAnswer : Type 0
OneAnswer =
    (rule : CountRule) (plane : Plane) (cells : List Cell) (candidates : Candidates)
    (answer other : Option Period) → IsListing cells plane →
    IsAnswer rule plane candidates answer → IsAnswer rule plane candidates other → answer ≡ other

-- ---- early ends

-- so many generations were tried, and none of them is a period
abbrev pub NoneIsPeriod : CountRule → Plane → Candidates → ℕ → Type 0
NoneIsPeriod rule plane candidates done =
    (n : ℕ) → n ≤ done → IsCandidate candidates n → IsNoPeriod rule plane n

-- no candidate up to the generation that it came to is a period, and it did not advance from there
-- to the next one
pub record IsRefusedOnTheWay (candidates : Candidates) (old new : Session)
    (refusal : Refusal) : Type 0 where
  pub here : Session
  pub done : ℕ
  pub next : ℕ
  pub later : IsLaterSession old done here
  pub none : NoneIsPeriod old.rule (cells_of old) candidates done
  pub is_next : IsNext candidates done next
  pub refused : IsNotAdvanced here (next - done) new refusal

-- it came to a generation that is at most the last candidate
abbrev pub ComesOnTheWay : Candidates → Session → Session → Type 0
ComesOnTheWay candidates old new =
    (done : ℕ) × (done ≤ last_of candidates) × IsLaterSession old done new

-- memory ran out, and it is as it was; or it was open, and memory ran out at a generation that it
-- came to, or it did not advance to a candidate
abbrev pub StopsOnTheWay : Candidates → Session → Session → Refusal → Type 0
StopsOnTheWay candidates old new refusal =
    ((refusal ≡ NoMemory) × IsSameSession old new)
    ⊎ ((is_open old ≡ true)
    × (((refusal ≡ NoMemory) × ComesOnTheWay candidates old new)
    ⊎ IsRefusedOnTheWay candidates old new refusal))

-- the same without the session: no candidate up to a number of generations is a period, and from
-- there the plane does not come to the next one. The range is left, or tables of so many pair slots
-- are too small for a generation before it
pub record StopsInPlane (rule : CountRule) (plane : Plane) (generation pairs : ℕ)
    (candidates : Candidates) (refusal : Refusal) : Type 0 where
  pub done : ℕ
  pub next : ℕ
  pub none : NoneIsPeriod rule plane candidates done
  pub is_next : IsNext candidates done next
  pub why : ((refusal ≡ TooFar)
      × LeavesRange (after rule plane done) (generation + done) (next - done))
      ⊎ ((refusal ≡ NodesFull) × IsStuckWithin rule plane pairs next)
