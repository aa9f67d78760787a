-- What is found, written and answered.
use Rattle.std.specs.Prelude.{◌≡◌, ◌⊎◌, ℕ, List, Option, Result, Ok, Err, IfErr, OnOk}
use Rattle.plane.specs.Fault.{placeless}
use Rattle.plane.specs.Plane.{Plane, after}
use Rattle.plane.specs.SinkChange.{SinkChange, Fails, IsUnfailed, Takes, TakesBeginning}
use Rattle.plane.specs.declared.fault.Fault.{Fault}
use Rattle.plane.specs.declared.refusal.Refusal.{Refusal}
use Rattle.plane.specs.declared.refusal.Refusal.TheVariants.{WriteFailed}
use Rattle.engine.specs.Judgement.{Start, Judges, last_generation}
use Rattle.engine.specs.Refused.{IsRefused}
use Rattle.period_search.specs.Searches.{IsAnswer, StopsInPlane}
use Rattle.period_search.specs.declared.period.Period.{Period}
use Rattle.period_program.specs.PeriodLine.{period_line}
use Rattle.period_program.specs.declared.asking.Search.{Search}

-- the cells of the last generation of a run
abbrev pub last_plane : Start → Search → Plane
last_plane start search = after start.rule start.meaning.live search.run.gens

-- the run of these bytes is accepted, and this is the answer of the search in its last generation
pub record HasAnswer (bytes : List ℕ) (search : Search) (answer : Option Period) : Type 0 where
  pub start : Start
  pub accepted : Judges bytes search.run (Ok start)
  pub is : IsAnswer start.rule (last_plane start search) search.candidates answer

-- the run of these bytes is accepted, and the search in its last generation stops
pub record IsStopped (bytes : List ℕ) (search : Search) (fault : Fault) : Type 0 where
  pub start : Start
  pub accepted : Judges bytes search.run (Ok start)
  pub refusal : Refusal
  pub is : fault ≡ placeless refusal
  pub stops : StopsInPlane start.rule (last_plane start search) (last_generation start search.run)
      search.run.pairs search.candidates refusal

-- the report took the line of the answer
abbrev pub HasSaid : {W : Type 0} → List ℕ → Search → SinkChange W → Type 0
HasSaid bytes search report =
    (answer : Option Period) × HasAnswer bytes search answer
    × Takes report (period_line search.candidates answer)

-- nothing was said: the run was refused, or the search stopped; or there is an answer, and the
-- report failed, which took a beginning of its line
abbrev pub HasNotSaid : {W : Type 0} → List ℕ → Search → SinkChange W → Fault → Type 0
HasNotSaid bytes search report fault =
    (IsRefused bytes search.run fault × (report.new ≡ report.old))
    ⊎ (IsStopped bytes search fault × (report.new ≡ report.old))
    ⊎ ((fault ≡ placeless WriteFailed) × Fails report
    × ((answer : Option Period) × HasAnswer bytes search answer
    × TakesBeginning report (period_line search.candidates answer)))

-- what a search in these bytes does to its report, and what it answers
pub record IsFinding {W : Type 0} (bytes : List ℕ) (search : Search) (report : SinkChange W)
    (result : Result Unit Fault) : Type 0 where
  -- it writes the line of the least period of the last generation, if it is one of the numbers that
  -- are tried, or that none of them is one
  pub finished : OnOk result (HasSaid bytes search report)
  -- the report did not fail, or the answer is that it did
  pub unfailed : (result ≡ Err (placeless WriteFailed)) ⊎ IsUnfailed report
  -- it refuses what is not accepted, by its name and at its place, and else only where memory ran
  -- out, the tables are full or the range is left, before it has written anything, or where the
  -- report failed
  pub refused : IfErr result (HasNotSaid bytes search report)
