-- What stands between the parts of a run.
use Rattle.std.specs.Prelude.{◌≡◌, ℕ, List, Ok}
use Rattle.rule_text.specs.CountRule.{CountRule, IsRule}
use Rattle.plane.specs.Listing.{IsListing}
use Rattle.plane.specs.Plane.{Plane}
use Rattle.plane.specs.Square.{IsSame}
use Rattle.plane.specs.declared.cell.Cell.{Cell}
use Rattle.universe.specs.Ranges.{KeepsToRange}
use Rattle.viewport.specs.BoundingBox.{HasBounds}
use Rattle.viewport.specs.Population.{HasPopulation}
use Rattle.engine.specs.Judgement.{Judges}
use Rattle.pattern_files.specs.Meaning.{Meaning}
use Rattle.run_options.specs.declared.options.RunOptions.{RunOptions}
use Rattle.engine.specs.declared.running.Summary.{Summary}

-- the plane has the cells of the file, and from there so many generations stay in the range
pub record HasCellsInRange (meaning : Meaning) (generations : ℕ) (here : Plane) : Type 0 where
  pub same : IsSame here meaning.live
  pub stays : KeepsToRange here meaning.generation generations

-- the run is accepted, by this rule and of a file that means this, and the plane has the cells of
-- the file
pub record IsAccepted (bytes : List ℕ) (run : RunOptions) (meaning : Meaning) (rule : CountRule)
    (here : Plane) : Type 0 where
  pub cells : List Cell
  pub listing : IsListing cells here
  pub same : IsSame here meaning.live
  pub lawful : IsRule rule
  pub accepted : Judges bytes run
      (Ok (record { meaning = meaning; rule = rule; cells = cells }))

-- the answer of a run whose last generation has this number and these cells
pub record SumsUp (generation : ℕ) (plane : Plane) (answer : Summary) : Type 0 where
  pub last : answer.generation ≡ generation
  pub population : HasPopulation plane answer.population
  pub bounds : HasBounds plane answer.bounds
