-- The last generation of a run.
use Rattle.std.specs.Prelude.{ℕ, List, Ok}
use Rattle.plane.specs.Plane.{Plane, after}
use Rattle.plane.specs.Square.{IsSame}
use Rattle.run_options.specs.declared.options.RunOptions.{RunOptions}
use Rattle.engine.specs.Accepted.{SumsUp}
use Rattle.engine.specs.Judgement.{Start, Judges, last_generation}
use Rattle.engine.specs.declared.running.Summary.{Summary}

-- a run of these bytes is accepted; the plane has the cells of its last generation, and the answer
-- is its number, how many cells are live in it, and the smallest box that holds them
pub record EndsWith (bytes : List ℕ) (run : RunOptions) (plane : Plane)
    (answer : Summary) : Type 0 where
  pub start : Start
  pub accepted : Judges bytes run (Ok start)
  pub cells : IsSame plane (after start.rule start.meaning.live run.gens)
  pub summary : SumsUp (last_generation start run) plane answer
