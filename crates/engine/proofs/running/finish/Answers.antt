use Rattle.plane.proofs.Same.{same_sym}
use Rattle.viewport.specs.Population.{HasPopulation}
use Rattle.engine.specs.Sessions.{cells_of}
use Rattle.engine.proofs.Endings.{population_as}
use Rattle.engine.proofs.running.finish.Goals.{in-Some, in-None+in_ok-population-in-None}
use Rattle.engine.proofs.running.finish.Goals as goal

pub summary_with-requires : goal.summary_with-requires
summary_with-requires c =
    let counted : HasPopulation (cells_of c.match-counted.session) c.match-counted.population = elim c.match-counted.branch [
      | in-Some w ↦ rw (w.session-is, w.population-is) (rw w.in-Some.is at c.requires.counted)
      | in-None+in_ok-population-in-None w ↦
          let same = same_sym w.in_ok-population-in-None.ensures.same.cells in
          rw (w.session-is, w.population-is) (population_as same w.in_ok-population-in-None.ensures.ok)
    ] in
    population_as (same_sym c.free_other_tables.ensures.cells) counted
