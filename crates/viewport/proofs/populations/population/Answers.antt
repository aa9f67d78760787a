use Rattle.viewport.proofs.Counts.{population_of}
use Rattle.viewport.proofs.populations.population.Goals as goal

pub returns-clause-ok : goal.returns-clause-ok
returns-clause-ok g c =
    population_of (g.L.Look.book c.args.look.now) c.args.sq _ (g.met.L.Look.is_book c.args.look.now) c.requires.known c.in_ok-count.ensures.ok
