use Rattle.viewport.proofs.Counts.{population_of}
use Rattle.viewport.proofs.populations.population_at.Goals as goal

pub returns-clause-ok : goal.returns-clause-ok
returns-clause-ok g c =
    population_of (g.R.Reading.book c.args.book.now) c.args.sq _ (g.met.R.Reading.is_book c.args.book.now) c.requires.known c.in_ok-count.ensures.ok
