use Rattle.period_program.proofs.AskedCandidates.{some_asked}
use Rattle.period_program.proofs.application.LifeperiodApplication.perform.Goals as goal

pub find_from-requires-clause-pairs : goal.find_from-requires-clause-pairs
find_from-requires-clause-pairs g c κs within = c.requires.asked.1.run.numbers.pairs.1

pub find_from-requires-clause-workers : goal.find_from-requires-clause-workers
find_from-requires-clause-workers g c κs within = c.requires.asked.1.run.numbers.workers.1

pub find_from-requires-clause-candidates : goal.find_from-requires-clause-candidates
find_from-requires-clause-candidates g c κs within = some_asked _ _ c.args.asked.now.search.candidates c.requires.asked.1.candidates
