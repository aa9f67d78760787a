use Rattle.std.proofs.Common.{◌∙◌}
use Rattle.batch_program.proofs.Endings.{run_unfailed, without_summary}
use Rattle.batch_program.proofs.application.LifebatchApplication.perform.Goals as goal

pub run_from-requires-clause-pairs : goal.run_from-requires-clause-pairs
run_from-requires-clause-pairs g c κs within = c.requires.asked.1.run.numbers.pairs.1

pub run_from-requires-clause-workers : goal.run_from-requires-clause-workers
run_from-requires-clause-workers g c κs within = c.requires.asked.1.run.numbers.workers.1

pub returns-clause-does : goal.returns-clause-does
returns-clause-does g c = (c.run_from.result, c.and.ensures ∙ without_summary c.run_from.result, c.run_from.ensures)

pub returns-clause-unfailed : goal.returns-clause-unfailed
returns-clause-unfailed g c = run_unfailed _ _ _ _ c.run_from.result c.and.result c.and.ensures c.run_from.ensures
