use Rattle.view_program.proofs.WindowTexts.{shown_rectangle}
use Rattle.view_program.proofs.application.LifeviewApplication.perform.Goals as goal

pub draw_from-requires-clause-pairs : goal.draw_from-requires-clause-pairs
draw_from-requires-clause-pairs g c κs within = c.requires.asked.1.run.numbers.pairs.1

pub draw_from-requires-clause-workers : goal.draw_from-requires-clause-workers
draw_from-requires-clause-workers g c κs within = c.requires.asked.1.run.numbers.workers.1

pub draw_from-requires-clause-window : goal.draw_from-requires-clause-window
draw_from-requires-clause-window g c κs within = shown_rectangle _ c.args.asked.now.view.window c.requires.asked.1.window

pub draw_from-requires-clause-size : goal.draw_from-requires-clause-size
draw_from-requires-clause-size g c κs within = c.requires.asked.1.size.1
