use Rattle.std.proofs.Common.{rules}
use Rattle.squares.proofs.Kept.{keeps_none}
use Rattle.worker_split.proofs.Books.{here_book, works_kept, works_then}
use Rattle.worker_split.proofs.serving.own_share.Goals as goal

pub loop-job-init : goal.loop-job-init
loop-job-init g c = (c.requires.own, c.requires.solver, works_kept 1 _ (here_book c.args.at.now) (keeps_none _))

pub loop-job-preserved : goal.loop-job-preserved
loop-job-preserved g c = (search rules, c.solve.ensures.solver, works_then c.loop-job.invariant.2 c.solve.ensures.continues)
