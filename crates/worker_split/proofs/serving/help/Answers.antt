use Rattle.std.proofs.Common.{refl, arith}
use Rattle.squares.proofs.Kept.{keeps_none}
use Rattle.node_table.specs.DesksAtWork.{book_here}
use Rattle.worker_split.proofs.Books.{here_book, jobs_kept, works_kept, works_then}
use Rattle.worker_split.proofs.serving.help.Goals as goal

pub loop-k-init : goal.loop-k-init
loop-k-init c = (refl, works_kept 1 _ (here_book c.args.at.now) (keeps_none _))

pub future_of-requires : goal.future_of-requires
future_of-requires c =
    let less = c.loop-k-test.true in
    jobs_kept (book_here c.args.at.now) (book_here c.loop-k.at) c.args.jobs.now c.loop-k.invariant.1.keeps c.requires _ _ (omega (arith, less))

pub loop-k-preserved : goal.loop-k-preserved
loop-k-preserved c = (c.loop-k.invariant.0, works_then c.loop-k.invariant.1 c.future_of.ensures.continues)

pub returns-then-is_err-clause-continues : goal.returns-then-is_err-clause-continues
returns-then-is_err-clause-continues c = works_then c.loop-k.invariant.1 c.future_of.ensures.continues
