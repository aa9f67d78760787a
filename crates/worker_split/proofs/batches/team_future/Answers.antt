use Rattle.std.proofs.Common.{inr}
use Rattle.node_table.specs.DesksAtWork.{book_here}
use Rattle.worker_split.proofs.Back.{on_err}
use Rattle.worker_split.proofs.Books.{here_book, job_kept, works_one}
use Rattle.plane.proofs.SentErrors.{sent_on}
use Rattle.worker_split.proofs.batches.team_future.Goals as goal

pub future_of-requires : goal.future_of-requires
future_of-requires g c = job_kept (book_here c.args.at.now) (book_here c.prepare.new.at) c.args.sq c.prepare.ensures.continues.keeps c.requires.sq

pub returns-clause-continues : goal.returns-clause-continues
returns-clause-continues g c = works_one c.args.team.now.some (here_book c.prepare.new.at) c.prepare.ensures.continues c.future_of.ensures.continues

pub returns-clause-refusal : goal.returns-clause-refusal
returns-clause-refusal g c = on_err c.future_of.result _ _ (λ refusal full. inr full) c.future_of.ensures.refusal

pub returns-in_err-prepare-clause-refusal : goal.returns-in_err-prepare-clause-refusal
returns-in_err-prepare-clause-refusal g c = sent_on _ c.from_residual.result c.in_err-prepare.field-0.0 c.from_residual.ensures.1 c.in_err-prepare.ensures.refusal
