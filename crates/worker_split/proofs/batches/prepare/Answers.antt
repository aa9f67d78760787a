use Rattle.node_table.specs.DesksAtWork.{book_here}
use Rattle.worker_split.proofs.Books.{here_book, job_kept, works_kept, works_then}
use Rattle.worker_split.proofs.batches.prepare.Goals as goal

pub returns-then-is_some-clause-continues : goal.returns-then-is_some-clause-continues
returns-then-is_some-clause-continues g c = works_kept c.args.team.now.workers _ (here_book c.args.at.now) c.recall.ensures.keeps

pub expand-requires-clause-sq : goal.expand-requires-clause-sq
expand-requires-clause-sq g c κs within = job_kept (book_here c.args.at.now) (book_here c.recall.new.self) c.args.sq c.recall.ensures.keeps c.requires.sq

pub returns-then-sq-ge-LOWEST-clause-continues : goal.returns-then-sq-ge-LOWEST-clause-continues
returns-then-sq-ge-LOWEST-clause-continues g c = works_then (works_kept c.args.team.now.workers _ (here_book c.args.at.now) c.recall.ensures.keeps) c.expand.ensures.continues

pub returns-clause-continues : goal.returns-clause-continues
returns-clause-continues g c = works_then (works_kept c.args.team.now.workers _ (here_book c.args.at.now) c.recall.ensures.keeps) c.batch.ensures.continues
