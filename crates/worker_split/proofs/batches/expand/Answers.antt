use Rattle.std.proofs.Common.{◌≡◌, ◌-◌, length, rules}
use Rattle.hashlife_step.proofs.NineFutures.{subsquares_known}
use Rattle.node_table.specs.DesksAtWork.{book_here}
use Rattle.worker_split.proofs.Books.{all_known_kept, here_book, works_kept, works_one, works_then}
use Rattle.plane.proofs.SentErrors.{sent_on}
use Rattle.worker_split.proofs.batches.expand.Goals as goal

pub returns-in_err-nine-clause-continues : goal.returns-in_err-nine-clause-continues
returns-in_err-nine-clause-continues g c = works_kept c.args.team.now.workers _ (here_book c.args.at.now) c.nine.ensures.adds.keeps

pub batch-requires-clause-known : goal.batch-requires-clause-known
batch-requires-clause-known g c κs within =
    let long : length c.in_ok-nine.nine ≡ 9 = search rules in
    subsquares_known (book_here c.nine.new.self) c.args.sq.level _ c.in_ok-nine.nine long c.in_ok-nine.ensures.ok

pub returns-in_err-batch-clause-continues : goal.returns-in_err-batch-clause-continues
returns-in_err-batch-clause-continues g c = works_then (works_kept c.args.team.now.workers _ (here_book c.args.at.now) c.nine.ensures.adds.keeps) c.batch.ensures.continues

pub returns-then-exponent-level-clause-continues : goal.returns-then-exponent-level-clause-continues
returns-then-exponent-level-clause-continues g c = works_then (works_kept c.args.team.now.workers _ (here_book c.args.at.now) c.nine.ensures.adds.keeps) c.batch.ensures.continues

pub overlaps_of_futures-requires-clause-known : goal.overlaps_of_futures-requires-clause-known
overlaps_of_futures-requires-clause-known g c =
    let long : length c.in_ok-nine.nine ≡ 9 = search rules in
    let known = subsquares_known (book_here c.nine.new.self) c.args.sq.level _ c.in_ok-nine.nine long c.in_ok-nine.ensures.ok in
    all_known_kept (book_here c.nine.new.self) (book_here c.batch.new.at) (c.args.sq.level - 1) c.in_ok-nine.nine c.batch.ensures.continues.keeps known

pub returns-in_err-four-clause-continues : goal.returns-in_err-four-clause-continues
returns-in_err-four-clause-continues g c =
    let first = works_then (works_kept c.args.team.now.workers _ (here_book c.args.at.now) c.nine.ensures.adds.keeps) c.batch.ensures.continues in
    works_one c.args.team.now.some (here_book c.batch.new.at) first c.overlaps_of_futures.ensures.continues

pub returns-clause-continues : goal.returns-clause-continues
returns-clause-continues g c =
    let first = works_then (works_kept c.args.team.now.workers _ (here_book c.args.at.now) c.nine.ensures.adds.keeps) c.batch.ensures.continues in
    works_then (works_one c.args.team.now.some (here_book c.batch.new.at) first c.overlaps_of_futures.ensures.continues) c.batch-2.ensures.continues

pub returns-in_err-batch-clause-refusal : goal.returns-in_err-batch-clause-refusal
returns-in_err-batch-clause-refusal g c = sent_on _ c.from_residual-in_err-batch.result c.in_err-batch.field-0.0 c.from_residual-in_err-batch.ensures.1 c.in_err-batch.ensures.refusal

pub returns-in_err-four-clause-refusal : goal.returns-in_err-four-clause-refusal
returns-in_err-four-clause-refusal g c = sent_on _ c.from_residual-in_err-four.result c.in_err-four.field-0.0 c.from_residual-in_err-four.ensures.1 c.in_err-four.ensures.refusal
