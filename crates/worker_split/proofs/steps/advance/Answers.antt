use Rattle.std.proofs.Common.{arith}
use Rattle.node_table.specs.DesksAtWork.{book_here}
use Rattle.worker_split.proofs.Books.{here_book, own_known, refuses, tallied, works_kept, works_more, works_then}
use Rattle.worker_split.proofs.Stepped.{on_two, stepped}
use Rattle.plane.proofs.SentErrors.{sent_on}
use Rattle.worker_split.proofs.steps.advance.Goals as goal

pub returns-then-team-eq1-clause-continues : goal.returns-then-team-eq1-clause-continues
returns-then-team-eq1-clause-continues g c = works_more c.args.team.now.some (here_book c.args.at.now) (tallied c.step.ensures.makes.keeps c.step.ensures.makes.tally)

pub returns-in_err-padded-clause-continues : goal.returns-in_err-padded-clause-continues
returns-in_err-padded-clause-continues g c = works_kept c.args.team.now.workers _ (here_book c.args.at.now) c.pad.ensures.adds.keeps

pub team_future-requires-clause-sq : goal.team_future-requires-clause-sq
team_future-requires-clause-sq g c κs within =
    let padded = c.in_ok-padded.ensures in
    let level = padded.level in
    let low = c.requires.known.low in
    record { known = padded.cells.known; above = omega (arith, level, low) }

pub returns-in_err-next-clause-continues : goal.returns-in_err-next-clause-continues
returns-in_err-next-clause-continues g c = works_then (works_kept c.args.team.now.workers _ (here_book c.args.at.now) c.pad.ensures.adds.keeps) c.team_future.ensures.continues

pub trim-requires : goal.trim-requires
trim-requires g c = record { known = own_known (book_here c.team_future.new.at) _ c.in_ok-next.next c.in_ok-next.ensures.ok.is.known }

pub returns-clause-ok : goal.returns-clause-ok
returns-clause-ok g c =
    let padded = c.in_ok-padded.ensures in
    on_two c.trim.result _ _ _
    (λ small shown smallest. stepped (book_here c.args.at.now) (book_here c.pad.new.book) (book_here c.team_future.new.at) (book_here c.trim.new.book) c.args.root c.in_ok-padded.padded c.in_ok-next.next small
    c.exponent-exponent.result c.exponent-exponent.ensures c.pad.ensures.adds.keeps c.team_future.ensures.continues.keeps padded.level padded.cells padded.room c.in_ok-next.ensures.ok shown smallest)
    c.trim.ensures.cells c.trim.ensures.level

pub returns-clause-continues : goal.returns-clause-continues
returns-clause-continues g c =
    let first = works_then (works_kept c.args.team.now.workers _ (here_book c.args.at.now) c.pad.ensures.adds.keeps) c.team_future.ensures.continues in
    works_then first (works_kept c.args.team.now.workers _ (here_book c.team_future.new.at) c.trim.ensures.adds.keeps)

pub returns-then-team-eq1-clause-refusal : goal.returns-then-team-eq1-clause-refusal
returns-then-team-eq1-clause-refusal g c = refuses (book_here c.step.new.book) c.step.result c.step.ensures.refusal

pub returns-clause-refusal : goal.returns-clause-refusal
returns-clause-refusal g c = refuses (book_here c.trim.new.book) c.trim.result c.trim.ensures.refusal

pub returns-in_err-next-clause-refusal : goal.returns-in_err-next-clause-refusal
returns-in_err-next-clause-refusal g c = sent_on _ c.from_residual-in_err-next.result c.in_err-next.field-0.0 c.from_residual-in_err-next.ensures.1 c.in_err-next.ensures.refusal
