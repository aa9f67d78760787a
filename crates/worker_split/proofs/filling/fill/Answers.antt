use Rattle.std.proofs.Common.{subst, IfOk, IfErr, true≢false, arith}
use Rattle.node_table.specs.DesksAtWork.{book_here}
use Rattle.worker_split.specs.Jobs.{RefusesFull}
use Rattle.worker_split.specs.Rounds.{IsAnswerAt}
use Rattle.worker_split.proofs.Books.{jobs_kept, works_then}
use Rattle.worker_split.proofs.Places.{fits_at, places_kept, zip_next}
use Rattle.worker_split.proofs.filling.fill.Goals as goal

pub loop-k-preserved : goal.loop-k-preserved
loop-k-preserved g c =
    let jobs = c.args.shared.now.jobs.now in
    let first = book_here c.args.at.now in
    let old = book_here c.loop-k.at in
    let new = book_here c.fill_one.new.at in
    let step = c.fill_one.ensures.continues in
    let was = c.loop-k.invariant in
    let at : IsAnswerAt jobs new c.loop-k.k c.in-Ok.future = subst (λ r. IfOk r (IsAnswerAt jobs new c.loop-k.k)) c.in-Ok.is c.fill_one.ensures.settled.ok in (
      works_then was.0 step,
      places_kept jobs old new c.args.places.now step.keeps was.1,
      (λ no. zip_next old new jobs c.loop-k.futures.items _ c.loop-k.k _ c.in-Ok.future (omega arith) step.keeps (jobs_kept first old jobs was.0.keeps c.requires.jobs) (was.2 no) at c.push_reserved.ensures.items),
      omega (arith, was.3, c.push_reserved.ensures.len),
      omega (arith, was.4, c.push_reserved.ensures.capacity),
      (λ t. step.keeps.full (was.5 t)),
    )

pub loop-k-preserved-in-Err : goal.loop-k-preserved-in-Err
loop-k-preserved-in-Err g c =
    let jobs = c.args.shared.now.jobs.now in
    let old = book_here c.loop-k.at in
    let new = book_here c.fill_one.new.at in
    let step = c.fill_one.ensures.continues in
    let was = c.loop-k.invariant in
    let refused = subst (λ r. IfErr r (RefusesFull new)) c.in-Err.is c.fill_one.ensures.settled.refusal in (
      works_then was.0 step,
      places_kept jobs old new c.args.places.now step.keeps was.1,
      (λ no. absurd (true≢false no)),
      omega (arith, was.3),
      was.4,
      (λ _. refused.1),
    )

pub fill_one-requires : goal.fill_one-requires
fill_one-requires g c =
    let jobs = c.args.shared.now.jobs.now in
    let now = book_here c.loop-k.at in
    let was = c.loop-k.invariant in
    let within = c.loop-k-test.true in
    let known = jobs_kept (book_here c.args.at.now) now jobs was.0.keeps c.requires.jobs in
    let fits = fits_at jobs now c.args.places.now c.loop-k.k (omega (arith, within, c.requires.len)) was.1 in
    (c.type_bounds.sync-G, (within, (known, fits)))

pub push_reserved-requires : goal.push_reserved-requires
push_reserved-requires g c = let was = c.loop-k.invariant in omega (arith, was.3, was.4, c.loop-k-test.true)
