use Rattle.std.proofs.lemmas.Option.{slice_get-get_or}
use Rattle.node_table.specs.DesksAtWork.{book_here}
use Rattle.worker_split.proofs.Places.{settled}
use Rattle.worker_split.proofs.jobs.settle.Goals as goal

pub returns-clause-settled : goal.returns-clause-settled
returns-clause-settled g c =
    let jobs = c.args.shared.now.jobs.now in
    let made = c.future_of-future.ensures in
    settled jobs (book_here c.args.at.now) (book_here c.future_of-future.new.at) c.args.job c.future_of-future.result _ c.requires.job (slice_get-get_or jobs c.args.job _ c.requires.job)
    (c.requires.jobs c.args.job _ c.requires.job) made.continues.keeps made.ok made.refusal
