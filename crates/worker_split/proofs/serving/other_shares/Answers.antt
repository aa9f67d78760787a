use Rattle.std.proofs.Common.{◌≡◌, ◌∙◌, length, refl}
use Rattle.std.proofs.lemmas.List.{length-set}
use Rattle.std.proofs.lemmas.List.Elements.{All-set}
use Rattle.squares.proofs.Kept.{keeps_none}
use Rattle.job_queues.specs.declared.queues.JobStealer.{JobStealer}
use Rattle.worker_split.proofs.Books.{here_book, works_kept, works_then}
use Rattle.worker_split.proofs.serving.other_shares.Goals as goal

pub loop-k-init : goal.loop-k-init
loop-k-init g c = (refl, c.requires.others, c.requires.solver, works_kept 1 _ (here_book c.args.at.now) (keeps_none _))

pub loop-k-preserved : goal.loop-k-preserved
loop-k-preserved g c =
    let was = c.loop-k.invariant in
    let here = c.other_share.ensures in (
      length-set c.loop-k.others c.loop-k.k c.other_share.new.other ∙ was.0,
      All-set (λ (r : JobStealer). r.count ≡ length c.args.shared.now.jobs.now) c.loop-k.others c.loop-k.k c.other_share.new.other here.other was.1,
      here.solver,
      works_then was.3 here.continues,
    )
