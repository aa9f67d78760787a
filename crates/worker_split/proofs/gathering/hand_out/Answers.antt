use Rattle.std.proofs.Common.{◌∙◌, ◌<◌, arith, refl, length}
use Rattle.std.proofs.lemmas.List.{length-set}
use Rattle.std.proofs.lemmas.List.Elements.{All-set}
use Rattle.node_table.specs.DesksAtWork.{book_here}
use Rattle.worker_split.proofs.Workers.{IsNew, idle_new, received}
use Rattle.worker_split.proofs.gathering.hand_out.Goals as goal

pub loop-k-init : goal.loop-k-init
loop-k-init c = (refl, refl, λ jobs idle k d less. idle_new (book_here c.args.at.now) jobs _ (idle k d less))

pub loop-k-preserved : goal.loop-k-preserved
loop-k-preserved c =
    let base = book_here c.args.at.now in
    let was = c.loop-k.invariant in
    let split = c.split_off.ensures in
    let same = was.1 in
    let test = c.loop-k-test.true in
    let within : c.loop-k.k < length c.loop-k.members = omega (arith, same, test) in (
      split.own ∙ was.0,
      length-set _ _ _ ∙ was.1,
      λ jobs idle. All-set (IsNew base jobs) c.loop-k.members c.loop-k.k _ (received base jobs _ c.split_off.result (was.2 jobs idle c.loop-k.k _ within) (split.other ∙ was.0)) (was.2 jobs idle),
    )

pub returns-clause-members : goal.returns-clause-members
returns-clause-members c jobs idle k d less = (c.loop-k.invariant.2 jobs idle k d less).0
