use Rattle.std.proofs.Common.{◌<◌, length, rules, subst}
use Rattle.std.specs.Prelude.{slice_index_or}
use Rattle.worker_split.specs.declared.members.Member.{Member}
use Rattle.worker_split.specs.Rounds.{HasRun}
use Rattle.worker_split.proofs.rounds.run_all.Goals as goal

pub returns-clause-members : goal.returns-clause-members
returns-clause-members g c base all k d less =
    let jobs = c.args.shared.now.jobs.now in
    let before = slice_index_or c.args.members.now k d in
    let after = slice_index_or c.for_each_mut.new.s k d in
    let within : k < length c.args.members.now = search rules in
    let change = (c.for_each_mut.ensures k d within).1 in
    let run : HasRun jobs before after = subst (λ (p : Member × Member). HasRun jobs p.0 p.1) (λ i. (change.argument_is i, change.left i)) change.call in
    record { queues = run.queues; found = run.found.found base (all k d within) }
