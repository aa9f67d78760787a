use Rattle.std.proofs.Common.{◌≡◌, All, List, length, sym, subst, ◌∙◌, IfSome}
use Rattle.std.proofs.lemmas.List.{with_items_is}
use Rattle.job_queues.specs.declared.queues.JobStealer.{JobStealer}
use Rattle.node_table.specs.DesksAtWork.{book_here}
use Rattle.worker_split.specs.Rounds.{AreSettled, CanSolve, HasFound}
use Rattle.worker_split.proofs.Books.{works_then}
use Rattle.worker_split.proofs.Places.{answers_kept}
use Rattle.worker_split.proofs.rounds.run.Goals as goal

pub own_share-requires-clause-solver : goal.own_share-requires-clause-solver
own_share-requires-clause-solver g c κs within =
    subst (λ o. IfSome o (λ at. CanSolve c.args.shared.now.jobs.now at c.args.member.now.solver)) (sym c.take.ensures.value ∙ c.in-Some.is) c.requires.solver

pub returns-clause-found : goal.returns-clause-found
returns-clause-found g c = record {
  found = λ base m.
      let jobs = c.args.shared.now.jobs.now in
      let was = subst (λ o. IfSome o (λ at. HasFound base jobs at c.args.member.now.solver)) (sym c.take.ensures.value ∙ c.in-Some.is) m.found in
      let solved = c.other_shares.ensures in
      let later = c.help.ensures.continues in
      let last = book_here c.help.new.at in
      let answers = answers_kept jobs (book_here c.other_shares.new.at) last c.other_shares.new.solver.answers.items later.keeps solved.solver.answers in
      record {
        works = works_then (works_then (works_then was.works c.own_share.ensures.continues) solved.continues) later;
        answers = subst (λ v. AreSettled jobs last v.items) (sym c.help.ensures.answers) answers;
      };
}

pub other_shares-requires : goal.other_shares-requires
other_shares-requires g c =
    let count = length c.args.shared.now.jobs.now in
    let others = subst (λ (queues : List JobStealer). All (λ (other : JobStealer). other.count ≡ count) queues) (sym c.as_mut_slice.ensures.value) c.requires.queues.others in
    (c.type_bounds.sync-G, (others, c.own_share.ensures.solver))

pub help-requires : goal.help-requires
help-requires g c = c.other_shares.ensures.solver.known

pub returns-in_default-clause-found : goal.returns-in_default-clause-found
returns-in_default-clause-found g c = record {
  found = λ base m. subst (λ o. IfSome o (λ at. HasFound base c.args.shared.now.jobs.now at c.args.member.now.solver)) (sym c.take.ensures.after) tt;
}

pub returns-clause-queues : goal.returns-clause-queues
returns-clause-queues g c =
    let count = length c.args.shared.now.jobs.now in
    let same = with_items_is c.args.member.now.others c.other_shares.new.others (c.other_shares.auto.others ∙ c.as_mut_slice.ensures.len) in
    record {
      own = c.own_share.ensures.own;
      others = subst (λ (queues : List JobStealer). All (λ (other : JobStealer). other.count ≡ count) queues) (sym same) c.other_shares.ensures.others;
    }
