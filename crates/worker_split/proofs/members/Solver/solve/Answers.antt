use Rattle.node_table.specs.DesksAtWork.{book_here}
use Rattle.worker_split.specs.Rounds.{IsSettled}
use Rattle.worker_split.specs.declared.members.Answer.{Answer}
use Rattle.worker_split.proofs.Books.{jobs_kept}
use Rattle.worker_split.proofs.Places.{answers_kept, pushed}
use Rattle.worker_split.proofs.members.Solver.solve.Goals as goal

pub returns-clause-solver : goal.returns-clause-solver
returns-clause-solver g c =
    let jobs = c.args.shared.now.jobs.now in
    let old = book_here c.args.at.now in
    let new = book_here c.settle-future.new.at in
    let keeps = c.settle-future.ensures.continues.keeps in
    let kept = answers_kept jobs old new c.args.self.now.answers.items keeps c.requires.solver.answers in
    let P : Answer → Type 0 = λ a. IsSettled jobs new a.place a.future in
    record {
      known = jobs_kept old new jobs keeps c.requires.solver.known;
      answers = record { each = pushed P _ _ _ _ c.push.ensures.items kept.each c.settle-future.ensures.settled };
    }
