use Rattle.std.proofs.Common.{All, ◌<◌, length, sym, subst, ◌∙◌, IfSome}
use Rattle.squares.proofs.Kept.{keeps_none}
use Rattle.node_table.specs.DesksAtWork.{book_here}
use Rattle.worker_split.specs.declared.members.Answer.{Answer}
use Rattle.worker_split.specs.Rounds.{AreSettled, HasFound}
use Rattle.worker_split.proofs.Books.{here_book, works_idle, works_join}
use Rattle.worker_split.proofs.Places.{answers_kept, places_kept, places_within}
use Rattle.worker_split.proofs.Workers.{joined_keeps, one_table}
use Rattle.worker_split.proofs.gathering.gather_one.Goals as goal

pub join-requires : goal.join-requires
join-requires c =
    let is = c.requires.is in
    let found = subst (λ o. IfSome o (λ at. HasFound c.requires.base c.requires.jobs at c.args.member.now.solver)) (sym c.take.ensures.value ∙ c.in-Some.is) is.found in
    one_table c.requires.keeps found.works.keeps

pub place_all-requires : goal.place_all-requires
place_all-requires c =
    let jobs = c.requires.jobs in
    let answers = c.args.member.now.solver.answers.items in
    let found = subst (λ o. IfSome o (λ at. HasFound c.requires.base jobs at c.args.member.now.solver)) (sym c.take.ensures.value ∙ c.in-Some.is) c.requires.is.found in
    subst (All (λ (a : Answer). a.place < length c.args.places.now)) (sym c.as_slice.ensures.value)
    (places_within jobs (book_here c.in-Some.theirs) answers (length c.args.places.now) c.requires.len found.answers)

pub returns-in_default-clause-keeps : goal.returns-in_default-clause-keeps
returns-in_default-clause-keeps c = keeps_none _

pub returns-in_default-clause-works : goal.returns-in_default-clause-works
returns-in_default-clause-works c base jobs joined before book is works = works_idle book works

pub returns-clause-places : goal.returns-clause-places
returns-clause-places c base jobs is fit =
    let new = book_here c.join.new.self in
    let first = subst (λ o. IfSome o (λ at. HasFound c.requires.base c.requires.jobs at c.args.member.now.solver)) (sym c.take.ensures.value ∙ c.in-Some.is) c.requires.is.found in
    let kept = joined_keeps c.requires.base (book_here c.args.at.now) (book_here c.in-Some.theirs) new c.requires.keeps first.works.keeps c.join.ensures.other in
    let answers = c.args.member.now.solver.answers.items in
    let found = subst (λ o. IfSome o (λ at. HasFound base jobs at c.args.member.now.solver)) (sym c.take.ensures.value ∙ c.in-Some.is) is.found in
    c.place_all.ensures.places jobs new (subst (AreSettled jobs new) (sym c.as_slice.ensures.value) (answers_kept jobs (book_here c.in-Some.theirs) new answers kept found.answers))
    (places_kept jobs (book_here c.args.at.now) new c.args.places.now c.join.ensures.own fit)

pub returns-clause-works : goal.returns-clause-works
returns-clause-works c base jobs joined before book is works =
    let first = subst (λ o. IfSome o (λ at. HasFound c.requires.base c.requires.jobs at c.args.member.now.solver)) (sym c.take.ensures.value ∙ c.in-Some.is) c.requires.is.found in
    let kept = joined_keeps c.requires.base (book_here c.args.at.now) (book_here c.in-Some.theirs) (book_here c.join.new.self) c.requires.keeps first.works.keeps c.join.ensures.other in
    let found = subst (λ o. IfSome o (λ at. HasFound base jobs at c.args.member.now.solver)) (sym c.take.ensures.value ∙ c.in-Some.is) is.found in
    works_join (here_book c.args.at.now) (here_book c.in-Some.theirs) works found.works c.join.ensures.own kept c.saturating_add-tally.ensures
