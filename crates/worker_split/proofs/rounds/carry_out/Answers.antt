use Rattle.std.proofs.lemmas.List.{length-replicate}
use Rattle.std.proofs.Common.{None, ◌∙◌, ap, All, length, subst, sym}
use Rattle.squares.specs.Book.{Book}
use Rattle.node_table.specs.DesksAtWork.{book_here}
use Rattle.worker_split.specs.Jobs.{IsJob}
use Rattle.worker_split.specs.Rounds.{IsIdle, IsMember, PlacesFit}
use Rattle.worker_split.specs.Work.{Works}
use Rattle.worker_split.proofs.Books.{here_book, jobs_kept, works_one}
use Rattle.worker_split.proofs.Places.{none_placed}
use Rattle.worker_split.proofs.Workers.{all_ready}
use Rattle.worker_split.proofs.rounds.carry_out.Goals as goal

pub run_all-requires-clause-ready : goal.run_all-requires-clause-ready
run_all-requires-clause-ready g c κs within =
    let jobs = c.args.jobs.now in
    let idle = subst (All (IsIdle (length jobs))) (sym c.as_mut_slice-members.ensures.value) c.requires.room.idle in
    all_ready (book_here c.args.at.now) jobs c.hand_out.new.members c.requires.jobs (c.hand_out.ensures.members jobs idle)

pub gather-requires : goal.gather-requires
gather-requires g c =
    let jobs = c.args.jobs.now in
    let at = sym c.hand_out.ensures.at in
    let idle = subst (All (IsIdle (length jobs))) (sym c.as_mut_slice-members.ensures.value) c.requires.room.idle in
    let members = c.run_all.ensures.members (book_here c.args.at.now) (c.hand_out.ensures.members jobs idle) in
    let places = c.as_mut_slice-places.ensures.value ∙ c.requires.room.places in
    record { jobs = jobs; are = subst (λ (b : Book). All (IsMember b jobs) c.run_all.new.members) at members; len = ap length places ∙ length-replicate (length jobs) None }

pub fill-requires-clause-places : goal.fill-requires-clause-places
fill-requires-clause-places g c κs within =
    let jobs = c.args.jobs.now in
    let at = sym c.hand_out.ensures.at in
    let idle = subst (All (IsIdle (length jobs))) (sym c.as_mut_slice-members.ensures.value) c.requires.room.idle in
    let members = c.run_all.ensures.members (book_here c.args.at.now) (c.hand_out.ensures.members jobs idle) in
    let places : PlacesFit jobs (book_here c.hand_out.new.at) c.as_mut_slice-places.result.now = none_placed jobs _ _ (length jobs) (c.as_mut_slice-places.ensures.value ∙ c.requires.room.places) in
    c.gather.ensures.places jobs (subst (λ (b : Book). All (IsMember b jobs) c.run_all.new.members) at members) places

pub fill-requires-clause-len : goal.fill-requires-clause-len
fill-requires-clause-len g c κs within =
    let places = c.as_mut_slice-places.ensures.value ∙ c.requires.room.places in
    c.gather.ensures.len ∙ (ap length places ∙ length-replicate (length c.args.jobs.now) None)

pub fill-requires-clause-jobs : goal.fill-requires-clause-jobs
fill-requires-clause-jobs g c κs within =
    let jobs = c.args.jobs.now in
    jobs_kept (book_here c.hand_out.new.at) (book_here c.gather.new.at) jobs c.gather.ensures.continues.keeps (subst (λ (b : Book). All (IsJob b) jobs) (sym c.hand_out.ensures.at) c.requires.jobs)

pub returns-clause-continues : goal.returns-clause-continues
returns-clause-continues g c =
    let workers = c.args.team.now.workers in
    let len = c.run_all.ensures.len ∙ (c.hand_out.ensures.len ∙ (ap length c.as_mut_slice-members.ensures.value ∙ c.requires.room.len)) in
    let gathered = subst (λ (b : Book). Works (length c.run_all.new.members) b (book_here c.gather.new.at) c.args.tally.now.expansions c.gather.new.tally.expansions) c.hand_out.ensures.at c.gather.ensures.continues in
    let all = subst (λ n. Works n (book_here c.args.at.now) (book_here c.gather.new.at) c.args.tally.now.expansions c.gather.new.tally.expansions) len gathered in
    works_one c.args.team.now.some (here_book c.gather.new.at) all c.fill.ensures.continues
