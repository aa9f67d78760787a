-- What a worker knows and counts, before and after its stretch.
use Rattle.std.proofs.Common.{◌≡◌, All, List, [], length, Option, Some, None, IfSome, ap, sym, ◌∙◌, subst, arith}
use Rattle.squares.specs.declared.sq.Sq.{Sq}
use Rattle.squares.specs.Book.{Book, Keeps, Store}
use Rattle.squares.proofs.Kept.{keeps_none}
use Rattle.node_table.specs.declared.at.At.{At}
use Rattle.node_table.specs.DesksAtWork.{book_here}
use Rattle.node_table.specs.Teams.{AreAtOneTable, at_place_of}
use Rattle.worker_split.specs.declared.members.Answer.{Answer}
use Rattle.worker_split.specs.declared.members.Member.{Member}
use Rattle.worker_split.specs.Jobs.{IsJob}
use Rattle.worker_split.specs.Rounds.{AreSettled, CanSolve, HasFound, IsIdle, IsMember, IsReady}
use Rattle.worker_split.specs.Work.{Works}
use Rattle.worker_split.proofs.Books.{jobs_kept}

if_some : (P Q : At → Type 0) (o : Option At) → ((at : At) → P at → Q at) → IfSome o P → IfSome o Q
if_some P Q (Some at) f h = f at h
if_some P Q None f h = tt

member_ready : (base : Book) (jobs : List Sq) (member : Member) → All (IsJob base) jobs → IsMember base jobs member → IsReady jobs member
member_ready base jobs member all m = record {
  queues = m.queues;
  solver = if_some (λ at. HasFound base jobs at member.solver) (λ at. CanSolve jobs at member.solver) member.at
      (λ at found. record { known = jobs_kept base (book_here at) jobs found.works.keeps all; answers = found.answers }) m.found;
}

pub all_ready : (base : Book) (jobs : List Sq) (members : List Member) → All (IsJob base) jobs → All (IsMember base jobs) members → All (IsReady jobs) members
all_ready base jobs members all are k d less = member_ready base jobs _ all (are k d less)

none_settled : (jobs : List Sq) (book : Book) (answers : List Answer) → answers ≡ [] → AreSettled jobs book answers
none_settled jobs book answers none = subst (AreSettled jobs book) (sym none) (record { each = λ k d less. absurd (omega (arith, less)) })

-- a worker that has not begun
abbrev pub IsNew : Book → List Sq → Member → Type 0
IsNew base jobs member = IsMember base jobs member × (member.solver.tally.expansions ≡ 0) × (member.solver.answers.items ≡ [])

pub idle_new : (base : Book) (jobs : List Sq) (member : Member) → IsIdle (length jobs) member → IsNew base jobs member
idle_new base jobs member idle =
    (record { queues = idle.queues; found = subst (λ o. IfSome o (λ at. HasFound base jobs at member.solver)) (sym idle.at) tt }, idle.counted, idle.answers)

-- it gets a desk
pub received : (base : Book) (jobs : List Sq) (member : Member) (at : At) → IsNew base jobs member → book_here at ≡ base → IsNew base jobs (record member { at = Some at })
received base jobs member at was is =
    let keeps : Keeps base (book_here at) = subst (Keeps base) (sym is) (keeps_none base) in
    let len : length (book_here at).results ≡ length base.results = ap (λ (b : Book). length b.results) is in
    let counted = was.1 in
    let works : Works 1 base (book_here at) 0 member.solver.tally.expansions = record { keeps = keeps; rises = omega (arith, counted); count = omega (arith, counted, len) } in
    let found : HasFound base jobs at member.solver = record { works = works; answers = none_settled jobs (book_here at) member.solver.answers.items was.2 } in
    (record { queues = record { own = was.0.queues.own; others = was.0.queues.others }; found = found }, was.1, was.2)

-- desks that go on from one book are at one table
pub one_table : {base one other : Book} → Keeps base one → Keeps base other → AreAtOneTable one other
one_table h k = record { rule = k.rule ∙ sym h.rule; exponent = k.exponent ∙ sym h.exponent; table = ap (λ (s : Store). s.numbers) (k.store ∙ sym h.store) }

-- what a desk knew that went on from the same book, the joined one knows
pub joined_keeps : (base own theirs new : Book) → Keeps base own → Keeps base theirs → Keeps (at_place_of own theirs) new → Keeps theirs new
joined_keeps base own theirs new h k kept = subst (λ b. Keeps b new) (λ i. record theirs { store = (h.store ∙ sym k.store) i }) kept
