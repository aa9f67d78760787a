-- The work is done at a desk that was split off, and is joined when the first one comes back.
use Rattle.std.proofs.Common.{◌<◌, ◌^◌, ◌∙◌, ℕ, All, List, inl, inr, sym, subst, ⊎_elim}
use Rattle.std.specs.List.{AllZip}
use Rattle.plane.specs.declared.refusal.Refusal.{Refusal}
use Rattle.squares.specs.Book.{Book, IsBook, IsKnown, Keeps}
use Rattle.squares.specs.declared.sq.Sq.{Sq}
use Rattle.squares.proofs.Kept.{keeps_none, keeps_trans}
use Rattle.hashlife_step.proofs.Trimmed.{centred_kept}
use Rattle.hashlife_step.specs.ShowsCentred.{IsStepOf}
use Rattle.table_core.proofs.Knowing.{grows_trans}
use Rattle.node_table.specs.declared.at.At.{At}
use Rattle.node_table.specs.declared.desk.Desk.{Desk}
use Rattle.node_table.specs.declared.table.NodeTable.{NodeTable}
use Rattle.node_table.specs.Desks.{IsDeskOf, book_at, expansions_of}
use Rattle.node_table.specs.DesksAtWork.{KnowsAllOf, book_here}
use Rattle.node_table.specs.Teams.{AreAtOneTable}
use Rattle.node_table.proofs.AtWork.{known_at_work}
use Rattle.worker_split.specs.Jobs.{ComesBack, HasFuture, IsJob, Refuses, RefusesFull}
use Rattle.worker_split.specs.Work.{Brings, SetsOut, Works}
use Rattle.worker_split.proofs.Back.{IsLeft, comes_back, full_left, future_left, futures_left, is_left, job_at_work, root_left}
use Rattle.worker_split.proofs.Books.{has_future_kept, job_kept, jobs_kept, works_kept, works_then}
use Rattle.worker_split.proofs.Places.{zip_kept}
use Rattle.worker_split.proofs.Workers.{joined_keeps, one_table}

-- what is known when the work begins stays known at the desk that set out
own_keeps : {table : NodeTable} {desk : Desk} {own work : At} → SetsOut table desk own work → Keeps (book_here work) (book_here own)
own_keeps {work = work} out = subst (Keeps (book_here work)) (out.work_book ∙ sym out.own_book) (keeps_none (book_here work))

pub at_one_table : {table : NodeTable} {desk : Desk} {own work : At} (done : At) → SetsOut table desk own work → Keeps (book_here work) (book_here done) → AreAtOneTable (book_here own) (book_here done)
at_one_table done out keeps = one_table (own_keeps out) keeps

-- a desk of this table came back, with all that was found out at the one that did the work
pub record IsBrought (table : NodeTable) (desk left : Desk) (done : Book) : Type 0 where
  pub joined : Book
  pub keeps : Keeps done joined
  pub is : IsLeft table desk left joined

pub brought : {table : NodeTable} {desk left : Desk} {own work : At} {made : ℕ} (done : At) → SetsOut table desk own work → Keeps (book_here work) (book_here done) → Brings (book_here own) (book_here done) made left →
    IsBrought table desk left (book_here done)
brought {work = work} done out keeps b =
    let kept = joined_keeps (book_here work) _ (book_here done) b.book (own_keeps out) keeps b.keeps_work in
    record { joined = b.book; keeps = kept; is = is_left out.work_book (keeps_trans keeps kept) b.leaves }

-- what was counted at the other desk was added to the number of the one that came back
pub work_comes_back : {table : NodeTable} {times made : ℕ} {desk left : Desk} {own work : At} {done : Book} → SetsOut table desk own work → Works times (book_here work) done 0 made → Brings (book_here own) done made left → KnowsAllOf own.desk left →
    IsBook done → IsDeskOf table desk → expansions_of desk < 2 ^ 64 → ComesBack table times desk left
work_comes_back {table} {times} {made} {desk} {left} {own} {work} {done} out works b knows book d fits =
    let kept = joined_keeps (book_here work) (book_here own) done b.book (own_keeps out) works.keeps b.keeps_work in
    comes_back table times made desk left (book_here work) b.book d fits out.work_book (works_then works (works_kept times made book kept)) b.leaves (grows_trans _ _ _ out.knows knows)

pub job_set_out : {table : NodeTable} {desk : Desk} {own work : At} (sq : Sq) → SetsOut table desk own work → IsJob (book_at table desk) sq → IsJob (book_here work) sq
job_set_out {table} {desk} {work = work} sq out job = job_at_work table desk (book_here work) sq out.work_book job

pub jobs_set_out : {table : NodeTable} {desk : Desk} {own work : At} (jobs : List Sq) → SetsOut table desk own work → All (IsJob (book_at table desk)) jobs → All (IsJob (book_here work)) jobs
jobs_set_out jobs out all k d less = job_set_out _ out (all k d less)

pub known_set_out : {table : NodeTable} {desk : Desk} {own work : At} (level : ℕ) (sq : Sq) → SetsOut table desk own work → IsKnown (book_at table desk) level sq → IsKnown (book_here work) level sq
known_set_out {table} {desk} {work = work} level sq out known = known_at_work table desk (book_here work) level sq out.work_book known

-- what came of the work, the desk that came back knows
pub future_brought : {table : NodeTable} {desk left : Desk} {own work : At} {made : ℕ} (done : At) → SetsOut table desk own work → Keeps (book_here work) (book_here done) → Brings (book_here own) (book_here done) made left →
    (sq future : Sq) → IsJob (book_at table desk) sq → HasFuture (book_here done) sq future → HasFuture (book_at table left) sq future
future_brought {work = work} done out keeps b sq future job has =
    let is = brought done out keeps b in
    future_left is.is sq future (has_future_kept (book_here done) is.joined sq future is.keeps (job_kept (book_here work) (book_here done) sq keeps (job_set_out sq out job)) has)

pub futures_brought : {table : NodeTable} {desk left : Desk} {own work : At} {made : ℕ} (done : At) → SetsOut table desk own work → Keeps (book_here work) (book_here done) → Brings (book_here own) (book_here done) made left →
    (jobs futures : List Sq) → All (IsJob (book_at table desk)) jobs → AllZip (HasFuture (book_here done)) jobs futures → AllZip (HasFuture (book_at table left)) jobs futures
futures_brought {work = work} done out keeps b jobs futures all have =
    let is = brought done out keeps b in
    futures_left is.is jobs futures (zip_kept (book_here done) is.joined jobs futures is.keeps (jobs_kept (book_here work) (book_here done) jobs keeps (jobs_set_out jobs out all)) have)

pub step_brought : {table : NodeTable} {desk left : Desk} {own work : At} {made : ℕ} (done : At) → SetsOut table desk own work → Keeps (book_here work) (book_here done) → Brings (book_here own) (book_here done) made left →
    (root next : Sq) → IsStepOf (book_here work) (book_here done) root next → IsStepOf (book_at table desk) (book_at table left) root next
step_brought {table} {desk} {left} done out keeps b root next step =
    let is = brought done out keeps b in
    let kept = centred_kept is.keeps (record { known = step.known; cells = step.cells }) in
    let is_root = root_left is.is _ next (record { known = kept.known; smallest = step.smallest; cells = kept.cells }) in
    subst (λ book. IsStepOf book (book_at table left) root next) out.work_book is_root

pub full_brought : {table : NodeTable} {desk left : Desk} {own work : At} {made : ℕ} (done : At) → SetsOut table desk own work → Keeps (book_here work) (book_here done) → Brings (book_here own) (book_here done) made left →
    (refusal : Refusal) → RefusesFull (book_here done) refusal → RefusesFull (book_at table left) refusal
full_brought done out keeps b refusal full = let is = brought done out keeps b in full_left is.is refusal (full.0, is.keeps.full full.1)

pub refusal_brought : {table : NodeTable} {desk left : Desk} {own work : At} {made : ℕ} (done : At) → SetsOut table desk own work → Keeps (book_here work) (book_here done) → Brings (book_here own) (book_here done) made left →
    (refusal : Refusal) → Refuses (book_here done) refusal → Refuses (book_at table left) refusal
refusal_brought done out keeps b refusal refuses = ⊎_elim (λ none. inl none) (λ full. inr (full_brought done out keeps b refusal full)) refuses
