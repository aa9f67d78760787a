-- What a desk knows and counts that comes back from its work.
use Rattle.std.proofs.Common.{◌≡◌, [], ◌∷◌, ◌<◌, ◌≤◌, ℕ, ◌*◌, ◌-◌, ◌^◌, List, length, sym, ap, ◌∙◌, subst, arith, Ok, Err}
use Rattle.std.specs.Prelude.{IfErr, IsTrue}
use Rattle.std.specs.declared.result.Result.{Result}
use Rattle.std.specs.List.{AllZip}
use Rattle.plane.specs.Plane.{Plane}
use Rattle.plane.specs.declared.refusal.Refusal.{Refusal}
use Rattle.squares.specs.declared.sq.Sq.{Sq}
use Rattle.squares.specs.Book.{Book, Keeps}
use Rattle.squares.specs.Roots.{IsRootOf}
use Rattle.squares.proofs.Kept.{keeps_none}
use Rattle.node_table.specs.declared.desk.Desk.{Desk}
use Rattle.node_table.specs.declared.table.NodeTable.{NodeTable}
use Rattle.node_table.specs.Desks.{IsDeskOf, IsSameDesk, book_at, work_at, expansions_of}
use Rattle.node_table.specs.DesksAtWork.{KnowsAllOf}
use Rattle.node_table.specs.Refusals.{known_by}
use Rattle.node_table.proofs.AtWork.{IsBack, back_in_root, is_back, known_at_work}
use Rattle.table_core.proofs.Knowing.{grows_refl}
use Rattle.worker_split.specs.Jobs.{ComesBack, HasFuture, IsJob, RefusesFull}
use Rattle.worker_split.specs.Work.{Leaves, Works}
use Rattle.worker_split.proofs.Books.{desk_book, more_results, times_whole}

-- a desk of this table came back from its work, and then its number of expansions was changed
pub record IsLeft (table : NodeTable) (desk left : Desk) (book : Book) : Type 0 where
  pub back : Desk
  pub is : IsBack table desk back book
  pub same : IsSameDesk back left

pub is_left : {table : NodeTable} {desk left : Desk} {begun ended : Book} {made : ℕ} → begun ≡ work_at (expansions_of desk) table desk → Keeps begun ended → Leaves ended made left → IsLeft table desk left ended
is_left {table} {desk} {left} {begun} {ended} begins keeps l = record { back = l.back; is = is_back table desk l.back begun ended begins keeps l.returns; same = l.same }

-- what was counted at work was added to the number of the desk that came back
pub comes_back : (table : NodeTable) (times made : ℕ) (desk left : Desk) (begun ended : Book) → IsDeskOf table desk → expansions_of desk < 2 ^ 64 → begun ≡ work_at (expansions_of desk) table desk →
    Works times begun ended 0 made → Leaves ended made left → KnowsAllOf desk left → ComesBack table times desk left
comes_back table times made desk left begun ended d fits begins works l grows =
    let is = is_back table desk l.back begun ended begins works.keeps l.returns in
    let keeps = subst (Keeps (book_at table desk)) (sym (l.same.same_book table)) is.keeps in
    let a = length (book_at table desk).results in
    let b = length (book_at table left).results in
    let more : a ≤ b = more_results (book_at table desk) (book_at table left) (desk_book table desk d) keeps in
    let first : times * length begun.results ≡ times * a = ap (λ (book : Book). times * length book.results) begins in
    let last : times * length ended.results ≡ times * b = ap (λ xs. times * length xs) is.results ∙ sym (ap (λ (book : Book). times * length book.results) (l.same.same_book table)) in
    let count = works.count in
    let whole = times_whole times a b more in
    let most : made ≤ times * (b - a) = omega (arith, count, first, last, whole) in
    let was = is.expansions in
    let sum = l.expansions in
    record {
      of_table = l.same.same_table table is.of_table;
      keeps = keeps;
      grows = grows;
      rises = omega (arith, was, sum, fits);
      expansions = omega (arith, was, sum, most);
    }

pub stays_back : (table : NodeTable) (times : ℕ) (desk : Desk) → IsDeskOf table desk → ComesBack table times desk desk
stays_back table times desk d = record { of_table = d; keeps = keeps_none (book_at table desk); grows = grows_refl (known_by desk); rises = omega arith; expansions = omega arith }

pub job_at_work : (table : NodeTable) (desk : Desk) (begun : Book) (sq : Sq) → begun ≡ work_at (expansions_of desk) table desk → IsJob (book_at table desk) sq → IsJob begun sq
job_at_work table desk begun sq begins job = record { known = known_at_work table desk begun sq.level sq begins job.known; above = job.above }

pub future_left : {table : NodeTable} {desk left : Desk} {book : Book} → IsLeft table desk left book → (sq future : Sq) → HasFuture book sq future → HasFuture (book_at table left) sq future
future_left {table} l sq future h =
    subst (λ b. HasFuture b sq future) (sym (l.same.same_book table)) (record { is = l.is.future sq future h.is; known = l.is.has_result sq h.known })

pub futures_left : {table : NodeTable} {desk left : Desk} {book : Book} → IsLeft table desk left book → (jobs futures : List Sq) → AllZip (HasFuture book) jobs futures → AllZip (HasFuture (book_at table left)) jobs futures
futures_left l [] [] h = h
futures_left l [] (y ∷ ys) h = h
futures_left l (x ∷ xs) [] h = h
futures_left l (x ∷ xs) (y ∷ ys) h = (future_left l x y h.0, futures_left l xs ys h.1)

pub full_left : {table : NodeTable} {desk left : Desk} {book : Book} → IsLeft table desk left book → (refusal : Refusal) → RefusesFull book refusal → RefusesFull (book_at table left) refusal
full_left {table} l refusal h = (h.0, subst (λ (b : Book). IsTrue b.is_full) (sym (l.same.same_book table)) (l.is.full h.1))

pub root_left : {table : NodeTable} {desk left : Desk} {book : Book} → IsLeft table desk left book → (plane : Plane) (sq : Sq) → IsRootOf book plane sq → IsRootOf (book_at table left) plane sq
root_left {table} l plane sq is_root =
    subst (λ b. IsRootOf b plane sq) (sym (l.same.same_book table)) (record { known = l.is.known sq.level sq is_root.known; smallest = is_root.smallest; cells = back_in_root plane sq l.is is_root.known is_root.cells })

pub on_err : {X E : Type 0} (r : Result X E) (P Q : E → Type 0) → ((e : E) → P e → Q e) → IfErr r P → IfErr r Q
on_err (Ok x) P Q f h = tt
on_err (Err e) P Q f h = f e h
