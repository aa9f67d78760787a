-- What books know stays known, and how many expansions are counted.
use Rattle.std.proofs.Common.{Ok, Err, ◌≡◌, ◌≤◌, ℕ, zero, suc, ◌+◌, ◌*◌, ◌-◌, ◌^◌, List, length, min, refl, ap, ◌∙◌, subst, sym, inl, inr, ⊎_elim, All, arith}
use Rattle.std.proofs.lemmas.Bool.{false≢true}
use Rattle.std.specs.Prelude.{IfOk, IfErr}
use Rattle.std.specs.declared.result.Result.{Result}
use Rattle.plane.specs.declared.refusal.Refusal.{Refusal}
use Rattle.squares.specs.declared.sq.Sq.{Sq}
use Rattle.squares.specs.Book.{Book, IsBook, IsKnown, HasResult, Keeps, MayRefuse}
use Rattle.squares.proofs.Kept.{keeps_trans, known_kept}
use Rattle.squares.proofs.Results.{future_kept}
use Rattle.hashlife_step.specs.FoundFutures.{FindsFuture}
use Rattle.hashlife_step.specs.Tallies.{Tallies, counted}
use Rattle.node_table.specs.declared.at.At.{At}
use Rattle.node_table.specs.declared.desk.Desk.{Desk}
use Rattle.node_table.specs.declared.table.NodeTable.{NodeTable}
use Rattle.node_table.specs.Desks.{IsDeskOf, store_of, book_at, work_store}
use Rattle.node_table.specs.DesksAtWork.{book_here}
use Rattle.worker_split.specs.Jobs.{IsJob, HasFuture, Refuses, RefusesFull}
use Rattle.worker_split.specs.Work.{Works}
use Rattle.worker_split.proofs.Counting.{has, contains, fewer}

pub desk_book : (table : NodeTable) (desk : Desk) → IsDeskOf table desk → IsBook (book_at table desk)
desk_book table desk d = (desk.sound table.key d.same_key).book (store_of table)

pub here_book : (at : At) → IsBook (book_here at)
here_book at = (at.desk.sound at.table.now.key at.of_table.same_key).book (work_store at.expansions at.table.now)

pub more_results : (old new : Book) → IsBook old → Keeps old new → length old.results ≤ length new.results
more_results old new book keeps = fewer old.results new.results book.results_once (λ i sq e. has new.results sq (keeps.results sq (contains old.results sq i e)))

pub job_kept : (old new : Book) (sq : Sq) → Keeps old new → IsJob old sq → IsJob new sq
job_kept old new sq keeps job = record { known = known_kept keeps job.known; above = job.above }

pub jobs_kept : (old new : Book) (jobs : List Sq) → Keeps old new → All (IsJob old) jobs → All (IsJob new) jobs
jobs_kept old new jobs keeps all k d less = job_kept old new _ keeps (all k d less)

pub result_kept : (old new : Book) (sq : Sq) → Keeps old new → HasResult old sq → HasResult new sq
result_kept old new sq keeps h = ⊎_elim (λ e. inl e) (λ t. inr (keeps.results sq t)) h

pub has_future_kept : (old new : Book) (sq future : Sq) → Keeps old new → IsJob old sq → HasFuture old sq future → HasFuture new sq future
has_future_kept old new sq future keeps job h = record { is = future_kept old new sq future keeps job.known h.is; known = result_kept old new sq keeps h.known }

pub all_known_kept : (old new : Book) (level : ℕ) (squares : List Sq) → Keeps old new → All (IsKnown old level) squares → All (IsKnown new level) squares
all_known_kept old new level squares keeps all k d less = known_kept keeps (all k d less)

pub own_known : (book : Book) (level : ℕ) (sq : Sq) → IsKnown book level sq → IsKnown book sq.level sq
own_known book level sq h = record { known = h.known; at_level = refl; low = subst (λ l. 3 ≤ l) (sym h.at_level) h.low; high = subst (λ l. l ≤ 65) (sym h.at_level) h.high }

pub times_more : (u a b : ℕ) → a ≤ b → u * a ≤ u * b
times_more zero a b h = omega arith
times_more (suc u) a b h = let t = times_more u a b h in let e : suc u * a ≡ a + u * a = omega arith in let f : suc u * b ≡ b + u * b = omega arith in omega (arith, t, e, f, h)

split_times : (u v a : ℕ) → (u + v) * a ≡ u * a + v * a
split_times zero v a = omega arith
split_times (suc u) v a = let t = split_times u v a in let e : (suc u + v) * a ≡ a + (u + v) * a = omega arith in let f : suc u * a ≡ a + u * a = omega arith in omega (arith, t, e, f)

raised : (v w a b x y : ℕ) → v ≤ w → a ≤ b → y + v * a ≤ x + v * b → y + w * a ≤ x + w * b
raised v w a b x y le ab h =
    let u : ℕ = w - v in
    let e : w ≡ u + v = omega (arith, le) in
    let m = times_more u a b ab in
    let f : w * a ≡ u * a + v * a = ap (λ n. n * a) e ∙ split_times u v a in
    let g : w * b ≡ u * b + v * b = ap (λ n. n * b) e ∙ split_times u v b in
    omega (arith, m, f, g, h)

factor_times : (w a b : ℕ) → w * (a + b) ≡ w * a + w * b
factor_times zero a b = omega arith
factor_times (suc w) a b =
    let t = factor_times w a b in
    let e : suc w * (a + b) ≡ (a + b) + w * (a + b) = omega arith in
    let f : suc w * a ≡ a + w * a = omega arith in
    let g : suc w * b ≡ b + w * b = omega arith in
    omega (arith, t, e, f, g)

-- the old and the new together are all
pub times_whole : (w a b : ℕ) → a ≤ b → w * b ≡ w * (b - a) + w * a
times_whole w a b le =
    let e : b ≡ (b - a) + a = omega (arith, le) in
    ap (λ n. w * n) e ∙ factor_times w (b - a) a

-- nothing was counted
pub works_kept : {old new : Book} (times n : ℕ) → IsBook old → Keeps old new → Works times old new n n
works_kept {old} {new} times n book keeps =
    let more = times_more times (length old.results) (length new.results) (more_results old new book keeps) in
    record { keeps = keeps; rises = omega arith; count = omega (arith, more) }

pub works_more : {v w k n : ℕ} {old new : Book} → v ≤ w → IsBook old → Works v old new k n → Works w old new k n
works_more {v} {w} {k} {n} {old} {new} le book h =
    record { keeps = h.keeps; rises = h.rises; count = raised v w (length old.results) (length new.results) k n le (more_results old new book h.keeps) h.count }

pub works_then : {times k m n : ℕ} {a b c : Book} → Works times a b k m → Works times b c m n → Works times a c k n
works_then h i =
    let r = h.rises in
    let s = i.rises in
    let t = h.count in
    let u = i.count in
    record { keeps = keeps_trans h.keeps i.keeps; rises = omega (arith, r, s); count = omega (arith, t, u) }

-- then one desk went on alone
pub works_one : {times k m n : ℕ} {a b c : Book} → 1 ≤ times → IsBook b → Works times a b k m → Works 1 b c m n → Works times a c k n
works_one some book h i = works_then h (works_more some book i)

-- a worker that found nothing
pub works_idle : {joined before k : ℕ} {base own : Book} → IsBook base → Works joined base own before k → Works (joined + 1) base own before k
works_idle book h = works_more (omega arith) book h

-- a worker's desk is joined: all that it counted is of results that are new to the base
pub works_join : {joined before k m sum : ℕ} {base own theirs new : Book} → IsBook own → IsBook theirs → Works joined base own before k → Works 1 base theirs 0 m →
    Keeps own new → Keeps theirs new → sum ≡ min (k + m) (2 ^ 64 - 1) → Works (joined + 1) base new before sum
works_join {joined} {before} {k} {m} {sum} {base} {own} {theirs} {new} book other h i first second is =
    let rb = length base.results in
    let ro = length own.results in
    let rt = length theirs.results in
    let rn = length new.results in
    let a : ro ≤ rn = more_results own new book first in
    let b : rt ≤ rn = more_results theirs new other second in
    let t = times_more joined ro rn a in
    let hc = h.count in
    let ic = i.count in
    let e : (joined + 1) * rb ≡ joined * rb + 1 * rb = split_times joined 1 rb in
    let f : (joined + 1) * rn ≡ joined * rn + 1 * rn = split_times joined 1 rn in
    record { keeps = keeps_trans h.keeps first; rises = (let least = h.rises in omega (arith, least, is)); count = omega (arith, a, b, t, hc, ic, e, f, is) }

counted_most : (before more : ℕ) → counted before more ≤ before + more
counted_most before zero = omega arith
counted_most before (suc more) = let t = counted_most before more in omega (arith, t)

counted_least : (before more : ℕ) → min (2 ^ 64 - 1) before ≤ counted before more
counted_least before zero = omega arith
counted_least before (suc more) = let t = counted_least before more in omega (arith, t)

-- one desk counts each result that it made once
pub tallied : {old new : Book} {level before after : ℕ} → Keeps old new → Tallies old new level before after → Works 1 old new before after
tallied {old} {new} {level} {before} {after} keeps tallies =
    let most = counted_most before tallies.made in
    let least = counted_least before tallies.made in
    let count = tallies.accounts.count in
    let told = tallies.told in
    let adds = tallies.count in
    record { keeps = keeps; rises = omega (arith, least, adds); count = omega (arith, most, count, told, adds) }

pub found_future : {old new : Book} {sq : Sq} {before after : ℕ} (r : Result Sq Refusal) → FindsFuture old new sq before after r → IfOk r (HasFuture new sq)
found_future (Ok future) h = record { is = h.ok; known = h.kept }
found_future (Err refusal) h = tt

-- a desk at work takes no memory
pub refuses_full : {X : Type 0} (at : At) (r : Result X Refusal) → IfErr r (MayRefuse (book_here at)) → IfErr r (RefusesFull (book_here at))
refuses_full at (Ok x) h = tt
refuses_full at (Err refusal) h = ⊎_elim (λ none. absurd (false≢true none.1)) (λ full. full) h

-- a desk at work refuses what its book does
pub refuses : {X : Type 0} (book : Book) (r : Result X Refusal) → IfErr r (MayRefuse book) → IfErr r (Refuses book)
refuses book (Ok x) h = tt
refuses book (Err refusal) h = ⊎_elim (λ none. inl none.0) (λ full. inr full) h
