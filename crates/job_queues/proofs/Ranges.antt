-- Jobs that come one after the other.
use Rattle.std.proofs.Common.{◌≡◌, ℕ, zero, suc, ◌+◌, ◌-◌, ◌<◌, ◌≤◌, All, ◌∷◌, [], ◌++◌, ap, sym, ◌∙◌, arith}
use Rattle.std.specs.List.{range_with_len}
use Rattle.std.proofs.lemmas.List.FromFn.{get_or-range_with_len, length-range_with_len}
use Rattle.job_queues.specs.Shares.{jobs_between}

pub range_append : (low m n : ℕ) → range_with_len low (m + n) ≡ range_with_len low m ++ range_with_len (low + m) n
range_append low zero n =
    let none : 0 + n ≡ n = omega arith in
    let e : low ≡ low + 0 = omega arith in
    ap (range_with_len low) none ∙ ap (λ i. range_with_len i n) e
range_append low (suc m) n =
    let one : suc m + n ≡ suc (m + n) = omega arith in
    let e : (low + 1) + m ≡ low + suc m = omega arith in
    ap (range_with_len low) one ∙ ap (λ xs. low ∷ xs) (range_append (low + 1) m n ∙ ap (λ i. range_with_len (low + 1) m ++ range_with_len i n) e)

-- the jobs up to one and those from there on
pub between_append : (low middle high : ℕ) → low ≤ middle → middle ≤ high → jobs_between low middle ++ jobs_between middle high ≡ jobs_between low high
between_append low middle high first second =
    let m : ℕ = middle - low in
    let n : ℕ = high - middle in
    let e : middle ≡ low + m = omega (arith, first) in
    let f : m + n ≡ high - low = omega (arith, first, second) in
    ap (λ i. range_with_len low m ++ range_with_len i n) e ∙ (sym (range_append low m n) ∙ ap (range_with_len low) f)

-- the job behind those that were pushed
pub one_more_job : (low job : ℕ) → low ≤ job → jobs_between low (job + 1) ≡ jobs_between low job ++ job ∷ []
one_more_job low job le =
    let n : ℕ = job - low in
    let long : (job + 1) - low ≡ n + 1 = omega (arith, le) in
    let last : low + n ≡ job = omega (arith, le) in
    ap (range_with_len low) long ∙ range_append low n 1 ∙ ap (λ i. range_with_len low n ++ i ∷ []) last

pub jobs_below : (low high count : ℕ) → high ≤ count → All (λ job. job < count) (jobs_between low high)
jobs_below low high count le k d less =
    let long = length-range_with_len low (high - low) in
    let within : k < high - low = omega (arith, less, long) in
    let is = get_or-range_with_len low (high - low) k d within in
    omega (arith, is, within, le)
