-- Jobs cut into shares whose lengths differ by at most one.
use Rattle.std.proofs.Common.{◌≡◌, ℕ, zero, suc, ◌+◌, ◌-◌, ◌*◌, ◌/◌, ◌<◌, ◌≤◌, ⊎_elim, All, List, [], ◌∷◌, ◌++◌, length, sym, refl, ap, ◌∙◌, subst, arith}
use Rattle.std.specs.List.{concat}
use Rattle.std.proofs.lemmas.List.FromFn.{length-range_with_len}
use Rattle.std.proofs.lemmas.List.Folds.{concat-append}
use Rattle.std.proofs.lemmas.List.Elements.{All-append}
use Rattle.std.proofs.Math.Nat.{div-lt_iff_lt-mul, eq-or-lt_of_le, le-div_iff_mul-le, mul_comm}
use Rattle.job_queues.specs.Shares.{jobs_between}
use Rattle.job_queues.proofs.Ranges.{between_append}
use Rattle.worker_split.specs.Shares.{AreShares}

-- a length that is this one or one more
pub IsNear : ℕ → List ℕ → Type 0
IsNear least share = (least ≤ length share) × (length share ≤ least + 1)

-- the shares of the jobs before `low`, where so many shares of the others are still to be cut
pub record AreCut (least count rest low : ℕ) (shares : List (List ℕ)) : Type 0 where
  pub within : low ≤ count
  pub front : concat shares ≡ jobs_between 0 low
  pub lengths : All (IsNear least) shares
  pub enough : rest * least ≤ count - low
  pub few : count - low ≤ rest * suc least

-- a share of so many equal ones is near the least of all, and what is left is enough for the
-- others, and not too much
pub record Divides (least jobs rest share : ℕ) : Type 0 where
  pub long : least ≤ share
  pub short : share ≤ least + 1
  pub inside : share ≤ jobs
  pub enough : rest * least ≤ jobs - share
  pub few : jobs - share ≤ rest * suc least

divided_least : (least jobs rest share : ℕ) → share ≡ least → suc rest * least ≤ jobs → jobs < suc rest * suc least → Divides least jobs rest share
divided_least least jobs rest share is enough few =
    let e : suc rest * least ≡ least + rest * least = omega arith in
    let f : suc rest * suc least ≡ suc least + rest * suc least = omega arith in
    record { long = omega (arith, is); short = omega (arith, is); inside = omega (arith, is, enough, e); enough = omega (arith, is, enough, e); few = omega (arith, is, few, f) }

divided_more : (least jobs rest share : ℕ) → share ≡ suc least → suc rest * suc least ≤ jobs → jobs ≤ suc rest * suc least → Divides least jobs rest share
divided_more least jobs rest share is enough few =
    let f : suc rest * suc least ≡ suc least + rest * suc least = omega arith in
    let g : rest * suc least ≡ suc least * rest = mul_comm rest (suc least) in
    let h : suc least * rest ≡ rest + least * rest = omega arith in
    let i : least * rest ≡ rest * least = mul_comm least rest in
    record { long = omega (arith, is); short = omega (arith, is); inside = omega (arith, is, enough, f); enough = omega (arith, is, enough, f, g, h, i); few = omega (arith, is, few, f) }

divided : (least jobs rest : ℕ) → suc rest * least ≤ jobs → jobs ≤ suc rest * suc least → Divides least jobs rest (jobs / suc rest)
divided least jobs rest enough few =
    let swap : (n : ℕ) → n * suc rest ≡ suc rest * n = λ n. mul_comm n (suc rest) in
    let s = swap least in
    let t = swap (suc least) in
    let some : 0 < suc rest = omega arith in
    let long : least ≤ jobs / suc rest = (le-div_iff_mul-le {k = suc rest} {x = least} {y = jobs} some).1 (omega (arith, enough, s)) in
    let more : suc (suc least) * suc rest ≡ suc rest + suc least * suc rest = omega arith in
    let short : jobs / suc rest < suc (suc least) = (div-lt_iff_lt-mul {k = suc rest} {x = jobs} {y = suc (suc least)} some).1 (omega (arith, few, more, t)) in
    ⊎_elim
    (λ (same : least ≡ jobs / suc rest).
    let high : jobs < suc least * suc rest = (div-lt_iff_lt-mul {k = suc rest} {x = jobs} {y = suc least} some).0 (omega (arith, same)) in
    divided_least least jobs rest (jobs / suc rest) (sym same) enough (omega (arith, high, t)))
    (λ (more_than : least < jobs / suc rest).
    let low : suc least * suc rest ≤ jobs = (le-div_iff_mul-le {k = suc rest} {x = suc least} {y = jobs} some).0 (omega (arith, more_than)) in
    divided_more least jobs rest (jobs / suc rest) (omega (arith, short, more_than)) (omega (arith, low, t)) few)
    (eq-or-lt_of_le long)

-- before the first share
pub none_cut : (count workers rest : ℕ) → rest ≡ workers → 0 < workers → AreCut (count / workers) count rest 0 []
none_cut count workers rest same some =
    let least = count / workers in
    let s : workers * least ≡ least * workers = mul_comm workers least in
    let t : workers * suc least ≡ suc least * workers = mul_comm workers (suc least) in
    let long : least * workers ≤ count = (le-div_iff_mul-le {k = workers} {x = least} {y = count} some).0 (omega arith) in
    let short : count < suc least * workers = (div-lt_iff_lt-mul {k = workers} {x = count} {y = suc least} some).0 (omega arith) in
    subst (λ n. AreCut least count n 0 []) (sym same)
    (record { within = omega arith; front = refl; lengths = λ k d less. absurd (omega (arith, less)); enough = omega (arith, s, long); few = omega (arith, t, short) })

single : (P : List ℕ → Type 0) (x : List ℕ) → P x → All P (x ∷ [])
single P x h zero d l = h
single P x h (suc k) d l = absurd (omega (arith, l))

nothing_behind : (xs : List ℕ) → xs ++ [] ≡ xs
nothing_behind [] = refl
nothing_behind (x ∷ xs) = ap (λ l. x ∷ l) (nothing_behind xs)

-- one share more
cut_next : (least count rest low high : ℕ) (shares : List (List ℕ)) → AreCut least count (suc rest) low shares → high ≡ low + (count - low) / suc rest →
    AreCut least count rest high (shares ++ jobs_between low high ∷ [])
unfolding IsNear
cut_next least count rest low high shares cut is =
    let share = (count - low) / suc rest in
    let d = divided least (count - low) rest cut.enough cut.few in
    let within = cut.within in
    let inside = d.inside in
    let long : length (jobs_between low high) ≡ high - low = length-range_with_len low (high - low) in
    let n : high - low ≡ share = omega (arith, is) in
    let up : low ≤ high = omega (arith, is) in
    let front : concat (shares ++ jobs_between low high ∷ []) ≡ jobs_between 0 high =
    concat-append shares (jobs_between low high ∷ [])
    ∙ (ap (λ xs. concat shares ++ xs) (nothing_behind (jobs_between low high)) ∙ (ap (λ xs. xs ++ jobs_between low high) cut.front ∙ between_append 0 low high (omega arith) up))
    in
    record {
      within = omega (arith, is, within, inside);
      front = front;
      lengths = All-append (IsNear least) shares (jobs_between low high ∷ []) cut.lengths (single (IsNear least) (jobs_between low high) (let a = d.long in let b = d.short in (omega (arith, a, n, long), omega (arith, b, n, long))));
      enough = (let a = d.enough in omega (arith, a, is, within, inside));
      few = (let a = d.few in omega (arith, a, is, within, inside));
    }

pub next_cut : (least count left rest low high : ℕ) (shares more : List (List ℕ)) → left ≡ suc rest → AreCut least count left low shares → high ≡ low + (count - low) / left →
    more ≡ shares ++ jobs_between low high ∷ [] → AreCut least count rest high more
next_cut least count left rest low high shares more left_is cut is more_is =
    subst (AreCut least count rest high) (sym more_is)
    (cut_next least count rest low high shares (subst (λ n. AreCut least count n low shares) left_is cut) (is ∙ ap (λ n. low + (count - low) / n) left_is))

-- when no share is left to be cut
pub all_cut : (least count rest low : ℕ) (shares : List (List ℕ)) → rest ≡ 0 → AreCut least count rest low shares → AreShares count shares
unfolding IsNear
all_cut least count rest low shares none cut =
    let within = cut.within in
    let few : count - low ≤ 0 * suc least = subst (λ n. count - low ≤ n * suc least) none cut.few in
    let end : low ≡ count = omega (arith, within, few) in
    record {
      whole = cut.front ∙ ap (jobs_between 0) end;
      even = λ i d one j e two. (let a = (cut.lengths i d one).1 in let b = (cut.lengths j e two).0 in omega (arith, a, b));
    }
