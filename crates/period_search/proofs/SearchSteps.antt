-- What a search for periods has found out when it tries the next number of generations.
use Rattle.std.proofs.Common.{◌≡◌, inl, inr, ℕ, zero, suc, ◌+◌, ◌-◌, ◌*◌, ◌/◌, ◌%◌, ◌<◌, ◌≤◌, ℤ, pos, ◌-ℤ◌, ◌*ℤ◌, ⊎_elim, sym, ◌∙◌, ap, subst, true, arith, eq-zero-or-pos, div-add-mod', one-mul}
use Rattle.std.proofs.lemmas.Bool.{cases_lt}
use Rattle.std.proofs.lemmas.Nat.{mod_below}
use Rattle.std.proofs.Math.Nat.{mul_assoc, suc-mul, zero-mul}
use Rattle.rule_text.specs.CountRule.{CountRule}
use Rattle.plane.specs.Laws.{moved}
use Rattle.plane.specs.Plane.{Plane}
use Rattle.plane.specs.Square.{IsSame, empty}
use Rattle.plane.specs.declared.refusal.Refusal.{Refusal}
use Rattle.plane.specs.declared.refusal.Refusal.TheVariants.{NoMemory}
use Rattle.plane.proofs.Same.{same_sym, same_trans}
use Rattle.engine.specs.Sessions.{IsLaterSession, IsNotAdvanced, IsSameSession, cells_of, is_open}
use Rattle.engine.specs.declared.session.Session.{Session}
use Rattle.engine.proofs.Sessions.{later_on, later_same, none_later}
use Rattle.periods.specs.Periods.{HasPeriod, IsLeastPeriod, IsPeriod}
use Rattle.periods.proofs.Moves.{moved_same}
use Rattle.periods.proofs.Returns.{Returns, returns_rest, returns_times}
use Rattle.period_search.specs.Candidates.{AreSome, IsCandidate, IsNext, IsNoneBehind, last_of}
use Rattle.period_search.specs.Searches.{IsLeastAmong, IsNoPeriod, NoneIsPeriod, StopsOnTheWay}
use Rattle.period_search.specs.declared.candidates.Candidates.{Candidates}
use Rattle.period_search.specs.declared.candidates.Candidates.TheVariants.{UpTo, DivisorsOf}
use Rattle.period_search.specs.declared.period.Period.{Period}

-- ---- the least period

-- what divides a number that is tried is one, too
divisor_tried : (candidates : Candidates) (n k times : ℕ) → IsCandidate candidates n → 1 ≤ k → k < n → n ≡ times * k → IsCandidate candidates k
divisor_tried (UpTo most) n k times one some less is = (some, let within = one.1 in omega (arith, within, less))
divisor_tried (DivisorsOf whole) n k times (others, product) some less is = (others * times, product ∙ ap (λ (m : ℕ). others * m) is ∙ sym (mul_assoc others times k))

-- the rest of a period after some of a smaller one is a period
rest_period : (rule : CountRule) (plane : Plane) (n k times rest : ℕ) (a b c d : ℤ) → n ≡ times * k + rest → 0 < rest → IsPeriod rule plane k a b → IsPeriod rule plane n c d → HasPeriod rule plane rest
rest_period rule plane n k times rest a b c d is some one whole = (
  c -ℤ pos times *ℤ a,
  d -ℤ pos times *ℤ b,
  record {
    some = some;
    same = returns_rest rule plane (times * k) rest (pos times *ℤ a) (pos times *ℤ b) c d (returns_times rule plane k times a b one.same) (subst (λ (m : ℕ). Returns rule plane m c d) is whole.same);
  },
)

-- no smaller number is a period where no smaller number that divides it is
module _ (rule : CountRule) (plane : Plane) (n : ℕ) (right down : ℤ) (period : IsPeriod rule plane n right down) (none : (k times : ℕ) → 1 ≤ k → k < n → n ≡ times * k → HasPeriod rule plane k → ⊥) where
  none_under : (bound k : ℕ) → k < bound → k < n → HasPeriod rule plane k → ⊥
  none_under zero k under less has = absurd (omega (arith, under))
  none_under (suc bound) k under less has =
      let whole : n / k * k + n % k ≡ n = div-add-mod' n k in
      let small : n % k < k = mod_below n k has.2.some in
      ⊎_elim
      (λ (exact : n % k ≡ 0). none k (n / k) has.2.some less (omega (arith, exact, whole)) has)
      (λ (more : 0 < n % k). none_under bound (n % k) (omega (arith, small, under)) (omega (arith, small, less)) (rest_period rule plane n k (n / k) (n % k) has.0 has.1 right down (sym whole) more has.2 period))
      (eq-zero-or-pos (n % k))

  pub is_least : IsLeastPeriod rule plane n right down
  is_least = record {
    period = period;
    least = λ fewer has. ⊎_elim (λ (less : fewer < n). absurd (none_under (suc fewer) fewer (omega arith) less has)) (λ (more : n ≤ fewer). more) (cases_lt fewer n);
  }

-- ---- what was tried

-- the session came so far, and no number that was tried is a period
pub record HasTried (candidates : Candidates) (start session : Session) (tried : ℕ) : Type 0 where
  pub later : IsLaterSession start tried session
  pub within : tried ≤ last_of candidates
  pub none : NoneIsPeriod start.rule (cells_of start) candidates tried

none_at_0 : (n : ℕ) → n ≤ 0 → 1 ≤ n → ⊥
none_at_0 n most some = omega (arith, most, some)

pub nothing_tried : (candidates : Candidates) (start session : Session) → IsSameSession start session → HasTried candidates start session 0
nothing_tried candidates start session same = record { later = none_later same; within = omega arith; none = λ n most _ has. none_at_0 n most has.2.some }

pub none_left : (candidates : Candidates) (start session : Session) (tried : ℕ) → HasTried candidates start session tried → IsNoneBehind candidates tried →
    (n : ℕ) → IsCandidate candidates n → IsNoPeriod start.rule (cells_of start) n
none_left candidates start session tried has none n one period =
    ⊎_elim (λ (behind : tried < n). none n behind one) (λ (before : n ≤ tried). has.none n before one period) (cases_lt tried n)

-- a candidate is at most the last one, which is one unless it is 0
pub within_last : (candidates : Candidates) (n : ℕ) → AreSome candidates → IsCandidate candidates n → n ≤ last_of candidates
within_last (UpTo most) n some one = one.1
within_last (DivisorsOf whole) n some (zero, product) = let none : zero * n ≡ 0 = zero-mul n in absurd (omega (arith, none, product, some))
within_last (DivisorsOf whole) n some (suc times, product) = let more : suc times * n ≡ times * n + n = suc-mul times n in omega (arith, product, more)

last_one : (candidates : Candidates) (n : ℕ) → n < last_of candidates → IsCandidate candidates (last_of candidates)
last_one (UpTo most) n less = (omega (arith, less), omega arith)
last_one (DivisorsOf whole) n less = (1, sym (one-mul whole))

-- where no candidate is left, the session came to the last one
pub came_to_last : (candidates : Candidates) (start session : Session) (tried : ℕ) → HasTried candidates start session tried → IsNoneBehind candidates tried → IsLaterSession start (last_of candidates) session
came_to_last candidates start session tried has none =
    ⊎_elim (λ (less : tried < last_of candidates). absurd (none (last_of candidates) less (last_one candidates tried less)))
    (λ (more : last_of candidates ≤ tried). let within = has.within in subst (λ (n : ℕ). IsLaterSession start n session) (omega (arith, more, within)) has.later)
    (cases_lt tried (last_of candidates))

-- memory ran out at a generation that it came to
pub out_of_memory : (candidates : Candidates) (start here session : Session) (done : ℕ) (refusal : Refusal) → refusal ≡ NoMemory → is_open start ≡ true → done ≤ last_of candidates → IsLaterSession start done here → IsSameSession here session →
    StopsOnTheWay candidates start session refusal
out_of_memory candidates start here session done refusal memory opened within later same = inr (opened, inl (memory, (done, within, later_same {first = start} {second = here} {third = session} done later same)))

pub not_advanced : (candidates : Candidates) (start here new : Session) (tried next : ℕ) (refusal : Refusal) → is_open start ≡ true → HasTried candidates start here tried → IsNext candidates tried next →
    IsNotAdvanced here (next - tried) new refusal → StopsOnTheWay candidates start new refusal
not_advanced candidates start here new tried next refusal opened has is_next refused =
    inr (opened, inr (record { here = here; done = tried; next = next; later = has.later; none = has.none; is_next = is_next; refused = refused }))

-- the session went on to the next number and was compared there
module _ (candidates : Candidates) (start here there session : Session) (first : Plane) (tried number : ℕ) (same : IsSame first (cells_of start)) (has : HasTried candidates start here tried) (is_next : IsNext candidates tried number) (on : IsLaterSession here (number - tried) there) (compared : IsSameSession there session) where
  pub came : IsLaterSession start number there
  came = let behind = is_next.behind in subst (λ (n : ℕ). IsLaterSession start n there) (omega (arith, behind)) (later_on {first = start} {second = here} {third = there} tried (number - tried) has.later on)

  pub came_on : IsLaterSession start number session
  came_on = later_same {first = start} {second = there} {third = session} number came compared

  none_before : (k : ℕ) → k < number → IsCandidate candidates k → HasPeriod start.rule (cells_of start) k → ⊥
  none_before k less one period = ⊎_elim (λ (behind : tried < k). is_next.least k behind less one) (λ (before : k ≤ tried). has.none k before one period) (cases_lt tried k)

  found_least : (right down : ℤ) → IsSame (cells_of there) (moved right down first) → IsLeastPeriod start.rule (cells_of start) number right down
  found_least right down is =
      let behind = is_next.behind in
      is_least start.rule (cells_of start) number right down (record {
        some = omega (arith, behind);
        same = same_trans (same_sym came.cells) (same_trans is (moved_same right down first (cells_of start) same));
      }) (λ k times some less product. none_before k less (divisor_tried candidates number k times is_next.one some less product))

  -- what is answered where the session's cells are the first ones, moved
  pub answered : (right down : ℤ) (period : Period) → period.generations ≡ number → period.right ≡ right → period.down ≡ down → IsSame (cells_of there) (moved right down first) →
      (IsSame first empty → (right ≡ pos 0) × (down ≡ pos 0)) → IsLeastAmong start.rule (cells_of start) candidates period
  answered right down period generations across below is still = record {
    least = subst (λ (d : ℤ). IsLeastPeriod start.rule (cells_of start) period.generations period.right d) (sym below)
        (subst (λ (r : ℤ). IsLeastPeriod start.rule (cells_of start) period.generations r down) (sym across)
        (subst (λ (n : ℕ). IsLeastPeriod start.rule (cells_of start) n right down) (sym generations) (found_least right down is)));
    among = subst (IsCandidate candidates) (sym generations) is_next.one;
    still = λ none. let zero = still (same_trans same none) in (across ∙ zero.0, below ∙ zero.1);
  }

  pub tried_too : AreSome candidates → ((right down : ℤ) → IsSame (cells_of there) (moved right down first) → ⊥) → HasTried candidates start session number
  tried_too some unlike = record {
    later = came_on;
    within = within_last candidates number some is_next.one;
    none = λ n most one period. ⊎_elim (λ (less : n < number). none_before n less one period)
        (λ (more : number ≤ n). no_period (subst (HasPeriod start.rule (cells_of start)) (omega (arith, most, more)) period)) (cases_lt n number);
  } where
    no_period : HasPeriod start.rule (cells_of start) number → ⊥
    no_period (right, down, is) = unlike right down (same_trans came.cells (same_trans is.same (moved_same right down (cells_of start) first (same_sym same))))
