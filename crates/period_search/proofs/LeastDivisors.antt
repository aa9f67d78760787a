-- The divisors of a number, sought from below and from above.
use Rattle.std.proofs.Common.{◌≡◌, ◌≢◌, ◌⊎◌, inl, inr, ℕ, suc, ◌+◌, ◌-◌, ◌*◌, ◌/◌, ◌%◌, ◌<◌, ◌≤◌, sym, ◌∙◌, ap, subst, arith, ⊎_elim, div-add-mod'}
use Rattle.std.proofs.Math.Nat.{div-eq_of_eq-mul_left, div-mul-le_self, le-div_iff_mul-le, le_of_mul-le-mul_right, mod-one, mul-le-mul_left, mul-le-mul_right, mul-mod_left, mul_comm, mul-suc, one-mul}
use Rattle.std.proofs.lemmas.Bool.{cases_lt}
use Rattle.period_search.specs.Divisors.{IsDivisor, IsLastUpTo, IsNextDivisor}

-- ---- remainders

pub divides : (whole n : ℕ) → whole % n ≡ 0 → IsDivisor whole n
divides whole n none = (whole / n, let parts = div-add-mod' whole n in omega (arith, none, parts))

pub no_rest : (whole n : ℕ) → IsDivisor whole n → whole % n ≡ 0
no_rest whole n (times, is) = ap (λ (m : ℕ). m % n) is ∙ mul-mod_left times n

-- ---- from above

-- no divisor lies between this number and the most
pub record IsLastBelow (whole most n : ℕ) : Type 0 where
  pub some : 1 ≤ n
  pub within : n ≤ most
  pub none : (m : ℕ) → n < m → m ≤ most → IsDivisor whole m → ⊥

pub first_bound : (whole most : ℕ) → 1 ≤ most → IsLastBelow whole most most
first_bound whole most some = record { some = some; within = omega arith; none = λ m more less _. absurd (omega arith) }

one_divides : (whole : ℕ) → whole % 1 ≡ 0
one_divides whole = mod-one whole

not_one : (whole n : ℕ) → whole % n ≢ 0 → n ≢ 1
not_one whole n rest is = rest (ap (λ (m : ℕ). whole % m) is ∙ one_divides whole)

pub one_less : (whole most n : ℕ) → IsLastBelow whole most n → whole % n ≢ 0 → IsLastBelow whole most (n - 1)
one_less whole most n last rest = record {
  some = let other = not_one whole n rest in let some = last.some in omega (arith, other, some);
  within = let within = last.within in omega (arith, within);
  none = λ m more less is.
      ⊎_elim (λ (same : m ≡ n). rest (no_rest whole n (subst (IsDivisor whole) same is))) (λ (above : n < m). last.none m above less is)
      (same_or_more n m last.some more);
} where
  same_or_more : (n m : ℕ) → 1 ≤ n → n - 1 < m → (m ≡ n) ⊎ (n < m)
  same_or_more n m some more = ⊎_elim (λ (h : n < m). inr h) (λ (h : m ≤ n). inl (omega (arith, h, some, more))) (cases_lt n m)

pub last_found : (whole most n : ℕ) → IsLastBelow whole most n → whole % n ≡ 0 → IsLastUpTo whole most n
last_found whole most n last none = record { divides = divides whole n none; some = last.some; within = last.within; greatest = last.none }

-- ---- from below

abbrev pub HasNoneBetween : ℕ → ℕ → ℕ → Type 0
HasNoneBetween whole tried n = (m : ℕ) → tried < m → m < n → IsDivisor whole m → ⊥

pub none_yet : (whole tried : ℕ) → HasNoneBetween whole tried (tried + 1)
none_yet whole tried m more less is = absurd (omega (arith, more, less))

pub none_more : (whole tried n : ℕ) → HasNoneBetween whole tried n → whole % n ≢ 0 → HasNoneBetween whole tried (n + 1)
none_more whole tried n none rest m more less is =
    ⊎_elim (λ (below : m < n). none m more below is) (λ (above : n ≤ m). rest (no_rest whole n (subst (IsDivisor whole) (omega (arith, above, less)) is))) (cases_lt m n)

pub found_below : (whole tried n : ℕ) → tried < n → HasNoneBetween whole tried n → whole % n ≡ 0 → IsNextDivisor whole tried n
found_below whole tried n behind none rest = record { divides = divides whole n rest; behind = behind; least = none }

pub the_whole : (whole tried : ℕ) → tried < whole → HasNoneBetween whole tried whole → IsNextDivisor whole tried whole
the_whole whole tried behind none = record { divides = (1, sym (one-mul whole)); behind = behind; least = none }

-- ---- both

-- a number times the divisor is at most the whole, so it is at most the quotient
within_quotient : (whole n k : ℕ) → 1 ≤ n → k * n ≤ whole → k ≤ whole / n
within_quotient whole n k some less = (le-div_iff_mul-le some).1 less

pub some_quotient : (whole n : ℕ) → 1 ≤ n → n < whole → 1 ≤ whole / n
some_quotient whole n some less = within_quotient whole n 1 some (omega (arith, one-mul n, less))

-- the quotient by the greatest divisor up to whole / n is the least one from n on
module _ (whole tried n last times : ℕ) (behind : tried < n) (some : 1 ≤ n) (more : 1 ≤ whole) (none : HasNoneBetween whole tried n) (is : IsLastUpTo whole (whole / n) last) (product : whole ≡ times * last) where
  reaches : n ≤ times
  reaches =
      let below : last * n ≤ whole / n * n = mul-le-mul_right n is.within in
      let all : whole / n * n ≤ whole = div-mul-le_self whole n in
      let turned : last * n ≡ n * last = mul_comm last n in
      le_of_mul-le-mul_right {m = n} {n = times} {k = last} (omega (arith, below, all, turned, product)) is.some

  -- what a smaller one goes with is a greater divisor
  greater : (m k : ℕ) → m < times → whole ≡ k * m → last < k
  greater m k less other =
      ⊎_elim (λ (h : last < k). h)
      (λ (h : k ≤ last).
      let first : k * m ≤ last * m = mul-le-mul_right m h in
      let second : last * suc m ≤ last * times = mul-le-mul_left last less in
      let third : last * suc m ≡ last * m + last = mul-suc last m in
      let turned : times * last ≡ last * times = mul_comm times last in
      let positive = is.some in
      absurd (omega (arith, first, second, third, turned, product, other, positive)))
      (cases_lt last k)

  smaller_none : (m : ℕ) → n ≤ m → m < times → IsDivisor whole m → ⊥
  smaller_none m from less (k, other) =
      let reached : k * n ≤ k * m = mul-le-mul_left k from in
      is.greatest k (greater m k less other) (within_quotient whole n k some (omega (arith, reached, other))) (m, other ∙ mul_comm k m)

  pub found_above : IsNextDivisor whole tried (whole / last)
  found_above = subst (IsNextDivisor whole tried) (sym (div-eq_of_eq-mul_left {n = last} {m = whole} {k = times} is.some product)) (record {
    divides = (last, product ∙ mul_comm times last);
    behind = let from = reaches in omega (arith, from, behind);
    least = λ m after less divisor. ⊎_elim (λ (h : m < n). none m after h divisor) (λ (h : n ≤ m). smaller_none m h less divisor) (cases_lt m n);
  })
