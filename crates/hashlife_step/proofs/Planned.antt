-- The powers of two that add up to a number, found one after the other.
use Rattle.std.proofs.Common.{◌≡◌, ◌≢◌, ◌^◌, ◌<◌, All, sum_by, ℕ, ◌+◌, ◌*◌, ◌/◌, ◌%◌, ◌≤◌, List, [], ◌∷◌, ◌++◌, length, sym, ◌∙◌, ap, arith}
use Rattle.std.specs.Int.{bit_at}
use Rattle.std.specs.Prelude.{bit_and}
use Rattle.std.specs.List.Sorted.{IsStrictlyIncreasing}
use Rattle.std.proofs.lemmas.List.{length_push, get_or_append_left, get_or_push}
use Rattle.std.proofs.lemmas.List.Elements.{All-push}
use Rattle.std.proofs.lemmas.List.Sums.{sum_by_push}
use Rattle.std.proofs.lemmas.Nat.{mod-pow-add}
use Rattle.std.proofs.lemmas.Nat.Bits.{bit_at-lt, shr_and_one}

-- these are the powers below 2^index that stand in the number
pub record IsPlanned (number index : ℕ) (exponents : List ℕ) : Type 0 where
  pub short : length exponents ≤ index
  pub rising : IsStrictlyIncreasing exponents
  pub below : All (λ exponent. exponent < index) exponents
  pub sum : sum_by (λ exponent. 2 ^ exponent) exponents ≡ number % 2 ^ index

-- one more digit
next_digit : (number index : ℕ) → number % 2 ^ (index + 1) ≡ bit_at number index * 2 ^ index + number % 2 ^ index
next_digit number index =
    let e : index + 1 ≡ 1 + index = omega arith in
    ap (λ n. number % 2 ^ n) e ∙ mod-pow-add number 1 index

no_digit : (b : ℕ) → b < 2 → b ≢ 1 → b ≡ 0
no_digit b low other = omega arith

rising_push : (xs : List ℕ) (y : ℕ) → IsStrictlyIncreasing xs → All (λ x. x < y) xs → IsStrictlyIncreasing (xs ++ y ∷ [])
rising_push xs y rising below k less =
    let longer = length_push xs y in
    let here = get_or_append_left xs (y ∷ []) 0 k in
    let next = get_or_append_left xs (y ∷ []) 0 (k + 1) in
    let last = get_or_push xs y 0 (k + 1) in
    let old = rising k in let low = below k 0 in
    grind arith

pub planned_more : (number index : ℕ) (exponents : List ℕ) → bit_and (number / 2 ^ index) 1 ≡ 1 → IsPlanned number index exponents → IsPlanned number (index + 1) (exponents ++ index ∷ [])
planned_more number index exponents one is = record {
  short = omega (arith, length_push exponents index, is.short);
  rising = rising_push exponents index is.rising is.below;
  below = All-push (λ exponent. exponent < index + 1) exponents index (λ k d less. let e = is.below k d less in omega arith) (omega arith);
  sum = let digit = sym (shr_and_one number index) ∙ one in
      let whole = next_digit number index ∙ ap (λ b. b * 2 ^ index + number % 2 ^ index) digit in
      let pushed = sum_by_push (λ exponent. 2 ^ exponent) exponents index in
      let so_far = is.sum in omega arith;
}

pub planned_same : (number index : ℕ) (exponents : List ℕ) → bit_and (number / 2 ^ index) 1 ≢ 1 → IsPlanned number index exponents → IsPlanned number (index + 1) exponents
planned_same number index exponents other is = record {
  short = let s = is.short in omega arith;
  rising = is.rising;
  below = λ k d less. let e = is.below k d less in omega arith;
  sum = let same = shr_and_one number index in let low = bit_at-lt number index in
      let digit : bit_at number index ≡ 0 = no_digit (bit_at number index) low (λ e. other (same ∙ e)) in
      let whole = next_digit number index ∙ ap (λ b. b * 2 ^ index + number % 2 ^ index) digit in
      let so_far = is.sum in omega arith;
}

-- each number of 64 bits is planned with 64 places
pub planned_all : (number : ℕ) (exponents : List ℕ) → number < 2 ^ 64 → IsPlanned number 64 exponents → sum_by (λ exponent. 2 ^ exponent) exponents ≡ number
planned_all number exponents low is = let whole = is.sum in omega arith
