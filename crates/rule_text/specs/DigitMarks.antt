-- A list of marks and the digits that it marks give each other back.
use Rattle.std.specs.Prelude.{◌≡◌, ℕ, ◌<◌, ◌==◌, ◌&&◌, Bool, true, false, List, length, filter, slice_index_or, refl}
use Rattle.std.proofs.Common.{sym, ◌∙◌, ap, arith, inl, inr}
use Rattle.std.proofs.lemmas.Bool.{agree_below_at, eqb-true, cases_lt}
use Rattle.std.proofs.lemmas.List.{get_or_past}
use Rattle.std.proofs.lemmas.List.FromFn.{fill_by_all}
use Rattle.std.proofs.lemmas.Map.Views.{any-filter_same}
use Rattle.rule_text.specs.CountRule.{counts, has, digits_listed, listed_digits}

and-true : (b : Bool) → (b && true) ≡ b
and-true true = refl
and-true false = refl

-- what a filter keeps passes, and was there
pub has-filter : (p : ℕ → Bool) (digits : List ℕ) (d : ℕ) →
    has (filter p digits) d ≡ (p d && has digits d)
has-filter p digits d =
    any-filter_same (λ digit. digit == d) p (p d)
    (λ digit same. ap p (eqb-true digit d same)) digits

-- each number up to 8 is a count
pub has-counts : (d : ℕ) → d < 9 → has counts d ≡ true
unfolding counts
has-counts d small = agree_below_at (has counts) (λ _. true) 9 d refl small

pub has-filter_counts : (p : ℕ → Bool) (d : ℕ) → d < 9 → has (filter p counts) d ≡ p d
has-filter_counts p d small = has-filter p counts d ∙ ap (λ b. p d && b) (has-counts d small) ∙ and-true (p d)

-- a number is among the digits exactly if it is marked
pub has-digits_listed : (listed : List Bool) (d : ℕ) → length listed ≡ 9 →
    has (digits_listed listed) d ≡ slice_index_or listed d false
unfolding digits_listed
has-digits_listed listed d nine =
    elim (cases_lt d 9) [
      | inl small ↦ has-filter_counts (λ digit. slice_index_or listed digit false) d small
      | inr large ↦
          has-filter (λ digit. slice_index_or listed digit false) counts d
          ∙ ap (λ b. b && has counts d) (get_or_past listed d false (omega arith))
          ∙ sym (get_or_past listed d false (omega arith))
    ]

pub listed_again : (listed : List Bool) → length listed ≡ 9 →
    listed_digits (digits_listed listed) ≡ listed
unfolding counts listed_digits
listed_again listed nine =
    sym
    (fill_by_all (has (digits_listed listed)) listed 9 false nine
    (λ k _. sym (has-digits_listed listed k nine)))
