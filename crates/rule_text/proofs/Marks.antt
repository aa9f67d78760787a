-- Marks for digits: what they say after a change, and how they follow from the digits.
use Rattle.std.proofs.Common.{◌≡◌, ℕ, ◌≤◌, ◌<◌, ◌==◌, ◌||◌, Bool, true, false, List, ◌∷◌, length, slice_index_or, slice_set, sym, ◌∙◌, ap, refl, arith, inl, inr, get_or-set_same, get_or-set_other}
use Rattle.std.proofs.lemmas.Bool.{eq-eqb, ne_eqb, cases_eq}
use Rattle.std.proofs.lemmas.List.Elements.{filter_agree}
use Rattle.rule_text.specs.CountRule.{counts, rising, digits_listed, listed_digits}
use Rattle.rule_text.specs.DigitMarks.{has-digits_listed, listed_again}

-- a mark after one more digit is marked
marked_too : (listed : List Bool) (digit k : ℕ) → digit < length listed → slice_index_or (slice_set listed digit true) k false ≡ ((digit == k) || slice_index_or listed k false)
marked_too listed digit k inside =
    elim (cases_eq digit k) [
      | inl same ↦ rw (← same, eq-eqb digit digit refl) (get_or-set_same listed digit true false inside)
      | inr other ↦ rw (ne_eqb digit k other) (get_or-set_other listed digit k true false (λ same. other (sym same)))
    ]

-- to mark a digit puts it into the set
pub digits_listed-set : (listed : List Bool) (digit : ℕ) → length listed ≡ 9 → digit ≤ 8 → digits_listed (slice_set listed digit true) ≡ rising (digit ∷ digits_listed listed)
unfolding digits_listed rising
digits_listed-set listed digit nine small =
    filter_agree _ _
    (λ k. marked_too listed digit k (omega arith) ∙ ap (λ b. (digit == k) || b) (sym (has-digits_listed listed k nine)))
    counts

-- the marks of the digits that are marked
pub listed_of_view : (listed : List Bool) (digits : List ℕ) → digits_listed listed ≡ digits → length listed ≡ 9 → listed_digits digits ≡ listed
listed_of_view listed digits view nine = rw (← view) (listed_again listed nine)
