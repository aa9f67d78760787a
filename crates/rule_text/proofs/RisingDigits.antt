-- Digits once each, rising: which they are, that they stay so, and that they fit as before.
use Rattle.std.proofs.Common.{◌≡◌, ℕ, ◌+◌, ◌<◌, ◌≤◌, ◌==◌, ◌||◌, Bool, true, false, List, [], ◌∷◌, ◌++◌, filter, length, take, get_or, ◌-◌, refl, ap, sym, ◌∙◌, inl, inr, arith}
use Rattle.std.specs.List.{AllByRecursion}
use Rattle.std.proofs.lemmas.Bool.{eqb-true, or_cases}
use Rattle.std.proofs.lemmas.List.Elements.{recursion_from_All, All-weaker, filter_passes}
use Rattle.std.proofs.lemmas.List.Folds.{list_any-append}
use Rattle.rule_text.specs.CountRule.{Fit, counts, has, rising}
use Rattle.std.proofs.lemmas.List.{take_more, length-map, get_or-map, map-append}
use Rattle.rule_text.specs.RuleCut.{digit_values}
use Rattle.rule_text.specs.DigitMarks.{has-filter_counts}
use Rattle.rule_text.specs.Neighbourhood.{neighbour_count}
use Rattle.rule_text.specs.declared.neighbourhood.Neighbourhood.{Neighbourhood}
use Rattle.rule_text.specs.declared.neighbourhood.Neighbourhood.TheVariants.{Moore, VonNeumann, Hexagonal}

-- tests that agree on the counts keep the same counts
pub filter-counts : (p q : ℕ → Bool) → ((d : ℕ) → d < 9 → p d ≡ q d) → filter p counts ≡ filter q counts
unfolding counts
filter-counts p q same =
    rw (same 0 (omega arith), same 1 (omega arith), same 2 (omega arith), same 3 (omega arith), same 4 (omega arith), same 5 (omega arith), same 6 (omega arith), same 7 (omega arith), same 8 (omega arith)) refl

pub has-rising : (digits : List ℕ) (d : ℕ) → d < 9 → has (rising digits) d ≡ has digits d
unfolding rising
has-rising digits d small = has-filter_counts (has digits) d small

pub rising-rising : (digits : List ℕ) → rising (rising digits) ≡ rising digits
unfolding rising
rising-rising digits = filter-counts (has (rising digits)) (has digits) (has-rising digits)

or_last : (a b : Bool) → (a || b) ≡ (b || (a || false))
or_last true true = refl
or_last true false = refl
or_last false true = refl
or_last false false = refl

-- one more digit
pub rising-push : (digits : List ℕ) (d : ℕ) → rising (d ∷ rising digits) ≡ rising (digits ++ d ∷ [])
unfolding rising
rising-push digits d =
    filter-counts (has (d ∷ rising digits)) (has (digits ++ d ∷ []))
    (λ k small.
    ap (λ b. (d == k) || b) (has-rising digits k small)
    ∙ or_last (d == k) (has digits k)
    ∙ sym (list_any-append (λ digit. digit == k) digits (d ∷ [])))

has-le : (digits : List ℕ) (most d : ℕ) → AllByRecursion (λ digit. digit ≤ most) digits → has digits d ≡ true → d ≤ most
has-le [] most d fit is = absurd cc
has-le (x ∷ xs) most d fit is =
    elim (or_cases (x == d) (has xs d) is) [
      | inl here ↦ let same : x ≡ d = eqb-true x d here in let below : x ≤ most = fit.0 in omega arith
      | inr later ↦ has-le xs most d fit.1 later
    ]

pub Fit-rising : (neighbourhood : Neighbourhood) (digits : List ℕ) → Fit neighbourhood digits → Fit neighbourhood (rising digits)
unfolding rising
Fit-rising neighbourhood digits fit =
    All-weaker (λ d. has digits d ≡ true) (λ d. d ≤ neighbour_count neighbourhood)
    (λ d is. has-le digits (neighbour_count neighbourhood) d (recursion_from_All _ digits fit) is) (rising digits)
    (filter_passes (has digits) counts)

pub neighbour_count-le : (neighbourhood : Neighbourhood) → neighbour_count neighbourhood ≤ 8
neighbour_count-le Moore = omega arith
neighbour_count-le VonNeumann = omega arith
neighbour_count-le Hexagonal = omega arith

-- one more byte of a text of digits
pub digit_values-take_more : (text : List ℕ) (i : ℕ) → i < length text → digit_values (take (i + 1) text) ≡ digit_values (take i text) ++ (get_or text i 0 - 48) ∷ []
digit_values-take_more text i inside =
    ap digit_values (take_more text i 0 inside) ∙ map-append (λ byte. byte - 48) (take i text) (get_or text i 0 ∷ [])

-- a digit that does not fit
pub unfit_at : (neighbourhood : Neighbourhood) (text : List ℕ) (i : ℕ) → i < length text → neighbour_count neighbourhood < get_or text i 0 - 48 → Fit neighbourhood (digit_values text) → ⊥
unfit_at neighbourhood text i inside above fit =
    let here : get_or (digit_values text) i 0 ≤ neighbour_count neighbourhood = fit i 0 (rw (length-map text (λ byte. byte - 48)) inside) in
    let value : get_or (digit_values text) i 0 ≡ get_or text i 0 - 48 = get_or-map (λ byte. byte - 48) text i 0 0 inside in
    omega arith
