-- Different numbers below a bound are no more than it.
use Rattle.std.proofs.Common.{◌≡◌, ℕ, ◌<◌, ◌≤◌, true, eqb, List, [], ◌∷◌, length, sym, subst, ⊎_elim}
use Rattle.std.specs.List.{list_any, AllByRecursion, IsDistinct}
use Rattle.std.proofs.lemmas.Bool.{false≢true, eqb-true}
use Rattle.std.proofs.lemmas.Map.Steps.{length-le_from_distinct_below}
use Rattle.table_core.proofs.Booleans.{or_cases}

found : (xs : List ℕ) (bound q : ℕ) → AllByRecursion (λ x. x < bound) xs → list_any (eqb q) xs ≡ true → q < bound
found [] bound q low h = absurd (false≢true h)
found (x ∷ xs) bound q low h = ⊎_elim
    (λ e. subst (λ k. k < bound) (sym (eqb-true q x e)) low.0)
    (λ later. found xs bound q low.1 later)
    (or_cases (eqb q x) (list_any (eqb q) xs) h)

pub no_more_below : (xs : List ℕ) (bound : ℕ) → IsDistinct eqb xs → AllByRecursion (λ x. x < bound) xs → length xs ≤ bound
no_more_below xs bound apart low = length-le_from_distinct_below xs bound apart (λ q h. found xs bound q low h)
