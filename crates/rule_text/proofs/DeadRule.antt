-- The rule by which no cell lives.
use Rattle.std.proofs.Common.{◌≡◌, ℕ, List, [], refl, sym, subst, arith}
use Rattle.rule_text.specs.CountRule.{IsRule, counts, dead, rising}
use Rattle.rule_text.specs.declared.neighbourhood.Neighbourhood.TheVariants.{Moore}

dead_is_rule : IsRule dead
unfolding rising counts
dead_is_rule = record { birth_fits = λ k d less. absurd (omega arith); survival_fits = λ k d less. absurd (omega arith); birth_rises = refl; survival_rises = refl; no_birth_on_zero = refl }

-- without digits of birth and of survival it is a rule
pub no_digits : (birth survival : List ℕ) → birth ≡ [] → survival ≡ [] → IsRule (record { neighbourhood = Moore; birth = birth; survival = survival })
no_digits birth survival none_born none_survives =
    subst (λ (b : List ℕ). IsRule (record { neighbourhood = Moore; birth = b; survival = survival })) (sym none_born)
    (subst (λ (s : List ℕ). IsRule (record { neighbourhood = Moore; birth = []; survival = s })) (sym none_survives) dead_is_rule)
