-- How a text is read, by the parts that are found in it, and that it is read in one way only.
use Rattle.std.proofs.Common.{◌≡◌, ℕ, true, false, List, Some, None, Result, Ok, Err, refl, ap, sym, ◌∙◌, subst, arith}
use Rattle.rule_text.specs.CountRule.{CountRule, IsRule, has, rising}
use Rattle.rule_text.specs.RuleText.{Fits, Reads, Spells, Written, capitals, rule_of}
use Rattle.rule_text.specs.RuleCut.{parts_of}
use Rattle.rule_text.specs.declared.fault.RuleFault.{RuleFault}
use Rattle.rule_text.specs.declared.fault.RuleFault.TheVariants.{BadRule, BirthOnZero}
use Rattle.rule_text.proofs.Found.{parts_of-found}
use Rattle.rule_text.proofs.RisingDigits.{Fit-rising, has-rising, rising-rising}
use Rattle.rule_text.proofs.Spelled.{parts_of-spelled}

-- a text spells one thing at most
pub one_spelling : (text : List ℕ) (a b : Written) → Spells text a → Spells text b → a ≡ b
one_spelling text a b is_a is_b =
    let at_a = parts_of-spelled text a is_a in
    let at_b = parts_of-spelled text b is_b in
    cc

-- nothing is found
pub reads-no_parts : (text : List ℕ) → parts_of (capitals text) ≡ None → Reads text (Err BadRule)
reads-no_parts text none = λ written spells fits. let found = parts_of-spelled text written spells in cc

-- what is found does not fit
pub reads-unfit : (text : List ℕ) (found : Written) → parts_of (capitals text) ≡ Some found → (Fits found → ⊥) → Reads text (Err BadRule)
reads-unfit text found is unfit = λ written spells fits.
    unfit (subst Fits (one_spelling text written found spells (parts_of-found text found is)) fits)

-- what is found fits, with 0 in birth
pub reads-birth_on_zero : (text : List ℕ) (found : Written) (birth : List ℕ) → parts_of (capitals text) ≡ Some found → Fits found → birth ≡ rising found.birth → has birth 0 ≡ true → Reads text (Err BirthOnZero)
reads-birth_on_zero text found birth is fits rises zero_in =
    (found, parts_of-found text found is, fits, sym (has-rising found.birth 0 (omega arith)) ∙ ap (λ digits. has digits 0) (sym rises) ∙ zero_in)

-- what is found fits, without 0 in birth: a rule
module _ (found : Written) (birth survival : List ℕ) (fits : Fits found) (birth_rises : birth ≡ rising found.birth) (survival_rises : survival ≡ rising found.survival) (zero_out : has birth 0 ≡ false) where
  pub reads-rule : (text : List ℕ) → parts_of (capitals text) ≡ Some found → Reads text (Ok (record { neighbourhood = found.neighbourhood; birth = birth; survival = survival }))
  reads-rule text is =
      (found, parts_of-found text found is, fits, sym (has-rising found.birth 0 (omega arith)) ∙ ap (λ digits. has digits 0) (sym birth_rises) ∙ zero_out, rw (birth_rises, survival_rises) refl)

  pub IsRule-found : IsRule (record { neighbourhood = found.neighbourhood; birth = birth; survival = survival })
  IsRule-found = record {
    birth_fits = rw birth_rises (Fit-rising found.neighbourhood found.birth fits.birth);
    survival_fits = rw survival_rises (Fit-rising found.neighbourhood found.survival fits.survival);
    birth_rises = birth_rises ∙ sym (rising-rising found.birth) ∙ ap rising (sym birth_rises);
    survival_rises = survival_rises ∙ sym (rising-rising found.survival) ∙ ap rising (sym survival_rises);
    no_birth_on_zero = zero_out;
  }

-- a text is read in one way only
pub one_reading : (text : List ℕ) (a b : Result CountRule RuleFault) → Reads text a → Reads text b → a ≡ b
one_reading text (Ok r) (Ok s) x y = ap Ok (x.4 ∙ ap rule_of (one_spelling text x.0 y.0 x.1 y.1) ∙ sym y.4)
one_reading text (Ok r) (Err BirthOnZero) x y = let same = one_spelling text x.0 y.0 x.1 y.1 in let zero_out : has x.0.birth 0 ≡ false = x.3 in let zero_in : has y.0.birth 0 ≡ true = y.3 in absurd (let k = rw same at zero_out in cc)
one_reading text (Ok r) (Err BadRule) x y = absurd (y x.0 x.1 x.2)
one_reading text (Err BirthOnZero) (Ok s) x y = let same = one_spelling text x.0 y.0 x.1 y.1 in let zero_in : has x.0.birth 0 ≡ true = x.3 in let zero_out : has y.0.birth 0 ≡ false = y.3 in absurd (let k = rw same at zero_in in cc)
one_reading text (Err BirthOnZero) (Err BirthOnZero) x y = refl
one_reading text (Err BirthOnZero) (Err BadRule) x y = absurd (y x.0 x.1 x.2)
one_reading text (Err BadRule) (Ok s) x y = absurd (x y.0 y.1 y.2)
one_reading text (Err BadRule) (Err BirthOnZero) x y = absurd (x y.0 y.1 y.2)
one_reading text (Err BadRule) (Err BadRule) x y = refl
