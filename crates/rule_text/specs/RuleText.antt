-- What a rule's text is: the digits of birth and of survival in one of five forms, and a letter for
-- the neighbourhood.
use Rattle.std.specs.Prelude.{◌≡◌, ℕ, ◌+◌, ◌<◌, ◌==◌, ◌||◌, ◌⊎◌, if◌then◌else◌, Bool, true, false, List, [], ◌∷◌, ◌++◌, map, All, IsTrue, codes, Result, Ok, Err}
use Rattle.std.specs.Char.{to_ascii_uppercase}
use Rattle.rule_text.specs.CountRule.{CountRule, Fit, has, rising}
use Rattle.rule_text.specs.declared.fault.RuleFault.{RuleFault}
use Rattle.rule_text.specs.declared.fault.RuleFault.TheVariants.{BadRule, BirthOnZero}
use Rattle.rule_text.specs.declared.neighbourhood.Neighbourhood.{Neighbourhood}
use Rattle.rule_text.specs.declared.neighbourhood.Neighbourhood.TheVariants.{Moore, VonNeumann, Hexagonal}

-- a space or a tab
abbrev pub is_blank : ℕ → Bool
is_blank byte = (byte == 32) || (byte == 9)

-- the text from its first byte on that is not a blank
unfoldable pub trimmed_start : List ℕ → List ℕ
trimmed_start [] = []
trimmed_start (first ∷ rest) = if is_blank first then trimmed_start rest else first ∷ rest

-- the text with its letters raised to capitals
abbrev pub capitals : List ℕ → List ℕ
capitals text = map to_ascii_uppercase text

-- the digits one after the other, as bytes
abbrev pub digit_text : List ℕ → List ℕ
digit_text digits = map (λ digit. digit + 48) digits

-- the forms in which the digits of birth and of survival are written
pub data Form : Type 0 where
  BirthSlashSurvival : Form
  SurvivalSlashBirth : Form
  BirthSurvival : Form
  SurvivalBirth : Form
  DigitsAlone : Form

-- the digits of birth and of survival in a form, in capitals; if there are only digits, they are
-- those of survival first
abbrev pub body : Form → List ℕ → List ℕ → List ℕ
body BirthSlashSurvival birth survival =
    codes "B" ++ digit_text birth ++ codes "/S" ++ digit_text survival
body SurvivalSlashBirth birth survival =
    codes "S" ++ digit_text survival ++ codes "/B" ++ digit_text birth
body BirthSurvival birth survival =
    codes "B" ++ digit_text birth ++ codes "S" ++ digit_text survival
body SurvivalBirth birth survival =
    codes "S" ++ digit_text survival ++ codes "B" ++ digit_text birth
body DigitsAlone birth survival = digit_text survival ++ codes "/" ++ digit_text birth

-- the letter that names a neighbourhood in a canonical text; the eight cells round a cell have none
abbrev pub suffix : Neighbourhood → List ℕ
suffix Moore = []
suffix VonNeumann = codes "V"
suffix Hexagonal = codes "H"

-- how a text may name a neighbourhood: as a canonical text does, or the eight cells by an M
abbrev pub Names : List ℕ → Neighbourhood → Type 0
Names letter Moore = (letter ≡ []) ⊎ (letter ≡ codes "M")
Names letter VonNeumann = letter ≡ codes "V"
Names letter Hexagonal = letter ≡ codes "H"

-- a neighbourhood, and the digits of birth and of survival in their order in the text
pub record Written : Type 0 where
  pub neighbourhood : Neighbourhood
  pub birth : List ℕ
  pub survival : List ℕ

-- the text is the digits in a form and a letter for the neighbourhood, letters in either case, with
-- blanks at the ends
pub record Spells (text : List ℕ) (written : Written) : Type 0 where
  pub before : List ℕ
  pub form : Form
  pub letter : List ℕ
  pub after : List ℕ
  pub spelled : capitals text
      ≡ before ++ body form written.birth written.survival ++ letter ++ after
  pub names : Names letter written.neighbourhood
  pub blank_before : All (λ byte. IsTrue (is_blank byte)) before
  pub blank_after : All (λ byte. IsTrue (is_blank byte)) after
  pub birth_digits : All (λ digit. digit < 10) written.birth
  pub survival_digits : All (λ digit. digit < 10) written.survival

-- no digit is above the number of neighbours
pub record Fits (written : Written) : Type 0 where
  pub birth : Fit written.neighbourhood written.birth
  pub survival : Fit written.neighbourhood written.survival

-- the rule that is written: its digits once each, rising
abbrev pub rule_of : Written → CountRule
rule_of written = record {
  neighbourhood = written.neighbourhood;
  birth = rising written.birth;
  survival = rising written.survival;
}

-- what it means to read a text so
abbrev pub Reads : List ℕ → Result CountRule RuleFault → Type 0
-- it spells digits that fit, without 0 in birth, and they are the rule's
Reads text (Ok rule) =
    (written : Written) × Spells text written × Fits written × (has written.birth 0 ≡ false)
    × (rule ≡ rule_of written)
-- it spells digits that fit, with 0 in birth
Reads text (Err BirthOnZero) =
    (written : Written) × Spells text written × Fits written × (has written.birth 0 ≡ true)
-- it spells no digits that fit
Reads text (Err BadRule) = (written : Written) → Spells text written → Fits written → ⊥

-- the text in which a rule is written: birth first, a slash, digits rising, and no letter for the
-- eight cells
abbrev pub canonical_text : CountRule → List ℕ
canonical_text rule = body BirthSlashSurvival rule.birth rule.survival ++ suffix rule.neighbourhood
