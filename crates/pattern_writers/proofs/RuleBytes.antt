-- The bytes of a rule's text.
use Rattle.std.proofs.Common.{ℕ, List, [], ◌∷◌, ◌++◌, codes, arith}
use Rattle.std.specs.List.{AllByRecursion}
use Rattle.rule_text.specs.CountRule.{CountRule}
use Rattle.rule_text.specs.RuleText.{canonical_text, digit_text, suffix}
use Rattle.rule_text.specs.declared.neighbourhood.Neighbourhood.{Neighbourhood}
use Rattle.rule_text.specs.declared.neighbourhood.Neighbourhood.TheVariants.{Moore, VonNeumann, Hexagonal}
use Rattle.plane.proofs.Elements.{AllByRecursion-append}
use Rattle.pattern_writers.proofs.TextLines.{IsMark}

digits_mark : (digits : List ℕ) → AllByRecursion IsMark (digit_text digits)
digits_mark [] = tt
digits_mark (digit ∷ digits) = (omega arith, digits_mark digits)

suffix_marks : (neighbourhood : Neighbourhood) → AllByRecursion IsMark (suffix neighbourhood)
suffix_marks Moore = tt
suffix_marks VonNeumann = (omega arith, tt)
suffix_marks Hexagonal = (omega arith, tt)

pub rule_marks : (rule : CountRule) → AllByRecursion IsMark (canonical_text rule)
rule_marks rule =
    AllByRecursion-append IsMark (codes "B" ++ digit_text rule.birth ++ codes "/S" ++ digit_text rule.survival) (suffix rule.neighbourhood)
    (AllByRecursion-append IsMark (codes "B" ++ digit_text rule.birth ++ codes "/S") (digit_text rule.survival)
    (AllByRecursion-append IsMark (codes "B" ++ digit_text rule.birth) (codes "/S") (AllByRecursion-append IsMark (codes "B") (digit_text rule.birth) (omega arith, tt) (digits_mark rule.birth)) (omega arith, (omega arith, tt))) (digits_mark rule.survival))
    (suffix_marks rule.neighbourhood)
