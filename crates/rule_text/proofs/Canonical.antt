-- A rule's canonical text is read back, and is no other rule's.
use Rattle.std.proofs.Common.{◌≡◌, ℕ, ◌+◌, ◌<◌, ◌≤◌, List, [], ◌∷◌, ◌++◌, codes, Ok, true, refl, ap, sym, ◌∙◌, inl, subst, append-nil, arith}
use Rattle.std.specs.Char.{to_ascii_uppercase}
use Rattle.std.specs.List.{All, AllByRecursion}
use Rattle.std.proofs.lemmas.Bool.Decides.{nat_tests}
use Rattle.std.proofs.lemmas.List.{map-append}
use Rattle.std.proofs.lemmas.List.Elements.{All-nil, All-weaker, recursion_from_All}
use Rattle.rule_text.specs.CountRule.{CountRule, Fit, IsRule, rising}
use Rattle.rule_text.specs.Neighbourhood.{neighbour_count}
use Rattle.rule_text.specs.RuleText.{Names, Reads, Spells, Written, canonical_text, capitals, digit_text, is_blank, rule_of, suffix}
use Rattle.rule_text.specs.RuleText.Form.{BirthSlashSurvival}
use Rattle.rule_text.specs.declared.neighbourhood.Neighbourhood.{Neighbourhood}
use Rattle.rule_text.specs.declared.neighbourhood.Neighbourhood.TheVariants.{Moore, VonNeumann, Hexagonal}
use Rattle.rule_text.proofs.Readings.{one_reading}
use Rattle.rule_text.proofs.RisingDigits.{neighbour_count-le}

-- digits and the letters of a canonical text are capitals
capital_digit : (digit : ℕ) → digit < 10 → to_ascii_uppercase (digit + 48) ≡ digit + 48
capital_digit digit small = grind (arith, nat_tests)

capitals-digits : (digits : List ℕ) → AllByRecursion (λ digit. digit < 10) digits → capitals (digit_text digits) ≡ digit_text digits
capitals-digits [] small = refl
capitals-digits (d ∷ ds) small =
    ap (λ x. x ∷ capitals (digit_text ds)) (capital_digit d small.0) ∙ ap (λ xs. (d + 48) ∷ xs) (capitals-digits ds small.1)

capitals-suffix : (neighbourhood : Neighbourhood) → capitals (suffix neighbourhood) ≡ suffix neighbourhood
capitals-suffix Moore = refl
capitals-suffix VonNeumann = refl
capitals-suffix Hexagonal = refl

capitals-append : (xs ys : List ℕ) → capitals xs ≡ xs → capitals ys ≡ ys → capitals (xs ++ ys) ≡ xs ++ ys
capitals-append xs ys same_xs same_ys = map-append to_ascii_uppercase xs ys ∙ ap (λ x. x ++ capitals ys) same_xs ∙ ap (λ y. xs ++ y) same_ys

small_digits : (neighbourhood : Neighbourhood) (digits : List ℕ) → Fit neighbourhood digits → All (λ digit. digit < 10) digits
small_digits neighbourhood digits fit =
    let most : neighbour_count neighbourhood ≤ 8 = neighbour_count-le neighbourhood in
    All-weaker (λ digit. digit ≤ neighbour_count neighbourhood) (λ digit. digit < 10) (λ digit fits. omega arith) digits fit

capitals-fit : (neighbourhood : Neighbourhood) (digits : List ℕ) → Fit neighbourhood digits → capitals (digit_text digits) ≡ digit_text digits
capitals-fit neighbourhood digits fit =
    capitals-digits digits (recursion_from_All (λ digit. digit < 10) digits (small_digits neighbourhood digits fit))

capitals-canonical_text : (rule : CountRule) → IsRule rule → capitals (canonical_text rule) ≡ canonical_text rule
capitals-canonical_text rule is =
    let b = digit_text rule.birth in
    let s = digit_text rule.survival in
    capitals-append (codes "B" ++ b ++ codes "/S" ++ s) (suffix rule.neighbourhood)
    (capitals-append (codes "B" ++ b ++ codes "/S") s
    (capitals-append (codes "B" ++ b) (codes "/S") (capitals-append (codes "B") b refl (capitals-fit rule.neighbourhood rule.birth is.birth_fits)) refl)
    (capitals-fit rule.neighbourhood rule.survival is.survival_fits))
    (capitals-suffix rule.neighbourhood)

names-suffix : (neighbourhood : Neighbourhood) → Names (suffix neighbourhood) neighbourhood
names-suffix Moore = inl refl
names-suffix VonNeumann = refl
names-suffix Hexagonal = refl

-- the digits of a rule, as they stand in its canonical text
abbrev written_as : CountRule → Written
written_as rule = record { neighbourhood = rule.neighbourhood; birth = rule.birth; survival = rule.survival }

spells-canonical_text : (rule : CountRule) → IsRule rule → Spells (canonical_text rule) (written_as rule)
spells-canonical_text rule is = record {
  before = [];
  form = BirthSlashSurvival;
  letter = suffix rule.neighbourhood;
  after = [];
  spelled = capitals-canonical_text rule is ∙ sym (append-nil (canonical_text rule));
  names = names-suffix rule.neighbourhood;
  blank_before = All-nil (λ byte. is_blank byte ≡ true);
  blank_after = All-nil (λ byte. is_blank byte ≡ true);
  birth_digits = small_digits rule.neighbourhood rule.birth is.birth_fits;
  survival_digits = small_digits rule.neighbourhood rule.survival is.survival_fits;
}

rule_of-written_as : (rule : CountRule) → IsRule rule → rule ≡ rule_of (written_as rule)
rule_of-written_as rule is =
    let n = rule.neighbourhood in
    ap (λ (birth : List ℕ). let r : CountRule = record { neighbourhood = n; birth = birth; survival = rule.survival } in r) is.birth_rises
    ∙ ap (λ (survival : List ℕ). let r : CountRule = record { neighbourhood = n; birth = rising rule.birth; survival = survival } in r) is.survival_rises

-- the canonical text of a rule is read back as that rule
pub reads-canonical_text : (rule : CountRule) → IsRule rule → Reads (canonical_text rule) (Ok rule)
reads-canonical_text rule is =
    (written_as rule, spells-canonical_text rule is, record { birth = is.birth_fits; survival = is.survival_fits }, is.no_birth_on_zero, rule_of-written_as rule is)

-- no two rules have one canonical text
pub one_rule : (a b : CountRule) → IsRule a → IsRule b → canonical_text a ≡ canonical_text b → a ≡ b
one_rule a b is_a is_b same =
    let read_b : Reads (canonical_text a) (Ok b) = subst (λ text. Reads text (Ok b)) (sym same) (reads-canonical_text b is_b) in
    let ok = one_reading (canonical_text a) (Ok a) (Ok b) (reads-canonical_text a is_a) read_b in
    cc
