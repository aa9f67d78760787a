-- What raising letters to capitals leaves as it is.
use Rattle.std.proofs.Common.{◌≡◌, ℕ, Bool, true, false, cond, inl, inr, List, [], ◌∷◌, drop, refl, ap, sym, ◌∙◌, arith}
use Rattle.std.specs.Char.{is_ascii_digit, to_ascii_uppercase}
use Rattle.std.specs.List.{prefix_len, take_while}
use Rattle.std.proofs.lemmas.Bool.{cases_Bool}
use Rattle.std.proofs.lemmas.Bool.Decides.{nat_tests}
use Rattle.std.proofs.lemmas.List.{drop-map}
use Rattle.std.proofs.lemmas.List.Sums.{take_while-cons}
use Rattle.rule_text.specs.RuleText.{is_blank, trimmed_start, capitals}
use Rattle.rule_text.specs.RuleCut.{after_all}

pub is_ascii_digit-capital : (byte : ℕ) → is_ascii_digit (to_ascii_uppercase byte) ≡ is_ascii_digit byte
is_ascii_digit-capital byte = grind (arith, nat_tests)

pub is_blank-capital : (byte : ℕ) → is_blank (to_ascii_uppercase byte) ≡ is_blank byte
is_blank-capital byte = grind (arith, nat_tests)

-- a digit is its own capital
pub capital-digit : (byte : ℕ) → is_ascii_digit byte ≡ true → to_ascii_uppercase byte ≡ byte
capital-digit byte digit = grind (arith, nat_tests)

digit_first : (byte : ℕ) (digits : List ℕ) → cond (is_ascii_digit byte) (to_ascii_uppercase byte ∷ digits) [] ≡ cond (is_ascii_digit byte) (byte ∷ digits) []
digit_first byte digits =
    elim (cases_Bool (is_ascii_digit byte)) [
      | inl digit ↦ rw (digit, capital-digit byte digit) refl
      | inr other ↦ rw other refl
    ]

prefix_len-capitals : (p : ℕ → Bool) → ((byte : ℕ) → p (to_ascii_uppercase byte) ≡ p byte) → (text : List ℕ) → prefix_len p (capitals text) ≡ prefix_len p text
prefix_len-capitals p same [] = refl
prefix_len-capitals p same (x ∷ xs) = rw (same x, prefix_len-capitals p same xs) refl

pub after_all-capitals : (p : ℕ → Bool) → ((byte : ℕ) → p (to_ascii_uppercase byte) ≡ p byte) → (text : List ℕ) → after_all p (capitals text) ≡ capitals (drop (prefix_len p text) text)
after_all-capitals p same text = rw (prefix_len-capitals p same text) (drop-map to_ascii_uppercase (prefix_len p text) text)

trimmed_if : (b : Bool) (x : ℕ) (xs later : List ℕ) → later ≡ capitals (trimmed_start xs) → cond b later (to_ascii_uppercase x ∷ capitals xs) ≡ capitals (cond b (trimmed_start xs) (x ∷ xs))
trimmed_if true x xs later same = same
trimmed_if false x xs later same = refl

trimmed_start-capitals : (text : List ℕ) → trimmed_start (capitals text) ≡ capitals (trimmed_start text)
unfolding trimmed_start
trimmed_start-capitals [] = refl
trimmed_start-capitals (x ∷ xs) = rw (is_blank-capital x) (trimmed_if (is_blank x) x xs (trimmed_start (capitals xs)) (trimmed_start-capitals xs))

-- the blanks of a text are those of its capitals
pub trimmed_capitals : (text rest : List ℕ) → rest ≡ trimmed_start text → capitals rest ≡ trimmed_start (capitals text)
trimmed_capitals text rest is = ap capitals is ∙ sym (trimmed_start-capitals text)

pub take_while-capitals : (text : List ℕ) → take_while is_ascii_digit (capitals text) ≡ take_while is_ascii_digit text
take_while-capitals [] = refl
take_while-capitals (x ∷ xs) =
    take_while-cons is_ascii_digit (to_ascii_uppercase x) (capitals xs)
    ∙ rw (is_ascii_digit-capital x, take_while-capitals xs) (digit_first x (take_while is_ascii_digit xs))
    ∙ sym (take_while-cons is_ascii_digit x xs)
