-- Decimal numbers: the byte after one that is not a digit, and the number that is read.
use Rattle.std.proofs.Common.{◌≡◌, ℕ, ◌+◌, ◌/◌, ◌%◌, ◌^◌, ◌<◌, ◌≤◌, true, cond, List, [], ◌∷◌, ◌++◌, length, decimal, Some, None, refl, sym, ◌∙◌, ap, arith, length-append, suc, ℤ, pos, negsuc, drop}
use lib.Signed.{mag}
use Rattle.std.specs.Prelude.{◌&&◌}
use Rattle.std.specs.Char.{is_ascii_digit, digit_value}
use Rattle.std.specs.List.{AllByRecursion, fold, list_all}
use Rattle.std.specs.Fmt.{signed_decimal}
use Rattle.std.specs.Str.Parse.{AllDigits}
use Rattle.std.proofs.lemmas.Bool.Decides.{nat_tests}
use Rattle.std.proofs.lemmas.Fmt.{decimal_by_steps, decimal_is_IsNumeral, decimal_injective}
use Rattle.std.proofs.lemmas.List.Folds.{list_all-append}
use Rattle.plane.proofs.Elements.{AllByRecursion-append}
use Rattle.text_lines.specs.Numbers.{decimal_value, number_of, with_digit}
use Rattle.pattern_writers.proofs.TextLines.{IsMark}

-- the byte is not a decimal digit
abbrev pub IsNoDigit : ℕ → Type 0
IsNoDigit byte = 10 ≤ digit_value byte

-- two texts that are equal begin with the same digits up to a byte that is none
pub digits_end : (ds es : List ℕ) (a b : ℕ) (s t : List ℕ) → AllDigits 10 ds → AllDigits 10 es → IsNoDigit a → IsNoDigit b →
    ds ++ a ∷ s ≡ es ++ b ∷ t → (ds ≡ es) × (a ∷ s ≡ b ∷ t)
digits_end [] [] a b s t all also stop end is = (refl, is)
digits_end [] (e ∷ es) a b s t all also stop end is =
    let same : digit_value a ≡ digit_value e = cc in absurd (omega (arith, also.0, same))
digits_end (d ∷ ds) [] a b s t all also stop end is =
    let same : digit_value d ≡ digit_value b = cc in absurd (omega (arith, all.0, same))
digits_end (d ∷ ds) (e ∷ es) a b s t all also stop end is =
    let first : d ≡ e = cc in
    let rest = digits_end ds es a b s t all.1 also.1 stop end (ap (drop 1) is) in
    (ap (λ c. c ∷ ds) first ∙ ap (λ l. e ∷ l) rest.0, rest.1)

pub decimal_end : (m n a b : ℕ) (s t : List ℕ) → m < 2 ^ 64 → n < 2 ^ 64 → IsNoDigit a → IsNoDigit b →
    decimal m ++ a ∷ s ≡ decimal n ++ b ∷ t → (m ≡ n) × (a ∷ s ≡ b ∷ t)
decimal_end m n a b s t small short stop end is =
    let both = digits_end (decimal m) (decimal n) a b s t (decimal_is_IsNumeral m small).0.1 (decimal_is_IsNumeral n short).0.1 stop end is in
    (decimal_injective m n small short both.0, both.1)

-- a text that begins with a digit begins with no minus
digit_first : (ds s t : List ℕ) → 0 < length ds → AllDigits 10 ds → ds ++ s ≡ 45 ∷ t → ⊥
digit_first [] s t some all is = absurd (omega arith)
digit_first (d ∷ ds) s t some all is = let same : digit_value d ≡ digit_value 45 = cc in absurd (omega (arith, all.0, same))

decimal_first : (n : ℕ) (s t : List ℕ) → n < 2 ^ 64 → decimal n ++ s ≡ 45 ∷ t → ⊥
decimal_first n s t small is = let numeral = (decimal_is_IsNumeral n small).0 in digit_first (decimal n) s t numeral.0 numeral.1 is

pub signed_decimal_end : (x y : ℤ) (a b : ℕ) (s t : List ℕ) → mag x < 2 ^ 63 → mag y < 2 ^ 63 → IsNoDigit a → IsNoDigit b →
    signed_decimal x ++ a ∷ s ≡ signed_decimal y ++ b ∷ t → (x ≡ y) × (a ∷ s ≡ b ∷ t)
signed_decimal_end (pos m) (pos n) a b s t small short stop end is =
    let both = decimal_end m n a b s t (omega arith) (omega arith) stop end is in (ap pos both.0, both.1)
signed_decimal_end (pos m) (negsuc n) a b s t small short stop end is = absurd (decimal_first m (a ∷ s) _ (omega arith) is)
signed_decimal_end (negsuc m) (pos n) a b s t small short stop end is = absurd (decimal_first n (b ∷ t) _ (omega arith) (sym is))
signed_decimal_end (negsuc m) (negsuc n) a b s t small short stop end is =
    let both = decimal_end (suc m) (suc n) a b s t (omega arith) (omega arith) stop end (ap (drop 1) is) in
    (ap negsuc (omega (arith, both.0)), both.1)

-- ---- the number that is read

-- digits that write a number
pub record IsDecimal (number : ℕ) (digits : List ℕ) : Type 0 where
  pub digits_all : list_all is_ascii_digit digits ≡ true
  pub value : decimal_value digits ≡ number
  pub some : 0 < length digits
  pub marks : AllByRecursion IsMark digits

digit_is : (n : ℕ) → n < 10 → is_ascii_digit (48 + n) ≡ true
digit_is n small = grind (arith, nat_tests)

fold_more : (start : ℕ) (digits more : List ℕ) → fold with_digit start (digits ++ more) ≡ fold with_digit (fold with_digit start digits) more
fold_more start [] more = refl
fold_more start (digit ∷ digits) more = fold_more (with_digit start digit) digits more

one_digit : (n : ℕ) → n < 10 → IsDecimal n ((48 + n) ∷ [])
one_digit n small = record {
  digits_all = ap (λ t. t && true) (digit_is n small);
  value = omega arith;
  some = omega arith;
  marks = (omega arith, tt);
}

digit_more : (n : ℕ) (digits : List ℕ) → 10 ≤ n → IsDecimal (n / 10) digits → IsDecimal n (digits ++ (48 + n % 10) ∷ [])
digit_more n digits large is =
    let size = length-append digits ((48 + n % 10) ∷ []) in
    let last : with_digit (n / 10) (48 + n % 10) ≡ n = omega arith in
    record {
      digits_all = list_all-append is_ascii_digit digits ((48 + n % 10) ∷ []) ∙ ap (λ t. t && (is_ascii_digit (48 + n % 10) && true)) is.digits_all ∙ ap (λ t. t && true) (digit_is (n % 10) (omega arith));
      value = fold_more 0 digits ((48 + n % 10) ∷ []) ∙ ap (λ v. with_digit v (48 + n % 10)) is.value ∙ last;
      some = omega (arith, size);
      marks = AllByRecursion-append IsMark digits ((48 + n % 10) ∷ []) is.marks (omega arith, tt);
    }

pub decimal_is : (n : ℕ) → n < 2 ^ 64 → IsDecimal n (decimal n)
decimal_is n small = decimal_by_steps IsDecimal one_digit digit_more n small

pub number_from : (number : ℕ) (digits : List ℕ) → IsDecimal number digits → number_of digits ≡ Some number
unfolding number_of
number_from number [] is = absurd (omega (arith, is.some))
number_from number (first ∷ rest) is =
    ap (λ t. cond t (Some (decimal_value (first ∷ rest))) None) is.digits_all ∙ ap (λ n. Some n) is.value

-- a number is read as it was written
pub decimal_read : (n : ℕ) → n < 2 ^ 64 → number_of (decimal n) ≡ Some n
decimal_read n small = number_from n (decimal n) (decimal_is n small)
