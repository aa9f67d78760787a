-- Numbers in a line, with commas between them, and what they are read as.
use Rattle.std.proofs.Common.{◌≡◌, ℕ, suc, ◌+◌, ◌<◌, ◌^◌, ℤ, pos, negsuc, neg_ℤ, Bool, true, false, not, cond, List, [], ◌∷◌, ◌++◌, length, take, drop, decimal, Some, refl, ap, ◌∙◌, arith, append_assoc, one-add}
use lib.Signed.{mag}
use Rattle.std.specs.Prelude.{◌==◌, ◌&&◌}
use Rattle.std.specs.Char.{is_ascii_digit}
use Rattle.std.specs.Fmt.{signed_decimal}
use Rattle.std.specs.List.{AllByRecursion, after_first, before_first, list_all, position_or_len}
use Rattle.std.specs.Option.{option_map}
use Rattle.std.proofs.lemmas.Bool.Decides.{nat_tests}
use Rattle.std.proofs.Math.Seq.{take-append_seam}
use Rattle.plane.proofs.Cuts.{and_left, and_right}
use Rattle.plane.proofs.Elements.{AllByRecursion-weaker}
use Rattle.text_lines.specs.Bytes.{is_byte}
use Rattle.text_lines.specs.Numbers.{number_of}
use Rattle.rle_reader.specs.Numbers.{integer_of}
use Rattle.pattern_writers.proofs.TextLines.{IsMark}
use Rattle.pattern_writers.proofs.Decimals.{IsDecimal, decimal_is, decimal_read, number_from}

-- ---- a text on both sides of a byte

place_at : (test : ℕ → Bool) (end : ℕ) (part rest : List ℕ) → test end ≡ true → AllByRecursion (λ b. test b ≡ false) part → position_or_len test (part ++ end ∷ rest) ≡ length part
place_at test end [] rest ends none = ap (λ b. cond (not b) (1 + position_or_len test rest) 0) ends
place_at test end (first ∷ part) rest ends none =
    ap (λ b. cond (not b) (1 + position_or_len test (part ++ end ∷ rest)) 0) none.0
    ∙ ap (λ n. 1 + n) (place_at test end part rest ends none.1) ∙ one-add (length part)

drop_end : (part rest : List ℕ) (end : ℕ) → drop (length part + 1) (part ++ end ∷ rest) ≡ rest
drop_end [] rest end = refl
drop_end (first ∷ part) rest end =
    let step : length (first ∷ part) + 1 ≡ suc (length part + 1) = omega arith in
    ap (λ n. drop n (first ∷ (part ++ end ∷ rest))) step ∙ drop_end part rest end

pub before_end : (test : ℕ → Bool) (end : ℕ) (part rest : List ℕ) → test end ≡ true → AllByRecursion (λ b. test b ≡ false) part → before_first test (part ++ end ∷ rest) ≡ part
before_end test end part rest ends none = ap (λ n. take n (part ++ end ∷ rest)) (place_at test end part rest ends none) ∙ take-append_seam part (end ∷ rest)

pub after_end : (test : ℕ → Bool) (end : ℕ) (part rest : List ℕ) → test end ≡ true → AllByRecursion (λ b. test b ≡ false) part → after_first test (part ++ end ∷ rest) ≡ rest
after_end test end part rest ends none = ap (λ n. drop (n + 1) (part ++ end ∷ rest)) (place_at test end part rest ends none) ∙ drop_end part rest end

-- ---- the bytes of numbers

-- a byte of a number with or without a `-`
pub record IsNumberByte (byte : ℕ) : Type 0 where
  pub mark : IsMark byte
  pub no_comma : (byte == 44) ≡ false

digit_of_number : (byte : ℕ) → is_ascii_digit byte ≡ true → IsNumberByte byte
digit_of_number byte is = record { mark = grind (arith, nat_tests); no_comma = grind (arith, nat_tests) }

number_bytes : (digits : List ℕ) → list_all is_ascii_digit digits ≡ true → AllByRecursion IsNumberByte digits
number_bytes [] is = tt
number_bytes (digit ∷ digits) is = (
  digit_of_number digit (and_left (is_ascii_digit digit) (list_all is_ascii_digit digits) is),
  number_bytes digits (and_right (is_ascii_digit digit) (list_all is_ascii_digit digits) is),
)

pub decimal_bytes : (number : ℕ) → number < 2 ^ 64 → AllByRecursion IsNumberByte (decimal number)
decimal_bytes number small = number_bytes (decimal number) (decimal_is number small).digits_all

pub signed_bytes : (number : ℤ) → mag number < 2 ^ 63 → AllByRecursion IsNumberByte (signed_decimal number)
signed_bytes (pos n) small = decimal_bytes n (omega arith)
signed_bytes (negsuc n) small = (record { mark = omega arith; no_comma = refl }, decimal_bytes (suc n) (omega arith))

pub marks_of : (text : List ℕ) → AllByRecursion IsNumberByte text → AllByRecursion IsMark text
marks_of text all = AllByRecursion-weaker IsNumberByte IsMark (λ byte one. one.mark) text all

pub no_commas : (text : List ℕ) → AllByRecursion IsNumberByte text → AllByRecursion (λ b. is_byte 44 b ≡ false) text
no_commas text all = AllByRecursion-weaker IsNumberByte (λ b. is_byte 44 b ≡ false) (λ byte one. one.no_comma) text all

-- ---- signed numbers

no_minus : (byte : ℕ) → is_ascii_digit byte ≡ true → (byte == 45) ≡ false
no_minus byte is = grind (arith, nat_tests)

unsigned_read : (number : ℕ) (digits : List ℕ) → IsDecimal number digits → integer_of digits ≡ Some (pos number)
unfolding integer_of
unsigned_read number [] is = absurd (omega (arith, is.some))
unsigned_read number (first ∷ rest) is =
    let minus = option_map (λ n. neg_ℤ (pos n)) (number_of rest) in
    ap (λ b. cond (b && true) minus (option_map (λ n. pos n) (number_of (first ∷ rest)))) (no_minus first (and_left (is_ascii_digit first) (list_all is_ascii_digit rest) is.digits_all))
    ∙ ap (option_map (λ n. pos n)) (number_from number (first ∷ rest) is)

pub signed_read : (number : ℤ) → mag number < 2 ^ 63 → integer_of (signed_decimal number) ≡ Some number
unfolding integer_of
signed_read (pos n) small = unsigned_read n (decimal n) (decimal_is n (omega arith))
signed_read (negsuc n) small = ap (option_map (λ n. neg_ℤ (pos n))) (decimal_read (suc n) (omega arith))

-- ---- six parts of a line

pub six_parts : (a b c d e f : List ℕ) → a ++ b ++ c ++ d ++ e ++ f ≡ a ++ (b ++ (c ++ (d ++ (e ++ f))))
six_parts a b c d e f = simp append_assoc
