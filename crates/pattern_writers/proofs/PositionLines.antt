-- The first line of an RLE text: where the pattern lies and in which generation.
use Rattle.std.proofs.Common.{◌≡◌, ℕ, ◌<◌, ◌≤◌, ◌^◌, ℤ, neg_ℤ, int_le, int_lt, true, false, cond, List, [], ◌∷◌, ◌++◌, map, codes, decimal, nat_le, Some, Ok, Err, refl, ap, sym, ◌∙◌, arith, append_assoc}
use lib.Signed.{mag}
use Rattle.std.specs.Prelude.{◌&&◌}
use Rattle.std.specs.Fmt.{signed_decimal}
use Rattle.std.specs.List.{AllByRecursion, after_first}
use Rattle.std.proofs.lemmas.Bool.Decides.{nat_tests}
use Rattle.std.proofs.lemmas.Int.{ints}
use Rattle.plane.specs.Range.{IsCoordinate}
use Rattle.plane.specs.Limits.{coordinate_limit, largest_generation}
use Rattle.plane.specs.declared.refusal.Refusal.TheVariants.{BadGen, OutOfRange}
use Rattle.plane.proofs.Elements.{AllByRecursion-append}
use Rattle.text_lines.specs.Bytes.{is_byte}
use Rattle.text_lines.specs.Comments.{is_kept}
use Rattle.text_lines.specs.Numbers.{number_of}
use Rattle.rle_reader.specs.Words.{cell_at, generation_at, is_coordinate, position_of, word_of, words}
use Rattle.rle_reader.specs.Numbers.{integer_of}
use Rattle.rle_reader.specs.Preamble.{stands_before_header}
use Rattle.rle_reader.specs.Settings.{after_line, after_readings, nothing_said}
use Rattle.pattern_writers.specs.Preamble.{position_text}
use Rattle.pattern_writers.proofs.TextLines.{plain_from_test, plain_marks, IsMark, IsPlain, split_first, split_last}
use Rattle.pattern_writers.proofs.Decimals.{decimal_is, decimal_read}
use Rattle.pattern_writers.proofs.ShortCounts.{coordinate_short, mag_short}
use Rattle.pattern_writers.proofs.WrittenNumbers.{before_end, after_end, IsNumberByte, signed_bytes, marks_of, no_commas, signed_read, six_parts}

from_low : (z : ℤ) → IsCoordinate z → int_le (neg_ℤ coordinate_limit) z ≡ true
from_low z is = grind (arith, ints, is.low)

to_high : (z : ℤ) → IsCoordinate z → int_lt z coordinate_limit ≡ true
to_high z is = grind (arith, ints, is.high)

coordinate_is : (z : ℤ) → IsCoordinate z → is_coordinate z ≡ true
coordinate_is z is = ap (λ b. b && int_lt z coordinate_limit) (from_low z is) ∙ to_high z is

within_limit : (generation : ℕ) → generation ≤ largest_generation → nat_le generation largest_generation ≡ true
within_limit generation low = grind (arith, nat_tests)

word_flat : (head x comma y rest : List ℕ) → (head ++ (x ++ (comma ++ y))) ++ rest ≡ head ++ (x ++ (comma ++ (y ++ rest)))
word_flat head x comma y rest = simp append_assoc

-- a position that a text gives back
pub record IsPosition (x y : ℤ) (generation : ℕ) : Type 0 where
  pub column : IsCoordinate x
  pub row : IsCoordinate y
  pub low : generation ≤ largest_generation

coordinate_mag : (z : ℤ) → IsCoordinate z → mag z < 2 ^ 63
coordinate_mag z is = mag_short z (coordinate_short z is)

module _ (x y : ℤ) (generation : ℕ) (is : IsPosition x y generation) where
  abbrev column : List ℕ
  column = signed_decimal x

  abbrev row : List ℕ
  row = signed_decimal y

  abbrev digits : List ℕ
  digits = decimal generation

  column_bytes : AllByRecursion IsNumberByte column
  column_bytes = signed_bytes x (coordinate_mag x is.column)

  row_bytes : AllByRecursion IsNumberByte row
  row_bytes = signed_bytes y (coordinate_mag y is.row)

  small : generation < 2 ^ 64
  small = let low = is.low in omega arith

  abbrev pos_word : List ℕ
  pos_word = codes "Pos=" ++ (column ++ (codes "," ++ row))

  abbrev gen_word : List ℕ
  gen_word = codes "Gen=" ++ digits

  pos_marks : AllByRecursion IsMark pos_word
  pos_marks =
      AllByRecursion-append IsMark (codes "Pos=") (column ++ (codes "," ++ row)) (omega arith, (omega arith, (omega arith, (omega arith, tt))))
      (AllByRecursion-append IsMark column (codes "," ++ row) (marks_of column column_bytes) (omega arith, marks_of row row_bytes))

  gen_marks : AllByRecursion IsMark gen_word
  gen_marks = (omega arith, (omega arith, (omega arith, (omega arith, (decimal_is generation small).marks))))

  position_parts : position_text x y generation ≡ codes "#CXRLE" ++ 32 ∷ (pos_word ++ 32 ∷ gen_word)
  position_parts =
      six_parts (codes "#CXRLE Pos=") column (codes ",") row (codes " Gen=") digits
      ∙ ap (λ l. codes "#CXRLE " ++ l) (sym (word_flat (codes "Pos=") column (codes ",") row (codes " Gen=" ++ digits)))

  head_marks : AllByRecursion IsMark (codes "#CXRLE")
  head_marks = (omega arith, (omega arith, (omega arith, (omega arith, (omega arith, (omega arith, tt))))))

  position_words : words (position_text x y generation) ≡ codes "#CXRLE" ∷ pos_word ∷ gen_word ∷ []
  position_words =
      ap words position_parts ∙ split_first (codes "#CXRLE") (pos_word ++ 32 ∷ gen_word) head_marks
      ∙ ap (λ l. codes "#CXRLE" ∷ l) (split_first pos_word gen_word pos_marks ∙ ap (λ l. pos_word ∷ l) (split_last gen_word gen_marks))

  cell_read : position_of (column ++ 44 ∷ row) ≡ Ok (record { y = y; x = x })
  unfolding position_of cell_at
  cell_read =
      ap (λ t. cell_at (integer_of t) (integer_of (after_first (is_byte 44) (column ++ 44 ∷ row)))) (before_end (is_byte 44) 44 column row refl (no_commas column column_bytes))
      ∙ ap (λ t. cell_at (integer_of column) (integer_of t)) (after_end (is_byte 44) 44 column row refl (no_commas column column_bytes))
      ∙ ap (λ o. cell_at o (integer_of row)) (signed_read x (coordinate_mag x is.column))
      ∙ ap (cell_at (Some x)) (signed_read y (coordinate_mag y is.row))
      ∙ ap (λ b. cond (b && is_coordinate y) (Ok (record { y = y; x = x })) (Err OutOfRange)) (coordinate_is x is.column)
      ∙ ap (λ b. cond b (Ok (record { y = y; x = x })) (Err OutOfRange)) (coordinate_is y is.row)

  generation_read : generation_at (number_of digits) ≡ Ok generation
  unfolding generation_at
  generation_read = ap generation_at (decimal_read generation small) ∙ ap (λ b. cond b (Ok generation) (Err BadGen)) (within_limit generation is.low)

  words_said : after_readings nothing_said (map word_of (codes "#CXRLE" ∷ pos_word ∷ gen_word ∷ [])) ≡ Ok (record { pos = record { y = y; x = x }; generation = generation })
  unfolding after_readings word_of
  words_said = rw (cell_read, generation_read) refl

  -- the line says the position and the generation
  pub position_said : after_line nothing_said (position_text x y generation) ≡ Ok (record { pos = record { y = y; x = x }; generation = generation })
  unfolding after_line
  position_said = ap (λ ws. after_readings nothing_said (map word_of ws)) position_words ∙ words_said

  pub position_plain : AllByRecursion IsPlain (position_text x y generation)
  position_plain =
      AllByRecursion-append IsPlain (codes "#CXRLE Pos=" ++ column ++ codes "," ++ row ++ codes " Gen=") digits
      (AllByRecursion-append IsPlain (codes "#CXRLE Pos=" ++ column ++ codes "," ++ row) (codes " Gen=")
      (AllByRecursion-append IsPlain (codes "#CXRLE Pos=" ++ column ++ codes ",") row
      (AllByRecursion-append IsPlain (codes "#CXRLE Pos=" ++ column) (codes ",")
      (AllByRecursion-append IsPlain (codes "#CXRLE Pos=") column (plain_from_test (codes "#CXRLE Pos=") refl) (plain_marks column (marks_of column column_bytes)))
      (plain_from_test (codes ",") refl))
      (plain_marks row (marks_of row row_bytes)))
      (plain_from_test (codes " Gen=") refl))
      (plain_marks digits (decimal_is generation small).marks)

  pub position_stands : stands_before_header (position_text x y generation) ≡ true
  unfolding stands_before_header
  position_stands = refl

  pub position_not_kept : is_kept (position_text x y generation) ≡ false
  unfolding is_kept
  position_not_kept = refl
