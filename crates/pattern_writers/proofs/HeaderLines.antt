-- The header of an RLE text: the sides of the box and the rule.
use Rattle.std.proofs.Common.{◌≡◌, ℕ, ◌<◌, ◌^◌, true, false, cond, List, [], ◌∷◌, ◌++◌, codes, decimal, Some, Ok, Err, refl, ap, sym, ◌∙◌, append_assoc}
use Rattle.std.specs.Prelude.{◌==◌, ◌&&◌, ◌||◌, is_some}
use Rattle.std.specs.List.{AllByRecursion, after_first, before_first, list_any}
use Rattle.std.specs.Option.{option_map_or}
use Rattle.plane.specs.declared.refusal.Refusal.TheVariants.{BadHeader, NotAPattern}
use Rattle.plane.proofs.Elements.{AllByRecursion-append}
use Rattle.text_lines.specs.Bytes.{is_byte, trimmed, trimmed_end, trimmed_start}
use Rattle.text_lines.specs.Numbers.{number_of}
use Rattle.rle_reader.specs.Header.{begins_as_header, header_rule, is_side, rule_behind, value_behind}
use Rattle.rle_reader.specs.Preamble.{stands_before_header}
use Rattle.pattern_writers.specs.Preamble.{header_text}
use Rattle.pattern_writers.proofs.TextLines.{plain_from_test, plain_marks, IsMark, IsPlain, blank_cut}
use Rattle.pattern_writers.proofs.Decimals.{IsDecimal, decimal_is, number_from}
use Rattle.pattern_writers.proofs.WrittenNumbers.{before_end, after_end, decimal_bytes, no_commas, six_parts}

side_value : (number : ℕ) (digits : List ℕ) → IsDecimal number digits → option_map_or (λ value. is_some (number_of value)) (Some (trimmed (32 ∷ digits))) false ≡ true
side_value number digits is = ap (λ t. is_some (number_of t)) (blank_cut digits is.marks) ∙ ap is_some (number_from number digits is)

x_side : (number : ℕ) (digits : List ℕ) → IsDecimal number digits → is_side (codes "x") (codes "x = " ++ digits) ≡ true
unfolding is_side value_behind trimmed_start trimmed_end
x_side number digits is = side_value number digits is

y_side : (number : ℕ) (digits : List ℕ) → IsDecimal number digits → is_side (codes "y") (codes " y = " ++ digits) ≡ true
unfolding is_side value_behind trimmed_start trimmed_end
y_side number digits is = side_value number digits is

rule_value : (rule : List ℕ) → AllByRecursion IsMark rule → value_behind (codes "rule") (codes " rule = " ++ rule) ≡ Some rule
unfolding value_behind trimmed_start trimmed_end
rule_value rule marks = ap (λ t. Some t) (blank_cut rule marks)

some_comma : (part rest : List ℕ) → list_any (is_byte 44) (part ++ 44 ∷ rest) ≡ true
some_comma [] rest = refl
some_comma (first ∷ part) rest = elim (first == 44) as (λ b. (b || list_any (is_byte 44) (part ++ 44 ∷ rest)) ≡ true) [ true ↦ refl | false ↦ some_comma part rest ]

rule_found : (rest third rule : List ℕ) → list_any (is_byte 44) rest ≡ true → after_first (is_byte 44) rest ≡ third → value_behind (codes "rule") third ≡ Some rule → rule_behind rest ≡ Ok (Some rule)
unfolding rule_behind
rule_found rest third rule some after value = rw (some, after, value) refl

abbrev HasNoComma : List ℕ → Type 0
HasNoComma text = AllByRecursion (λ b. is_byte 44 b ≡ false) text

-- three parts with commas between, of which each says what it has to
header_by_parts : (line first second third rule : List ℕ) → line ≡ first ++ 44 ∷ (second ++ 44 ∷ third) → begins_as_header line ≡ true → HasNoComma first → HasNoComma second →
    is_side (codes "x") first ≡ true → is_side (codes "y") second ≡ true → value_behind (codes "rule") third ≡ Some rule → header_rule line ≡ Ok (Some rule)
unfolding header_rule
header_by_parts line first second third rule is begins none also x_is y_is rule_is =
    let rest : List ℕ = after_first (is_byte 44) line in
    let more : List ℕ = second ++ 44 ∷ third in
    let front : before_first (is_byte 44) line ≡ first = ap (before_first (is_byte 44)) is ∙ before_end (is_byte 44) 44 first more refl none in
    let back : rest ≡ more = ap (after_first (is_byte 44)) is ∙ after_end (is_byte 44) 44 first more refl none in
    ap (λ b. cond b (cond (is_side (codes "x") (before_first (is_byte 44) line) && is_side (codes "y") (before_first (is_byte 44) rest)) (rule_behind rest) (Err BadHeader)) (Err NotAPattern)) begins
    ∙ ap (λ t. cond (is_side (codes "x") t && is_side (codes "y") (before_first (is_byte 44) rest)) (rule_behind rest) (Err BadHeader)) front
    ∙ ap (λ r. cond (is_side (codes "x") first && is_side (codes "y") (before_first (is_byte 44) r)) (rule_behind r) (Err BadHeader)) back
    ∙ ap (λ t. cond (is_side (codes "x") first && is_side (codes "y") t) (rule_behind more) (Err BadHeader)) (before_end (is_byte 44) 44 second third refl also)
    ∙ ap (λ b. cond (b && is_side (codes "y") second) (rule_behind more) (Err BadHeader)) x_is
    ∙ ap (λ b. cond b (rule_behind more) (Err BadHeader)) y_is
    ∙ rule_found more third rule (some_comma second third) (after_end (is_byte 44) 44 second third refl also) rule_is

module _ (width height : ℕ) (rule : List ℕ) (short_width : width < 2 ^ 64) (short_height : height < 2 ^ 64) (marks : AllByRecursion IsMark rule) where
  abbrev x_part : List ℕ
  x_part = codes "x = " ++ decimal width

  abbrev y_part : List ℕ
  y_part = codes " y = " ++ decimal height

  abbrev rule_part : List ℕ
  rule_part = codes " rule = " ++ rule

  header_parts : header_text width height rule ≡ x_part ++ 44 ∷ (y_part ++ 44 ∷ rule_part)
  header_parts =
      six_parts (codes "x = ") (decimal width) (codes ", y = ") (decimal height) (codes ", rule = ") rule
      ∙ sym (append_assoc (codes "x = ") (decimal width) (44 ∷ (y_part ++ 44 ∷ rule_part))
      ∙ ap (λ l. codes "x = " ++ (decimal width ++ 44 ∷ l)) (append_assoc (codes " y = ") (decimal height) (44 ∷ rule_part)))

  begins : begins_as_header (header_text width height rule) ≡ true
  unfolding begins_as_header trimmed_start
  begins = refl

  -- the line names the rule
  pub header_read : header_rule (header_text width height rule) ≡ Ok (Some rule)
  header_read =
      header_by_parts (header_text width height rule) x_part y_part rule_part rule header_parts begins
      (refl, (refl, (refl, (refl, no_commas (decimal width) (decimal_bytes width short_width)))))
      (refl, (refl, (refl, (refl, (refl, no_commas (decimal height) (decimal_bytes height short_height))))))
      (x_side width (decimal width) (decimal_is width short_width)) (y_side height (decimal height) (decimal_is height short_height)) (rule_value rule marks)

  pub header_plain : AllByRecursion IsPlain (header_text width height rule)
  header_plain =
      AllByRecursion-append IsPlain (codes "x = " ++ decimal width ++ codes ", y = " ++ decimal height ++ codes ", rule = ") rule
      (AllByRecursion-append IsPlain (codes "x = " ++ decimal width ++ codes ", y = " ++ decimal height) (codes ", rule = ")
      (AllByRecursion-append IsPlain (codes "x = " ++ decimal width ++ codes ", y = ") (decimal height)
      (AllByRecursion-append IsPlain (codes "x = " ++ decimal width) (codes ", y = ")
      (AllByRecursion-append IsPlain (codes "x = ") (decimal width) (plain_from_test (codes "x = ") refl) (plain_marks (decimal width) (decimal_is width short_width).marks))
      (plain_from_test (codes ", y = ") refl))
      (plain_marks (decimal height) (decimal_is height short_height).marks))
      (plain_from_test (codes ", rule = ") refl))
      (plain_marks rule marks)

  pub header_stops : stands_before_header (header_text width height rule) ≡ false
  unfolding stands_before_header
  header_stops = refl
