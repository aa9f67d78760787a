-- The text of a window is cut at its commas into its four numerals.
use Rattle.std.proofs.Common.{◌≡◌, ◌≢◌, ℕ, zero, suc, ◌<◌, ◌^◌, ℤ, FitsSigned, w64, List, [], ◌∷◌, ◌++◌, length, get_or, ◌==◌, cond, drop, Bool, true, false, Bor, Option, None, Some, Result, Ok, Err, codes, refl, sym, ◌∙◌, append_assoc, subst, ap, arith, to_z, of_z, to_z-of_z}
use Rattle.std.specs.Result.{result_ok}
use Rattle.std.specs.Char.{digit_value}
use Rattle.std.specs.Str.Parse.{AllDigits, IsNumeral, ParsesSigned, ParsesUnsigned, digits_value, signed_digits_value, without_leading_plus, without_leading_sign}
use Rattle.std.proofs.lemmas.Str.Pattern.{IsSplitOnceResult, split_after, split_parts}
use Rattle.plane.specs.Window.{Rectangle}
use Rattle.program_parts.specs.WindowText.{AreNumbersOf, HasNoWindow, IsAskedWindow, IsFitWindow, IsRefusedWindow, IsSigned, IsUnsigned, IsWindowOf, WritesWindow, rectangle_of}
use Rattle.program_parts.specs.declared.window_text.WindowNumbers.{WindowNumbers}

-- ---- numerals have no comma

abbrev HasNoComma : List ℕ → Type 0
HasNoComma text = (i : ℕ) → i < length text → get_or text i 0 ≢ 44

no_comma_more : (byte : ℕ) (text : List ℕ) → byte ≢ 44 → HasNoComma text → HasNoComma (byte ∷ text)
no_comma_more byte text other none zero less = other
no_comma_more byte text other none (suc i) less = none i (omega (arith, less))

digits_have_no_comma : (digits : List ℕ) → AllDigits 10 digits → HasNoComma digits
digits_have_no_comma [] all i less = absurd (omega (arith, less))
digits_have_no_comma (byte ∷ digits) all i less =
    no_comma_more byte digits (λ is. digit_is_no_comma (subst (λ b. digit_value b < 10) is all.0)) (digits_have_no_comma digits all.1) i less
  where
    digit_is_no_comma : digit_value 44 < 10 → ⊥
    digit_is_no_comma less = omega (arith, less)

unsigned_has_no_comma : (text : List ℕ) → IsNumeral 10 (without_leading_plus text) → HasNoComma text
unsigned_has_no_comma [] numeral i less = absurd (omega (arith, less))
unsigned_has_no_comma (byte ∷ text) numeral i less = go (byte == 43) refl i less
  where
    go : (plus : Bool) → (byte == 43) ≡ plus → HasNoComma (byte ∷ text)
    go true is = no_comma_more byte text (λ comma. let both = ap (λ b. b == 43) comma in cc) (digits_have_no_comma text (subst (λ p. AllDigits 10 (drop (cond p 1 0) (byte ∷ text))) is numeral.1))
    go false is = digits_have_no_comma (byte ∷ text) (subst (λ p. AllDigits 10 (drop (cond p 1 0) (byte ∷ text))) is numeral.1)

signed_has_no_comma : (text : List ℕ) → IsNumeral 10 (without_leading_sign text) → HasNoComma text
signed_has_no_comma [] numeral i less = absurd (omega (arith, less))
signed_has_no_comma (byte ∷ text) numeral i less = go (byte == 45) refl i less
  where
    unsigned_text : Bool → List ℕ
    unsigned_text minus = cond minus (drop 1 (byte ∷ text)) (without_leading_plus (byte ∷ text))

    go : (minus : Bool) → (byte == 45) ≡ minus → HasNoComma (byte ∷ text)
    go true is = no_comma_more byte text (λ comma. let both = ap (λ b. b == 45) comma in cc) (digits_have_no_comma text (subst (λ m. IsNumeral 10 (unsigned_text m)) is numeral).1)
    go false is = unsigned_has_no_comma (byte ∷ text) (subst (λ m. IsNumeral 10 (unsigned_text m)) is numeral)

-- ---- cuts

no_cut : (text first rest : List ℕ) → text ≡ first ++ codes "," ++ rest → HasNoComma first → IsSplitOnceResult 44 text None → ⊥
no_cut text first rest is free found = split_after 44 text first rest None found (omega arith) (is ∙ append_assoc first (codes ",") rest) free

cut : (text first rest : List ℕ) (before behind : Bor (List ℕ)) → text ≡ first ++ codes "," ++ rest → HasNoComma first → IsSplitOnceResult 44 text (Some (before, behind)) → (before.now ≡ first) × (behind.now ≡ rest)
cut text first rest before behind is free found = split_after 44 text first rest (Some (before, behind)) found (omega arith) (is ∙ append_assoc first (codes ",") rest) free

-- what stands round three commas
pub four_parts : (text : List ℕ) (x y width height behind_x behind_y : Bor (List ℕ)) → IsSplitOnceResult 44 text (Some (x, behind_x)) → IsSplitOnceResult 44 behind_x.now (Some (y, behind_y)) →
    IsSplitOnceResult 44 behind_y.now (Some (width, height)) → text ≡ x.now ++ codes "," ++ y.now ++ codes "," ++ width.now ++ codes "," ++ height.now
four_parts text x y width height behind_x behind_y first second third =
    let column = (split_parts 44 text (Some (x, behind_x)) first (omega arith)).0 in
    let row = (split_parts 44 behind_x.now (Some (y, behind_y)) second (omega arith)).0 in
    let sizes = (split_parts 44 behind_y.now (Some (width, height)) third (omega arith)).0 in
    column ∙ ap (λ l. x.now ++ 44 ∷ l) (row ∙ ap (λ l. y.now ++ 44 ∷ l) sizes) ∙ nested x.now y.now width.now height.now
  where
    nested : (x y width height : List ℕ) → x ++ 44 ∷ (y ++ 44 ∷ (width ++ 44 ∷ height)) ≡ x ++ codes "," ++ y ++ codes "," ++ width ++ codes "," ++ height
    nested x y width height =
        let before_row = x ++ codes "," in
        let before_sizes = before_row ++ y ++ codes "," in
        sym (append_assoc x (codes ",") (y ++ 44 ∷ (width ++ 44 ∷ height)))
        ∙ ap (λ l. before_row ++ l) (sym (append_assoc y (codes ",") (width ++ 44 ∷ height)))
        ∙ sym (append_assoc before_row (y ++ codes ",") (width ++ 44 ∷ height))
        ∙ ap (λ l. l ++ (width ++ 44 ∷ height)) (sym (append_assoc before_row y (codes ",")))
        ∙ ap (λ l. before_sizes ++ l) (sym (append_assoc width (codes ",") height))
        ∙ sym (append_assoc before_sizes (width ++ codes ",") height)
        ∙ ap (λ l. l ++ height) (sym (append_assoc before_sizes width (codes ",")))

-- ---- numbers

module _ {E : Type 0} where
  -- a text that parses as no number is not a numeral of one
  pub no_signed : (text other : List ℕ) (number : ℤ) (parsed : Result ℤ E) → result_ok parsed ≡ None → ParsesSigned w64 10 text parsed → text ≡ other → IsSigned other number → ⊥
  no_signed text other number (Ok n) fails parses is signed = cc
  no_signed text other number (Err e) fails parses is signed =
      let same = subst (λ t. IsSigned t number) (sym is) signed in parses (same.0, subst (FitsSigned w64) same.1 same.2)

  pub no_unsigned : (text other : List ℕ) (number : ℕ) (parsed : Result ℕ E) → result_ok parsed ≡ None → ParsesUnsigned 64 10 text parsed → text ≡ other → IsUnsigned 64 other number → ⊥
  no_unsigned text other number (Ok n) fails parses is unsigned = cc
  no_unsigned text other number (Err e) fails parses is unsigned =
      let same = subst (λ t. IsUnsigned 64 t number) (sym is) unsigned in parses (same.0, subst (λ n. n < 2 ^ 64) same.1 same.2)

  -- what a text parses as is its number
  pub signed : (text : List ℕ) (number : ℤ) (parsed : Result ℤ E) → result_ok parsed ≡ Some number → ParsesSigned w64 10 text parsed → IsSigned text number
  signed text number (Ok n) is parses =
      let same : n ≡ number = cc in (parses.0.0, sym same ∙ parses.1, subst (FitsSigned w64) (sym parses.1 ∙ same) parses.0.1)
  signed text number (Err e) is parses = cc

  pub unsigned : (text : List ℕ) (number : ℕ) (parsed : Result ℕ E) → result_ok parsed ≡ Some number → ParsesUnsigned 64 10 text parsed → IsUnsigned 64 text number
  unsigned text number (Ok n) is parses =
      let same : n ≡ number = cc in (parses.0.0, sym same ∙ parses.1, subst (λ m. m < 2 ^ 64) (sym parses.1 ∙ same) parses.0.1)
  unsigned text number (Err e) is parses = cc

-- a number that is kept in 64 bits is itself
pub signed_back : (number : ℤ) → FitsSigned w64 number → to_z w64 (of_z w64 number) ≡ number
signed_back number fits = to_z-of_z fits

-- ---- the text of a window

module _ {bits : ℕ} (text : List ℕ) (window : Rectangle) (writes : WritesWindow bits text window) where
  abbrev pub behind_row : List ℕ
  behind_row = writes.width ++ codes "," ++ writes.height

  abbrev pub behind_column : List ℕ
  behind_column = writes.y ++ codes "," ++ behind_row

  nested : text ≡ writes.x ++ codes "," ++ behind_column
  nested =
      let before_row = writes.x ++ codes "," in
      let before_sizes = before_row ++ writes.y ++ codes "," in
      writes.parts
      ∙ ap (λ l. l ++ writes.height) (append_assoc before_sizes writes.width (codes ","))
      ∙ append_assoc before_sizes (writes.width ++ codes ",") writes.height
      ∙ ap (λ l. l ++ behind_row) (append_assoc before_row writes.y (codes ","))
      ∙ append_assoc before_row (writes.y ++ codes ",") behind_row

  pub column_not_cut : IsSplitOnceResult 44 text None → ⊥
  column_not_cut = no_cut text writes.x behind_column nested (signed_has_no_comma writes.x writes.column.0)

  pub column_cut : (before behind : Bor (List ℕ)) → IsSplitOnceResult 44 text (Some (before, behind)) → (before.now ≡ writes.x) × (behind.now ≡ behind_column)
  column_cut before behind = cut text writes.x behind_column before behind nested (signed_has_no_comma writes.x writes.column.0)

  pub row_not_cut : (rest : List ℕ) → rest ≡ behind_column → IsSplitOnceResult 44 rest None → ⊥
  row_not_cut rest is = no_cut rest writes.y behind_row is (signed_has_no_comma writes.y writes.row.0)

  pub row_cut : (rest : List ℕ) → rest ≡ behind_column → (before behind : Bor (List ℕ)) → IsSplitOnceResult 44 rest (Some (before, behind)) → (before.now ≡ writes.y) × (behind.now ≡ behind_row)
  row_cut rest is before behind = cut rest writes.y behind_row before behind is (signed_has_no_comma writes.y writes.row.0)

  pub sizes_not_cut : (rest : List ℕ) → rest ≡ behind_row → IsSplitOnceResult 44 rest None → ⊥
  sizes_not_cut rest is = no_cut rest writes.width writes.height is (unsigned_has_no_comma writes.width writes.columns.0)

  pub sizes_cut : (rest : List ℕ) → rest ≡ behind_row → (before behind : Bor (List ℕ)) → IsSplitOnceResult 44 rest (Some (before, behind)) → (before.now ≡ writes.width) × (behind.now ≡ writes.height)
  sizes_cut rest is before behind = cut rest writes.width writes.height before behind is (unsigned_has_no_comma writes.width writes.columns.0)

-- ---- one window

-- a text is cut at its first comma in one way
first_comma : (first other rest last : List ℕ) → HasNoComma first → HasNoComma other → first ++ 44 ∷ rest ≡ other ++ 44 ∷ last → (first ≡ other) × (rest ≡ last)
first_comma [] [] rest last free other_free same = (refl, cc)
first_comma [] (byte ∷ other) rest last free other_free same = absurd (other_free 0 (omega arith) cc)
first_comma (byte ∷ first) [] rest last free other_free same = absurd (free 0 (omega arith) cc)
first_comma (byte ∷ first) (other_byte ∷ other) rest last free other_free same =
    let behind = first_comma first other rest last (λ i less. free (suc i) (omega (arith, less))) (λ i less. other_free (suc i) (omega (arith, less))) cc in
    (cc, behind.1)

same_cut : (first other rest last : List ℕ) → HasNoComma first → HasNoComma other → first ++ codes "," ++ rest ≡ other ++ codes "," ++ last → (first ≡ other) × (rest ≡ last)
same_cut first other rest last free other_free same =
    first_comma first other rest last free other_free (sym (append_assoc first (codes ",") rest) ∙ same ∙ append_assoc other (codes ",") last)

-- a text is that of one window
pub same_window : {bits others : ℕ} (text : List ℕ) (one other : Rectangle) → WritesWindow bits text one → WritesWindow others text other → one ≡ other
same_window text one other writes also =
    let column = same_cut writes.x also.x (behind_column text one writes) (behind_column text other also) (signed_has_no_comma writes.x writes.column.0) (signed_has_no_comma also.x also.column.0) (sym (nested text one writes) ∙ nested text other also) in
    let row = same_cut writes.y also.y (behind_row text one writes) (behind_row text other also) (signed_has_no_comma writes.y writes.row.0) (signed_has_no_comma also.y also.row.0) column.1 in
    let sizes = same_cut writes.width also.width writes.height also.height (unsigned_has_no_comma writes.width writes.columns.0) (unsigned_has_no_comma also.width also.columns.0) row.1 in
    let x = writes.column.1 ∙ ap (signed_digits_value 10) column.0 ∙ sym also.column.1 in
    let y = writes.row.1 ∙ ap (signed_digits_value 10) row.0 ∙ sym also.row.1 in
    let width = writes.columns.1 ∙ ap (λ t. digits_value 10 (without_leading_plus t)) sizes.0 ∙ sym also.columns.1 in
    let height = writes.rows.1 ∙ ap (λ t. digits_value 10 (without_leading_plus t)) sizes.1 ∙ sym also.rows.1 in
    same_sides one other x y width height
  where
    same_sides : (one other : Rectangle) → one.x ≡ other.x → one.y ≡ other.y → one.width ≡ other.width → one.height ≡ other.height → one ≡ other
    same_sides one other x y width height = rw (x, y, width, height) refl

-- ---- windows of a text and of its numbers

module _ (bits : ℕ) where
  pub fit_window : (text : Option (List ℕ)) (numbers : Option WindowNumbers) → AreNumbersOf bits text numbers → IsFitWindow bits text
  fit_window None numbers are = tt
  fit_window (Some text) numbers (given, writes, is) = (rectangle_of given, writes)

  module _ (IsWindow : Rectangle → Type 0) where
    pub asked_window : {W : Type 0} (window_of : Rectangle → W) (text : Option (List ℕ)) (numbers : Option WindowNumbers) (window : Option W) →
        AreNumbersOf bits text numbers → IsWindowOf IsWindow window_of numbers window → IsAskedWindow IsWindow window_of bits text window
    asked_window window_of None numbers window none is = subst (λ n. IsWindowOf IsWindow window_of n window) none is
    asked_window window_of (Some text) numbers window (given, writes, given_is) is =
        let one = subst (λ n. IsWindowOf IsWindow window_of n window) given_is is in (rectangle_of given, writes, one.0, one.1)

    pub refused_window : (text : Option (List ℕ)) (numbers : Option WindowNumbers) → AreNumbersOf bits text numbers → HasNoWindow IsWindow numbers → IsRefusedWindow bits IsWindow text
    refused_window None numbers none unseen = subst (HasNoWindow IsWindow) none unseen
    refused_window (Some text) numbers (given, writes, given_is) unseen = (rectangle_of given, writes, subst (HasNoWindow IsWindow) given_is unseen)
