-- Windows as words give them: `X,Y,W,H`.
use Rattle.std.specs.Prelude.{◌≡◌, ℕ, ◌<◌, ◌^◌, ℤ, FitsSigned, List, ◌++◌, Option, None, Some, codes, ⊤}
use Rattle.std.specs.Int.{w64}
use Rattle.std.specs.Str.Parse.{IsNumeral, digits_value, signed_digits_value, without_leading_plus, without_leading_sign}
use Rattle.plane.specs.Window.{Rectangle}
use Rattle.program_parts.specs.declared.window_text.WindowNumbers.{WindowNumbers}

-- the text is a numeral, with or without a plus, of this number, which is below 2^bits
abbrev pub IsUnsigned : ℕ → List ℕ → ℕ → Type 0
IsUnsigned bits text number =
    IsNumeral 10 (without_leading_plus text)
    × (number ≡ digits_value 10 (without_leading_plus text)) × (number < 2 ^ bits)

-- the text is a numeral, with or without a sign, of this number, which is from -2^63 to 2^63 - 1
abbrev pub IsSigned : List ℕ → ℤ → Type 0
IsSigned text number =
    IsNumeral 10 (without_leading_sign text) × (number ≡ signed_digits_value 10 text)
    × FitsSigned w64 number

-- the text is four numerals with commas between them: of the first column, the first row, how many
-- columns and how many rows, these below 2^bits
pub record WritesWindow (bits : ℕ) (text : List ℕ) (window : Rectangle) : Type 0 where
  pub x : List ℕ
  pub y : List ℕ
  pub width : List ℕ
  pub height : List ℕ
  pub parts : text ≡ x ++ codes "," ++ y ++ codes "," ++ width ++ codes "," ++ height
  pub column : IsSigned x window.x
  pub row : IsSigned y window.y
  pub columns : IsUnsigned bits width window.width
  pub rows : IsUnsigned bits height window.height

abbrev pub rectangle_of : WindowNumbers → Rectangle
rectangle_of numbers = record {
  x = numbers.x;
  y = numbers.y;
  width = numbers.width;
  height = numbers.height;
}

-- these are the numbers of the text, if there is one
abbrev pub AreNumbersOf : ℕ → Option (List ℕ) → Option WindowNumbers → Type 0
AreNumbersOf bits None numbers = numbers ≡ None
AreNumbersOf bits (Some text) numbers =
    (given : WindowNumbers) × WritesWindow bits text (rectangle_of given) × (numbers ≡ Some given)

-- the text of a window, if there is one, is four numbers, those of columns and rows below 2^bits
abbrev pub IsFitWindow : ℕ → Option (List ℕ) → Type 0
IsFitWindow bits None = ⊤
IsFitWindow bits (Some text) = (window : Rectangle) × WritesWindow bits text window

-- ---- windows, by which numbers are those of one

-- the text that is given has the numbers of no window
abbrev pub IsRefusedWindow : ℕ → (Rectangle → Type 0) → Option (List ℕ) → Type 0
IsRefusedWindow bits IsWindow None = ⊥
IsRefusedWindow bits IsWindow (Some text) =
    (given : Rectangle) × WritesWindow bits text given × (IsWindow given → ⊥)

-- there are numbers, and no window has them
abbrev pub HasNoWindow : (Rectangle → Type 0) → Option WindowNumbers → Type 0
HasNoWindow IsWindow None = ⊥
HasNoWindow IsWindow (Some numbers) = IsWindow (rectangle_of numbers) → ⊥

module _ {W : Type 0} (IsWindow : Rectangle → Type 0) (window_of : Rectangle → W) where
  -- the window that the text asks for, if there is one
  abbrev pub IsAskedWindow : ℕ → Option (List ℕ) → Option W → Type 0
  IsAskedWindow bits None window = window ≡ None
  IsAskedWindow bits (Some text) window =
      (given : Rectangle) × WritesWindow bits text given × IsWindow given
      × (window ≡ Some (window_of given))

  -- the window has these numbers, if there are any
  abbrev pub IsWindowOf : Option WindowNumbers → Option W → Type 0
  IsWindowOf None window = window ≡ None
  IsWindowOf (Some numbers) window =
      IsWindow (rectangle_of numbers) × (window ≡ Some (window_of (rectangle_of numbers)))
