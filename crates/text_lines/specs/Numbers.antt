-- Decimal numbers of any length.
use Rattle.std.specs.Prelude.{ℕ, ◌+◌, ◌-◌, ◌*◌, if◌then◌else◌, List, [], ◌∷◌, Option, None, Some, min}
use Rattle.std.specs.Char.{is_ascii_digit}
use Rattle.std.specs.List.{fold, list_all}
use Rattle.std.specs.Str.{byte}

-- the number with one digit more behind it
abbrev pub with_digit : ℕ → ℕ → ℕ
with_digit number digit = 10 * number + (digit - byte "0")

-- the number that digits write
abbrev pub decimal_value : List ℕ → ℕ
decimal_value digits = fold with_digit 0 digits

-- the number that a text of one or more digits writes
unfoldable pub number_of : List ℕ → Option ℕ
number_of [] = None
number_of (first ∷ rest) =
    if list_all is_ascii_digit (first ∷ rest) then Some (decimal_value (first ∷ rest)) else None

-- what a machine keeps of a number: the number, or the largest of 64 bits
abbrev pub capped : ℕ → ℕ
capped number = min number 18446744073709551615
