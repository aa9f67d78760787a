-- The numbers of requests.
use Rattle.std.specs.Prelude.{◌≡◌, ◌⊎◌, ℕ, ◌-◌, ◌^◌, ◌≤◌, ℤ, pos, neg_ℤ, min, List, ◌∷◌, Some}
use Rattle.std.specs.Str.{byte}
use Rattle.text_lines.specs.Numbers.{capped, number_of}
use Rattle.pipe_requests.specs.declared.bad.Bad.{Bad}
use Rattle.pipe_requests.specs.declared.bad.Bad.TheVariants.{Number}

-- the word is digits of a number, and this is the number, or 2^64 - 1 where it is larger
abbrev pub IsUnsigned : List ℕ → ℕ → Type 0
IsUnsigned word value = (number : ℕ) × (number_of word ≡ Some number) × (value ≡ capped number)

-- the word is digits of a number, and this is the number, or 2^63 - 1 where it is larger
abbrev pub IsSize : List ℕ → ℤ → Type 0
IsSize word value =
    (number : ℕ) × (number_of word ≡ Some number) × (value ≡ pos (min number (2 ^ 63 - 1)))

-- the word is digits, perhaps behind a minus, of a number, and this is the number, or the nearest
-- one from -(2^63 - 1) to 2^63 - 1
abbrev pub IsSigned : List ℕ → ℤ → Type 0
IsSigned word value =
    IsSize word value
    ⊎ ((digits : List ℕ) × (size : ℤ) × (word ≡ byte "-" ∷ digits) × IsSize digits size
    × (value ≡ neg_ℤ size))

-- the word is digits of this number, which lies between two limits
pub record IsWithin (least most : ℕ) (word : List ℕ) (value : ℕ) : Type 0 where
  pub digits : number_of word ≡ Some value
  pub at_least : least ≤ value
  pub at_most : value ≤ most

-- the word is no such number
abbrev pub HasNoNumber : {N : Type 0} → (N → Type 0) → Bad → Type 0
HasNoNumber {N} IsValue why = (why ≡ Number) × ((value : N) → IsValue value → ⊥)
