-- Values that are noted of squares, by their level and number.
use Rattle.std.specs.Prelude.{ℕ, ◌==◌, ◌&&◌, Bool, Option}
use Rattle.std.specs.declared.hash.FoldHasher.{FoldHasher}
use Rattle.std.specs.declared.hash.BuildHasherDefault.{BuildHasherDefault}
use Rattle.std.specs.HashMap.{HashMap, get}
use Rattle.squares.specs.declared.sq.Sq.{Sq}

-- a map from levels and numbers to values
abbrev pub Noted : Type 0 → Type 0
Noted Value = HashMap (ℕ × ℕ) Value (BuildHasherDefault FoldHasher)

-- whether two keys are the same level and number
abbrev pub is_same_key : (ℕ × ℕ) → (ℕ × ℕ) → Bool
is_same_key a b = (a.0 == b.0) && (a.1 == b.1)

-- the value that is noted of a square
abbrev pub value_of : {Value : Type 0} → Noted Value → Sq → Option Value
value_of values sq = get is_same_key values (sq.level, sq.num.0)
