-- The lines of a text.
use Rattle.std.specs.Prelude.{◌≡◌, ◌≤◌, slice_range, ℕ, ◌+◌, Bool, if◌then◌else◌, List, [], ◌∷◌, length, take, drop, codes, ◌-◌}
use Rattle.std.specs.Str.{byte}
use Rattle.text_lines.specs.Bytes.{is_byte, ends_with, ended_parts}

-- a line: the place of its first byte, and its bytes without its line end
pub record Line : Type 0 where
  pub place : ℕ
  pub text : List ℕ

-- an LF
abbrev pub is_line_feed : ℕ → Bool
is_line_feed = is_byte (byte "\n")

-- the lines of a text, each without its LF
abbrev pub raw_lines : List ℕ → List (List ℕ)
raw_lines text = ended_parts is_line_feed text

-- the line without one CR at its end
unfoldable pub without_return : List ℕ → List ℕ
without_return line = if ends_with (codes "\r") line then take (length line - 1) line else line

-- the lines with their places, where the first begins at this place, and each next one after the LF
-- before it
unfoldable pub placed_lines : ℕ → List (List ℕ) → List Line
placed_lines place [] = []
placed_lines place (text ∷ texts) =
    record { place = place; text = without_return text }
    ∷ placed_lines (place + length text + 1) texts

-- the lines of a text that begins at this place
abbrev pub lines : ℕ → List ℕ → List Line
lines place text = placed_lines place (raw_lines text)

-- the lines of a source from this place on
abbrev pub lines_from : List ℕ → ℕ → List Line
lines_from source place = lines place (drop place source)

-- these lines stand in a source at their places, which rise from this one on
abbrev pub StandIn : List ℕ → ℕ → List Line → Type 0
StandIn source from [] = Unit {0}
StandIn source from (line ∷ rest) =
    (from ≤ line.place)
    × (slice_range source line.place (line.place + length line.text) ≡ line.text)
    × StandIn source (line.place + 1) rest
