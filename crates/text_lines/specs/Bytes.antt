-- Bytes, and texts without what stands at their ends.
use Rattle.std.specs.Prelude.{ℕ, Bool, ◌==◌, if◌then◌else◌, List, [], ◌∷◌, reverse, take, drop, length, ◌-◌}
use Rattle.std.specs.List.{onto_first}
use Rattle.std.specs.Str.{bytes_eq}
pub use Rattle.rule_text.specs.RuleText.{is_blank}
unfoldable pub use Rattle.rule_text.specs.RuleText.{trimmed_start}

-- the test that a byte is this one
abbrev pub is_byte : ℕ → ℕ → Bool
is_byte wanted other = other == wanted

-- the text begins with these bytes
abbrev pub begins_with : List ℕ → List ℕ → Bool
begins_with front text = bytes_eq (take (length front) text) front

-- the text ends with these bytes
abbrev pub ends_with : List ℕ → List ℕ → Bool
ends_with back text = bytes_eq (drop (length text - length back) text) back

-- the text up to its last byte that is not a blank
unfoldable pub trimmed_end : List ℕ → List ℕ
trimmed_end text = reverse (trimmed_start (reverse text))

-- the text without the blanks at its ends
abbrev pub trimmed : List ℕ → List ℕ
trimmed text = trimmed_end (trimmed_start text)

-- the parts of a text that each end with a byte that passes the test, which the last one may lack;
-- without these ends
unfoldable pub ended_parts : (ℕ → Bool) → List ℕ → List (List ℕ)
ended_parts test [] = []
ended_parts test (first ∷ rest) =
    if test first then [] ∷ ended_parts test rest else onto_first first (ended_parts test rest)
