-- Blank lines and comments.
use Rattle.std.specs.Prelude.{ℕ, ◌==◌, Bool, false, not, ◌&&◌, ◌||◌, List, [], ◌∷◌, map, filter, codes}
use Rattle.std.specs.List.{list_all}
use Rattle.std.specs.Str.{byte}
use Rattle.text_lines.specs.Bytes.{begins_with, is_blank}
use Rattle.text_lines.specs.Lines.{Line}

-- the line is empty or has nothing but blanks
abbrev pub is_blank_line : List ℕ → Bool
is_blank_line line = list_all is_blank line

-- the first byte is `#`
abbrev pub is_comment : List ℕ → Bool
is_comment [] = false
is_comment (first ∷ rest) = first == byte "#"

-- the first six bytes are `#CXRLE`
abbrev pub is_settings_line : List ℕ → Bool
is_settings_line line = begins_with (codes "#CXRLE") line

-- the line begins with `#C`, `#D`, `#N` or `#O`, and not with `#CXRLE`
unfoldable pub is_kept : List ℕ → Bool
is_kept line =
    not (is_settings_line line)
    && (begins_with (codes "#C") line || begins_with (codes "#D") line
    || begins_with (codes "#N") line || begins_with (codes "#O") line)

-- the kept comments among these lines
abbrev pub comments_of : List Line → List (List ℕ)
comments_of all = filter is_kept (map (λ line. line.text) all)
