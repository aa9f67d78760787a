-- The bytes of a body that are significant, each with its place.
use Rattle.std.specs.Prelude.{ℕ, ◌+◌, ◌==◌, ◌||◌, not, Bool, if◌then◌else◌, List, [], ◌∷◌, ◌++◌, filter, drop, true, false}
use Rattle.std.specs.List.{flat_map, before_first, after_first, position_or_len}
use Rattle.std.specs.Str.{byte}
use Rattle.text_lines.specs.Bytes.{is_blank}
use Rattle.text_lines.specs.Lines.{Line, is_line_feed, lines, lines_from}
use Rattle.text_lines.specs.Comments.{is_comment}
use Rattle.rle_reader.specs.declared.body.LocatedByte.{LocatedByte}

-- the bytes of a text that begins at this place, each with its place
unfoldable pub located_bytes : ℕ → List ℕ → List LocatedByte
located_bytes place [] = []
located_bytes place (first ∷ rest) =
    record { place = place; byte = first } ∷ located_bytes (place + 1) rest

-- a blank, a CR or an LF
abbrev pub is_skipped : ℕ → Bool
is_skipped other = is_blank other || other == byte "\r" || other == byte "\n"

-- those that are not skipped
abbrev pub significant : List LocatedByte → List LocatedByte
significant all = filter (λ located. not (is_skipped located.byte)) all

-- the significant bytes of a line: none in a comment
unfoldable pub stripped_line : Line → List LocatedByte
stripped_line line =
    if is_comment line.text then [] else significant (located_bytes line.place line.text)

-- a body without its comments, blanks and line ends
abbrev pub stripped : List Line → List LocatedByte
stripped body = flat_map stripped_line body

-- ---- what is left of it at some place

-- what is significant of the rest of a line that has begun before this place, and of the lines
-- after it
unfoldable pub stripped_inside : ℕ → List ℕ → List LocatedByte
stripped_inside place rest =
    significant (located_bytes place (before_first is_line_feed rest))
    ++ stripped
    (lines (place + position_or_len is_line_feed rest + 1) (after_first is_line_feed rest))

-- what is significant of a source from this place on, at which a line begins or not
unfoldable pub stripped_from : List ℕ → ℕ → Bool → List LocatedByte
stripped_from source place true = stripped (lines_from source place)
stripped_from source place false = stripped_inside place (drop place source)
