-- Lines of inner nodes: five numbers with blanks between them.
use Rattle.std.specs.Prelude.{ℕ, Bool, true, false, is_some, List, [], ◌∷◌, map, filter, Option, None, Some}
use Rattle.std.specs.List.{slice_split}
use Rattle.text_lines.specs.Bytes.{is_blank}
use Rattle.text_lines.specs.Numbers.{number_of}
use Rattle.macrocell_reader.specs.declared.node.Node.{Node}
use Rattle.macrocell_reader.specs.declared.node.Node.TheVariants.{Inner}

-- the part is not empty
abbrev pub is_field : List ℕ → Bool
is_field [] = false
is_field (first ∷ rest) = true

-- the parts of a text between its blanks that are not empty
abbrev pub fields : List ℕ → List (List ℕ)
fields text = filter is_field (slice_split is_blank text)

-- the numbers that they write, where they are numbers
unfoldable pub numbers : List ℕ → List (Option ℕ)
numbers text = map number_of (fields text)

-- the level and the four quadrants, if these are all numbers
unfoldable pub inner_of : List (Option ℕ) → Option Node
inner_of (Some level ∷ Some nw ∷ Some ne ∷ Some sw ∷ Some se ∷ []) =
    Some (Inner level (nw ∷ ne ∷ sw ∷ se ∷ []))
inner_of _ = None

-- the first of these is a number
abbrev pub begins_with_number : List (Option ℕ) → Bool
begins_with_number [] = false
begins_with_number (first ∷ rest) = is_some first
