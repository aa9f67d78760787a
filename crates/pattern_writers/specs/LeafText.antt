-- The text of a leaf: the rows of a square of 8 by 8 cells.
use Rattle.std.specs.Prelude.{ℕ, pos, Bool, true, false, not, if◌then◌else◌, List, [], ◌∷◌, ◌++◌, map, codes, zero, suc, ◌/◌, ◌%◌, ◌==◌}
use Rattle.std.specs.List.{flat_map}
use Rattle.std.specs.Str.{byte}
use Rattle.plane.specs.Plane.{Plane}

-- an element before the rest of its list, left out if it passes the test and nothing follows
abbrev pub onto_rest : {A : Type 0} → (A → Bool) → A → List A → List A
onto_rest test first [] = if test first then [] else (first ∷ [])
onto_rest test first (next ∷ rest) = first ∷ next ∷ rest

-- the list up to its last element that does not pass the test
unfoldable pub without_end : {A : Type 0} → (A → Bool) → List A → List A
without_end test [] = []
without_end test (first ∷ rest) = onto_rest test first (without_end test rest)

-- a live cell, or a dead one
abbrev pub cell_byte : Bool → ℕ
cell_byte live = if live then byte "*" else byte "."

-- the places of a row's cells, or of a leaf's rows
abbrev pub eight : List ℕ
eight = 0 ∷ 1 ∷ 2 ∷ 3 ∷ 4 ∷ 5 ∷ 6 ∷ 7 ∷ []

-- the cells of this row, up to the last live one
abbrev pub row_text : Plane → ℕ → List ℕ
row_text plane y = map cell_byte (without_end not (map (λ x. plane (pos x) (pos y)) eight))

-- the list has no element
abbrev pub is_nothing : {A : Type 0} → List A → Bool
is_nothing [] = true
is_nothing (first ∷ rest) = false

-- the rows up to the last with a live cell, each ended by `$`
abbrev pub leaf_text : Plane → List ℕ
leaf_text plane = flat_map (λ row. row ++ codes "$") (without_end is_nothing (map (row_text plane) eight))

-- so many of the lowest bits, from the lowest on
unfoldable pub low_bits : ℕ → ℕ → List Bool
low_bits zero row = []
low_bits (suc more) row = (row % 2 == 1) ∷ low_bits more (row / 2)

-- the cells of so many bits, up to the last live one
abbrev pub bits_text : ℕ → ℕ → List ℕ
bits_text count row = map cell_byte (without_end not (low_bits count row))
