-- The line of a leaf, read back.
use Rattle.std.proofs.Common.{◌≡◌, ℕ, zero, suc, ◌+◌, ◌*◌, ◌<◌, ◌≤◌, ℤ, pos, negsuc, Bool, true, false, not, cond, List, [], ◌∷◌, ◌++◌, length, map, flat_map, codes, get_or, Some, None, refl, sym, ◌∙◌, ap, subst, arith}
use Rattle.std.specs.Prelude.{◌==◌, ◌&&◌, ◌||◌, nat_le, unsigned_abs}
use Rattle.std.specs.Int.{bit_at}
use Rattle.std.specs.List.{AllByRecursion, list_all}
use Rattle.std.specs.Option.{option_map}
use Rattle.std.specs.Char.{is_ascii_digit}
use Rattle.std.proofs.lemmas.Bool.{false≢true}
use Rattle.std.proofs.lemmas.Bool.Decides.{nat_tests}
use Rattle.std.proofs.lemmas.Int.{ints}
use Rattle.std.proofs.lemmas.Nat.Bits.{bit_at-zero}
use Rattle.plane.specs.Plane.{Plane}
use Rattle.plane.specs.Square.{IsSame, IsSquare, bits_plane, empty, spans}
use Rattle.plane.proofs.Cuts.{and_left, and_right, cut_case}
use Rattle.plane.proofs.Same.{same_sym, same_trans}
use Rattle.plane.proofs.Elements.{AllByRecursion-append, AllByRecursion-weaker}
use Rattle.text_lines.specs.Bytes.{is_byte}
use Rattle.macrocell_reader.specs.Inner.{inner_of, numbers}
use Rattle.macrocell_reader.specs.Leaf.{are_rows, is_cell, is_live_at, is_row, leaf_bits, leaf_of, rows_of, bits_of}
use Rattle.macrocell_reader.specs.Nodes.{begins_leaf, node_of}
use Rattle.macrocell_reader.specs.declared.node.Node.TheVariants.{Leaf}
use Rattle.macrocell_reader.proofs.LeafBits.{leaf_bit}
use Rattle.pattern_writers.specs.LeafText.{cell_byte, eight, is_nothing, leaf_text, onto_rest, row_text, without_end}
use Rattle.pattern_writers.proofs.Subsquares.{nothing_is}
use Rattle.pattern_writers.proofs.TextLines.{IsMark, ended_parts-all, ends_with_marks}

-- the rows that are written
abbrev pub rows_written : Plane → List (List ℕ)
rows_written plane = without_end is_nothing (map (row_text plane) eight)

-- ---- what is left without the end

shorter_onto : {A : Type 0} (test : A → Bool) (first : A) (rest : List A) (n : ℕ) → length rest ≤ n → length (onto_rest test first rest) ≤ suc n
shorter_onto test first [] n short = elim (test first) as (λ t. length (cond t [] (first ∷ [])) ≤ suc n) [ true ↦ omega arith | false ↦ omega arith ]
shorter_onto test first (next ∷ rest) n short = omega (arith, short)

shorter : {A : Type 0} (test : A → Bool) (all : List A) → length (without_end test all) ≤ length all
unfolding without_end
shorter test [] = omega arith
shorter test (first ∷ rest) = shorter_onto test first (without_end test rest) (length rest) (shorter test rest)

all_onto : {A : Type 0} (P : A → Type 0) (test : A → Bool) (first : A) (rest : List A) → P first → AllByRecursion P rest → AllByRecursion P (onto_rest test first rest)
all_onto P test first [] here all = elim (test first) as (λ t. AllByRecursion P (cond t [] (first ∷ []))) [ true ↦ tt | false ↦ (here, tt) ]
all_onto P test first (next ∷ rest) here all = (here, all)

all_left : {A : Type 0} (P : A → Type 0) (test : A → Bool) (all : List A) → AllByRecursion P all → AllByRecursion P (without_end test all)
unfolding without_end
all_left P test [] is = tt
all_left P test (first ∷ rest) is = all_onto P test first (without_end test rest) is.0 (all_left P test rest is.1)

same_onto : {A : Type 0} (test : A → Bool) (first : A) (rest : List A) (n : ℕ) (d : A) → (test first ≡ true → first ≡ d) → get_or (onto_rest test first rest) n d ≡ get_or (first ∷ rest) n d
same_onto test first [] zero d blank =
    elim (test first) as (λ t. (t ≡ true → first ≡ d) → get_or (cond t [] (first ∷ [])) 0 d ≡ first) [
      | true ↦ λ is. sym (is refl)
      | false ↦ λ _. refl
    ] blank
same_onto test first [] (suc n) d blank = elim (test first) as (λ t. get_or (cond t [] (first ∷ [])) (suc n) d ≡ d) [ true ↦ refl | false ↦ refl ]
same_onto test first (next ∷ rest) n d blank = refl

-- what is left out is the default
same_at : {A : Type 0} (test : A → Bool) (all : List A) (n : ℕ) (d : A) → ((x : A) → test x ≡ true → x ≡ d) → get_or (without_end test all) n d ≡ get_or all n d
unfolding without_end
same_at test [] n d blank = refl
same_at test (first ∷ rest) zero d blank = same_onto test first (without_end test rest) zero d (blank first)
same_at test (first ∷ rest) (suc n) d blank = same_onto test first (without_end test rest) (suc n) d (blank first) ∙ same_at test rest n d blank

-- ---- rows

-- the bytes of a row are those of cells
abbrev IsCellByte : ℕ → Type 0
IsCellByte b = (is_cell b ≡ true) × (is_byte 36 b ≡ false) × IsMark b

cell_byte_is : (live : Bool) → IsCellByte (cell_byte live)
cell_byte_is true = (refl, refl, omega arith)
cell_byte_is false = (refl, refl, omega arith)

bytes_are : (cells : List Bool) → AllByRecursion IsCellByte (map cell_byte cells)
bytes_are [] = tt
bytes_are (cell ∷ cells) = (cell_byte_is cell, bytes_are cells)

length_map : (cells : List Bool) → length (map cell_byte cells) ≡ length cells
length_map [] = refl
length_map (cell ∷ cells) = ap suc (length_map cells)

-- the bytes of a row, of which there are at most 8
abbrev IsRow : List ℕ → Type 0
IsRow row = (length row ≤ 8) × AllByRecursion IsCellByte row

row_is : (plane : Plane) (y : ℕ) → IsRow (row_text plane y)
row_is plane y =
    let cells : List Bool = map (λ x. plane (pos x) (pos y)) eight in
    let short = shorter not cells in
    let same = length_map (without_end not cells) in
    (omega (arith, short, same), bytes_are (without_end not cells))

rows_are : (plane : Plane) → AllByRecursion IsRow (rows_written plane)
rows_are plane =
    all_left IsRow is_nothing (map (row_text plane) eight)
    (row_is plane 0, (row_is plane 1, (row_is plane 2, (row_is plane 3, (row_is plane 4, (row_is plane 5, (row_is plane 6, (row_is plane 7, tt))))))))

all_map : {A : Type 0} (P Q : A → Type 0) → ((x : A) → P x → Q x) → (all : List A) → AllByRecursion P all → AllByRecursion Q all
all_map P Q weaker [] is = tt
all_map P Q weaker (x ∷ all) is = (weaker x is.0, all_map P Q weaker all is.1)

-- the rows of the text are those that were written
rows_read : (plane : Plane) → rows_of (leaf_text plane) ≡ rows_written plane
rows_read plane =
    ended_parts-all (is_byte 36) 36 (rows_written plane) refl
    (all_map IsRow (AllByRecursion (λ b. is_byte 36 b ≡ false)) (λ row is. AllByRecursion-weaker IsCellByte (λ b. is_byte 36 b ≡ false) (λ b cell. cell.1) row is.1) (rows_written plane) (rows_are plane))

all_cells : (row : List ℕ) → AllByRecursion IsCellByte row → list_all is_cell row ≡ true
all_cells [] is = refl
all_cells (b ∷ row) is = ap (λ t. t && list_all is_cell row) is.0.0 ∙ all_cells row is.1

at_most : (n : ℕ) → n ≤ 8 → nat_le n 8 ≡ true
at_most n low = grind (arith, nat_tests)

row_passes : (row : List ℕ) → IsRow row → is_row row ≡ true
row_passes row is = ap (λ t. t && list_all is_cell row) (at_most (length row) is.0) ∙ all_cells row is.1

all_rows : (rows : List (List ℕ)) → AllByRecursion IsRow rows → list_all is_row rows ≡ true
all_rows [] is = refl
all_rows (row ∷ rows) is = ap (λ t. t && list_all is_row rows) (row_passes row is.0) ∙ all_rows rows is.1

rows_pass : (plane : Plane) → are_rows (rows_written plane) ≡ true
rows_pass plane =
    let short = shorter is_nothing (map (row_text plane) eight) in
    ap (λ t. t && list_all is_row (rows_written plane)) (at_most (length (rows_written plane)) (omega (arith, short))) ∙ all_rows (rows_written plane) (rows_are plane)

all_flat : (rows : List (List ℕ)) → AllByRecursion IsRow rows → AllByRecursion IsMark (flat_map (λ row. row ++ codes "$") rows)
all_flat [] is = tt
all_flat (row ∷ rows) is =
    AllByRecursion-append IsMark (row ++ codes "$") _ (AllByRecursion-append IsMark row (codes "$") (AllByRecursion-weaker IsCellByte IsMark (λ b cell. cell.2) row is.0.1) (omega arith, tt)) (all_flat rows is.1)

-- no byte of the text is a blank
pub leaf_marks : (plane : Plane) → AllByRecursion IsMark (leaf_text plane)
leaf_marks plane = all_flat (rows_written plane) (rows_are plane)

leaf_word : (plane : Plane) → leaf_of (leaf_text plane) ≡ Some (leaf_bits (rows_written plane))
unfolding leaf_of bits_of
leaf_word plane =
    ap bits_of (ends_with_marks (leaf_text plane) (leaf_marks plane))
    ∙ ap (λ rows. cond (are_rows rows) (Some (leaf_bits rows)) None) (rows_read plane)
    ∙ ap (λ t. cond t (Some (leaf_bits (rows_written plane))) None) (rows_pass plane)

-- ---- cells

at_cell : (cells : List Bool) (x : ℕ) → (get_or (map cell_byte cells) x 0 == 42) ≡ get_or cells x false
at_cell [] x = refl
at_cell (true ∷ cells) zero = refl
at_cell (false ∷ cells) zero = refl
at_cell (cell ∷ cells) (suc x) = at_cell cells x

not_live : (cell : Bool) → not cell ≡ true → cell ≡ false
not_live true is = sym is
not_live false is = refl

cell_at : (plane : Plane) (x y : ℕ) → x < 8 → get_or (map (λ x. plane (pos x) (pos y)) eight) x false ≡ plane (pos x) (pos y)
cell_at plane zero y low = refl
cell_at plane (suc zero) y low = refl
cell_at plane (suc (suc zero)) y low = refl
cell_at plane (suc (suc (suc zero))) y low = refl
cell_at plane (suc (suc (suc (suc zero)))) y low = refl
cell_at plane (suc (suc (suc (suc (suc zero))))) y low = refl
cell_at plane (suc (suc (suc (suc (suc (suc zero)))))) y low = refl
cell_at plane (suc (suc (suc (suc (suc (suc (suc zero))))))) y low = refl
cell_at plane (suc (suc (suc (suc (suc (suc (suc (suc x)))))))) y low = absurd (omega (arith, low))

row_at : (plane : Plane) (y : ℕ) → y < 8 → get_or (map (row_text plane) eight) y [] ≡ row_text plane y
row_at plane zero low = refl
row_at plane (suc zero) low = refl
row_at plane (suc (suc zero)) low = refl
row_at plane (suc (suc (suc zero))) low = refl
row_at plane (suc (suc (suc (suc zero)))) low = refl
row_at plane (suc (suc (suc (suc (suc zero))))) low = refl
row_at plane (suc (suc (suc (suc (suc (suc zero)))))) low = refl
row_at plane (suc (suc (suc (suc (suc (suc (suc zero))))))) low = refl
row_at plane (suc (suc (suc (suc (suc (suc (suc (suc y)))))))) low = absurd (omega (arith, low))

-- a cell of the rows is the cell of the plane
live_read : (plane : Plane) (x y : ℕ) → x < 8 → y < 8 → is_live_at (rows_written plane) x y ≡ plane (pos x) (pos y)
live_read plane x y low_x low_y =
    ap (λ row. get_or row x 0 == 42) (same_at is_nothing (map (row_text plane) eight) y [] nothing_is ∙ row_at plane y low_y)
    ∙ at_cell (without_end not (map (λ u. plane (pos u) (pos y)) eight)) x
    ∙ same_at not (map (λ u. plane (pos u) (pos y)) eight) x false not_live
    ∙ cell_at plane x y low_x

read_bit : (plane : Plane) (x y : ℕ) → x < 8 → y < 8 → (bit_at (leaf_bits (rows_written plane)) (8 * y + x) == 1) ≡ plane (pos x) (pos y)
read_bit plane x y low_x low_y =
    leaf_bit (leaf_text plane) (leaf_bits (rows_written plane)) (leaf_word plane) x y low_x
    ∙ ap (λ rows. is_live_at rows x y) (ap rows_of (ends_with_marks (leaf_text plane) (leaf_marks plane)) ∙ rows_read plane)
    ∙ live_read plane x y low_x low_y

in_span : (n : ℕ) → n < 8 → spans 8 (pos n) ≡ true
in_span n low = grind (arith, ints)

below_span : (n : ℕ) → spans 8 (pos n) ≡ true → n < 8
below_span n is = grind (arith, ints)

cell_same : (plane : Plane) → (x y : ℤ) → (spans 8 x && spans 8 y) ≡ true → (bit_at (leaf_bits (rows_written plane)) (8 * unsigned_abs y + unsigned_abs x) == 1) ≡ plane x y
cell_same plane (pos x) (pos y) inside = read_bit plane x y (below_span x (and_left _ _ inside)) (below_span y (and_right _ _ inside))
cell_same plane (pos x) (negsuc y) inside = absurd (false≢true (and_right (spans 8 (pos x)) false inside))
cell_same plane (negsuc x) y inside = absurd (false≢true (and_left false (spans 8 y) inside))

-- the leaf that is read has the plane's cells
pub leaf_cells_read : (plane : Plane) → IsSquare 8 plane → IsSame (bits_plane (leaf_bits (rows_written plane))) plane
leaf_cells_read plane is = record {
  same = λ x y. sym (cut_case (spans 8 x && spans 8 y) (plane x y) (bit_at (leaf_bits (rows_written plane)) (8 * unsigned_abs y + unsigned_abs x) == 1) (is.dead x y) (λ inside. sym (cell_same plane x y inside)));
}

-- ---- the line

leaf_from : (text : List ℕ) (word : ℕ) → leaf_of text ≡ Some word → (first : ℕ) (rest : List ℕ) → text ≡ first ∷ rest → begins_leaf first ≡ true → node_of text ≡ Some (Leaf word)
unfolding node_of
leaf_from text word is first rest same begins =
    ap node_of same ∙ ap (λ t. cond t (option_map (λ bits. Leaf bits) (leaf_of (first ∷ rest))) (cond (is_ascii_digit first) (inner_of (numbers (first ∷ rest))) None)) begins
    ∙ ap (option_map (λ bits. Leaf bits)) (ap leaf_of (sym same) ∙ is)

first_of_row : (row rest : List ℕ) → IsRow row → (first : ℕ) × (others : List ℕ) × ((row ++ codes "$") ++ rest ≡ first ∷ others) × (begins_leaf first ≡ true)
first_of_row [] rest is = (36, rest, refl, refl)
first_of_row (b ∷ row) rest is = (b, (row ++ codes "$") ++ rest, refl, ap (λ t. t || (b == 36)) is.1.0.0)

first_of_rows : (rows : List (List ℕ)) → AllByRecursion IsRow rows → (rows ≡ [] → ⊥) → (first : ℕ) × (others : List ℕ) × (flat_map (λ row. row ++ codes "$") rows ≡ first ∷ others) × (begins_leaf first ≡ true)
first_of_rows [] is some = absurd (some refl)
first_of_rows (row ∷ rows) is some = first_of_row row (flat_map (λ r. r ++ codes "$") rows) is.0

-- without rows the plane is empty
no_rows_empty : (plane : Plane) → IsSquare 8 plane → rows_written plane ≡ [] → IsSame plane empty
unfolding leaf_bits
no_rows_empty plane is none = same_trans (same_sym (leaf_cells_read plane is)) (subst (λ rows. IsSame (bits_plane (leaf_bits rows)) empty) (sym none) (record { same = λ x y. no_bit (spans 8 x && spans 8 y) (8 * unsigned_abs y + unsigned_abs x) }))
  where
    no_bit : (inside : Bool) (place : ℕ) → (inside && (bit_at 0 place == 1)) ≡ false
    no_bit true place = ap (λ b. b == 1) (bit_at-zero place)
    no_bit false place = refl

-- the line of a leaf that is not empty is read as that leaf
pub leaf_read : (plane : Plane) → IsSquare 8 plane → (IsSame plane empty → ⊥) → node_of (leaf_text plane) ≡ Some (Leaf (leaf_bits (rows_written plane)))
leaf_read plane is some =
    let first = first_of_rows (rows_written plane) (rows_are plane) (λ none. some (no_rows_empty plane is none)) in
    leaf_from (leaf_text plane) (leaf_bits (rows_written plane)) (leaf_word plane) first.0 first.1 first.2 first.3
