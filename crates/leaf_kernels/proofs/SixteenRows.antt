-- Sixteen rows of sixteen cells: as leaves, and in the middle of sixty-four rows.
use Rattle.std.proofs.Common.{◌≡◌, ℕ, zero, suc, ◌+◌, ◌-◌, ◌*◌, ◌/◌, ◌%◌, ◌^◌, ◌<◌, ◌≤◌, ℤ, pos, ◌+ℤ◌, ◌-ℤ◌, ◌≤ℤ◌, ◌<ℤ◌, Bool, true, false, List, [], ◌∷◌, length, get_or, replicate, refl, sym, ◌∙◌, ap, arith, bit_and, Fits, w16, w64, inl, inr}
use Rattle.std.specs.Prelude.{◌&&◌, unsigned_abs}
use Rattle.std.proofs.lemmas.Bool.{cases_lt}
use Rattle.std.proofs.lemmas.Int.{ints}
use lib.Lanes.{zip2, Each1}
use Rattle.rule_text.specs.CountRule.{CountRule}
use Rattle.plane.specs.Laws.{moved}
use Rattle.plane.specs.Plane.{Plane, after, next}
use Rattle.plane.specs.Square.{IsSame, IsSquare, bit, bits_plane, cut, spans}
use Rattle.plane.proofs.Cones.{next_same, translation_lem}
use Rattle.plane.proofs.Cuts.{and_case, and_left, and_right}
use Rattle.leaf_kernels.specs.Inside.{AgreeInside, IsInner}
use Rattle.plane.specs.Leaves.{leaves_plane}
use Rattle.leaf_kernels.specs.Rows.{row_at, rows_plane, sixteen_rows_plane}
use Rattle.leaf_kernels.specs.Words.{AreTransposed}
use Rattle.plane.proofs.WordBits.{bit-and, bit-none, bit-ones, bit-shl, bit-shl_below, bit-shr}
use Rattle.plane.proofs.WordBytes.{each_of_eight}
use Rattle.plane.proofs.SquareCells.{same_cells}
use Rattle.leaf_kernels.proofs.Lanes.{cell_in}
use Rattle.leaf_kernels.proofs.Moves.{cell_in_row, with_each}
use Rattle.plane.proofs.LeafCells.{in_square}
use Rattle.leaf_kernels.proofs.Squares.{AreLeaves, four_cells, leaves_square, row_cell, row_in}

-- the first sixteen bits of a word
pub first_bits : (word column : ℕ) → column < 16 → bit (bit_and word 65535) column ≡ bit word column
first_bits word column h = bit-and word 65535 column ∙ ap (λ t. bit word column && t) (bit-ones w16 column h) ∙ and_all (bit word column)
  where
    and_all : (b : Bool) → (b && true) ≡ b
    and_all true = refl
    and_all false = refl

-- the rows show the cells that the plane has in their columns and rows, so far to the right and
-- down
rows_cut : (rows : List ℕ) (by : ℕ) (plane : Plane) → ((i j : ℕ) → i < 16 → j < 16 → bit (get_or rows j 0) i ≡ plane (pos (by + i)) (pos (by + j))) →
    IsSame (sixteen_rows_plane rows) (cut 16 by by plane)
rows_cut rows by plane cells = record {
  same = λ x y. same_cells 16 16 (λ u v. bit (get_or rows (unsigned_abs v) 0) (unsigned_abs u)) (λ u v. plane (u +ℤ pos by) (v +ℤ pos by))
      (λ i j h k. cells i j h k ∙ ap (λ u. plane u (pos (by + j))) (on by i) ∙ ap (plane (pos i +ℤ pos by)) (on by j)) x y;
}
  where
    on : (by i : ℕ) → pos (by + i) ≡ pos i +ℤ pos by
    on by i = omega (arith, ints)

-- Four leaves as rows: the upper two beside each other, and the lower two.
module _ (leaves rows both upper lower : List ℕ)
    (is_upper : AreTransposed (get_or leaves 0 0 ∷ get_or leaves 1 0 ∷ 0 ∷ 0 ∷ 0 ∷ 0 ∷ 0 ∷ 0 ∷ []) upper)
    (is_lower : AreTransposed (get_or leaves 2 0 ∷ get_or leaves 3 0 ∷ 0 ∷ 0 ∷ 0 ∷ 0 ∷ 0 ∷ 0 ∷ []) lower)
    (in_upper : (row : ℕ) → row < 8 → get_or both row 0 ≡ get_or upper row 0)
    (in_lower : (row : ℕ) → row < 8 → get_or both (8 + row) 0 ≡ get_or lower row 0)
    (is_first : (column row : ℕ) → column < 16 → row < 16 → bit (get_or rows row 0) column ≡ bit (get_or both row 0) column) where
  upper_cell : (column place row j : ℕ) → column < 2 → place < 8 → row < 8 → j ≡ row →
      bit (get_or rows j 0) (8 * column + place) ≡ bit (get_or (get_or leaves 0 0 ∷ get_or leaves 1 0 ∷ 0 ∷ 0 ∷ 0 ∷ 0 ∷ 0 ∷ 0 ∷ []) column 0) (8 * row + place)
  upper_cell column place row j g h k e =
      ap (λ n. bit (get_or rows n 0) (8 * column + place)) e ∙ is_first (8 * column + place) row (omega arith) (omega arith)
      ∙ ap (λ n. bit n (8 * column + place)) (in_upper row k) ∙ is_upper column place row (omega arith) h k

  lower_cell : (column place row j : ℕ) → column < 2 → place < 8 → row < 8 → j ≡ 8 + row →
      bit (get_or rows j 0) (8 * column + place) ≡ bit (get_or (get_or leaves 2 0 ∷ get_or leaves 3 0 ∷ 0 ∷ 0 ∷ 0 ∷ 0 ∷ 0 ∷ 0 ∷ []) column 0) (8 * row + place)
  lower_cell column place row j g h k e =
      ap (λ n. bit (get_or rows n 0) (8 * column + place)) e ∙ is_first (8 * column + place) (8 + row) (omega arith) (omega arith)
      ∙ ap (λ n. bit n (8 * column + place)) (in_lower row k) ∙ is_lower column place row (omega arith) h k

  four_leaves : AreLeaves 2 leaves (λ i j. bit (get_or rows j 0) i)
  four_leaves zero zero place row f g h k = upper_cell 0 place row _ g h k (omega arith)
  four_leaves zero (suc zero) place row f g h k = upper_cell 1 place row _ g h k (omega arith)
  four_leaves (suc zero) zero place row f g h k = lower_cell 0 place row _ g h k (omega arith)
  four_leaves (suc zero) (suc zero) place row f g h k = lower_cell 1 place row _ g h k (omega arith)
  four_leaves zero (suc (suc column)) place row f g h k = absurd (omega arith)
  four_leaves (suc zero) (suc (suc column)) place row f g h k = absurd (omega arith)
  four_leaves (suc (suc four)) column place row f g h k = absurd (omega arith)

  pub leaves_as_rows : IsSame (sixteen_rows_plane rows) (leaves_plane leaves)
  leaves_as_rows = record {
    same = λ x y.
        same_cells 16 16 (λ u v. bit (get_or rows (unsigned_abs v) 0) (unsigned_abs u)) (leaves_plane leaves) (four_cells leaves (λ i j. bit (get_or rows j 0) i) four_leaves) x y
        ∙ in_square 16 (leaves_plane leaves) (leaves_square leaves) x y;
  }

abbrev shr : ℕ → ℕ → ℕ
shr a b = a / 2 ^ b

abbrev shl : ℕ → ℕ → ℕ
shl a b = a * 2 ^ b % 2 ^ 64

-- The 8 by 8 cells in the middle of rows, as a leaf.
module _ (rows words leaves : List ℕ) (long : length words ≡ 16)
    (are_words : (row : ℕ) → row < 16 → get_or words row 0 ≡ get_or rows row 0)
    (is_leaves : AreTransposed (get_or (zip2 shr words (replicate 16 4)) 4 0 ∷ get_or (zip2 shr words (replicate 16 4)) 5 0 ∷ get_or (zip2 shr words (replicate 16 4)) 6 0 ∷ get_or (zip2 shr words (replicate 16 4)) 7 0
    ∷ get_or (zip2 shr words (replicate 16 4)) 8 0 ∷ get_or (zip2 shr words (replicate 16 4)) 9 0 ∷ get_or (zip2 shr words (replicate 16 4)) 10 0 ∷ get_or (zip2 shr words (replicate 16 4)) 11 0 ∷ []) leaves) where
  abbrev shifted : List ℕ
  shifted = zip2 shr words (replicate 16 4)

  abbrev eight : List ℕ
  eight = get_or shifted 4 0 ∷ get_or shifted 5 0 ∷ get_or shifted 6 0 ∷ get_or shifted 7 0 ∷ get_or shifted 8 0 ∷ get_or shifted 9 0 ∷ get_or shifted 10 0 ∷ get_or shifted 11 0 ∷ []

  middle_cell : (i j : ℕ) → i < 8 → j < 8 → bit (get_or leaves 0 0) (8 * j + i) ≡ sixteen_rows_plane rows (pos i +ℤ pos 4) (pos j +ℤ pos 4)
  middle_cell i j h k =
      is_leaves j i 0 k h (omega arith)
      ∙ ap (λ n. bit n (0 + i)) (each_of_eight (λ n. get_or eight n 0) (λ n. get_or shifted (4 + n) 0) refl refl refl refl refl refl refl refl j k)
      ∙ ap (λ n. bit n (0 + i)) (with_each w64 16 shr words 4 (4 + j) long (omega arith) ∙ ap (λ n. shr n 4) (are_words (4 + j) (omega arith)))
      ∙ bit-shr (get_or rows (4 + j) 0) 4 (0 + i) ∙ ap (bit (get_or rows (4 + j) 0)) (column i)
      ∙ sym (cell_in w16 16 rows (4 + i) (4 + j) (omega arith) (omega arith))
      ∙ ap (λ u. sixteen_rows_plane rows u (pos (4 + j))) (on i) ∙ ap (sixteen_rows_plane rows (pos i +ℤ pos 4)) (on j)
    where
      column : (i : ℕ) → 4 + (0 + i) ≡ 4 + i
      column i = omega arith

      on : (i : ℕ) → pos (4 + i) ≡ pos i +ℤ pos 4
      on i = omega (arith, ints)

  pub centre_as_leaf : IsSame (bits_plane (get_or leaves 0 0)) (cut 8 4 4 (sixteen_rows_plane rows))
  centre_as_leaf = record {
    same = same_cells 8 8 (λ u v. bit (get_or leaves 0 0) (8 * unsigned_abs v + unsigned_abs u)) (λ u v. sixteen_rows_plane rows (u +ℤ pos 4) (v +ℤ pos 4)) middle_cell;
  }

-- The sixteen rows in the middle of sixty-four.
module _ (vectors : List (List ℕ)) (both rows : List ℕ) (long : length both ≡ 16)
    (is_upper : (row : ℕ) → row < 8 → get_or both row 0 ≡ get_or (get_or vectors (8 + row) []) 1 0)
    (is_lower : (row : ℕ) → row < 8 → get_or both (8 + row) 0 ≡ get_or (get_or vectors row []) 2 0)
    (is_first : (column row : ℕ) → column < 16 → row < 16 → bit (get_or rows row 0) column ≡ bit (get_or (zip2 shr both (replicate 16 24)) row 0) column) where
  middle_row : (j : ℕ) → j < 16 → get_or both j 0 ≡ row_at vectors (24 + j)
  middle_row j h = elim (cases_lt j 8) [
    | inl l ↦ is_upper j l ∙ sym (row_in vectors (24 + j) (8 + j) 1 (omega arith) (omega arith))
    | inr g ↦
        ap (λ n. get_or both n 0) (back j g) ∙ is_lower (j - 8) (omega arith) ∙ sym (row_in vectors (24 + j) (j - 8) 2 (omega arith) (omega arith))
  ]
    where
      back : (j : ℕ) → 8 ≤ j → j ≡ 8 + (j - 8)
      back j g = omega arith

  pub middle_of_sixty_four : IsSame (sixteen_rows_plane rows) (cut 16 24 24 (rows_plane vectors))
  middle_of_sixty_four = rows_cut rows 24 (rows_plane vectors) (λ i j h k.
      is_first i j h k ∙ ap (λ n. bit n i) (with_each w64 16 shr both 24 j long k) ∙ bit-shr (get_or both j 0) 24 i
      ∙ ap (λ n. bit n (24 + i)) (middle_row j k) ∙ sym (row_cell vectors (24 + i) (24 + j) (omega arith) (omega arith)))

before : (i : ℕ) → i < 24 → spans 16 (pos i -ℤ pos 24) ≡ false
before i h = grind (arith, ints)

behind : (i : ℕ) → 40 ≤ i → spans 16 (pos i -ℤ pos 24) ≡ false
behind i h = grind (arith, ints)

back_to : (i : ℕ) → pos (24 + i) -ℤ pos 24 ≡ pos i
back_to i = omega (arith, ints)

none_in_column : (a b p : Bool) → a ≡ false → false ≡ ((a && b) && p)
none_in_column a b p e = sym (ap (λ t. (t && b) && p) e)

none_in_row : (a b p : Bool) → b ≡ false → false ≡ ((a && b) && p)
none_in_row true b p e = sym (ap (λ t. t && p) e)
none_in_row false b p e = refl

-- Sixteen rows with dead cells round them.
module _ (rows words : List ℕ) (long_rows : length rows ≡ 16) (fits : Each1 (Fits w16) rows) (long : length words ≡ 16)
    (are_words : (row : ℕ) → row < 16 → get_or words row 0 ≡ get_or rows row 0) where
  abbrev word : ℕ → ℕ
  word n = get_or (zip2 shl words (replicate 16 24)) n 0

  abbrev pub around : List (List ℕ)
  around = (0 ∷ 0 ∷ word 8 ∷ 0 ∷ []) ∷ (0 ∷ 0 ∷ word 9 ∷ 0 ∷ []) ∷ (0 ∷ 0 ∷ word 10 ∷ 0 ∷ []) ∷ (0 ∷ 0 ∷ word 11 ∷ 0 ∷ [])
      ∷ (0 ∷ 0 ∷ word 12 ∷ 0 ∷ []) ∷ (0 ∷ 0 ∷ word 13 ∷ 0 ∷ []) ∷ (0 ∷ 0 ∷ word 14 ∷ 0 ∷ []) ∷ (0 ∷ 0 ∷ word 15 ∷ 0 ∷ [])
      ∷ (0 ∷ word 0 ∷ 0 ∷ 0 ∷ []) ∷ (0 ∷ word 1 ∷ 0 ∷ 0 ∷ []) ∷ (0 ∷ word 2 ∷ 0 ∷ 0 ∷ []) ∷ (0 ∷ word 3 ∷ 0 ∷ 0 ∷ [])
      ∷ (0 ∷ word 4 ∷ 0 ∷ 0 ∷ []) ∷ (0 ∷ word 5 ∷ 0 ∷ 0 ∷ []) ∷ (0 ∷ word 6 ∷ 0 ∷ 0 ∷ []) ∷ (0 ∷ word 7 ∷ 0 ∷ 0 ∷ []) ∷ []

  -- which rows are dead: those of the first and the last lane, and half of those of the others
  dead_low : (lane place : ℕ) → lane < 2 → place < 8 → get_or (get_or around place []) lane 0 ≡ 0
  dead_low zero place h k = each_of_eight (λ n. get_or (get_or around n []) 0 0) (λ _. 0) refl refl refl refl refl refl refl refl place k
  dead_low (suc zero) place h k = each_of_eight (λ n. get_or (get_or around n []) 1 0) (λ _. 0) refl refl refl refl refl refl refl refl place k
  dead_low (suc (suc lane)) place h k = absurd (omega arith)

  dead_first : (place : ℕ) → place < 8 → get_or (get_or around (8 + place) []) 0 0 ≡ 0
  dead_first place k = each_of_eight (λ n. get_or (get_or around (8 + n) []) 0 0) (λ _. 0) refl refl refl refl refl refl refl refl place k

  dead_high : (lane place : ℕ) → lane < 2 → place < 8 → get_or (get_or around (8 + place) []) (2 + lane) 0 ≡ 0
  dead_high zero place h k = each_of_eight (λ n. get_or (get_or around (8 + n) []) 2 0) (λ _. 0) refl refl refl refl refl refl refl refl place k
  dead_high (suc zero) place h k = each_of_eight (λ n. get_or (get_or around (8 + n) []) 3 0) (λ _. 0) refl refl refl refl refl refl refl refl place k
  dead_high (suc (suc lane)) place h k = absurd (omega arith)

  dead_last : (place : ℕ) → place < 8 → get_or (get_or around place []) 3 0 ≡ 0
  dead_last place k = each_of_eight (λ n. get_or (get_or around n []) 3 0) (λ _. 0) refl refl refl refl refl refl refl refl place k

  above_dead : (j : ℕ) → j < 24 → row_at around j ≡ 0
  above_dead j h = elim (cases_lt j 8) [
    | inl l ↦ row_in around j j 0 (omega arith) (omega arith) ∙ dead_low 0 j (omega arith) l
    | inr g ↦ elim (cases_lt j 16) [
      | inl l ↦
          row_in around j (8 + (j - 8)) 0 (omega arith) (omega arith) ∙ dead_first (j - 8) (omega arith)
      | inr m ↦ row_in around j (j - 16) 1 (omega arith) (omega arith) ∙ dead_low 1 (j - 16) (omega arith) (omega arith)
    ]
  ]

  below_dead : (j : ℕ) → 40 ≤ j → j < 64 → row_at around j ≡ 0
  below_dead j h room = elim (cases_lt j 48) [
    | inl l ↦ row_in around j (8 + (j - 40)) 2 (omega arith) (omega arith) ∙ dead_high 0 (j - 40) (omega arith) (omega arith)
    | inr g ↦ elim (cases_lt j 56) [
      | inl l ↦ row_in around j (j - 48) 3 (omega arith) (omega arith) ∙ dead_last (j - 48) (omega arith)
      | inr m ↦ row_in around j (8 + (j - 56)) 3 (omega arith) (omega arith) ∙ dead_high 1 (j - 56) (omega arith) (omega arith)
    ]
  ]

  row_within : (j : ℕ) → j < 16 → row_at around (24 + j) ≡ shl (get_or rows j 0) 24
  row_within j h = elim (cases_lt j 8) [
    | inl l ↦
        row_in around (24 + j) (8 + j) 1 (omega arith) (omega arith)
        ∙ each_of_eight (λ n. get_or (get_or around (8 + n) []) 1 0) word refl refl refl refl refl refl refl refl j l ∙ of_row j h
    | inr g ↦
        row_in around (24 + j) (j - 8) 2 (omega arith) (omega arith)
        ∙ each_of_eight (λ n. get_or (get_or around n []) 2 0) (λ n. word (8 + n)) refl refl refl refl refl refl refl refl (j - 8) (omega arith)
        ∙ ap word (back j g) ∙ of_row j h
  ]
    where
      of_row : (j : ℕ) → j < 16 → word j ≡ shl (get_or rows j 0) 24
      of_row j h = with_each w64 16 shl words 24 j long h ∙ ap (λ n. shl n 24) (are_words j h)

      back : (j : ℕ) → 8 ≤ j → 8 + (j - 8) ≡ j
      back j g = omega arith

  cell_within : (i j : ℕ) → i < 64 → j < 16 → bit (shl (get_or rows j 0) 24) i ≡ sixteen_rows_plane rows (pos i -ℤ pos 24) (pos j)
  cell_within i j h k = elim (cases_lt i 24) [
    | inl l ↦ bit-shl_below w64 (get_or rows j 0) 24 i l h ∙ none_in_column (spans 16 (pos i -ℤ pos 24)) (spans 16 (pos j)) (bit (get_or rows j 0) (unsigned_abs (pos i -ℤ pos 24))) (before i l)
    | inr g ↦
        bit-shl w64 (get_or rows j 0) 24 (i - 24) i (omega arith) h ∙ cell_in_row w16 16 rows (i - 24) j long_rows fits k
        ∙ ap (λ z. sixteen_rows_plane rows z (pos j)) (back i g)
  ]
    where
      back : (i : ℕ) → 24 ≤ i → pos (i - 24) ≡ pos i -ℤ pos 24
      back i g = omega (arith, ints)

  cells_around : (i j : ℕ) → i < 64 → j < 64 → bit (row_at around j) i ≡ sixteen_rows_plane rows (pos i -ℤ pos 24) (pos j -ℤ pos 24)
  cells_around i j h k = elim (cases_lt j 24) [
    | inl l ↦
        ap (λ n. bit n i) (above_dead j l) ∙ bit-none i
        ∙ none_in_row (spans 16 (pos i -ℤ pos 24)) (spans 16 (pos j -ℤ pos 24)) (bit (get_or rows (unsigned_abs (pos j -ℤ pos 24)) 0) (unsigned_abs (pos i -ℤ pos 24))) (before j l)
    | inr g ↦ elim (cases_lt j 40) [
      | inl l ↦
          ap (λ n. bit (row_at around n) i) (back j g) ∙ ap (λ n. bit n i) (row_within (j - 24) (omega arith)) ∙ cell_within i (j - 24) h (omega arith)
          ∙ ap (sixteen_rows_plane rows (pos i -ℤ pos 24)) (row_back j g)
      | inr m ↦
          ap (λ n. bit n i) (below_dead j m k) ∙ bit-none i
          ∙ none_in_row (spans 16 (pos i -ℤ pos 24)) (spans 16 (pos j -ℤ pos 24)) (bit (get_or rows (unsigned_abs (pos j -ℤ pos 24)) 0) (unsigned_abs (pos i -ℤ pos 24))) (behind j m)
    ]
  ]
    where
      back : (j : ℕ) → 24 ≤ j → j ≡ 24 + (j - 24)
      back j g = omega arith

      row_back : (j : ℕ) → 24 ≤ j → pos (j - 24) ≡ pos j -ℤ pos 24
      row_back j g = omega (arith, ints)

  pub rows_around : IsSame (rows_plane around) (moved (pos 24) (pos 24) (sixteen_rows_plane rows))
  rows_around = record {
    same = λ x y.
        same_cells 64 64 (λ u v. bit (row_at around (unsigned_abs v)) (unsigned_abs u)) (moved (pos 24) (pos 24) (sixteen_rows_plane rows)) cells_around x y
        ∙ in_square 64 (moved (pos 24) (pos 24) (sixteen_rows_plane rows)) moved_square x y;
  }
    where
      further : (z : ℤ) → spans 64 z ≡ false → spans 16 (z -ℤ pos 24) ≡ false
      further z out = grind (arith, ints)

      either : (a b c d p : Bool) → (a ≡ false → c ≡ false) → (b ≡ false → d ≡ false) → (a && b) ≡ false → ((c && d) && p) ≡ false
      either false b c d p f g e = ap (λ t. (t && d) && p) (f refl)
      either true b true d p f g e = ap (λ t. t && p) (g e)
      either true b false d p f g e = refl

      moved_square : IsSquare 64 (moved (pos 24) (pos 24) (sixteen_rows_plane rows))
      moved_square = record { dead = λ x y. either (spans 64 x) (spans 64 y) (spans 16 (x -ℤ pos 24)) (spans 16 (y -ℤ pos 24)) (bit (get_or rows (unsigned_abs (y -ℤ pos 24)) 0) (unsigned_abs (x -ℤ pos 24))) (further x) (further y) }

-- the middle of the next generation, where the square stands in the middle of dead cells
pub generation_in_middle : (rule : CountRule) (square around later middle : Plane) → IsSame around (moved (pos 24) (pos 24) square) →
    AgreeInside 64 1 later (after rule around 1) → IsSame middle (cut 16 24 24 later) → IsSame middle (cut 16 0 0 (next rule square))
generation_in_middle rule square around later middle is_around is_later is_middle = record {
  same = λ x y. is_middle.same x y ∙ and_case (spans 16 x && spans 16 y) (later (x +ℤ pos 24) (y +ℤ pos 24)) (next rule square (x +ℤ pos 0) (y +ℤ pos 0)) (λ inside.
      is_later (x +ℤ pos 24) (y +ℤ pos 24) (within x (and_left (spans 16 x) (spans 16 y) inside)) (within y (and_right (spans 16 x) (spans 16 y) inside))
      ∙ next_same rule around (moved (pos 24) (pos 24) square) is_around.same (x +ℤ pos 24) (y +ℤ pos 24)
      ∙ translation_lem rule square (pos 24) (pos 24) 1 (x +ℤ pos 24) (y +ℤ pos 24)
      ∙ ap (λ u. next rule square u ((y +ℤ pos 24) -ℤ pos 24)) (there x) ∙ ap (next rule square (x +ℤ pos 0)) (there y));
}
  where
    low : (z : ℤ) → spans 16 z ≡ true → pos 1 ≤ℤ (z +ℤ pos 24)
    low z inside = grind (arith, ints)

    high : (z : ℤ) → spans 16 z ≡ true → ((z +ℤ pos 24) +ℤ pos 1) <ℤ pos 64
    high z inside = grind (arith, ints)

    within : (z : ℤ) → spans 16 z ≡ true → IsInner 64 1 (z +ℤ pos 24)
    within z inside = record { low = low z inside; high = high z inside }

    there : (z : ℤ) → (z +ℤ pos 24) -ℤ pos 24 ≡ z +ℤ pos 0
    there z = omega (arith, ints)
