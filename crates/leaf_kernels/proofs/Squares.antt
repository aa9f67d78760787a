-- Four squares of sixteen leaves as rows, and the middle of rows as four squares of four leaves.
use Rattle.std.proofs.Common.{◌≡◌, ℕ, zero, suc, ◌+◌, ◌*◌, ◌/◌, ◌%◌, ◌<◌, pos, ◌+ℤ◌, Bool, List, [], ◌∷◌, get_or, refl, sym, ◌∙◌, ap, arith}
use Rattle.std.specs.Prelude.{unsigned_abs}
use Rattle.std.proofs.lemmas.Int.{ints}
use Rattle.plane.specs.Square.{IsSame, IsSquare, spans, bit, bits_plane, cut}
use Rattle.plane.proofs.Cuts.{joined_within}
use Rattle.plane.specs.Leaves.{leaves_plane}
use Rattle.leaf_kernels.specs.Rows.{quarter_plane, sixteen_plane, four_sixteens_plane, four_fours_plane, row_at, rows_plane}
use Rattle.plane.proofs.WordBytes.{each_of_eight, each_of_four}
use Rattle.plane.proofs.LeafCells.{in_square, leaf_cell, leaf_square}
use Rattle.plane.proofs.SquareCells.{and_true, less_spans, same_cells}
use Rattle.plane.proofs.JoinedCells.{four_squares}

pub leaves_square : (leaves : List ℕ) → IsSquare 16 (leaves_plane leaves)
leaves_square leaves = joined_within 8 _ _ _ _ (leaf_square (get_or leaves 0 0)) (leaf_square (get_or leaves 1 0)) (leaf_square (get_or leaves 2 0)) (leaf_square (get_or leaves 3 0))

from_none : (f : ℕ → Bool) (n : ℕ) → f n ≡ f (0 + n)
from_none f n = ap f (zero_on n)
  where
    zero_on : (n : ℕ) → n ≡ 0 + n
    zero_on n = omega arith

-- cells in columns and rows that are those of four leaves, or of sixteen, in rows of so many leaves
abbrev pub AreLeaves : ℕ → List ℕ → (ℕ → ℕ → Bool) → Type 0
AreLeaves side leaves cell = (four column place row : ℕ) → four < side → column < side → place < 8 → row < 8 → cell (8 * column + place) (8 * four + row) ≡ bit (get_or leaves (side * four + column) 0) (8 * row + place)

module _ (side : ℕ) (leaves : List ℕ) (cell : ℕ → ℕ → Bool) (is : AreLeaves side leaves cell) where
  leaf_at : (four column place row r c l : ℕ) → four < side → column < side → place < 8 → row < 8 → r ≡ 8 * four + row → c ≡ 8 * column + place → l ≡ side * four + column →
      cell c r ≡ bits_plane (get_or leaves l 0) (pos place) (pos row)
  leaf_at four column place row r c l f g h k er ec el =
      ap (λ n. cell c n) er ∙ ap (λ n. cell n (8 * four + row)) ec ∙ is four column place row f g h k
      ∙ ap (λ n. bit (get_or leaves n 0) (8 * row + place)) (sym el) ∙ sym (leaf_cell (get_or leaves l 0) place row h k)

pub four_cells : (leaves : List ℕ) (cell : ℕ → ℕ → Bool) → AreLeaves 2 leaves cell → (i j : ℕ) → i < 16 → j < 16 → cell i j ≡ leaves_plane leaves (pos i) (pos j)
four_cells leaves cell is =
    four_squares 8 (bits_plane (get_or leaves 0 0)) (bits_plane (get_or leaves 1 0)) (bits_plane (get_or leaves 2 0)) (bits_plane (get_or leaves 3 0)) cell
    (λ i j h k. leaf_at 2 leaves cell is 0 0 i j j i 0 (omega arith) (omega arith) h k (omega arith) (omega arith) (omega arith))
    (λ i j h k. leaf_at 2 leaves cell is 0 1 i j j (8 + i) 1 (omega arith) (omega arith) h k (omega arith) (omega arith) (omega arith))
    (λ i j h k. leaf_at 2 leaves cell is 1 0 i j (8 + j) i 2 (omega arith) (omega arith) h k (omega arith) (omega arith) (omega arith))
    (λ i j h k. leaf_at 2 leaves cell is 1 1 i j (8 + j) (8 + i) 3 (omega arith) (omega arith) h k (omega arith) (omega arith) (omega arith))

module _ (leaves : List ℕ) (cell : ℕ → ℕ → Bool) (is : AreLeaves 4 leaves cell) where
  -- the cells of four of the leaves, from a column and a row on
  quarter_cells : (four column left top k : ℕ) → four < 3 → column < 3 → left ≡ 8 * column → top ≡ 8 * four → k ≡ 4 * four + column →
      (i j : ℕ) → i < 16 → j < 16 → cell (left + i) (top + j) ≡ quarter_plane leaves k (pos i) (pos j)
  quarter_cells four column left top k f g el et ek =
      four_squares 8 (bits_plane (get_or leaves k 0)) (bits_plane (get_or leaves (k + 1) 0)) (bits_plane (get_or leaves (k + 4) 0)) (bits_plane (get_or leaves (k + 5) 0)) (λ i j. cell (left + i) (top + j))
      (λ i j h l. leaf_at 4 leaves cell is four column i j (top + j) (left + i) k (omega arith) (omega arith) h l (omega arith) (omega arith) (omega arith))
      (λ i j h l. leaf_at 4 leaves cell is four (column + 1) i j (top + j) (left + (8 + i)) (k + 1) (omega arith) (omega arith) h l (omega arith) (omega arith) (omega arith))
      (λ i j h l. leaf_at 4 leaves cell is (four + 1) column i j (top + (8 + j)) (left + i) (k + 4) (omega arith) (omega arith) h l (omega arith) (omega arith) (omega arith))
      (λ i j h l. leaf_at 4 leaves cell is (four + 1) (column + 1) i j (top + (8 + j)) (left + (8 + i)) (k + 5) (omega arith) (omega arith) h l (omega arith) (omega arith) (omega arith))

  pub sixteen_cells : (i j : ℕ) → i < 32 → j < 32 → cell i j ≡ sixteen_plane leaves (pos i) (pos j)
  sixteen_cells = four_squares 16 (quarter_plane leaves 0) (quarter_plane leaves 2) (quarter_plane leaves 8) (quarter_plane leaves 10) cell
      (λ i j h k. from_none (λ n. cell i n) j ∙ from_none (λ n. cell n (0 + j)) i ∙ quarter_cells 0 0 0 0 0 (omega arith) (omega arith) (omega arith) (omega arith) (omega arith) i j h k)
      (λ i j h k. from_none (λ n. cell (16 + i) n) j ∙ quarter_cells 0 2 16 0 2 (omega arith) (omega arith) (omega arith) (omega arith) (omega arith) i j h k)
      (λ i j h k. from_none (λ n. cell n (16 + j)) i ∙ quarter_cells 2 0 0 16 8 (omega arith) (omega arith) (omega arith) (omega arith) (omega arith) i j h k)
      (λ i j h k. quarter_cells 2 2 16 16 10 (omega arith) (omega arith) (omega arith) (omega arith) (omega arith) i j h k)

quarter_square : (leaves : List ℕ) (k : ℕ) → IsSquare 16 (quarter_plane leaves k)
quarter_square leaves k =
    joined_within 8 _ _ _ _ (leaf_square (get_or leaves k 0)) (leaf_square (get_or leaves (k + 1) 0)) (leaf_square (get_or leaves (k + 4) 0)) (leaf_square (get_or leaves (k + 5) 0))

sixteen_square : (leaves : List ℕ) → IsSquare 32 (sixteen_plane leaves)
sixteen_square leaves = joined_within 16 _ _ _ _ (quarter_square leaves 0) (quarter_square leaves 2) (quarter_square leaves 8) (quarter_square leaves 10)

four_sixteens_square : (quarters : List (List ℕ)) → IsSquare 64 (four_sixteens_plane quarters)
four_sixteens_square quarters =
    joined_within 32 _ _ _ _ (sixteen_square (get_or quarters 0 [])) (sixteen_square (get_or quarters 1 [])) (sixteen_square (get_or quarters 2 [])) (sixteen_square (get_or quarters 3 []))

four_fours_square : (quarters : List (List ℕ)) → IsSquare 32 (four_fours_plane quarters)
four_fours_square quarters =
    joined_within 16 _ _ _ _ (leaves_square (get_or quarters 0 [])) (leaves_square (get_or quarters 1 [])) (leaves_square (get_or quarters 2 [])) (leaves_square (get_or quarters 3 []))

-- rows made of four times sixteen leaves
pub rows_of_quarters : (vectors quarters : List (List ℕ)) →
    AreLeaves 4 (get_or quarters 0 []) (λ i j. bit (row_at vectors j) i) → AreLeaves 4 (get_or quarters 1 []) (λ i j. bit (row_at vectors j) (32 + i)) →
    AreLeaves 4 (get_or quarters 2 []) (λ i j. bit (row_at vectors (32 + j)) i) → AreLeaves 4 (get_or quarters 3 []) (λ i j. bit (row_at vectors (32 + j)) (32 + i)) →
    IsSame (rows_plane vectors) (four_sixteens_plane quarters)
rows_of_quarters vectors quarters nw ne sw se = record {
  same = λ x y.
      same_cells 64 64 (λ u v. bit (row_at vectors (unsigned_abs v)) (unsigned_abs u)) (four_sixteens_plane quarters)
      (four_squares 32 (sixteen_plane (get_or quarters 0 [])) (sixteen_plane (get_or quarters 1 [])) (sixteen_plane (get_or quarters 2 [])) (sixteen_plane (get_or quarters 3 [])) (λ i j. bit (row_at vectors j) i)
      (sixteen_cells (get_or quarters 0 []) (λ i j. bit (row_at vectors j) i) nw) (sixteen_cells (get_or quarters 1 []) (λ i j. bit (row_at vectors j) (32 + i)) ne)
      (sixteen_cells (get_or quarters 2 []) (λ i j. bit (row_at vectors (32 + j)) i) sw) (sixteen_cells (get_or quarters 3 []) (λ i j. bit (row_at vectors (32 + j)) (32 + i)) se)) x y
      ∙ in_square 64 (four_sixteens_plane quarters) (four_sixteens_square quarters) x y;
}

-- the cell in column i of row j
pub row_cell : (vectors : List (List ℕ)) (i j : ℕ) → i < 64 → j < 64 → rows_plane vectors (pos i) (pos j) ≡ bit (row_at vectors j) i
row_cell vectors i j h k = and_true (spans 64 (pos i)) (spans 64 (pos j)) (bit (row_at vectors j) i) (less_spans 64 i h) (less_spans 64 j k)

-- four times four leaves in the middle of rows
pub middle_of_rows : (vectors quarters : List (List ℕ)) →
    AreLeaves 2 (get_or quarters 0 []) (λ i j. bit (row_at vectors (16 + j)) (16 + i)) → AreLeaves 2 (get_or quarters 1 []) (λ i j. bit (row_at vectors (16 + j)) (32 + i)) →
    AreLeaves 2 (get_or quarters 2 []) (λ i j. bit (row_at vectors (32 + j)) (16 + i)) → AreLeaves 2 (get_or quarters 3 []) (λ i j. bit (row_at vectors (32 + j)) (32 + i)) →
    IsSame (four_fours_plane quarters) (cut 32 16 16 (rows_plane vectors))
middle_of_rows vectors quarters nw ne sw se = record {
  same = λ x y.
      sym (in_square 32 (four_fours_plane quarters) (four_fours_square quarters) x y)
      ∙ sym (same_cells 32 32 (λ u v. rows_plane vectors (u +ℤ pos 16) (v +ℤ pos 16)) (four_fours_plane quarters) cells x y);
}
  where
    on : (i : ℕ) → pos i +ℤ pos 16 ≡ pos (16 + i)
    on i = omega (arith, ints)

    there : (i j : ℕ) → i < 32 → j < 32 → rows_plane vectors (pos i +ℤ pos 16) (pos j +ℤ pos 16) ≡ bit (row_at vectors (16 + j)) (16 + i)
    there i j h k = ap (λ z. rows_plane vectors z (pos j +ℤ pos 16)) (on i) ∙ ap (λ z. rows_plane vectors (pos (16 + i)) z) (on j) ∙ row_cell vectors (16 + i) (16 + j) (omega arith) (omega arith)

    further : (i : ℕ) → 32 + i ≡ 16 + (16 + i)
    further i = omega arith

    middle : (i j : ℕ) → i < 32 → j < 32 → bit (row_at vectors (16 + j)) (16 + i) ≡ four_fours_plane quarters (pos i) (pos j)
    middle = four_squares 16 (leaves_plane (get_or quarters 0 [])) (leaves_plane (get_or quarters 1 [])) (leaves_plane (get_or quarters 2 [])) (leaves_plane (get_or quarters 3 [])) (λ i j. bit (row_at vectors (16 + j)) (16 + i))
        (four_cells (get_or quarters 0 []) (λ i j. bit (row_at vectors (16 + j)) (16 + i)) nw)
        (λ i j h k. ap (λ n. bit (row_at vectors (16 + j)) n) (sym (further i)) ∙ four_cells (get_or quarters 1 []) (λ i j. bit (row_at vectors (16 + j)) (32 + i)) ne i j h k)
        (λ i j h k. ap (λ n. bit (row_at vectors n) (16 + i)) (sym (further j)) ∙ four_cells (get_or quarters 2 []) (λ i j. bit (row_at vectors (32 + j)) (16 + i)) sw i j h k)
        (λ i j h k. ap (λ n. bit (row_at vectors n) (16 + (16 + i))) (sym (further j)) ∙ ap (λ n. bit (row_at vectors (32 + j)) n) (sym (further i)) ∙ four_cells (get_or quarters 3 []) (λ i j. bit (row_at vectors (32 + j)) (32 + i)) se i j h k)

    cells : (i j : ℕ) → i < 32 → j < 32 → rows_plane vectors (pos i +ℤ pos 16) (pos j +ℤ pos 16) ≡ four_fours_plane quarters (pos i) (pos j)
    cells i j h k = there i j h k ∙ middle i j h k

-- a row of the sixty-four, by its vector and its lane
pub row_in : (vectors : List (List ℕ)) (y place lane : ℕ) → y ≡ 16 * lane + place → place < 16 → row_at vectors y ≡ get_or (get_or vectors place []) lane 0
row_in vectors y place lane e h = ap (λ n. get_or (get_or vectors n []) (y / 16) 0) at_place ∙ ap (λ n. get_or (get_or vectors place []) n 0) in_lane
  where
    at_place : y % 16 ≡ place
    at_place = omega arith

    in_lane : y / 16 ≡ lane
    in_lane = omega arith

-- sixteen vectors that are eight and eight
module _ (low high : List (List ℕ)) where
  abbrev pub stacked : List (List ℕ)
  stacked = get_or low 0 [] ∷ get_or low 1 [] ∷ get_or low 2 [] ∷ get_or low 3 [] ∷ get_or low 4 [] ∷ get_or low 5 [] ∷ get_or low 6 [] ∷ get_or low 7 []
      ∷ get_or high 0 [] ∷ get_or high 1 [] ∷ get_or high 2 [] ∷ get_or high 3 [] ∷ get_or high 4 [] ∷ get_or high 5 [] ∷ get_or high 6 [] ∷ get_or high 7 [] ∷ []

  low_row : (k row y : ℕ) → y ≡ 16 * k + row → row < 8 → row_at stacked y ≡ get_or (get_or low row []) k 0
  low_row k row y e h =
      row_in stacked y row k e (omega arith)
      ∙ each_of_eight (λ n. get_or (get_or stacked n []) k 0) (λ n. get_or (get_or low n []) k 0) refl refl refl refl refl refl refl refl row h

  high_row : (k row y : ℕ) → y ≡ 16 * k + (8 + row) → row < 8 → row_at stacked y ≡ get_or (get_or high row []) k 0
  high_row k row y e h =
      row_in stacked y (8 + row) k e (omega arith)
      ∙ each_of_eight (λ n. get_or (get_or stacked (8 + n) []) k 0) (λ n. get_or (get_or high n []) k 0) refl refl refl refl refl refl refl refl row h

  -- by lane they are eight bands of eight rows
  module _ (upper lower : List (List ℕ))
      (is_low : (row lane : ℕ) → row < 8 → lane < 4 → get_or (get_or low row []) lane 0 ≡ get_or (get_or (get_or upper 0 [] ∷ get_or upper 2 [] ∷ get_or lower 0 [] ∷ get_or lower 2 [] ∷ []) lane []) row 0)
      (is_high : (row lane : ℕ) → row < 8 → lane < 4 → get_or (get_or high row []) lane 0 ≡ get_or (get_or (get_or upper 1 [] ∷ get_or upper 3 [] ∷ get_or lower 1 [] ∷ get_or lower 3 [] ∷ []) lane []) row 0) where
    pub upper_row : (four row : ℕ) → four < 4 → row < 8 → row_at stacked (8 * four + row) ≡ get_or (get_or upper four []) row 0
    upper_row four row f h = each_of_four (λ n. row_at stacked (8 * n + row)) (λ n. get_or (get_or upper n []) row 0)
        (low_row 0 row (8 * 0 + row) (omega arith) h ∙ is_low row 0 h (omega arith)) (high_row 0 row (8 * 1 + row) (omega arith) h ∙ is_high row 0 h (omega arith))
        (low_row 1 row (8 * 2 + row) (omega arith) h ∙ is_low row 1 h (omega arith)) (high_row 1 row (8 * 3 + row) (omega arith) h ∙ is_high row 1 h (omega arith)) four f

    pub lower_row : (four row : ℕ) → four < 4 → row < 8 → row_at stacked (32 + (8 * four + row)) ≡ get_or (get_or lower four []) row 0
    lower_row four row f h = each_of_four (λ n. row_at stacked (32 + (8 * n + row))) (λ n. get_or (get_or lower n []) row 0)
        (low_row 2 row (32 + (8 * 0 + row)) (omega arith) h ∙ is_low row 2 h (omega arith)) (high_row 2 row (32 + (8 * 1 + row)) (omega arith) h ∙ is_high row 2 h (omega arith))
        (low_row 3 row (32 + (8 * 2 + row)) (omega arith) h ∙ is_low row 3 h (omega arith)) (high_row 3 row (32 + (8 * 3 + row)) (omega arith) h ∙ is_high row 3 h (omega arith)) four f

-- bands of rows that show leaves on their left side, or on their right
pub left_leaves : (bands : List (List ℕ)) (leaves : List ℕ) (row_at : ℕ → ℕ) → ((four row : ℕ) → four < 4 → row < 8 → row_at (8 * four + row) ≡ get_or (get_or bands four []) row 0) →
    ((four column place row : ℕ) → four < 4 → column < 4 → place < 8 → row < 8 → bit (get_or (get_or bands four []) row 0) (8 * column + place) ≡ bit (get_or leaves (4 * four + column) 0) (8 * row + place)) →
    AreLeaves 4 leaves (λ i j. bit (row_at j) i)
left_leaves bands leaves row_at is_row is_leaf four column place row f g h k = ap (λ n. bit n (8 * column + place)) (is_row four row f k) ∙ is_leaf four column place row f g h k

pub right_leaves : (bands : List (List ℕ)) (leaves : List ℕ) (row_at : ℕ → ℕ) → ((four row : ℕ) → four < 4 → row < 8 → row_at (8 * four + row) ≡ get_or (get_or bands four []) row 0) →
    ((four column place row : ℕ) → four < 4 → column < 4 → place < 8 → row < 8 → bit (get_or (get_or bands four []) row 0) (8 * (4 + column) + place) ≡ bit (get_or leaves (4 * four + column) 0) (8 * row + place)) →
    AreLeaves 4 leaves (λ i j. bit (row_at j) (32 + i))
right_leaves bands leaves row_at is_row is_leaf four column place row f g h k =
    ap (λ n. bit n (32 + (8 * column + place))) (is_row four row f k) ∙ ap (λ n. bit (get_or (get_or bands four []) row 0) n) (further column place) ∙ is_leaf four column place row f g h k
  where
    further : (column place : ℕ) → 32 + (8 * column + place) ≡ 8 * (4 + column) + place
    further column place = omega arith

-- eight rows from a row on, as eight leaves
abbrev IsBand : List (List ℕ) → ℕ → List ℕ → Type 0
IsBand vectors top leaves = (column place row : ℕ) → column < 8 → place < 8 → row < 8 → bit (get_or leaves column 0) (8 * row + place) ≡ bit (row_at vectors (top + row)) (8 * column + place)

-- the middle lanes of eight vectors as eight leaves
pub band_of : (vectors eight lanes : List (List ℕ)) (leaves : List ℕ) (from lane top : ℕ) → top ≡ 16 * (1 + lane) + from → from < 9 → lane < 2 →
    ((row : ℕ) → row < 8 → get_or (get_or eight row []) (1 + lane) 0 ≡ get_or (get_or vectors (from + row) []) (1 + lane) 0) →
    ((row lane : ℕ) → row < 8 → lane < 2 → get_or (get_or lanes lane []) row 0 ≡ get_or (get_or eight row []) (1 + lane) 0) →
    ((column place row : ℕ) → column < 8 → place < 8 → row < 8 → bit (get_or leaves row 0) (8 * column + place) ≡ bit (get_or (get_or lanes lane []) column 0) (8 * row + place)) →
    IsBand vectors top leaves
band_of vectors eight lanes leaves from lane top e few less is_eight is_lanes is_leaves column place row g h k =
    is_leaves row place column k h g
    ∙ ap (λ n. bit n (8 * column + place)) (is_lanes row lane k less ∙ is_eight row k ∙ sym (row_in vectors (top + row) (from + row) (1 + lane) (omega arith) (omega arith)))

shown : (vectors : List (List ℕ)) (leaves : List ℕ) (column top y x place row : ℕ) → IsBand vectors top leaves → column < 8 → place < 8 → row < 8 → y ≡ top + row → x ≡ 8 * column + place →
    bit (row_at vectors y) x ≡ bit (get_or leaves column 0) (8 * row + place)
shown vectors leaves column top y x place row is g h k e f = ap (λ n. bit (row_at vectors n) x) e ∙ ap (λ n. bit (row_at vectors (top + row)) n) f ∙ sym (is column place row g h k)

-- four of the leaves of two bands, from a column on
abbrev pub four_of : List ℕ → List ℕ → ℕ → List ℕ
four_of upper lower left = get_or upper left 0 ∷ get_or upper (1 + left) 0 ∷ get_or lower left 0 ∷ get_or lower (1 + left) 0 ∷ []

pub quarter_leaves : (vectors : List (List ℕ)) (upper lower : List ℕ) (top left : ℕ) → left < 7 → IsBand vectors top upper → IsBand vectors (top + 8) lower →
    AreLeaves 2 (four_of upper lower left) (λ i j. bit (row_at vectors (top + j)) (8 * left + i))
quarter_leaves vectors upper lower top left few is_upper is_lower zero zero place row f g h k = shown vectors upper left top _ _ place row is_upper (omega arith) h k (omega arith) (omega arith)
quarter_leaves vectors upper lower top left few is_upper is_lower zero (suc zero) place row f g h k = shown vectors upper (1 + left) top _ _ place row is_upper (omega arith) h k (omega arith) (omega arith)
quarter_leaves vectors upper lower top left few is_upper is_lower (suc zero) zero place row f g h k = shown vectors lower left (top + 8) _ _ place row is_lower (omega arith) h k (omega arith) (omega arith)
quarter_leaves vectors upper lower top left few is_upper is_lower (suc zero) (suc zero) place row f g h k = shown vectors lower (1 + left) (top + 8) _ _ place row is_lower (omega arith) h k (omega arith) (omega arith)
quarter_leaves vectors upper lower top left few is_upper is_lower zero (suc (suc column)) place row f g h k = absurd (omega arith)
quarter_leaves vectors upper lower top left few is_upper is_lower (suc zero) (suc (suc column)) place row f g h k = absurd (omega arith)
quarter_leaves vectors upper lower top left few is_upper is_lower (suc (suc four)) column place row f g h k = absurd (omega arith)
