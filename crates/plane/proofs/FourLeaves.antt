-- The centres of squares of four leaves.
use Rattle.std.proofs.Common.{◌≡◌, ℕ, ◌+◌, ◌*◌, ◌<◌, pos, ◌+ℤ◌, List, get_or, refl, sym, ◌∙◌, ap, arith}
use Rattle.std.specs.Prelude.{unsigned_abs}
use Rattle.std.proofs.lemmas.Int.{ints}
use Rattle.plane.specs.Plane.{Plane}
use Rattle.plane.specs.Square.{IsSame, IsSquare, bit, bits_plane, cut, joined, spans}
use Rattle.plane.proofs.Borders.{cut_within}
use Rattle.plane.proofs.Cuts.{centre_joined, joined_within, joined_nw, joined_ne, joined_sw, joined_se}
use Rattle.plane.proofs.Same.{same_trans, same_refl}
use Rattle.plane.specs.Leaves.{leaves_plane}
use Rattle.plane.proofs.SquareCells.{and_true, less_spans, same_cells}
use Rattle.plane.proofs.JoinedCells.{four_squares}
use Rattle.plane.proofs.LeafCells.{in_square, leaf_cell, leaf_square}

-- the inner quarters of four joined squares, joined, are the centre
inner_quarters : (q : ℕ) (nw ne sw se a b c d : Plane) → IsSquare (q + q) nw → IsSquare (q + q) ne → IsSquare (q + q) sw → IsSquare (q + q) se →
    IsSame a (cut q q q nw) → IsSame b (cut q 0 q ne) → IsSame c (cut q q 0 sw) → IsSame d (cut q 0 0 se) →
    IsSame (joined q a b c d) (cut (q + q) q q (joined (q + q) nw ne sw se))
inner_quarters q nw ne sw se a b c d in_nw in_ne in_sw in_se is_a is_b is_c is_d =
    centre_joined (q + q) q (joined (q + q) nw ne sw se) nw ne sw se a b c d refl
    (joined_nw (q + q) nw ne sw se in_nw in_ne in_sw in_se) (joined_ne (q + q) nw ne sw se in_nw in_ne in_sw in_se)
    (joined_sw (q + q) nw ne sw se in_nw in_ne in_sw in_se) (joined_se (q + q) nw ne sw se in_nw in_ne in_sw in_se)
    is_a is_b is_c is_d

on : (k i : ℕ) → pos (k + i) ≡ pos i +ℤ pos k
on k i = omega (arith, ints)

-- a cell in the inner part of a leaf
inner_cell : (leaf left top i j place : ℕ) → i < 4 → j < 4 → left < 5 → top < 5 → place ≡ 8 * (top + j) + (left + i) → bit leaf place ≡ cut 4 left top (bits_plane leaf) (pos i) (pos j)
inner_cell leaf left top i j place h k few_left few_top e =
    ap (bit leaf) e ∙ sym (leaf_cell leaf (left + i) (top + j) (omega arith) (omega arith))
    ∙ ap (λ z. bits_plane leaf z (pos (top + j))) (on left i) ∙ ap (λ z. bits_plane leaf (pos i +ℤ pos left) z) (on top j)
    ∙ sym (and_true (spans 4 (pos i)) (spans 4 (pos j)) _ (less_spans 4 i h) (less_spans 4 j k))

-- the cells of a leaf among others
module _ (leaves : List ℕ) where
  abbrev leaf : ℕ → Plane
  leaf k = bits_plane (get_or leaves k 0)

  in_leaf : (k : ℕ) → IsSquare 8 (leaf k)
  in_leaf k = leaf_square (get_or leaves k 0)

-- The centre of four leaves: of the left ones and of the right ones the middle rows, and of these
-- the middle columns.
module _ (leaves : List ℕ) (left right word : ℕ)
    (left_upper : (place : ℕ) → place < 32 → bit left place ≡ bit (get_or leaves 0 0) (32 + place))
    (left_lower : (place : ℕ) → place < 32 → bit left (32 + place) ≡ bit (get_or leaves 2 0) place)
    (right_upper : (place : ℕ) → place < 32 → bit right place ≡ bit (get_or leaves 1 0) (32 + place))
    (right_lower : (place : ℕ) → place < 32 → bit right (32 + place) ≡ bit (get_or leaves 3 0) place)
    (is_left : (row column : ℕ) → row < 8 → column < 4 → bit word (8 * row + column) ≡ bit left (8 * row + (4 + column)))
    (is_right : (row column : ℕ) → row < 8 → column < 4 → bit word (8 * row + (4 + column)) ≡ bit right (8 * row + column)) where
  abbrev quarters : Plane
  quarters = joined 4 (cut 4 4 4 (leaf leaves 0)) (cut 4 0 4 (leaf leaves 1)) (cut 4 4 0 (leaf leaves 2)) (cut 4 0 0 (leaf leaves 3))

  centre_cells : (i j : ℕ) → i < 8 → j < 8 → bit word (8 * j + i) ≡ quarters (pos i) (pos j)
  centre_cells = four_squares 4 (cut 4 4 4 (leaf leaves 0)) (cut 4 0 4 (leaf leaves 1)) (cut 4 4 0 (leaf leaves 2)) (cut 4 0 0 (leaf leaves 3)) (λ i j. bit word (8 * j + i))
      (λ i j h k. is_left j i (omega arith) h ∙ left_upper (8 * j + (4 + i)) (omega arith)
      ∙ inner_cell (get_or leaves 0 0) 4 4 i j (32 + (8 * j + (4 + i))) h k (omega arith) (omega arith) (omega arith))
      (λ i j h k. is_right j i (omega arith) h ∙ right_upper (8 * j + i) (omega arith)
      ∙ inner_cell (get_or leaves 1 0) 0 4 i j (32 + (8 * j + i)) h k (omega arith) (omega arith) (omega arith))
      (λ i j h k. is_left (4 + j) i (omega arith) h ∙ ap (bit left) (below j (4 + i)) ∙ left_lower (8 * j + (4 + i)) (omega arith)
      ∙ inner_cell (get_or leaves 2 0) 4 0 i j (8 * j + (4 + i)) h k (omega arith) (omega arith) (omega arith))
      (λ i j h k. is_right (4 + j) i (omega arith) h ∙ ap (bit right) (below j i) ∙ right_lower (8 * j + i) (omega arith)
      ∙ inner_cell (get_or leaves 3 0) 0 0 i j (8 * j + i) h k (omega arith) (omega arith) (omega arith))
    where
      below : (j i : ℕ) → 8 * (4 + j) + i ≡ 32 + (8 * j + i)
      below j i = omega arith

  quarters_square : IsSquare 8 quarters
  quarters_square = joined_within 4 (cut 4 4 4 (leaf leaves 0)) (cut 4 0 4 (leaf leaves 1)) (cut 4 4 0 (leaf leaves 2)) (cut 4 0 0 (leaf leaves 3))
      (cut_within 4 4 4 (leaf leaves 0)) (cut_within 4 0 4 (leaf leaves 1)) (cut_within 4 4 0 (leaf leaves 2)) (cut_within 4 0 0 (leaf leaves 3))

  shows_quarters : IsSame (bits_plane word) quarters
  shows_quarters = record {
    same = λ x y. same_cells 8 8 (λ u v. bit word (8 * unsigned_abs v + unsigned_abs u)) quarters centre_cells x y ∙ in_square 8 quarters quarters_square x y;
  }

  pub centre_of_leaves : IsSame (bits_plane word) (cut 8 4 4 (leaves_plane leaves))
  centre_of_leaves = same_trans shows_quarters (inner_quarters 4 (leaf leaves 0) (leaf leaves 1) (leaf leaves 2) (leaf leaves 3)
      (cut 4 4 4 (leaf leaves 0)) (cut 4 0 4 (leaf leaves 1)) (cut 4 4 0 (leaf leaves 2)) (cut 4 0 0 (leaf leaves 3))
      (in_leaf leaves 0) (in_leaf leaves 1) (in_leaf leaves 2) (in_leaf leaves 3) (same_refl _) (same_refl _) (same_refl _) (same_refl _))
