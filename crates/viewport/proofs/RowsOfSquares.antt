-- The runs of a row of a square, from those of its quarters, and of a leaf, one bit after the
-- other.
use Rattle.std.proofs.Common.{◌≡◌, ◌≢◌, ℕ, suc, ◌+◌, ◌-◌, ◌*◌, ◌^◌, ◌<◌, ◌≤◌, ℤ, pos, ◌+ℤ◌, ◌-ℤ◌, ◌≤ℤ◌, ◌<ℤ◌, Bool, true, false, ◌&&◌, ◌||◌, List, [], refl, sym, ◌∙◌, ap, subst, arith, w64, SFits}
use Rattle.std.specs.Prelude.{◌==◌, int_lt, int_le}
use Rattle.std.specs.Int.{bit_at}
use Rattle.std.specs.Ordering.{int_eq}
use Rattle.std.proofs.lemmas.Bool.Decides.{nat_tests}
use Rattle.std.proofs.lemmas.Int.{ints}
use Rattle.plane.specs.Centred.{centred}
use Rattle.plane.specs.Plane.{Plane}
use Rattle.plane.specs.Square.{IsSame, IsSquare, spans, bits_plane, bit}
use Rattle.plane.proofs.Paddings.{twice_half}
use Rattle.viewport.specs.RowRuns.{AddsCells, AreRowRuns, cells_at, is_in_some, run_cells}
use Rattle.viewport.proofs.BoxesOfPlanes.{or_false}
use Rattle.squares.proofs.NumberMaps.{by_cases}
use Rattle.viewport.proofs.FirstRows.{rows_beside, outside_low, outside_high}
use Rattle.viewport.proofs.LeafBoxes.{eq_true}
use Rattle.viewport.proofs.Leaves.{shows}
use Rattle.viewport.specs.Halves.{side_by_side, IsHalfRow}
use Rattle.viewport.proofs.Quarters.{dead_column, dead_row, from_nothing, IsQuartered, over}
use Rattle.viewport.proofs.RunsBeside.{adds_as, adds_no_more}

no_cells : (x : ℤ) → is_in_some [] x ≡ false
unfolding is_in_some
no_cells x = refl

further_left : (x left : ℤ) (h : ℕ) → (x -ℤ left) -ℤ pos h ≡ x -ℤ (left +ℤ pos h)
further_left x left h = omega (arith, ints)

above_half : (y h : ℕ) → y < h → (pos y -ℤ pos h) <ℤ pos 0
above_half y h e = omega (arith, ints)

below_half : (y h : ℕ) → h ≤ y → pos h ≤ℤ pos y
below_half y h e = omega (arith, ints)

lower_row : (y h : ℕ) → h ≤ y → pos y -ℤ pos h ≡ pos (y - h)
lower_row y h e = omega (arith, ints)

second : (b c d : Bool) → b ≡ false → (b || c) ≡ c
second b c d e = ap (λ t. t || c) e

-- a row of a half, in its two squares
pub half_row : (h : ℕ) (p q : Plane) (left x : ℤ) (y : ℕ) → side_by_side h p q (x -ℤ left) (pos y) ≡ (cells_at p left y x || cells_at q (left +ℤ pos h) y x)
half_row h p q left x y =
    ap (λ v. p (x -ℤ left) (pos y) || q ((x -ℤ left) -ℤ pos h) v) (from_nothing (pos y)) ∙ ap (λ u. p (x -ℤ left) (pos y) || q u (pos y)) (further_left x left h)

-- a cell of two squares beside one another
module _ (h : ℕ) (p q : Plane) (in_p : IsSquare h p) (in_q : IsSquare h q) (x y half : ℕ) (side : half ≡ h) where
  pub left_cell : x < half → side_by_side h p q (pos x) (pos y) ≡ p (pos x) (pos y)
  left_cell low = or_false _ _ (dead_column h q in_q _ _ (outside_low h (pos x -ℤ pos h) (above_half x h (omega arith))))

  pub right_cell : half ≤ x → side_by_side h p q (pos x) (pos y) ≡ q (pos (x - half)) (pos y)
  right_cell high =
      second _ _ false (dead_column h p in_p (pos x) (pos y) (outside_high h (pos x) (below_half x h (omega arith))))
      ∙ ap (q (pos x -ℤ pos h)) (from_nothing (pos y)) ∙ ap (λ u. q u (pos y)) (lower_row x h (omega arith))
      ∙ ap (λ n. q (pos (x - n)) (pos y)) (sym side)

module _ (h : ℕ) (p nw ne sw se : Plane) (quarters : IsQuartered h p nw ne sw se) (y : ℕ) where
  whole : (x : ℤ) → p x (pos y) ≡ (side_by_side h nw ne x (pos y) || side_by_side h sw se (x -ℤ pos 0) (pos y -ℤ pos h))
  whole x = λ i. over h p nw ne sw se quarters i x (pos y)

  -- a row of the upper half
  pub upper_row : y < h → IsHalfRow h p nw ne y y
  upper_row low = record { inside = low; cells = λ x. whole x ∙ or_false _ _ ((rows_beside h sw se quarters.in_sw quarters.in_se).above _ _ (above_half y h low)) }

  -- a row of the lower half
  pub under_row : h ≤ y → y < h + h → IsHalfRow h p sw se y (y - h)
  under_row high inside = record {
    inside = omega (arith, high, inside);
    cells = λ x.
        whole x ∙ ap (λ t. t || side_by_side h sw se (x -ℤ pos 0) (pos y -ℤ pos h)) ((rows_beside h nw ne quarters.in_nw quarters.in_ne).below _ _ (below_half y h high))
        ∙ ap (λ u. side_by_side h sw se u (pos y -ℤ pos h)) (from_nothing x) ∙ ap (side_by_side h sw se x) (lower_row y h high);
  }

-- the cells of a leaf's row whose bits stand before this one
abbrev pub cells_before : ℕ → ℤ → ℕ → ℕ → ℤ → Bool
cells_before word left y n x = spans n (x -ℤ left) && cells_at (bits_plane word) left y x

spans_next : (n : ℕ) (z : ℤ) → int_eq z (pos n) ≡ false → spans (suc n) z ≡ spans n z
spans_next n z e = grind (arith, ints)

spans_here : (n : ℕ) (z : ℤ) → int_eq z (pos n) ≡ true → (spans (suc n) z ≡ true) × (spans n z ≡ false)
spans_here n z e = (grind (arith, ints), grind (arith, ints))

one_there : (n : ℕ) (x left : ℤ) → int_eq (x -ℤ left) (pos n) ≡ true → spans 1 (x -ℤ (left +ℤ pos n)) ≡ true
one_there n x left e = grind (arith, ints)

one_away : (n : ℕ) (x left : ℤ) → int_eq (x -ℤ left) (pos n) ≡ false → spans 1 (x -ℤ (left +ℤ pos n)) ≡ false
one_away n x left e = grind (arith, ints)

at_place : (word y n : ℕ) (z : ℤ) → n < 8 → y < 8 → int_eq z (pos n) ≡ true → bits_plane word z (pos y) ≡ bit word (8 * y + n)
at_place word y n z wide tall e = ap (λ u. bits_plane word u (pos y)) (eq_true z (pos n) e) ∙ shows word n y wide tall

put_in : (s t b o : Bool) → s ≡ true → b ≡ true → t ≡ false → o ≡ true → (s && b) ≡ ((t && b) || o)
put_in s t b o e f g h = ap (λ v. v && b) e ∙ f ∙ sym (ap (λ v. (v && b) || o) g ∙ h)

left_as : (s t b o : Bool) → s ≡ t → o ≡ false → (s && b) ≡ ((t && b) || o)
left_as s t b o e f = ap (λ v. v && b) e ∙ sym (or_false (t && b) o f)

taken_out : (s t b : Bool) → s ≡ true → t ≡ false → b ≡ false → (s && b) ≡ (t && b)
taken_out s t b e g f = ap (λ v. v && b) e ∙ f ∙ sym (ap (λ v. v && b) g)

-- one cell more
pub cell_taken : (word y n : ℕ) (left x : ℤ) → n < 8 → y < 8 → bit word (8 * y + n) ≡ true → cells_before word left y (suc n) x ≡ (cells_before word left y n x || run_cells (left +ℤ pos n) 1 x)
cell_taken word y n left x wide tall set =
    by_cases (int_eq (x -ℤ left) (pos n))
    (λ e. put_in _ _ _ _ (spans_here n (x -ℤ left) e).0 (at_place word y n (x -ℤ left) wide tall e ∙ set) (spans_here n (x -ℤ left) e).1 (one_there n x left e))
    (λ e. left_as _ _ (bits_plane word (x -ℤ left) (pos y)) _ (spans_next n (x -ℤ left) e) (one_away n x left e))

-- one dead cell more
pub cell_passed : (word y n : ℕ) (left x : ℤ) → n < 8 → y < 8 → bit word (8 * y + n) ≡ false → cells_before word left y (suc n) x ≡ cells_before word left y n x
cell_passed word y n left x wide tall clear =
    by_cases (int_eq (x -ℤ left) (pos n))
    (λ e. taken_out _ _ _ (spans_here n (x -ℤ left) e).0 (spans_here n (x -ℤ left) e).1 (at_place word y n (x -ℤ left) wide tall e ∙ clear))
    (λ e. ap (λ t. t && bits_plane word (x -ℤ left) (pos y)) (spans_next n (x -ℤ left) e))

spans_none : (z : ℤ) → spans 0 z ≡ false
spans_none z = grind (arith, ints)

pub none_taken : (word y : ℕ) (left x : ℤ) → cells_before word left y 0 x ≡ false
none_taken word y left x = ap (λ t. t && cells_at (bits_plane word) left y x) (spans_none (x -ℤ left))

same_twice : (s t b : Bool) → ((s && t) && b) ≡ (s && ((s && t) && b))
same_twice true t b = refl
same_twice false t b = refl

pub all_taken : (word y : ℕ) (left x : ℤ) → cells_at (bits_plane word) left y x ≡ cells_before word left y 8 x
all_taken word y left x = same_twice (spans 8 (x -ℤ left)) (spans 8 (pos y)) _

-- a leaf's row, of the cells that it shows
pub row_as : (level : ℕ) (p q : Plane) (left : ℤ) (y : ℕ) (old new : List (ℤ × ℕ)) → level ≡ 3 → IsSame p q → AddsCells left 8 (cells_at q left y) old new → AddsCells left (2 ^ level) (cells_at p left y) old new
row_as level p q left y old new e same h =
    adds_as left 8 (2 ^ level) (cells_at q left y) (cells_at p left y) old new (sym (ap (λ n. 2 ^ n) e)) (λ x. same.same (x -ℤ left) (pos y)) h

from_centre : (x : ℤ) (h : ℕ) → x -ℤ (pos 0 -ℤ pos h) ≡ x +ℤ pos h
from_centre x h = omega (arith, ints)

outside : (level : ℕ) (p : Plane) → IsSquare (2 ^ level) p → (x y : ℤ) → spans (2 ^ level) y ≡ false → p x y ≡ false
outside level p is x y e = dead_row (2 ^ level) p is x y e

pub is_less : (a b : ℤ) → int_lt a b ≡ true → a <ℤ b
is_less a b e = grind (arith, ints)

pub is_most : (a b : ℤ) → int_le a b ≡ true → a ≤ℤ b
is_most a b e = grind (arith, ints)

-- the runs of a row of a square, counted from (0,0)
pub centred_runs : (level : ℕ) (p : Plane) (y : ℤ) (row : ℕ) (runs : List (ℤ × ℕ)) → pos row ≡ y +ℤ pos (2 ^ (level - 1)) →
    AddsCells (pos 0 -ℤ pos (2 ^ (level - 1))) (2 ^ level) (cells_at p (pos 0 -ℤ pos (2 ^ (level - 1))) row) [] runs → AreRowRuns (centred level p) y runs
centred_runs level p y row runs e h =
    let half : ℕ = 2 ^ (level - 1) in
    record {
      apart = h.end.apart;
      cells = λ x. h.adds x ∙ ap (λ t. t || cells_at p (pos 0 -ℤ pos half) row x) (no_cells x)
          ∙ ap (λ u. p u (pos row)) (from_centre x half) ∙ ap (p (x +ℤ pos half)) e;
    }

pub low_out : (side half : ℕ) (y : ℤ) → y <ℤ (pos 0 -ℤ pos half) → spans side (y +ℤ pos half) ≡ false
low_out side half y e = outside_low side (y +ℤ pos half) (omega (arith, ints))

pub high_out : (side half : ℕ) (y : ℤ) → side ≡ half + half → pos half ≤ℤ y → spans side (y +ℤ pos half) ≡ false
high_out side half y e f = outside_high side (y +ℤ pos half) (omega (arith, ints))

-- a row outside the square has no runs
pub no_runs_outside : (level : ℕ) (p : Plane) (y : ℤ) → IsSquare (2 ^ level) p → spans (2 ^ level) (y +ℤ pos (2 ^ (level - 1))) ≡ false → AreRowRuns (centred level p) y []
no_runs_outside level p y is e = record { apart = tt; cells = λ x. no_cells x ∙ sym (outside level p is (x +ℤ pos (2 ^ (level - 1))) _ e) }

-- the square ends within the range
pub room_there : (level : ℕ) → 1 ≤ level → 2 ^ (level - 1) ≤ 2 ^ 62 → ((pos 0 -ℤ pos (2 ^ (level - 1))) +ℤ pos (2 ^ level)) ≤ℤ pos (2 ^ 62)
room_there level least small = let twice = twice_half level least in omega (arith, ints, twice)

pub column_fits : (left place : ℤ) (n : ℕ) → SFits w64 left → place ≡ pos n → n < 8 → (left +ℤ pos 8) ≤ℤ pos (2 ^ 62) → SFits w64 (left +ℤ place)
column_fits left place n fits e low room = omega (arith, ints)

pub middle_fits : (left half : ℤ) (level : ℕ) → 1 ≤ level → SFits w64 left → half ≡ pos (2 ^ (level - 1)) → (left +ℤ pos (2 ^ level)) ≤ℤ pos (2 ^ 62) → SFits w64 (left +ℤ half)
middle_fits left half level least fits e room = let twice = twice_half level least in omega (arith, ints, twice)

pub quarter_room : (left half : ℤ) (level low : ℕ) → 1 ≤ level → half ≡ pos (2 ^ (level - 1)) → low ≡ level - 1 → (left +ℤ pos (2 ^ level)) ≤ℤ pos (2 ^ 62) → ((left +ℤ half) +ℤ pos (2 ^ low)) ≤ℤ pos (2 ^ 62)
quarter_room left half level low least e f room = let g = ap (λ n. 2 ^ n) f in let twice = twice_half level least in omega (arith, ints, g, twice)

-- room for a square has room for its left half
pub half_room : (left : ℤ) (level low : ℕ) → 1 ≤ level → low ≡ level - 1 → (left +ℤ pos (2 ^ level)) ≤ℤ pos (2 ^ 62) → (left +ℤ pos (2 ^ low)) ≤ℤ pos (2 ^ 62)
half_room left level low least e room = let f = ap (λ n. 2 ^ n) e in let twice = twice_half level least in omega (arith, ints, f, twice)

next_place : (n : ℕ) → suc n ≡ n + 1
next_place n = omega arith

not_one : (n : ℕ) → n ≢ 1 → (n == 1) ≡ false
not_one n h = grind (arith, nat_tests)

-- one that is not
pub step_passed : (word y n : ℕ) (left : ℤ) (old new : List (ℤ × ℕ)) → n < 8 → y < 8 → bit_at word (8 * y + n) ≢ 1 → AddsCells left n (cells_before word left y n) old new →
    AddsCells left (n + 1) (cells_before word left y (n + 1)) old new
step_passed word y n left old new wide tall clear h =
    subst (λ m. AddsCells left (n + 1) (cells_before word left y m) old new) (next_place n)
    (adds_no_more left n 1 (cells_before word left y n) (cells_before word left y (suc n)) old new h
    (λ x. cell_passed word y n left x wide tall (not_one _ clear)))

-- a leaf's whole row
pub whole_row : (word y n : ℕ) (left : ℤ) (old new : List (ℤ × ℕ)) → n ≡ 8 → AddsCells left n (cells_before word left y n) old new → AddsCells left 8 (cells_at (bits_plane word) left y) old new
whole_row word y n left old new e h =
    adds_as left 8 8 (cells_before word left y 8) (cells_at (bits_plane word) left y) old new refl (all_taken word y left) (subst (λ m. AddsCells left m (cells_before word left y m) old new) e h)
