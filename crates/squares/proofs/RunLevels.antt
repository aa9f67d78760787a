-- The level of a square around (0,0) that has some runs.
use Rattle.std.proofs.Common.{◌≡◌, ℕ, ◌+◌, ◌-◌, ◌^◌, ◌<◌, ◌≤◌, ℤ, pos, negsuc, ◌+ℤ◌, ◌-ℤ◌, ◌≤ℤ◌, ◌<ℤ◌, Bool, true, false, List, [], ◌∷◌, map, sym, ◌∙◌, ap, subst, arith, refl}
use Rattle.std.specs.Prelude.{◌&&◌, ◌||◌, ◌==◌, nat_le, nat_lt, int_le, int_lt, unsigned_abs}
use Rattle.std.specs.List.{AllByRecursion}
use Rattle.std.specs.Ordering.{int_eq}
use Rattle.std.proofs.lemmas.Bool.{false≢true}
use Rattle.std.proofs.lemmas.Bool.Decides.{nat_tests, Decides-int_eq}
use Rattle.std.proofs.lemmas.Int.{ints}
use Rattle.plane.specs.Centred.{centred, is_in_root, Holds, IsSmallestLevel}
use Rattle.plane.specs.Listing.{is_at, plane_of}
use Rattle.plane.specs.Plane.{Plane}
use Rattle.plane.specs.Range.{IsInRange}
use Rattle.plane.specs.Runs.{IsRun, is_in_run, runs_plane}
use Rattle.plane.specs.Square.{IsSame, spans, cut}
use Rattle.plane.specs.declared.cell.Cell.{Cell}
use Rattle.plane.proofs.Cuts.{and_left, and_right}
use Rattle.plane.proofs.Paddings.{twice_half}
use Rattle.plane.proofs.Same.{plane_equal}
use Rattle.squares.specs.Book.{Book, IsKnown, Shows}
use Rattle.squares.specs.Roots.{IsRootOf, square_plane}
use Rattle.squares.specs.Spans.{FitsInRoot, in_span, in_spans, marked, single_run, span_of}
use Rattle.squares.specs.declared.sq.Sq.{Sq}
use Rattle.squares.proofs.SpanCells.{none_in, first_in, marked_inside}

first_run : (run : Cell × ℕ) (runs : List (Cell × ℕ)) (x y : ℤ) → runs_plane (run ∷ runs) x y ≡ (is_in_run x y run || runs_plane runs x y)
unfolding runs_plane
first_run run runs x y = refl

pub no_run : (x y : ℤ) → runs_plane [] x y ≡ false
unfolding runs_plane
no_run x y = refl

neither : (a b : Bool) → a ≡ false → b ≡ false → (a || b) ≡ false
neither true b h k = h
neither false b h k = k

not_first : (a b : Bool) → (a || b) ≡ false → a ≡ false
not_first true b h = h
not_first false b h = refl

not_rest : (a b : Bool) → (a || b) ≡ false → b ≡ false
not_rest true b h = absurd (false≢true (sym h))
not_rest false b h = h

same_place : (z row : ℤ) → int_eq z row ≡ true → z ≡ row
same_place z row e = (Decides-int_eq z row).0 e

from_left : (n : ℕ) (z first : ℤ) → (pos 0 -ℤ pos n) ≤ℤ first → int_le first z ≡ true → int_le (pos 0) (z +ℤ pos n) ≡ true
from_left n z first l e = grind (arith, ints)

to_right : (n : ℕ) (z end : ℤ) → end ≤ℤ pos n → int_lt z end ≡ true → int_lt (z +ℤ pos n) (pos (n + n)) ≡ true
to_right n z end r e = grind (arith, ints)

from_top : (n : ℕ) (z row : ℤ) → (pos 0 -ℤ pos n) ≤ℤ row → int_eq z row ≡ true → int_le (pos 0) (z +ℤ pos n) ≡ true
from_top n z row t e = ap (λ u. int_le (pos 0) (u +ℤ pos n)) (same_place z row e) ∙ grind (arith, ints)

to_bottom : (n : ℕ) (z row : ℤ) → row <ℤ pos n → int_eq z row ≡ true → int_lt (z +ℤ pos n) (pos (n + n)) ≡ true
to_bottom n z row t e = ap (λ u. int_lt (u +ℤ pos n) (pos (n + n))) (same_place z row e) ∙ grind (arith, ints)

-- a run that fits has no cell outside
outside : (half : ℕ) (run : Cell × ℕ) (x y : ℤ) → FitsInRoot half run → (spans (half + half) (x +ℤ pos half) && spans (half + half) (y +ℤ pos half)) ≡ false → is_in_run x y run ≡ false
outside half run x y fits e = by_case (is_in_run x y run) refl
  where
    row_of : (b c d : Bool) → ((b && c) && d) ≡ true → b ≡ true
    row_of true c d h = refl
    row_of false c d h = h

    left_of : (b c d : Bool) → ((b && c) && d) ≡ true → c ≡ true
    left_of true true d h = refl
    left_of true false d h = h
    left_of false c d h = absurd (false≢true h)

    right_of : (b c d : Bool) → ((b && c) && d) ≡ true → d ≡ true
    right_of true true d h = h
    right_of true false d h = absurd (false≢true h)
    right_of false c d h = absurd (false≢true h)

    both_true : (a b : Bool) → a ≡ true → b ≡ true → (a && b) ≡ true
    both_true true b h k = k
    both_true false b h k = absurd (false≢true h)

    by_case : (b : Bool) → is_in_run x y run ≡ b → is_in_run x y run ≡ false
    by_case false h = h
    by_case true h = absurd (false≢true (sym e ∙ both_true _ _
        (both_true _ _ (from_left half x run.0.x fits.left (left_of (int_eq y run.0.y) (int_le run.0.x x) _ h)) (to_right half x (run.0.x +ℤ pos run.1) fits.right (right_of (int_eq y run.0.y) (int_le run.0.x x) _ h)))
        (both_true _ _ (from_top half y run.0.y fits.top (row_of (int_eq y run.0.y) _ _ h)) (to_bottom half y run.0.y fits.bottom (row_of (int_eq y run.0.y) _ _ h)))))

none_outside : (half : ℕ) (runs : List (Cell × ℕ)) (x y : ℤ) → AllByRecursion (FitsInRoot half) runs → (spans (half + half) (x +ℤ pos half) && spans (half + half) (y +ℤ pos half)) ≡ false → runs_plane runs x y ≡ false
none_outside half [] x y all e = no_run x y
none_outside half (run ∷ runs) x y all e = first_run run runs x y ∙ neither _ _ (outside half run x y all.0 e) (none_outside half runs x y all.1 e)

pub fitting_held : (level : ℕ) (runs : List (Cell × ℕ)) → 1 ≤ level → AllByRecursion (FitsInRoot (2 ^ (level - 1))) runs → Holds level (runs_plane runs)
fitting_held level runs least all = record {
  dead = λ x y e. none_outside (2 ^ (level - 1)) runs x y all
      (ap (λ n. spans n (x +ℤ pos (2 ^ (level - 1))) && spans n (y +ℤ pos (2 ^ (level - 1)))) (sym (twice_half level least)) ∙ e);
}

-- a square that has the ends of a run has the run
module _ (half : ℕ) where
  first_in_run : (run : Cell × ℕ) → 0 < run.1 → is_in_run run.0.x run.0.y run ≡ true
  first_in_run run some = grind (arith, ints)

  last_in_run : (run : Cell × ℕ) → 0 < run.1 → is_in_run (run.0.x +ℤ (pos run.1 -ℤ pos 1)) run.0.y run ≡ true
  last_in_run run some = grind (arith, ints)

  inside_of : (run : Cell × ℕ) (x y : ℤ) → ((x y : ℤ) → (spans (half + half) (x +ℤ pos half) && spans (half + half) (y +ℤ pos half)) ≡ false → is_in_run x y run ≡ false) → is_in_run x y run ≡ true → (spans (half + half) (x +ℤ pos half) && spans (half + half) (y +ℤ pos half)) ≡ true
  inside_of run x y dead live = by_case (spans (half + half) (x +ℤ pos half) && spans (half + half) (y +ℤ pos half)) refl
    where
      by_case : (b : Bool) → (spans (half + half) (x +ℤ pos half) && spans (half + half) (y +ℤ pos half)) ≡ b → b ≡ true
      by_case true h = refl
      by_case false h = absurd (false≢true (sym (dead x y h) ∙ live))

  from_ends : (x y : ℤ) (n : ℕ) → 0 < n → spans (half + half) (x +ℤ pos half) ≡ true → spans (half + half) ((x +ℤ (pos n -ℤ pos 1)) +ℤ pos half) ≡ true → ((pos 0 -ℤ pos half) ≤ℤ x) × ((x +ℤ pos n) ≤ℤ pos half)
  from_ends x y n some a b = (grind (arith, ints), grind (arith, ints))

  from_row : (y : ℤ) → spans (half + half) (y +ℤ pos half) ≡ true → ((pos 0 -ℤ pos half) ≤ℤ y) × (y <ℤ pos half)
  from_row y a = (grind (arith, ints), grind (arith, ints))

  pub held_run : (run : Cell × ℕ) → 0 < run.1 → ((x y : ℤ) → (spans (half + half) (x +ℤ pos half) && spans (half + half) (y +ℤ pos half)) ≡ false → is_in_run x y run ≡ false) → FitsInRoot half run
  held_run run some dead =
      let one = inside_of run run.0.x run.0.y dead (first_in_run run some) in
      let two = inside_of run (run.0.x +ℤ (pos run.1 -ℤ pos 1)) run.0.y dead (last_in_run run some) in
      let ends = from_ends run.0.x run.0.y run.1 some (and_left _ _ one) (and_left _ _ two) in
      let row = from_row run.0.y (and_right (spans (half + half) (run.0.x +ℤ pos half)) _ one) in
      record { some = some; left = ends.0; right = ends.1; top = row.0; bottom = row.1 }

  held_runs : (runs : List (Cell × ℕ)) → AllByRecursion IsRun runs → ((x y : ℤ) → (spans (half + half) (x +ℤ pos half) && spans (half + half) (y +ℤ pos half)) ≡ false → runs_plane runs x y ≡ false) → AllByRecursion (FitsInRoot half) runs
  held_runs [] all dead = all
  held_runs (run ∷ runs) all dead = (
    held_run run all.0.some (λ x y e. not_first _ _ (sym (first_run run runs x y) ∙ dead x y e)),
    held_runs runs all.1 (λ x y e. not_rest (is_in_run x y run) _ (sym (first_run run runs x y) ∙ dead x y e)),
  )

pub held_fitting : (level : ℕ) (runs : List (Cell × ℕ)) → 1 ≤ level → AllByRecursion IsRun runs → Holds level (runs_plane runs) → AllByRecursion (FitsInRoot (2 ^ (level - 1))) runs
held_fitting level runs least all holds = held_runs (2 ^ (level - 1)) runs all
    (λ x y e. holds.dead x y (ap (λ n. spans n (x +ℤ pos (2 ^ (level - 1))) && spans n (y +ℤ pos (2 ^ (level - 1)))) (twice_half level least) ∙ e))

-- the whole range fits at level 63
in_range : (run : Cell × ℕ) → IsRun run → FitsInRoot (2 ^ 62) run
in_range run h = record { some = h.some; left = h.first.low; right = h.end; top = h.row.low; bottom = h.row.high }

pub all_in_range : (runs : List (Cell × ℕ)) → AllByRecursion IsRun runs → AllByRecursion (FitsInRoot (2 ^ 62)) runs
all_in_range [] all = all
all_in_range (run ∷ runs) all = (in_range run all.0, all_in_range runs all.1)

pub smallest_from : (level : ℕ) (runs : List (Cell × ℕ)) → 4 ≤ level → AllByRecursion IsRun runs → AllByRecursion (FitsInRoot (2 ^ (level - 1))) runs →
    ((k : ℕ) → 4 ≤ k → k < level → ¬ AllByRecursion (FitsInRoot (2 ^ (k - 1))) runs) → IsSmallestLevel level (runs_plane runs)
smallest_from level runs least all fits none = record {
  least = least;
  holds = fitting_held level runs (omega arith) fits;
  no_smaller = λ k low high holds. none k low high (held_fitting k runs (omega arith) all holds);
}

-- the cells of a run, counted from the square's corner
spanned : (n : ℕ) (z : ℤ) → spans n z ≡ true → (k : ℕ) × (z ≡ pos k)
spanned n (pos k) h = (k, refl)
spanned n (negsuc k) h = let no : ⊥ = grind (arith, ints) in absurd no

module _ (half : ℕ) (x y : ℤ) (a b : ℕ) (at_x : x +ℤ pos half ≡ pos a) (at_y : y +ℤ pos half ≡ pos b) where
  same_row : (row : ℤ) (n : ℕ) → row +ℤ pos half ≡ pos n → (b == n) ≡ int_eq y row
  same_row row n e = grind (arith, ints, nat_tests)

  same_first : (first : ℤ) (n : ℕ) → first +ℤ pos half ≡ pos n → nat_le n a ≡ int_le first x
  same_first first n e = grind (arith, ints, nat_tests)

  same_end : (first : ℤ) (n count : ℕ) → first +ℤ pos half ≡ pos n → nat_lt a (n + count) ≡ int_lt x (first +ℤ pos count)
  same_end first n count e = grind (arith, ints, nat_tests)

  to_pos : (z : ℤ) → (pos 0 -ℤ pos half) ≤ℤ z → z +ℤ pos half ≡ pos (unsigned_abs (z +ℤ pos half))
  to_pos z h = omega (arith, ints)

  grouped : (p q r : Bool) → (p && (q && r)) ≡ ((p && q) && r)
  grouped true q r = refl
  grouped false q r = refl

  same_run : (run : Cell × ℕ) → FitsInRoot half run → in_span a b (span_of half run) ≡ is_in_run x y run
  same_run run fits =
      let row = to_pos run.0.y fits.top in
      let first = to_pos run.0.x fits.left in
      ap (λ t. t && (nat_le (unsigned_abs (run.0.x +ℤ pos half)) a && nat_lt a (unsigned_abs (run.0.x +ℤ pos half) + run.1))) (same_row run.0.y _ row)
      ∙ ap (λ t. int_eq y run.0.y && (t && nat_lt a (unsigned_abs (run.0.x +ℤ pos half) + run.1))) (same_first run.0.x _ first)
      ∙ ap (λ t. int_eq y run.0.y && (int_le run.0.x x && t)) (same_end run.0.x _ run.1 first)
      ∙ grouped (int_eq y run.0.y) (int_le run.0.x x) _

  pub same_runs : (runs : List (Cell × ℕ)) → AllByRecursion (FitsInRoot half) runs → in_spans (map (span_of half) runs) a b ≡ runs_plane runs x y
  same_runs [] all = none_in a b ∙ sym (no_run x y)
  same_runs (run ∷ runs) all = first_in (span_of half run) (map (span_of half) runs) a b
      ∙ ap (λ t. t || in_spans (map (span_of half) runs) a b) (same_run run all.0) ∙ ap (λ t. is_in_run x y run || t) (same_runs runs all.1) ∙ sym (first_run run runs x y)

-- a square that shows the spans of the runs shows the runs around (0,0)
cells_in_root : (level : ℕ) (runs : List (Cell × ℕ)) → 1 ≤ level → AllByRecursion (FitsInRoot (2 ^ (level - 1))) runs →
    IsSame (centred level (cut (2 ^ level) 0 0 (marked (in_spans (map (span_of (2 ^ (level - 1))) runs))))) (runs_plane runs)
cells_in_root level runs least all = record { same = λ x y. by_case x y (is_in_root level x y) refl }
  where
    by_case : (x y : ℤ) (t : Bool) → is_in_root level x y ≡ t →
        cut (2 ^ level) 0 0 (marked (in_spans (map (span_of (2 ^ (level - 1))) runs))) (x +ℤ pos (2 ^ (level - 1))) (y +ℤ pos (2 ^ (level - 1))) ≡ runs_plane runs x y
    by_case x y false e = ap (λ t. t && marked (in_spans (map (span_of (2 ^ (level - 1))) runs)) ((x +ℤ pos (2 ^ (level - 1))) +ℤ pos 0) ((y +ℤ pos (2 ^ (level - 1))) +ℤ pos 0)) e
        ∙ sym ((fitting_held level runs least all).dead x y e)
    by_case x y true e =
        let half = 2 ^ (level - 1) in
        let hx = and_left _ _ e in
        let hy = and_right (spans (2 ^ level) (x +ℤ pos half)) _ e in
        let a = spanned (2 ^ level) (x +ℤ pos half) hx in
        let b = spanned (2 ^ level) (y +ℤ pos half) hy in
        let f = in_spans (map (span_of half) runs) in
        ap (λ z. cut (2 ^ level) 0 0 (marked f) z (y +ℤ pos half)) a.1 ∙ ap (cut (2 ^ level) 0 0 (marked f) (pos a.0)) b.1
        ∙ marked_inside (2 ^ level) f a.0 b.0 (ap (spans (2 ^ level)) (sym a.1) ∙ hx) (ap (spans (2 ^ level)) (sym b.1) ∙ hy)
        ∙ same_runs half x y a.0 b.0 a.1 b.1 runs all

-- a square that shows the spans of the runs has the cells of the runs around (0,0)
pub cells_shown : (book : Book) (level : ℕ) (runs : List (Cell × ℕ)) (sq : Sq) → 1 ≤ level → AllByRecursion (FitsInRoot (2 ^ (level - 1))) runs →
    Shows book level (cut (2 ^ level) 0 0 (marked (in_spans (map (span_of (2 ^ (level - 1))) runs)))) sq → IsSame (square_plane book sq) (runs_plane runs)
cells_shown book level runs sq least all shown = subst (λ l. IsSame (centred l (book.cells sq)) (runs_plane runs)) (sym shown.known.at_level) (record {
  same = λ x y. shown.cells.same (x +ℤ pos (2 ^ (level - 1))) (y +ℤ pos (2 ^ (level - 1))) ∙ (cells_in_root level runs least all).same x y;
})

-- a known square of the smallest level that has the cells
pub known_root : (book : Book) (level : ℕ) (plane : Plane) (sq : Sq) → IsSmallestLevel level plane → IsKnown book level sq → IsSame (square_plane book sq) plane → IsRootOf book plane sq
known_root book level plane sq smallest known same = record {
  known = subst (λ l. IsKnown book l sq) (sym known.at_level) known;
  smallest = subst (λ l. IsSmallestLevel l plane) (sym known.at_level) smallest;
  cells = same;
}

-- each cell of a set as a run
single_run_is : (cell : Cell) → IsInRange cell → IsRun (single_run cell)
single_run_is cell h = let high = h.x.high in record { row = h.y; first = h.x; some = omega arith; end = omega (arith, ints) }

pub single_runs : (cells : List Cell) → AllByRecursion IsInRange cells → AllByRecursion IsRun (map single_run cells)
single_runs [] all = all
single_runs (cell ∷ cells) all = (single_run_is cell all.0, single_runs cells all.1)

one_cell : (x first : ℤ) → (int_le first x && int_lt x (first +ℤ pos 1)) ≡ int_eq x first
one_cell x first = grind (arith, ints)

group : (a b c : Bool) → ((a && b) && c) ≡ (a && (b && c))
group true b c = refl
group false b c = refl

single_cells : (cells : List Cell) (x y : ℤ) → runs_plane (map single_run cells) x y ≡ plane_of cells x y
unfolding runs_plane plane_of
single_cells [] x y = refl
single_cells (cell ∷ cells) x y =
    ap (λ t. t || runs_plane (map single_run cells) x y) (group (int_eq y cell.y) (int_le cell.x x) (int_lt x (cell.x +ℤ pos 1)) ∙ ap (λ t. int_eq y cell.y && t) (one_cell x cell.x))
    ∙ ap (λ t. is_at x y cell || t) (single_cells cells x y)

pub cells_of_root : (book : Book) (runs : List (Cell × ℕ)) (cells : List Cell) (sq : Sq) → runs ≡ map single_run cells → IsRootOf book (runs_plane runs) sq → IsRootOf book (plane_of cells) sq
cells_of_root book runs cells sq e h =
    subst (λ plane. IsRootOf book plane sq) (plane_equal (runs_plane (map single_run cells)) (plane_of cells) (record { same = single_cells cells }))
    (subst (λ (rs : List (Cell × ℕ)). IsRootOf book (runs_plane rs) sq) e h)
