-- The rows of runs of a plane from the top on, and their bytes.
use Rattle.std.proofs.Common.{◌≡◌, ℕ, ℤ, pos, ◌+ℤ◌, ◌-ℤ◌, ◌<◌, ◌≤ℤ◌, ◌<ℤ◌, int_lt, SFits, w64, Bool, true, false, Option, None, Some, List, [], ◌∷◌, ◌++◌, append_assoc, append-nil, refl, sym, ◌∙◌, ap, subst, arith}
use Rattle.std.specs.Prelude.{◌≢◌, Contains, unsigned_abs}
use Rattle.std.specs.List.{AllByRecursion}
use Rattle.std.proofs.lemmas.Bool.{false≢true}
use Rattle.std.proofs.lemmas.Int.{ints}
use Rattle.std.proofs.lemmas.List.Elements.{Contains-append_left, Contains-push}
use Rattle.plane.specs.Bounds.{IsWithin, bounds_of}
use Rattle.plane.specs.Laws.{IsSmallest}
use Rattle.plane.specs.Listing.{IsListing, plane_of}
use Rattle.plane.specs.Plane.{Plane}
use Rattle.plane.specs.Square.{IsSame}
use Rattle.plane.specs.declared.cell.Bounds.{Bounds}
use Rattle.plane.specs.declared.cell.Cell.{Cell}
use Rattle.plane.proofs.Around.{live_cell}
use Rattle.plane.proofs.Boxes.{box_at, smallest_box_lem, some_box}
use Rattle.plane.proofs.Elements.{AllByRecursion-append, AllByRecursion-weaker}
use Rattle.plane.proofs.Same.{plane_equal}
use Rattle.viewport.specs.BoundingBox.{HasBounds}
use Rattle.viewport.specs.RowRuns.{AreRowRuns, is_in_some}
use Rattle.viewport.specs.Rows.{IsDeadFrom, IsFirstRow, IsLiveRow}
use Rattle.pipe_program.specs.RunBytes.{AreRisingRows, AreRunBytes, IsRowOf, RowOfRuns, row_bytes, rows_bytes}

-- the bytes are those of all runs in the rows above this one
pub record AreRunsAbove (plane : Plane) (y : ℤ) (bytes : List ℕ) : Type 0 where
  pub rows : List RowOfRuns
  pub each : AllByRecursion (IsRowOf plane) rows
  pub rising : AreRisingRows rows
  pub above : AllByRecursion (λ row. row.0 <ℤ y) rows
  pub whole : (x z : ℤ) → z <ℤ y → plane x z ≡ true → (row : RowOfRuns) × Contains rows row × (row.0 ≡ z)
  pub is : bytes ≡ rows_bytes rows

-- ---- rows and numbers

by_cases : {A : Type 0} (b : Bool) → (b ≡ true → A) → (b ≡ false → A) → A
by_cases true p q = p refl
by_cases false p q = q refl

is_less : (a b : ℤ) → int_lt a b ≡ true → a <ℤ b
is_less a b e = grind (arith, ints)

no_less : (a b : ℤ) → int_lt a b ≡ false → b ≤ℤ a
no_less a b e = grind (arith, ints)

both : {A : Type 0} {b : Bool} → b ≡ true → b ≡ false → A
both live dead = absurd (false≢true (sym dead ∙ live))

less_than_both : (a y row : ℤ) → a <ℤ y → y ≤ℤ row → a <ℤ row
less_than_both a y row h k = omega (arith, ints)

before_next : (row : ℤ) → row <ℤ (row +ℤ pos 1)
before_next row = omega (arith, ints)

below_next : (a row : ℤ) → a <ℤ row → a <ℤ (row +ℤ pos 1)
below_next a row h = omega (arith, ints)

up_to_next : (a b row : ℤ) → a ≤ℤ b → b ≤ℤ row → a <ℤ (row +ℤ pos 1)
up_to_next a b row h k = omega (arith, ints)

not_above : (a z : ℤ) → a ≤ℤ z → z <ℤ a → ⊥
not_above a z h k = omega (arith, ints)

the_row : (z row : ℤ) → z <ℤ (row +ℤ pos 1) → row ≤ℤ z → row ≡ z
the_row z row h k = omega (arith, ints)

-- ---- one row more

rows_bytes-append : (rows : List RowOfRuns) (row : RowOfRuns) → rows_bytes (rows ++ row ∷ []) ≡ rows_bytes rows ++ row_bytes row.0 row.1
unfolding rows_bytes
rows_bytes-append [] row = append-nil (row_bytes row.0 row.1)
rows_bytes-append (other ∷ rows) row =
    ap (λ (l : List ℕ). row_bytes other.0 other.1 ++ l) (rows_bytes-append rows row) ∙ sym (append_assoc (row_bytes other.0 other.1) (rows_bytes rows) (row_bytes row.0 row.1))

rising-append : (rows : List RowOfRuns) (row : RowOfRuns) → AreRisingRows rows → AllByRecursion (λ other. other.0 <ℤ row.0) rows → AreRisingRows (rows ++ row ∷ [])
rising-append [] row rising below = (tt, tt)
rising-append (other ∷ rows) row rising below = (
  AllByRecursion-append (λ (later : RowOfRuns). other.0 <ℤ later.0) rows (row ∷ []) rising.0 (below.0, tt),
  rising-append rows row rising.1 below.1,
)

-- a row with a live cell has a run
some_run : (plane : Plane) (row : ℤ) (runs : List (ℤ × ℕ)) → IsLiveRow plane row → AreRowRuns plane row runs → runs ≢ []
unfolding is_in_some
some_run plane row [] live of_row none = false≢true (of_row.cells live.x ∙ live.live)
some_run plane row (run ∷ runs) live of_row none = cc

row_added : (plane : Plane) (y row : ℤ) (runs : List (ℤ × ℕ)) (bytes more : List ℕ) → AreRunsAbove plane y bytes → IsFirstRow plane y (Some row) → AreRowRuns plane row runs →
    more ≡ bytes ++ row_bytes row runs → AreRunsAbove plane (row +ℤ pos 1) more
row_added plane y row runs bytes more above (from, live, dead) of_row is =
    let new : RowOfRuns = (row, runs) in
    record {
      rows = above.rows ++ new ∷ [];
      each = AllByRecursion-append (IsRowOf plane) above.rows (new ∷ []) above.each ((of_row, some_run plane row runs live of_row), tt);
      rising = rising-append above.rows new above.rising
          (AllByRecursion-weaker (λ (other : RowOfRuns). other.0 <ℤ y) (λ (other : RowOfRuns). other.0 <ℤ row) (λ other less. less_than_both other.0 y row less from) above.rows above.above);
      above = AllByRecursion-append (λ (other : RowOfRuns). other.0 <ℤ (row +ℤ pos 1)) above.rows (new ∷ [])
          (AllByRecursion-weaker (λ (other : RowOfRuns). other.0 <ℤ y) (λ (other : RowOfRuns). other.0 <ℤ (row +ℤ pos 1))
          (λ other less. below_next other.0 row (less_than_both other.0 y row less from)) above.rows above.above)
          (before_next row, tt);
      whole = λ x z less here.
          by_cases (int_lt z y)
          (λ e. let old = above.whole x z (is_less z y e) here in (old.0, Contains-append_left above.rows (new ∷ []) old.0 old.1, old.2))
          (λ e. by_cases (int_lt z row)
          (λ f. both here (dead.dead x z (no_less z y e) (is_less z row f)))
          (λ f. (new, Contains-push above.rows new, the_row z row less (no_less z row f))));
      is = is ∙ ap (λ (l : List ℕ). l ++ row_bytes row runs) above.is ∙ sym (rows_bytes-append above.rows new);
    }

-- ---- the first row and the last

row_within : (plane : Plane) (box : Bounds) → HasBounds plane (Some box) → (x y : ℤ) → plane x y ≡ true → (box.top ≤ℤ y) × (y ≤ℤ box.bottom)
row_within plane box has x y live =
    let smallest : IsSmallest box has.cells = smallest_box_lem has.cells box (sym has.bounds) in
    let one = live_cell (IsWithin box) has.cells x y smallest.holds (has.listing.live x y ∙ live) in
    (subst (λ (z : ℤ). box.top ≤ℤ z) (sym one.y_is) one.holds.top, subst (λ (z : ℤ). z ≤ℤ box.bottom) (sym one.y_is) one.holds.bottom)

-- above the box there is no run
pub none_above : (plane : Plane) (box : Bounds) → HasBounds plane (Some box) → AreRunsAbove plane box.top []
unfolding rows_bytes
none_above plane box has = record {
  rows = [];
  each = tt;
  rising = tt;
  above = tt;
  whole = λ x z less live. absurd (not_above box.top z (row_within plane box has x z live).0 less);
  is = refl;
}

all_above : (plane : Plane) (y : ℤ) (bytes : List ℕ) → AreRunsAbove plane y bytes → ((x z : ℤ) → plane x z ≡ true → z <ℤ y) → AreRunBytes plane bytes
all_above plane y bytes above all = record { rows = above.rows; each = above.each; rising = above.rising; whole = λ x z live. above.whole x z (all x z live) live; is = above.is }

-- below the box there is none
pub all_of_box : (plane : Plane) (box : Bounds) (row : ℤ) (bytes : List ℕ) → HasBounds plane (Some box) → box.bottom ≤ℤ row → AreRunsAbove plane (row +ℤ pos 1) bytes → AreRunBytes plane bytes
all_of_box plane box row bytes has low above = all_above plane (row +ℤ pos 1) bytes above (λ x z live. up_to_next z box.bottom row (row_within plane box has x z live).1 low)

all_to_dead : (plane : Plane) (y : ℤ) (bytes : List ℕ) → IsDeadFrom plane y → AreRunsAbove plane y bytes → AreRunBytes plane bytes
all_to_dead plane y bytes dead above = all_above plane y bytes above (λ x z live. by_cases (int_lt z y) (is_less z y) (λ e. both live (dead.dead x z (no_less z y e))))

none_live : (plane : Plane) (cells : List Cell) → IsListing cells plane → None ≡ bounds_of cells → (x y : ℤ) → plane x y ≡ false
unfolding plane_of
none_live plane [] listing none x y = sym (listing.live x y)
none_live plane (cell ∷ cells) listing none x y = absurd (some_box (box_at cell) cells (sym none))

-- where no cell is live there is none
pub no_runs : (plane : Plane) → HasBounds plane None → AreRunBytes plane []
unfolding rows_bytes
no_runs plane has = record { rows = []; each = tt; rising = tt; whole = λ x z live. both live (none_live plane has.cells has.listing has.bounds x z); is = refl }

-- ---- numbers of 64 bits

fits_between : (low high z : ℤ) → SFits w64 low → SFits w64 high → low ≤ℤ z → z ≤ℤ high → SFits w64 z
fits_between low high z fits_low fits_high from to = omega (arith, ints, fits_low, fits_high, from, to)

-- the row lies in the box
row_in_box : (plane : Plane) (box : Bounds) (y row : ℤ) → HasBounds plane (Some box) → IsFirstRow plane y (Some row) → SFits w64 box.top → SFits w64 box.bottom → SFits w64 row
row_in_box plane box y row has (from, live, dead) fits_top fits_bottom =
    let within = row_within plane box has live.x row live.live in fits_between box.top box.bottom row fits_top fits_bottom within.0 within.1

pub next_fits : (row bottom : ℤ) → SFits w64 row → SFits w64 bottom → row <ℤ bottom → SFits w64 (row +ℤ pos 1)
next_fits row bottom fits fits_bottom less = omega (arith, ints, fits, fits_bottom, less)

pub fewer_left : (bottom y row next : ℤ) → next ≡ row +ℤ pos 1 → y ≤ℤ row → row <ℤ bottom → unsigned_abs (bottom -ℤ next) < unsigned_abs (bottom -ℤ y)
fewer_left bottom y row next is from less = first_of (omega (arith, ints), grind (arith, ints))

-- ---- rows and runs of a plane with the same cells

pub above_as : (plane : Plane) (y at : ℤ) (bytes : List ℕ) → y ≡ at → AreRunsAbove plane at bytes → AreRunsAbove plane y bytes
above_as plane y at bytes is = subst (λ (z : ℤ). AreRunsAbove plane z bytes) (sym is)

first_row_as : (plane other : Plane) (y : ℤ) (found row : Option ℤ) → IsSame other plane → found ≡ row → IsFirstRow other y found → IsFirstRow plane y row
first_row_as plane other y found row same is first = subst (λ (p : Plane). IsFirstRow p y row) (plane_equal other plane same) (subst (λ (o : Option ℤ). IsFirstRow other y o) is first)

runs_as : (plane other : Plane) (y row : ℤ) (runs : List (ℤ × ℕ)) → IsSame other plane → y ≡ row → AreRowRuns other y runs → AreRowRuns plane row runs
runs_as plane other y row runs same is are = subst (λ (p : Plane). AreRowRuns p row runs) (plane_equal other plane same) (subst (λ (z : ℤ). AreRowRuns other z runs) is are)

pub row_fits : (plane other : Plane) (box : Bounds) (y row : ℤ) (found : Option ℤ) → HasBounds plane (Some box) → IsSame other plane → found ≡ Some row → IsFirstRow other y found → SFits w64 box.top → SFits w64 box.bottom → SFits w64 row
row_fits plane other box y row found has same is first fits_top fits_bottom = row_in_box plane box y row has (first_row_as plane other y found (Some row) same is first) fits_top fits_bottom

pub row_read : (plane other third : Plane) (y row at : ℤ) (found : Option ℤ) (runs slice : List (ℤ × ℕ)) (bytes more : List ℕ) → AreRunsAbove plane y bytes → IsSame other plane → found ≡ Some row → IsFirstRow other y found →
    at ≡ row → IsSame third plane → AreRowRuns third at runs → slice ≡ runs → more ≡ bytes ++ row_bytes at slice → AreRunsAbove plane (row +ℤ pos 1) more
row_read plane other third y row at found runs slice bytes more above same is first at_row third_same are slice_is pushed =
    row_added plane y row runs bytes more above (first_row_as plane other y found (Some row) same is first) (runs_as plane third at row runs third_same at_row are)
    (pushed ∙ ap (λ (z : ℤ). bytes ++ row_bytes z slice) at_row ∙ ap (λ (l : List (ℤ × ℕ)). bytes ++ row_bytes row l) slice_is)

pub all_read : (plane other : Plane) (y : ℤ) (found : Option ℤ) (bytes : List ℕ) → AreRunsAbove plane y bytes → IsSame other plane → found ≡ None → IsFirstRow other y found → AreRunBytes plane bytes
all_read plane other y found bytes above same is first = all_to_dead plane y bytes (first_row_as plane other y found None same is first) above
