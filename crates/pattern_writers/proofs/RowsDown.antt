-- The runs of a plane, row by row from the top.
use Rattle.std.proofs.Common.{◌≡◌, ℕ, ◌+◌, ◌<◌, ◌≤◌, ◌^◌, ℤ, pos, ◌+ℤ◌, ◌-ℤ◌, ◌≤ℤ◌, ◌<ℤ◌, int_le, int_lt, Bool, true, false, ◌&&◌, ◌||◌, Option, None, Some, List, [], ◌∷◌, ◌++◌, map, flat_map, length, take, get_or, SFits, w64, append_assoc, refl, ap, sym, ◌∙◌, subst, arith, inl, inr}
use Rattle.std.specs.List.{AllByRecursion, list_any}
use Rattle.std.specs.Ordering.{int_eq}
use Rattle.std.proofs.lemmas.Bool.Decides.{Decides-int_eq}
use Rattle.std.proofs.lemmas.Int.{ints}
use Rattle.std.proofs.lemmas.List.Folds.{list_any-append}
use Rattle.std.specs.Prelude.{unsigned_abs}
use Rattle.std.proofs.lemmas.List.{map-append, take_more}
use Rattle.std.proofs.lemmas.List.Elements.{All-from_recursion}
use Rattle.squares.specs.Book.{Book, IsBook, IsKnown}
use Rattle.squares.specs.declared.sq.Sq.{Sq}
use Rattle.plane.proofs.Paddings.{holds_more, square_held}
use Rattle.plane.specs.Centred.{Holds, centred}
use Rattle.plane.specs.Plane.{Plane}
use Rattle.plane.specs.Range.{IsCoordinate}
use Rattle.plane.specs.Square.{spans}
use Rattle.plane.specs.Listing.{IsListing}
use Rattle.plane.proofs.Elements.{AllByRecursion-append, AllByRecursion-weaker}
use Rattle.viewport.specs.RowRuns as row
use Rattle.viewport.specs.Rows.{AreDeadRows, IsDeadFrom, IsFirstRow, IsLiveRow}
use Rattle.pattern_writers.specs.RowRuns.{AddsRow, run_in, runs_of}
use Rattle.pattern_writers.specs.declared.rle_text.row_run.RowRun.{RowRun}
use Rattle.pattern_writers.proofs.ItemReading.{run_cells}
use Rattle.pattern_writers.proofs.MaximalRuns.{AreApart, LiesBehind, is_in_run, runs_apart, cells_rise, plane_of-runs}

-- ---- the runs of one row

behind_map : (y : ℤ) (run : ℤ × ℕ) (runs : List (ℤ × ℕ)) → AllByRecursion (λ other. row.end_of run <ℤ other.0) runs → AllByRecursion (LiesBehind (run_in y run)) (map (run_in y) runs)
behind_map y run [] all = tt
behind_map y run (other ∷ runs) all = (inr (refl, all.0), behind_map y run runs all.1)

apart_map : (y : ℤ) (runs : List (ℤ × ℕ)) → row.AreApart runs → AreApart (map (run_in y) runs)
apart_map y [] apart = tt
apart_map y (run ∷ runs) apart = (omega (arith, ints, apart.0), behind_map y run runs apart.1, apart_map y runs apart.2)

in_row_map : (y : ℤ) (runs : List (ℤ × ℕ)) → AllByRecursion (λ (run : RowRun). run.row ≡ y) (map (run_in y) runs)
in_row_map y [] = tt
in_row_map y (run ∷ runs) = (refl, in_row_map y runs)

and_nothing : (b : Bool) → (b && false) ≡ false
and_nothing true = refl
and_nothing false = refl

or_and : (a b c : Bool) → ((a && b) || (a && c)) ≡ (a && (b || c))
or_and true b c = refl
or_and false b c = refl

one_run : (run : ℤ × ℕ) (x : ℤ) → (int_le run.0 x && int_lt x (row.end_of run)) ≡ row.is_in_row_run x run
one_run run x = grind (arith, ints)

any_map : (y : ℤ) (runs : List (ℤ × ℕ)) (x v : ℤ) → list_any (is_in_run x v) (map (run_in y) runs) ≡ (int_eq v y && list_any (row.is_in_row_run x) runs)
any_map y [] x v = sym (and_nothing (int_eq v y))
any_map y (run ∷ runs) x v =
    ap (λ b. (int_eq v y && (int_le run.0 x && int_lt x (row.end_of run))) || b) (any_map y runs x v)
    ∙ ap (λ b. (int_eq v y && b) || (int_eq v y && list_any (row.is_in_row_run x) runs)) (one_run run x)
    ∙ or_and (int_eq v y) (row.is_in_row_run x run) (list_any (row.is_in_row_run x) runs)

in_row : (plane : Plane) (y : ℤ) (runs : List (ℤ × ℕ)) (x v : ℤ) → row.AreRowRuns plane y runs → list_any (is_in_run x v) (map (run_in y) runs) ≡ (int_eq v y && plane x y)
unfolding row.is_in_some
in_row plane y runs x v of_row = any_map y runs x v ∙ ap (λ b. int_eq v y && b) (of_row.cells x)

-- ---- the runs so far

-- these are the runs of the rows above this one, and no other row above it has a live cell
pub record AreRunsAbove (plane : Plane) (next : ℤ) (runs : List RowRun) : Type 0 where
  pub apart : AreApart runs
  pub above : AllByRecursion (λ (run : RowRun). run.row <ℤ next) runs
  pub cells : (x y : ℤ) → list_any (is_in_run x y) runs ≡ (int_lt y next && plane x y)

-- and this is the next row with a live cell, or there is none, and these are all runs
abbrev pub AreRunsSoFar : Plane → Option ℤ → List RowRun → Type 0
AreRunsSoFar plane None runs = AreApart runs × ((x y : ℤ) → list_any (is_in_run x y) runs ≡ plane x y)
AreRunsSoFar plane (Some next) runs = AreRunsAbove plane next runs × IsLiveRow plane next

apart_append : (runs more : List RowRun) → AreApart runs → AreApart more → AllByRecursion (λ run. AllByRecursion (LiesBehind run) more) runs → AreApart (runs ++ more)
apart_append [] more apart also across = also
apart_append (run ∷ runs) more apart also across = (apart.0, AllByRecursion-append (LiesBehind run) runs more apart.1 across.0, apart_append runs more apart.2 also across.1)

all_below : (y : ℤ) (run : RowRun) (more : List RowRun) → run.row <ℤ y → AllByRecursion (λ (other : RowRun). other.row ≡ y) more → AllByRecursion (LiesBehind run) more
all_below y run more above all = AllByRecursion-weaker (λ (other : RowRun). other.row ≡ y) (LiesBehind run) (λ other here. inl (omega (arith, ints, above, here))) more all

-- ---- one row more

-- a cell lies above the row behind another where it lies above or in it
one_row : (y next : ℤ) → (int_lt y next || int_eq y next) ≡ int_lt y (next +ℤ pos 1)
one_row y next = grind (arith, ints)

split : (a b c : Bool) → ((a && c) || (b && c)) ≡ ((a || b) && c)
split true true true = refl
split true true false = refl
split true false true = refl
split true false false = refl
split false true c = refl
split false false c = refl

in_this_row : (plane : Plane) (next x y : ℤ) → (int_eq y next && plane x next) ≡ (int_eq y next && plane x y)
in_this_row plane next x y =
    elim (int_eq y next) as (λ b. int_eq y next ≡ b → (b && plane x next) ≡ (b && plane x y)) [
      | true ↦ λ same. ap (plane x) (sym ((Decides-int_eq y next).0 same))
      | false ↦ λ _. refl
    ] refl

pub row_added : (plane : Plane) (next : ℤ) (old new : List RowRun) → AreRunsAbove plane next old → AddsRow plane next old new → AreRunsAbove plane (next +ℤ pos 1) new
row_added plane next old new far adds =
    let more = map (run_in next) adds.runs in
    let here = in_row_map next adds.runs in
    subst (AreRunsAbove plane (next +ℤ pos 1)) (sym adds.added) (record {
      apart = apart_append old more far.apart (apart_map next adds.runs adds.of_row.apart)
          (AllByRecursion-weaker (λ (run : RowRun). run.row <ℤ next) (λ run. AllByRecursion (LiesBehind run) more) (λ run above. all_below next run more above here) old far.above);
      above = AllByRecursion-append (λ (run : RowRun). run.row <ℤ (next +ℤ pos 1)) old more
          (AllByRecursion-weaker (λ (run : RowRun). run.row <ℤ next) (λ (run : RowRun). run.row <ℤ (next +ℤ pos 1)) (λ run above. omega (arith, ints, above)) old far.above)
          (AllByRecursion-weaker (λ (run : RowRun). run.row ≡ next) (λ (run : RowRun). run.row <ℤ (next +ℤ pos 1)) (λ run same. omega (arith, ints, same)) more here);
      cells = λ x y.
          list_any-append (is_in_run x y) old more
          ∙ ap (λ b. b || list_any (is_in_run x y) more) (far.cells x y)
          ∙ ap (λ b. (int_lt y next && plane x y) || b) (in_row plane next adds.runs x y adds.of_row ∙ in_this_row plane next x y)
          ∙ split (int_lt y next) (int_eq y next) (plane x y)
          ∙ ap (λ b. b && plane x y) (one_row y next);
    })

-- ---- the next row

by_test : (P : Bool → Type 0) (b : Bool) → (b ≡ true → P true) → (b ≡ false → P false) → P b
by_test P true h k = h refl
by_test P false h k = k refl

above_next : (plane : Plane) (from next x y : ℤ) → from ≤ℤ next → AreDeadRows plane from next → (int_lt y from && plane x y) ≡ (int_lt y next && plane x y)
above_next plane from next x y later dead =
    by_test (λ b. (b && plane x y) ≡ (int_lt y next && plane x y)) (int_lt y from)
    (λ above. let also : int_lt y next ≡ true = grind (arith, ints, later) in sym (ap (λ b. b && plane x y) also))
    (λ below.
    by_test (λ b. false ≡ (b && plane x y)) (int_lt y next)
    (λ above. let low : from ≤ℤ y = grind (arith, ints) in let high : y <ℤ next = grind (arith, ints) in sym (dead.dead x y low high))
    (λ _. refl))

all_above : (plane : Plane) (from x y : ℤ) → IsDeadFrom plane from → (int_lt y from && plane x y) ≡ plane x y
all_above plane from x y dead =
    by_test (λ b. (b && plane x y) ≡ plane x y) (int_lt y from)
    (λ _. refl)
    (λ below. let low : from ≤ℤ y = grind (arith, ints) in sym (dead.dead x y low))

pub next_row : (plane : Plane) (from : ℤ) (next : Option ℤ) (runs : List RowRun) → AreRunsAbove plane from runs → IsFirstRow plane from next → AreRunsSoFar plane next runs
next_row plane from None runs far dead = (far.apart, λ x y. far.cells x y ∙ all_above plane from x y dead)
next_row plane from (Some next) runs far first = (
  record {
    apart = far.apart;
    above = AllByRecursion-weaker (λ (run : RowRun). run.row <ℤ from) (λ (run : RowRun). run.row <ℤ next) (λ run above. omega (arith, ints, above, first.0)) runs far.above;
    cells = λ x y. far.cells x y ∙ above_next plane from next x y first.0 first.2;
  },
  first.1,
)

-- before the first row there is no run
pub no_runs : (plane : Plane) (from : ℤ) (runs : List RowRun) → ((x y : ℤ) → y <ℤ from → plane x y ≡ false) → runs ≡ [] → AreRunsAbove plane from runs
no_runs plane from runs dead none = subst (AreRunsAbove plane from) (sym none) (record {
  apart = tt;
  above = tt;
  cells = λ x y. by_test (λ b. false ≡ (b && plane x y)) (int_lt y from) (λ above. sym (dead x y (grind (arith, ints, above)))) (λ _. refl);
})

-- ---- all rows

pub all_runs : (plane : Plane) (runs : List RowRun) → AreRunsSoFar plane None runs → IsListing (flat_map run_cells runs) plane × (runs ≡ runs_of (flat_map run_cells runs))
all_runs plane runs far = (
  record { rising = cells_rise runs far.0; live = λ x y. plane_of-runs runs far.0 x y ∙ far.1 x y },
  sym (runs_apart runs far.0),
)

-- ---- where the runs lie

in_range : (z : ℤ) → spans (2 ^ 63) (z +ℤ pos (2 ^ 62)) ≡ true → IsCoordinate z
in_range z is = record { low = grind (arith, ints); high = grind (arith, ints) }

both_true : (a b : Bool) → (a && b) ≡ true → (a ≡ true) × (b ≡ true)
both_true true b is = (refl, is)
both_true false b is = cc

-- a live cell lies in the range
pub live_in_range : (plane : Plane) (x y : ℤ) → Holds 63 plane → plane x y ≡ true → IsCoordinate x × IsCoordinate y
live_in_range plane x y is live =
    let inside : (spans (2 ^ 63) (x +ℤ pos (2 ^ 62)) && spans (2 ^ 63) (y +ℤ pos (2 ^ 62))) ≡ true =
    by_test (λ b. b ≡ true) (spans (2 ^ 63) (x +ℤ pos (2 ^ 62)) && spans (2 ^ 63) (y +ℤ pos (2 ^ 62))) (λ _. refl) (λ outside. let dead = is.dead x y outside in cc) in
    let parts = both_true _ _ inside in (in_range x parts.0, in_range y parts.1)

-- a coordinate, and the next one, have numbers of 64 bits
pub coordinate_fits : (z : ℤ) → IsCoordinate z → SFits w64 z
coordinate_fits z at = grind (arith, ints, at.low, at.high)

pub next_fits : (z : ℤ) → IsCoordinate z → SFits w64 (z +ℤ pos 1)
next_fits z at = grind (arith, ints, at.low, at.high)

-- how many rows there may be from the next one on
abbrev pub rows_left : Option ℤ → ℕ
rows_left None = 0
rows_left (Some row) = unsigned_abs (pos (2 ^ 62) -ℤ row)

-- there are fewer after each
pub fewer_rows : (plane : Plane) (row : ℤ) (next : Option ℤ) → Holds 63 plane → IsLiveRow plane row → IsFirstRow plane (row +ℤ pos 1) next → rows_left next < rows_left (Some row)
fewer_rows plane row None is live first =
    let here = live_in_range plane live.x row is live.live in omega (arith, ints, here.1.high)
fewer_rows plane row (Some next) is live first =
    let here = live_in_range plane live.x row is live.live in
    let there = live_in_range plane first.1.x next is first.1.live in
    omega (arith, ints, here.1.high, here.1.low, there.1.high, there.1.low, first.0)

-- the cells of a square of a book lie in the range
pub square_in_range : (book : Book) (sq : Sq) → IsBook book → IsKnown book sq.level sq → sq.level ≤ 63 → Holds 63 (centred sq.level (book.cells sq))
square_in_range book sq is known low =
    let least = known.low in
    holds_more sq.level 63 (centred sq.level (book.cells sq)) (omega (arith, least)) low (square_held sq.level (book.cells sq) (is.square sq known.known))

-- ---- the runs of a row lie in the range

some_of : (x : ℤ) (run : ℤ × ℕ) (runs : List (ℤ × ℕ)) → row.is_in_row_run x run ≡ true → row.is_in_some (run ∷ runs) x ≡ true
unfolding row.is_in_some
some_of x run runs here = ap (λ b. b || list_any (row.is_in_row_run x) runs) here

others_of : (x : ℤ) (run : ℤ × ℕ) (runs : List (ℤ × ℕ)) → row.is_in_some runs x ≡ true → row.is_in_some (run ∷ runs) x ≡ true
unfolding row.is_in_some
others_of x run runs there = ap (λ b. row.is_in_row_run x run || b) there ∙ or_true (row.is_in_row_run x run)
  where
    or_true : (b : Bool) → (b || true) ≡ true
    or_true true = refl
    or_true false = refl

first_in : (run : ℤ × ℕ) → 0 < run.1 → row.is_in_row_run run.0 run ≡ true
first_in run some = grind (arith, ints)

last_in : (run : ℤ × ℕ) → 0 < run.1 → row.is_in_row_run (row.end_of run -ℤ pos 1) run ≡ true
last_in run some = grind (arith, ints)

end_fits : (first : ℤ) (count : ℕ) → IsCoordinate ((first +ℤ pos count) -ℤ pos 1) → SFits w64 (first +ℤ pos count)
end_fits first count last = grind (arith, ints, last.low, last.high)

-- the run's first column, and the one behind it, have numbers of 64 bits
pub record Fits64 (run : ℤ × ℕ) : Type 0 where
  pub first : SFits w64 run.0
  pub end : SFits w64 (run.0 +ℤ pos run.1)

runs_fit_from : (plane : Plane) (y : ℤ) (runs : List (ℤ × ℕ)) → Holds 63 plane → row.AreApart runs → ((x : ℤ) → row.is_in_some runs x ≡ true → plane x y ≡ true) → AllByRecursion Fits64 runs
runs_fit_from plane y [] is apart live = tt
runs_fit_from plane y (run ∷ runs) is apart live =
    let first = live run.0 (some_of run.0 run runs (first_in run apart.0)) in
    let last = live (row.end_of run -ℤ pos 1) (some_of (row.end_of run -ℤ pos 1) run runs (last_in run apart.0)) in (
      record { first = coordinate_fits run.0 (live_in_range plane run.0 y is first).0; end = end_fits run.0 run.1 (live_in_range plane (row.end_of run -ℤ pos 1) y is last).0 },
      runs_fit_from plane y runs is apart.2 (λ x there. live x (others_of x run runs there)),
    )

pub runs_fit : (plane : Plane) (y : ℤ) (runs : List (ℤ × ℕ)) (k : ℕ) → Holds 63 plane → row.AreRowRuns plane y runs → k < length runs → Fits64 (get_or runs k (pos 0, 0))
runs_fit plane y runs k is of_row below =
    All-from_recursion Fits64 runs (runs_fit_from plane y runs is of_row.apart (λ x there. sym (of_row.cells x) ∙ there)) k (pos 0, 0) below

-- one run more
pub run_more : (y : ℤ) (old now later : List RowRun) (runs : List (ℤ × ℕ)) (k : ℕ) (run : RowRun) → k < length runs → now ≡ old ++ map (run_in y) (take k runs) → run ≡ run_in y (get_or runs k (pos 0, 0)) →
    later ≡ now ++ run ∷ [] → later ≡ old ++ map (run_in y) (take (k + 1) runs)
run_more y old now later runs k run below far is more =
    more ∙ ap (λ l. l ++ run ∷ []) far ∙ append_assoc old (map (run_in y) (take k runs)) (run ∷ [])
    ∙ ap (λ r. old ++ (map (run_in y) (take k runs) ++ r ∷ [])) is
    ∙ ap (λ l. old ++ l) (sym (map-append (run_in y) (take k runs) (get_or runs k (pos 0, 0) ∷ [])))
    ∙ ap (λ l. old ++ map (run_in y) l) (sym (take_more runs k (pos 0, 0) below))
