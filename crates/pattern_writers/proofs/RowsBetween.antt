-- The runs of the rows of a plane between borders, and how they join.
use Rattle.std.proofs.Common.{◌≡◌, ℕ, zero, suc, ◌+◌, ℤ, ◌≤ℤ◌, ◌<ℤ◌, int_le, int_lt, Bool, true, false, ◌&&◌, ◌||◌, if◌then◌else◌, Option, None, Some, List, [], ◌∷◌, ◌++◌, flat_map, Vec, Global, refl, ap, sym, ◌∙◌, subst, arith}
use Rattle.std.specs.declared.cmp.Ordering.TheVariants.{Less}
use Rattle.std.specs.List.{AllByRecursion, AllZip, list_any, range_with_len}
use Rattle.std.specs.List.Sorted.{IsStrictlySortedBy}
use Rattle.std.specs.Ordering.{int_eq}
use Rattle.std.proofs.lemmas.Int.{ints}
use Rattle.std.proofs.lemmas.List.Folds.{list_any-append}
use Rattle.plane.specs.Centred.{Holds}
use Rattle.plane.specs.Listing.{IsListing, is_at, plane_of, reading_order}
use Rattle.plane.specs.Plane.{Plane}
use Rattle.plane.specs.declared.cell.Cell.{Cell}
use Rattle.plane.proofs.Listings.{is_at-own}
use Rattle.plane.proofs.Elements.{AllByRecursion-append, AllByRecursion-weaker}
use Rattle.viewport.specs.Rows.{IsDeadFrom, IsFirstRow}
use Rattle.pattern_writers.specs.RleText.{HasRuns}
use Rattle.pattern_writers.specs.RowRuns.{AddsRow, first_cell, joined, rows_between, run_at, runs_of}
use Rattle.pattern_writers.specs.declared.rle_text.row_run.RowRun.{RowRun}

pub by_test : (P : Bool → Type 0) (b : Bool) → (b ≡ true → P true) → (b ≡ false → P false) → P b
by_test P true h k = h refl
by_test P false h k = k refl

and_nothing : (b : Bool) → (b && false) ≡ false
and_nothing true = refl
and_nothing false = refl

both : (a b : Bool) → (a && b) ≡ true → (a ≡ true) × (b ≡ true)
both true b is = (refl, is)
both false b is = cc

-- ---- the rows between two borders

-- a live cell between the borders lies there
pub record IsBetween (from end : ℤ) (y : ℤ) : Type 0 where
  pub low : from ≤ℤ y
  pub high : y <ℤ end

pub live_between : (from end : ℤ) (plane : Plane) (x y : ℤ) → rows_between from end plane x y ≡ true → IsBetween from end y
live_between from end plane x y live =
    let rows = both (int_le from y && int_lt y end) (plane x y) live in
    let two = both (int_le from y) (int_lt y end) rows.0 in
    record { low = grind (arith, ints, two.0); high = grind (arith, ints, two.1) }

pub in_between : (from end : ℤ) (plane : Plane) (x y : ℤ) → from ≤ℤ y → y <ℤ end → rows_between from end plane x y ≡ plane x y
in_between from end plane x y low high =
    let above : int_le from y ≡ true = grind (arith, ints, low) in
    let below : int_lt y end ≡ true = grind (arith, ints, high) in
    ap (λ b. (b && int_lt y end) && plane x y) above ∙ ap (λ b. b && plane x y) below

pub dead_between : (from end : ℤ) (plane : Plane) (x y : ℤ) → plane x y ≡ false → rows_between from end plane x y ≡ false
dead_between from end plane x y dead = ap (λ b. (int_le from y && int_lt y end) && b) dead ∙ and_nothing _

dead_at_end : (from end : ℤ) (plane : Plane) (x y : ℤ) → end ≤ℤ y → rows_between from end plane x y ≡ false
dead_at_end from end plane x y low =
    let below : int_lt y end ≡ false = grind (arith, ints, low) in
    ap (λ b. (int_le from y && b) && plane x y) below ∙ ap (λ b. b && plane x y) (and_nothing (int_le from y))

pub none_above : (from end : ℤ) (plane : Plane) (x y : ℤ) → y <ℤ from → rows_between from end plane x y ≡ false
none_above from end plane x y above =
    let outside : int_le from y ≡ false = grind (arith, ints, above) in ap (λ b. (b && int_lt y end) && plane x y) outside

pub between_held : (from end : ℤ) (plane : Plane) → Holds 63 plane → Holds 63 (rows_between from end plane)
between_held from end plane is = record { dead = λ x y outside. dead_between from end plane x y (is.dead x y outside) }

-- from a row on, the rows from an earlier one on are the same
from_later : (from later end : ℤ) (plane : Plane) (x y : ℤ) → from ≤ℤ later → later ≤ℤ y → rows_between from end plane x y ≡ rows_between later end plane x y
from_later from later end plane x y less low =
    let one : int_le from y ≡ true = grind (arith, ints, low, less) in
    let two : int_le later y ≡ true = grind (arith, ints, low) in
    ap (λ b. (b && int_lt y end) && plane x y) (one ∙ sym two)

-- ---- the first row between two borders

pub first_between : (from end : ℤ) (plane : Plane) (row : ℤ) → IsFirstRow plane from (Some row) → row <ℤ end → IsFirstRow (rows_between from end plane) from (Some row)
first_between from end plane row first below = (
  first.0,
  record { x = first.1.x; live = in_between from end plane first.1.x row first.0 below ∙ first.1.live },
  record { dead = λ x y low high. dead_between from end plane x y (first.2.dead x y low high) },
)

pub none_between : (from end : ℤ) (plane : Plane) → IsDeadFrom plane from → IsFirstRow (rows_between from end plane) from None
none_between from end plane dead = record { dead = λ x y low. dead_between from end plane x y (dead.dead x y low) }

pub first_below : (from end : ℤ) (plane : Plane) (row : ℤ) → IsFirstRow plane from (Some row) → end ≤ℤ row → IsFirstRow (rows_between from end plane) from None
first_below from end plane row first above = record {
  dead = λ x y low.
      by_test (λ b. rows_between from end plane x y ≡ false) (int_lt y row)
      (λ less. dead_between from end plane x y (first.2.dead x y low (grind (arith, ints, less))))
      (λ no. let late : end ≤ℤ y = grind (arith, ints, above, no) in dead_at_end from end plane x y late);
}

-- the first row from a later one on is the same among the rows from an earlier one on
pub first_later : (from later end : ℤ) (plane : Plane) (row : Option ℤ) → from ≤ℤ later → IsFirstRow (rows_between later end plane) later row → IsFirstRow (rows_between from end plane) later row
first_later from later end plane None less dead = record { dead = λ x y low. from_later from later end plane x y less low ∙ dead.dead x y low }
first_later from later end plane (Some row) less first = (
  first.0,
  record { x = first.1.x; live = from_later from later end plane first.1.x row less first.0 ∙ first.1.live },
  record { dead = λ x y low high. from_later from later end plane x y less low ∙ first.2.dead x y low high },
)

pub adds_between : (from end : ℤ) (plane : Plane) (y : ℤ) (old new : List RowRun) → IsBetween from end y → AddsRow plane y old new → AddsRow (rows_between from end plane) y old new
adds_between from end plane y old new at adds = record {
  runs = adds.runs;
  of_row = record { apart = adds.of_row.apart; cells = λ x. adds.of_row.cells x ∙ sym (in_between from end plane x y at.low at.high) };
  added = adds.added;
}

-- ---- the cells of a listing

pub found_all : (P : Cell → Type 0) (cells : List Cell) → ((cell : Cell) → list_any (is_at cell.x cell.y) cells ≡ true → P cell) → AllByRecursion P cells
found_all P [] each = tt
found_all P (cell ∷ cells) each = (
  each cell (ap (λ b. b || list_any (is_at cell.x cell.y) cells) (is_at-own cell)),
  found_all P cells (λ other found. each other (ap (λ b. is_at other.x other.y cell || b) found ∙ or_true (is_at other.x other.y cell))),
)
  where
    or_true : (b : Bool) → (b || true) ≡ true
    or_true true = refl
    or_true false = refl

listed_between : (from end : ℤ) (plane : Plane) (cells : List Cell) → IsListing cells (rows_between from end plane) → AllByRecursion (λ (cell : Cell). IsBetween from end cell.y) cells
unfolding plane_of
listed_between from end plane cells listing =
    found_all (λ (cell : Cell). IsBetween from end cell.y) cells (λ cell found. live_between from end plane cell.x cell.y (sym (listing.live cell.x cell.y) ∙ found))

-- ---- cells above a border and cells below it

upper_first : (border : ℤ) (a b : Cell) → a.y <ℤ border → border ≤ℤ b.y → reading_order a b ≡ Less
upper_first border a b above below = grind (arith, ints, above, below)

rising_append : (border : ℤ) (cells more : List Cell) → AllByRecursion (λ (cell : Cell). cell.y <ℤ border) cells → AllByRecursion (λ (cell : Cell). border ≤ℤ cell.y) more →
    IsStrictlySortedBy reading_order cells → IsStrictlySortedBy reading_order more → IsStrictlySortedBy reading_order (cells ++ more)
unfolding IsStrictlySortedBy
rising_append border [] more above below up also = also
rising_append border (cell ∷ cells) more above below up also = (
  AllByRecursion-append _ cells more up.0 (AllByRecursion-weaker (λ (other : Cell). border ≤ℤ other.y) (λ other. reading_order cell other ≡ Less) (λ other low. upper_first border cell other above.0 low) more below),
  rising_append border cells more above.1 below up.1 also,
)

runs_below : (border : ℤ) (cells : List Cell) → AllByRecursion (λ (cell : Cell). border ≤ℤ cell.y) cells → AllByRecursion (λ (run : RowRun). border ≤ℤ run.row) (runs_of cells)
runs_below border [] all = tt
runs_below border (cell ∷ cells) all = joined_below (run_at cell) (runs_of cells) all.0 (runs_below border cells all.1)
  where
    joined_below : (run : RowRun) (runs : List RowRun) → border ≤ℤ run.row → AllByRecursion (λ (other : RowRun). border ≤ℤ other.row) runs → AllByRecursion (λ (other : RowRun). border ≤ℤ other.row) (joined run runs)
    joined_below run [] low below = (low, tt)
    joined_below run (next ∷ runs) low below =
        by_test (λ b. AllByRecursion (λ (other : RowRun). border ≤ℤ other.row) (if b then (record run { end = next.end } ∷ runs) else (run ∷ next ∷ runs))) (is_at run.end run.row (first_cell next))
        (λ _. (low, below.1)) (λ _. (low, below))

not_next : (border : ℤ) (run next : RowRun) → run.row <ℤ border → border ≤ℤ next.row → is_at run.end run.row (first_cell next) ≡ false
not_next border run next above below =
    let apart : int_eq run.row next.row ≡ false = grind (arith, ints, above, below) in ap (λ b. b && int_eq run.end next.first) apart

joined_append : (border : ℤ) (run : RowRun) (runs more : List RowRun) → run.row <ℤ border → AllByRecursion (λ (other : RowRun). border ≤ℤ other.row) more → joined run (runs ++ more) ≡ joined run runs ++ more
joined_append border run [] [] above below = refl
joined_append border run [] (next ∷ more) above below =
    ap (λ b. if b then (record run { end = next.end } ∷ more) else (run ∷ next ∷ more)) (not_next border run next above below.0)
joined_append border run (next ∷ runs) more above below =
    by_test (λ b. (if b then (record run { end = next.end } ∷ (runs ++ more)) else (run ∷ next ∷ (runs ++ more))) ≡ (if b then (record run { end = next.end } ∷ runs) else (run ∷ next ∷ runs)) ++ more)
    (is_at run.end run.row (first_cell next)) (λ _. refl) (λ _. refl)

runs_append : (border : ℤ) (cells more : List Cell) → AllByRecursion (λ (cell : Cell). cell.y <ℤ border) cells → AllByRecursion (λ (cell : Cell). border ≤ℤ cell.y) more → runs_of (cells ++ more) ≡ runs_of cells ++ runs_of more
runs_append border [] more above below = refl
runs_append border (cell ∷ cells) more above below =
    ap (joined (run_at cell)) (runs_append border cells more above.1 below)
    ∙ joined_append border (run_at cell) (runs_of cells) (runs_of more) above.0 (runs_below border more below)

-- ---- runs of neighbouring rows

split_rows : (from border end : ℤ) (plane : Plane) (x y : ℤ) → from ≤ℤ border → border ≤ℤ end → (rows_between from border plane x y || rows_between border end plane x y) ≡ rows_between from end plane x y
split_rows from border end plane x y low high =
    by_test (λ b. (rows_between from border plane x y || rows_between border end plane x y) ≡ rows_between from end plane x y) (int_lt y border)
    (λ above.
    let one : int_lt y end ≡ true = grind (arith, ints, above, high) in
    let two : int_le border y ≡ false = grind (arith, ints, above) in
    ap (λ b. ((int_le from y && b) && plane x y) || rows_between border end plane x y) above
    ∙ ap (λ b. ((int_le from y && true) && plane x y) || ((b && int_lt y end) && plane x y)) two
    ∙ or_false ((int_le from y && true) && plane x y)
    ∙ ap (λ b. (int_le from y && b) && plane x y) (sym one))
    (λ no.
    let one : int_le from y ≡ true = grind (arith, ints, no, low) in
    let two : int_le border y ≡ true = grind (arith, ints, no) in
    ap (λ b. b || rows_between border end plane x y) (dead_at_end from border plane x y (grind (arith, ints, no)))
    ∙ ap (λ b. (b && int_lt y end) && plane x y) (two ∙ sym one))
  where
    or_false : (b : Bool) → (b || false) ≡ b
    or_false true = refl
    or_false false = refl

pub neighbours_join : (from border end : ℤ) (plane : Plane) (runs more : List RowRun) → from ≤ℤ border → border ≤ℤ end → HasRuns (rows_between from border plane) runs → HasRuns (rows_between border end plane) more →
    HasRuns (rows_between from end plane) (runs ++ more)
unfolding plane_of
neighbours_join from border end plane runs more low high upper lower =
    let above = AllByRecursion-weaker (λ (cell : Cell). IsBetween from border cell.y) (λ (cell : Cell). cell.y <ℤ border) (λ cell at. at.high) upper.cells (listed_between from border plane upper.cells upper.listing) in
    let below = AllByRecursion-weaker (λ (cell : Cell). IsBetween border end cell.y) (λ (cell : Cell). border ≤ℤ cell.y) (λ cell at. at.low) lower.cells (listed_between border end plane lower.cells lower.listing) in
    record {
      cells = upper.cells ++ lower.cells;
      listing = record {
        rising = rising_append border upper.cells lower.cells above below upper.listing.rising lower.listing.rising;
        live = λ x y.
            list_any-append (is_at x y) upper.cells lower.cells
            ∙ ap (λ b. b || list_any (is_at x y) lower.cells) (upper.listing.live x y)
            ∙ ap (λ b. rows_between from border plane x y || b) (lower.listing.live x y)
            ∙ split_rows from border end plane x y low high;
      };
      runs_is = ap (λ l. l ++ more) upper.runs_is ∙ ap (λ l. runs_of upper.cells ++ l) lower.runs_is ∙ sym (runs_append border upper.cells lower.cells above below);
    }

pub no_rows : (border : ℤ) (plane : Plane) → HasRuns (rows_between border border plane) []
unfolding plane_of IsStrictlySortedBy
no_rows border plane = record {
  cells = [];
  listing = record { rising = tt; live = λ x y. let none : (int_le border y && int_lt y border) ≡ false = grind (arith, ints) in sym (ap (λ b. b && plane x y) none) };
  runs_is = refl;
}

pub runs_of_same : (plane other : Plane) (runs : List RowRun) → HasRuns plane runs → ((x y : ℤ) → plane x y ≡ other x y) → HasRuns other runs
runs_of_same plane other runs has same = record {
  cells = has.cells;
  listing = record { rising = has.listing.rising; live = λ x y. has.listing.live x y ∙ same x y };
  runs_is = has.runs_is;
}

-- ---- all bands

-- the borders of bands never go up
abbrev pub AreBorders : (ℕ → ℤ) → Type 0
AreBorders border = (band : ℕ) → border band ≤ℤ border (band + 1)

same_border : (border : ℕ → ℤ) (a b : ℕ) → a ≡ b → border a ≡ border b
same_border border a b same = ap border same

bands_rise : (border : ℕ → ℤ) (first count : ℕ) → AreBorders border → border first ≤ℤ border (first + count)
bands_rise border first zero rise =
    let here = same_border border first (first + zero) (omega arith) in omega (arith, ints, here)
bands_rise border first (suc count) rise =
    let one = rise first in
    let more = bands_rise border (first + 1) count rise in
    let there = same_border border ((first + 1) + count) (first + suc count) (omega arith) in
    omega (arith, ints, one, more, there)

pub bands_join : (plane : Plane) (border : ℕ → ℤ) (first count : ℕ) (bands : List (Vec RowRun Global)) → AreBorders border →
    AllZip (λ band (runs : Vec RowRun Global). HasRuns (rows_between (border band) (border (band + 1)) plane) runs.items) (range_with_len first count) bands →
    HasRuns (rows_between (border first) (border (first + count)) plane) (flat_map (λ (runs : Vec RowRun Global). runs.items) bands)
bands_join plane border first zero [] rise each =
    subst (λ end. HasRuns (rows_between (border first) end plane) []) (same_border border first (first + zero) (omega arith)) (no_rows (border first) plane)
bands_join plane border first zero (band ∷ bands) rise each = absurd each
bands_join plane border first (suc count) [] rise each = absurd each
bands_join plane border first (suc count) (band ∷ bands) rise each =
    let more = flat_map (λ (runs : Vec RowRun Global). runs.items) bands in
    let joins : HasRuns (rows_between (border first) (border ((first + 1) + count)) plane) (band.items ++ more) =
    neighbours_join (border first) (border (first + 1)) (border ((first + 1) + count)) plane band.items more
    (rise first) (bands_rise border (first + 1) count rise) each.0 (bands_join plane border (first + 1) count bands rise each.1) in
    subst (λ end. HasRuns (rows_between (border first) end plane) (band.items ++ more)) (same_border border ((first + 1) + count) (first + suc count) (omega arith)) joins
