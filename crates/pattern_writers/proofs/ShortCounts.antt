-- The counts of the items of cells in the range.
use Rattle.std.proofs.Common.{ℕ, ◌<◌, ◌^◌, ◌==◌, ℤ, pos, negsuc, ◌+ℤ◌, true, false, if◌then◌else◌, List, [], ◌∷◌, ◌++◌, unsigned_abs, arith}
use lib.Signed.{mag}
use Rattle.std.specs.List.{AllByRecursion}
use Rattle.std.specs.Ordering.{int_eq}
use Rattle.std.proofs.lemmas.Int.{ints}
use Rattle.plane.specs.Range.{IsCoordinate, IsInRange}
use Rattle.plane.specs.declared.cell.Cell.{Cell}
use Rattle.plane.proofs.Elements.{AllByRecursion-append}
use Rattle.rle_reader.specs.declared.item.Tag.{Tag}
use Rattle.rle_reader.specs.declared.item.Tag.TheVariants.{Dead, Live, Row}
use Rattle.pattern_writers.specs.Items.{counted, distance, items_of, next_cell, run_items}
use Rattle.pattern_writers.specs.RowRuns.{joined, run_at, runs_of}
use Rattle.pattern_writers.specs.declared.rle_text.row_run.RowRun.{RowRun}
use Rattle.pattern_writers.proofs.BodyReading.{HasShortCount}
use Rattle.pattern_writers.proofs.ItemReading.{start_of}
use Rattle.pattern_writers.proofs.RunReading.{by_joined}

-- the coordinate is a little beyond the range at most
abbrev pub IsShort : ℤ → Type 0
IsShort z = unsigned_abs z < 2 ^ 63

pub coordinate_short : (z : ℤ) → IsCoordinate z → IsShort z
coordinate_short z at = omega (arith, ints, at.low, at.high)

pub mag_short : (z : ℤ) → IsShort z → mag z < 2 ^ 63
mag_short (pos n) short = omega arith
mag_short (negsuc n) short = omega arith

next_short : (z : ℤ) → IsCoordinate z → IsShort (z +ℤ pos 1)
next_short z at = omega (arith, ints, at.low, at.high)

distance_short : (from to : ℤ) → IsShort from → IsShort to → distance from to < 2 ^ 64
distance_short from to near far = omega (arith, ints, near, far)

-- ---- the runs

record IsShortRun (run : RowRun) : Type 0 where
  row : IsShort run.row
  first : IsShort run.first
  end : IsShort run.end

run_at_short : (cell : Cell) → IsInRange cell → IsShortRun (run_at cell)
run_at_short cell within = record { row = coordinate_short cell.y within.y; first = coordinate_short cell.x within.x; end = next_short cell.x within.x }

joined_short : (run : RowRun) (runs : List RowRun) → IsShortRun run → AllByRecursion IsShortRun runs → AllByRecursion IsShortRun (joined run runs)
joined_short run [] one all = (one, tt)
joined_short run (next ∷ runs) one all =
    by_joined (AllByRecursion IsShortRun) run next runs (λ _. (record { row = one.row; first = one.first; end = all.0.end }, all.1)) (one, all)

runs_short : (cells : List Cell) → AllByRecursion IsInRange cells → AllByRecursion IsShortRun (runs_of cells)
runs_short [] within = tt
runs_short (cell ∷ cells) within = joined_short (run_at cell) (runs_of cells) (run_at_short cell within.0) (runs_short cells within.1)

-- ---- the items

counted_short : (tag : Tag) (count : ℕ) → count < 2 ^ 64 → AllByRecursion HasShortCount (counted tag count)
counted_short tag count small =
    elim (count == 0) as (λ b. AllByRecursion HasShortCount (if b then [] else (record { count = count; tag = tag } ∷ []))) [
      | true ↦ tt
      | false ↦ (omega arith, tt)
    ]

start_short : (left : ℤ) (next : Cell) (run : RowRun) → IsShort left → IsShort next.x → IsShort (start_of left next run)
start_short left next run first second =
    elim (int_eq run.row next.y) as (λ b. IsShort (if b then next.x else left)) [ true ↦ second | false ↦ first ]

items_short : (left : ℤ) (next : Cell) (runs : List RowRun) → IsShort left → IsShort next.x → IsShort next.y → AllByRecursion IsShortRun runs →
    AllByRecursion HasShortCount (items_of left next runs)
items_short left next [] first column row all = tt
items_short left next (run ∷ runs) first column row all =
    let start : ℤ = start_of left next run in
    let rows = counted_short Row (distance next.y run.row) (distance_short next.y run.row row all.0.row) in
    let dead = counted_short Dead (distance start run.first) (distance_short start run.first (start_short left next run first column) all.0.first) in
    let live = counted_short Live (distance run.first run.end) (distance_short run.first run.end all.0.first all.0.end) in
    AllByRecursion-append HasShortCount (run_items left next run) (items_of left (next_cell run) runs)
    (AllByRecursion-append HasShortCount (counted Row (distance next.y run.row) ++ counted Dead (distance start run.first)) (counted Live (distance run.first run.end))
    (AllByRecursion-append HasShortCount (counted Row (distance next.y run.row)) (counted Dead (distance start run.first)) rows dead) live)
    (items_short left (next_cell run) runs first all.0.end all.0.row all.1)

-- each count of the items of cells in the range is short
pub counts_short : (corner : Cell) (cells : List Cell) → IsShort corner.x → IsShort corner.y → AllByRecursion IsInRange cells →
    AllByRecursion HasShortCount (items_of corner.x corner (runs_of cells))
counts_short corner cells column row within = items_short corner.x corner (runs_of cells) column column row (runs_short cells within)
