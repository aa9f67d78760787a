-- The items of cells in the range have no fault.
use Rattle.std.proofs.Common.{◌≡◌, ℕ, zero, suc, ◌+◌, ◌<◌, ◌≤◌, ◌||◌, nat_lt, false, ℤ, pos, ◌+ℤ◌, ◌≤ℤ◌, ◌<ℤ◌, int_le, int_lt, List, [], ◌∷◌, ◌++◌, length, flat_map, refl, ap, sym, subst, ◌∙◌, arith, append_assoc, length-append}
use lib.Dec.{eqb-suc-zero}
use Rattle.std.specs.List.{AllByRecursion}
use Rattle.std.proofs.lemmas.Bool.Decides.{nat_tests}
use Rattle.std.proofs.lemmas.Int.{ints}
use Rattle.plane.specs.Range.{IsInRange}
use Rattle.plane.specs.declared.cell.Cell.{Cell}
use Rattle.plane.specs.Limits.{coordinate_limit, most_live_cells}
use Rattle.rle_reader.specs.State.{State, after_item, leaves_range, passes_cells, state_at}
use Rattle.rle_reader.specs.declared.item.Tag.{Tag}
use Rattle.rle_reader.specs.declared.item.Tag.TheVariants.{Dead, Live, Row}
use Rattle.pattern_writers.specs.Items.{counted, distance, items_of, next_cell, run_items}
use Rattle.pattern_writers.specs.RowRuns.{joined, run_at, runs_of}
use Rattle.pattern_writers.specs.declared.rle_text.items.Item.{Item}
use Rattle.pattern_writers.specs.declared.rle_text.row_run.RowRun.{RowRun}
use Rattle.pattern_writers.proofs.ItemReading.{AreAhead, IsAhead, counted_some, run_cells, span, start_below, start_of, start_same}
use Rattle.pattern_writers.proofs.ItemsBack.{AreFaultless}
use Rattle.pattern_writers.proofs.RunReading.{by_joined}

-- ---- the runs of cells in the range

-- the run lies in the range, with the cell before its end
record IsRunInRange (run : RowRun) : Type 0 where
  row : run.row <ℤ coordinate_limit
  end : run.end ≤ℤ coordinate_limit

run_at_in_range : (cell : Cell) → IsInRange cell → IsRunInRange (run_at cell)
run_at_in_range cell within = record { row = within.y.high; end = omega (arith, ints, within.x.high) }

joined_in_range : (run : RowRun) (runs : List RowRun) → IsRunInRange run → AllByRecursion IsRunInRange runs → AllByRecursion IsRunInRange (joined run runs)
joined_in_range run [] one all = (one, tt)
joined_in_range run (next ∷ runs) one all = by_joined (AllByRecursion IsRunInRange) run next runs (λ _. (record { row = one.row; end = all.0.end }, all.1)) (one, all)

runs_in_range : (cells : List Cell) → AllByRecursion IsInRange cells → AllByRecursion IsRunInRange (runs_of cells)
runs_in_range [] within = tt
runs_in_range (cell ∷ cells) within = joined_in_range (run_at cell) (runs_of cells) (run_at_in_range cell within.0) (runs_in_range cells within.1)

-- ---- the items of one run

not_below : (a b : ℤ) → a ≤ℤ b → int_lt b a ≡ false
not_below a b order = grind (arith, ints)

not_over : (a b : ℤ) → a <ℤ b → int_le b a ≡ false
not_over a b order = grind (arith, ints)

few_cells : (cells : ℕ) → cells ≤ most_live_cells → nat_lt most_live_cells cells ≡ false
few_cells cells few = grind (arith, nat_tests)

-- an item that may be left out
counted_faultless : (left : ℤ) (state : State) (tag : Tag) (count : ℕ) (items : List Item) → leaves_range state tag count ≡ false → passes_cells state tag count ≡ false →
    (count ≡ 0 → AreFaultless left state items) → (0 < count → AreFaultless left (after_item left state tag count) items) → AreFaultless left state (counted tag count ++ items)
counted_faultless left state tag zero items stays few none some = none refl
counted_faultless left state tag (suc count) items stays few none some =
    subst (λ l. AreFaultless left state (l ++ items)) (sym (counted_some tag count)) (record { some = eqb-suc-zero count; stays = stays; few = few }, some (omega arith))

module _ (left : ℤ) (next : Cell) (live : ℕ) (run : RowRun) (items : List Item) (ahead : IsAhead left next run) (within : IsRunInRange run) where
  abbrev start : ℤ
  start = start_of left next run

  abbrev rows : ℕ
  rows = distance next.y run.row

  abbrev dead : ℕ
  dead = distance start run.first

  abbrev cells : ℕ
  cells = distance run.first run.end

  live_faultless : live + cells ≤ most_live_cells → AreFaultless left (state_at run.end run.row (live + cells)) items → AreFaultless left (state_at run.first run.row live) (counted Live cells ++ items)
  live_faultless few more =
      let to_end : run.first +ℤ pos cells ≡ run.end = omega (arith, ints, ahead.ends) in
      counted_faultless left (state_at run.first run.row live) Live cells items
      (ap (λ b. b || int_le coordinate_limit run.row) (not_below (run.first +ℤ pos cells) coordinate_limit (omega (arith, ints, to_end, within.end))) ∙ not_over run.row coordinate_limit within.row)
      (few_cells (live + cells) few)
      (λ none.
      let column : run.end ≡ run.first = omega (arith, ints, none, to_end) in
      let same : live + cells ≡ live = omega (arith, none) in
      subst (λ n. AreFaultless left (state_at run.first run.row n) items) same (subst (λ x. AreFaultless left (state_at x run.row (live + cells)) items) column more))
      (λ _. subst (λ x. AreFaultless left (state_at x run.row (live + cells)) items) (sym to_end) more)

  dead_faultless : (others : List Item) → AreFaultless left (state_at run.first run.row live) others → AreFaultless left (state_at start run.row live) (counted Dead dead ++ others)
  dead_faultless others more =
      let to_first : start +ℤ pos dead ≡ run.first = omega (arith, ints, ahead.across) in
      counted_faultless left (state_at start run.row live) Dead dead others
      (not_below (start +ℤ pos dead) coordinate_limit (omega (arith, ints, to_first, ahead.ends, within.end)))
      refl
      (λ none.
      let column : run.first ≡ start = omega (arith, ints, none, to_first) in
      subst (λ x. AreFaultless left (state_at x run.row live) others) column more)
      (λ _. subst (λ x. AreFaultless left (state_at x run.row live) others) (sym to_first) more)

  rows_faultless : (others : List Item) → AreFaultless left (state_at start run.row live) others → AreFaultless left (state_at next.x next.y live) (counted Row rows ++ others)
  rows_faultless others more =
      let to_row : next.y +ℤ pos rows ≡ run.row = omega (arith, ints, ahead.down) in
      counted_faultless left (state_at next.x next.y live) Row rows others
      (not_below (next.y +ℤ pos rows) coordinate_limit (omega (arith, ints, to_row, within.row)))
      refl
      (λ none. subst (λ (cell : Cell). AreFaultless left (state_at cell.x cell.y live) others) (sym (start_same left next run none)) more)
      (λ some. subst (λ (cell : Cell). AreFaultless left (state_at cell.x cell.y live) others) (sym (start_below left next run ahead.down some)) more)

  run_faultless : live + cells ≤ most_live_cells → AreFaultless left (state_at run.end run.row (live + cells)) items → AreFaultless left (state_at next.x next.y live) (run_items left next run ++ items)
  run_faultless few more =
      subst (AreFaultless left (state_at next.x next.y live))
      (sym (append_assoc (counted Row rows ++ counted Dead dead) (counted Live cells) items ∙ append_assoc (counted Row rows) (counted Dead dead) (counted Live cells ++ items)))
      (rows_faultless (counted Dead dead ++ (counted Live cells ++ items)) (dead_faultless (counted Live cells ++ items) (live_faultless few more)))

-- ---- the items of runs

span_length : (row first : ℤ) (count : ℕ) → length (span row first count) ≡ count
span_length row first zero = refl
span_length row first (suc count) = ap suc (span_length row (first +ℤ pos 1) count)

runs_faultless : (left : ℤ) (next : Cell) (live : ℕ) (runs : List RowRun) → AreAhead left next runs → AllByRecursion IsRunInRange runs →
    live + length (flat_map run_cells runs) ≤ most_live_cells → AreFaultless left (state_at next.x next.y live) (items_of left next runs)
runs_faultless left next live [] ahead within few = tt
runs_faultless left next live (run ∷ runs) ahead within few =
    let cells : ℕ = distance run.first run.end in
    let own : length (run_cells run) ≡ cells = span_length run.row run.first cells in
    let total : length (run_cells run ++ flat_map run_cells runs) ≡ length (run_cells run) + length (flat_map run_cells runs) = length-append (run_cells run) (flat_map run_cells runs) in
    run_faultless left next live run (items_of left (next_cell run) runs) ahead.0 within.0 (omega (arith, own, total, few))
    (runs_faultless left (next_cell run) (live + cells) runs ahead.1 within.1 (omega (arith, own, total, few)))

-- the items of cells in the range, at most 2^28, have no fault
pub items_faultless : (corner : Cell) (cells : List Cell) → AreAhead corner.x corner (runs_of cells) → AllByRecursion IsInRange cells → flat_map run_cells (runs_of cells) ≡ cells → length cells ≤ most_live_cells →
    AreFaultless corner.x (state_at corner.x corner.y 0) (items_of corner.x corner (runs_of cells))
items_faultless corner cells ahead within same few =
    runs_faultless corner.x corner 0 (runs_of cells) ahead (runs_in_range cells within) (omega (arith, ap length same, few))
