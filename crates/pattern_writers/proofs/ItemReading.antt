-- The cells of runs, read back from their items.
use Rattle.std.proofs.Common.{◌≡◌, ℕ, zero, suc, ◌<◌, ℤ, pos, ◌+ℤ◌, ◌≤ℤ◌, if◌then◌else◌, List, [], ◌∷◌, ◌++◌, flat_map, refl, ap, ◌∙◌, arith, append_assoc}
use lib.Dec.{eqb-suc-zero}
use Rattle.std.specs.Ordering.{int_eq}
use Rattle.std.specs.Bool.{Decides}
use Rattle.std.proofs.lemmas.Bool.Decides.{Decides-int_eq}
use Rattle.std.proofs.lemmas.Int.{ints}
use Rattle.plane.specs.declared.cell.Cell.{Cell}
use Rattle.plane.proofs.Cells.{at, same_cell}
use Rattle.rle_reader.specs.declared.item.Tag.{Tag}
use Rattle.rle_reader.specs.declared.item.Tag.TheVariants.{Dead, Live, Row}
use Rattle.pattern_writers.specs.Items.{counted, distance, items_of, next_cell, run_items}
use Rattle.pattern_writers.specs.declared.rle_text.items.Item.{Item}
use Rattle.pattern_writers.specs.declared.rle_text.row_run.RowRun.{RowRun}

-- so many cells side by side
abbrev pub span : ℤ → ℤ → ℕ → List Cell
span row first zero = []
span row first (suc count) = at first row ∷ span row (first +ℤ pos 1) count

-- the cells of a run
abbrev pub run_cells : RowRun → List Cell
run_cells run = span run.row run.first (distance run.first run.end)

-- the cells of an item that begins at a cell
abbrev pub item_cells : Cell → Tag → ℕ → List Cell
item_cells next Live count = span next.y next.x count
item_cells next Dead count = []
item_cells next Row count = []

-- where the next item begins, in rows that begin in the column `left`
abbrev pub past : ℤ → Cell → Tag → ℕ → Cell
past left next Live count = at (next.x +ℤ pos count) next.y
past left next Dead count = at (next.x +ℤ pos count) next.y
past left next Row count = at left (next.y +ℤ pos count)

-- the cells of items, of which the first begins at a cell
abbrev pub cells_of : ℤ → Cell → List Item → List Cell
cells_of left next [] = []
cells_of left next (item ∷ items) = item_cells next item.tag item.count ++ cells_of left (past left next item.tag item.count) items

-- ---- the items of one run

no_step : (next : Cell) → next ≡ at (next.x +ℤ pos 0) next.y
no_step next = same_cell next.x next.y _ _ (omega (arith, ints)) refl

pub counted_some : (tag : Tag) (count : ℕ) → counted tag (suc count) ≡ record { count = suc count; tag = tag } ∷ []
counted_some tag count = ap (λ b. if b then [] else (record { count = suc count; tag = tag } ∷ [])) (eqb-suc-zero count)

dead_read : (left : ℤ) (next : Cell) (count : ℕ) (items : List Item) →
    cells_of left next (counted Dead count ++ items) ≡ cells_of left (at (next.x +ℤ pos count) next.y) items
dead_read left next zero items = ap (λ c. cells_of left c items) (no_step next)
dead_read left next (suc count) items = ap (λ l. cells_of left next (l ++ items)) (counted_some Dead count)

live_read : (left : ℤ) (next : Cell) (count : ℕ) (items : List Item) →
    cells_of left next (counted Live count ++ items) ≡ span next.y next.x count ++ cells_of left (at (next.x +ℤ pos count) next.y) items
live_read left next zero items = ap (λ c. cells_of left c items) (no_step next)
live_read left next (suc count) items = ap (λ l. cells_of left next (l ++ items)) (counted_some Live count)

row_read : (left : ℤ) (next to : Cell) (count : ℕ) (items : List Item) → (count ≡ 0 → next ≡ to) → (0 < count → at left (next.y +ℤ pos count) ≡ to) →
    cells_of left next (counted Row count ++ items) ≡ cells_of left to items
row_read left next to zero items same other = ap (λ c. cells_of left c items) (same refl)
row_read left next to (suc count) items same other =
    ap (λ l. cells_of left next (l ++ items)) (counted_some Row count) ∙ ap (λ c. cells_of left c items) (other (omega arith))

-- where the dead cells before a run begin
abbrev pub start_of : ℤ → Cell → RowRun → ℤ
start_of left next run = if int_eq run.row next.y then next.x else left

-- the run lies at a cell or after it
pub record IsAhead (left : ℤ) (next : Cell) (run : RowRun) : Type 0 where
  pub down : next.y ≤ℤ run.row
  pub across : start_of left next run ≤ℤ run.first
  pub ends : run.first ≤ℤ run.end

pub start_same : (left : ℤ) (next : Cell) (run : RowRun) → distance next.y run.row ≡ 0 → next ≡ at (start_of left next run) run.row
start_same left next run none =
    let decides : Decides (int_eq run.row next.y) (run.row ≡ next.y) = Decides-int_eq run.row next.y in
    let row : next.y ≡ run.row = omega (arith, ints) in
    let column : next.x ≡ start_of left next run = grind arith in
    same_cell next.x next.y _ _ column row

pub start_below : (left : ℤ) (next : Cell) (run : RowRun) → next.y ≤ℤ run.row → 0 < distance next.y run.row → at left (next.y +ℤ pos (distance next.y run.row)) ≡ at (start_of left next run) run.row
start_below left next run down some =
    let decides : Decides (int_eq run.row next.y) (run.row ≡ next.y) = Decides-int_eq run.row next.y in
    let other : run.row ≡ next.y → ⊥ = λ same. omega (arith, ints) in
    let column : left ≡ start_of left next run = grind arith in
    same_cell left _ _ _ column (omega (arith, ints))

run_read : (left : ℤ) (next : Cell) (run : RowRun) (items : List Item) → IsAhead left next run →
    cells_of left next (run_items left next run ++ items) ≡ run_cells run ++ cells_of left (next_cell run) items
run_read left next run items ahead =
    let start : ℤ = start_of left next run in
    let rows : ℕ = distance next.y run.row in
    let dead : ℕ = distance start run.first in
    let live : ℕ = distance run.first run.end in
    let to_first : at (start +ℤ pos dead) run.row ≡ at run.first run.row = same_cell _ _ _ _ (omega (arith, ints, ahead.across)) refl in
    let to_end : at (run.first +ℤ pos live) run.row ≡ next_cell run = same_cell _ _ run.end run.row (omega (arith, ints, ahead.ends)) refl in
    ap (cells_of left next) (append_assoc (counted Row rows ++ counted Dead dead) (counted Live live) items ∙ append_assoc (counted Row rows) (counted Dead dead) (counted Live live ++ items))
    ∙ row_read left next (at start run.row) rows (counted Dead dead ++ (counted Live live ++ items)) (start_same left next run) (start_below left next run ahead.down)
    ∙ dead_read left (at start run.row) dead (counted Live live ++ items)
    ∙ ap (λ c. cells_of left c (counted Live live ++ items)) to_first
    ∙ live_read left (at run.first run.row) live items
    ∙ ap (λ c. run_cells run ++ cells_of left c items) to_end

-- ---- the items of runs

-- each run lies at the end of the one before it or after it
abbrev pub AreAhead : ℤ → Cell → List RowRun → Type 0
AreAhead left next [] = Unit {0}
AreAhead left next (run ∷ runs) = IsAhead left next run × AreAhead left (next_cell run) runs

-- the items of runs give back the cells of the runs
pub items_read : (left : ℤ) (next : Cell) (runs : List RowRun) → AreAhead left next runs → cells_of left next (items_of left next runs) ≡ flat_map run_cells runs
items_read left next [] ahead = refl
items_read left next (run ∷ runs) ahead =
    run_read left next run (items_of left (next_cell run) runs) ahead.0 ∙ ap (λ cells. run_cells run ++ cells) (items_read left (next_cell run) runs ahead.1)
