-- The items of rows, and their texts.
use Rattle.std.specs.Prelude.{ℕ, ℤ, ◌-ℤ◌, unsigned_abs, ◌==◌, if◌then◌else◌, List, [], ◌∷◌, ◌++◌, codes, decimal}
use Rattle.std.specs.Ordering.{int_eq}
use Rattle.plane.specs.declared.cell.Cell.{Cell}
use Rattle.rle_reader.specs.declared.item.Tag.{Tag}
use Rattle.rle_reader.specs.declared.item.Tag.TheVariants.{Dead, Live, Row}
use Rattle.pattern_writers.specs.declared.rle_text.items.Item.{Item}
use Rattle.pattern_writers.specs.declared.rle_text.row_run.RowRun.{RowRun}

-- the byte of a tag
abbrev pub tag_text : Tag → List ℕ
tag_text Dead = codes "b"
tag_text Live = codes "o"
tag_text Row = codes "$"

-- an item's count, if that is not 1, and its tag
abbrev pub item_text : Item → List ℕ
item_text item = (if item.count == 1 then [] else decimal item.count) ++ tag_text item.tag

-- the one item, or none if its count is 0
abbrev pub counted : Tag → ℕ → List Item
counted tag count = if count == 0 then [] else (record { count = count; tag = tag } ∷ [])

-- how many columns or rows lie from one to another
abbrev pub distance : ℤ → ℤ → ℕ
distance from to = unsigned_abs (to -ℤ from)

-- the cell after the last of a run
abbrev pub next_cell : RowRun → Cell
next_cell run = record { y = run.row; x = run.end }

-- the items from a cell on to the end of a run, in rows that begin in the column `left`
abbrev pub run_items : ℤ → Cell → RowRun → List Item
run_items left next run =
    counted Row (distance next.y run.row)
    ++ counted Dead (distance (if int_eq run.row next.y then next.x else left) run.first)
    ++ counted Live (distance run.first run.end)

-- the items from a cell on to the end of the last of some runs in rising order
abbrev pub items_of : ℤ → Cell → List RowRun → List Item
items_of left next [] = []
items_of left next (run ∷ runs) = run_items left next run ++ items_of left (next_cell run) runs

-- the cell after the last of some runs, which follow a cell
abbrev pub cell_after : Cell → List RowRun → Cell
cell_after next [] = next
cell_after next (run ∷ runs) = cell_after (next_cell run) runs
