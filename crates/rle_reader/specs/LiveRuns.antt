-- The live items of a file as runs of cells.
use Rattle.std.specs.Prelude.{ℕ, List, [], ◌∷◌, ◌++◌, ℤ, pos, neg_ℤ, ◌+ℤ◌, ◌≤ℤ◌, ◌<ℤ◌}
use Rattle.plane.specs.declared.cell.Cell.{Cell}
use Rattle.rle_reader.specs.Items.{ItemSlice}
use Rattle.rle_reader.specs.Meaning.{Meaning}
use Rattle.rle_reader.specs.State.{State, start_at, after_item}
use Rattle.rle_reader.specs.declared.item.Tag.{Tag}
use Rattle.rle_reader.specs.declared.item.Tag.TheVariants.{Dead, Live, Row}

-- the run of an item whose first cell is this one, if it is of live cells
abbrev pub live_run : Cell → Tag → ℕ → List (Cell × ℕ)
live_run first Live count = (first, count) ∷ []
live_run first Dead count = []
live_run first Row count = []

-- the runs of the live ones of these items, of which the first begins in this state
unfoldable pub live_runs_from : ℤ → State → List ItemSlice → List (Cell × ℕ)
live_runs_from left state [] = []
live_runs_from left state (run ∷ runs) =
    live_run (record { y = state.row; x = state.column }) run.tag run.count
    ++ live_runs_from left (after_item left state run.tag run.count) runs

-- the runs of live cells of a meaning, in the order of reading
abbrev pub live_runs_of : Meaning → List (Cell × ℕ)
live_runs_of meaning = live_runs_from meaning.pos.x (start_at meaning.pos) meaning.runs

-- the run lies in the square around (0, 0) whose sides are this far from it
pub record LiesWithin (reach : ℕ) (run : Cell × ℕ) : Type 0 where
  pub left : neg_ℤ (pos reach) ≤ℤ run.0.x
  pub right : (run.0.x +ℤ pos run.1) ≤ℤ pos reach
  pub top : neg_ℤ (pos reach) ≤ℤ run.0.y
  pub bottom : run.0.y <ℤ pos reach
