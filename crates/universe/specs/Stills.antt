-- Cells in words that were copied, or that a table is opened of.
use Rattle.std.specs.Prelude.{◌≡◌, ℕ, ◌≤◌, ◌^◌}
use Rattle.node_sweep.specs.CopiedStills.{HasNoRoomFor, IsResized, IsSwept}
use Rattle.node_table.specs.Stills.{key_of}
use Rattle.plane.specs.Square.{IsSame}
use Rattle.universe.specs.Cells.{live_cells, root_of, still_cells, still_of}
use Rattle.universe.specs.Tables.{IsOpened}
use Rattle.universe.specs.declared.other_tables.OtherTables.{OtherTables}
use Rattle.universe.specs.declared.rooted_still.RootedStill.{RootedStill}
use Rattle.universe.specs.declared.universe.Universe.{Universe}

-- the same cells under the same rule and exponent, in words of so many pair slots
pub record IsCopied (old : RootedStill) (pairs : ℕ) (new : RootedStill) : Type 0 where
  pub cells : IsSame (still_cells new) (still_cells old)
  pub resized : IsResized (key_of (still_of old)) (key_of (still_of new)) pairs

-- so it is, with what the root reaches and nothing else; or there is no room for this
abbrev pub IsSweptFrom : RootedStill → ℕ → RootedStill → Type 0
IsSweptFrom old pairs new = IsSwept (still_of old) (root_of old) pairs (still_of new) (root_of new)

abbrev pub HasNoRoomToSweep : RootedStill → ℕ → Type 0
HasNoRoomToSweep old pairs = HasNoRoomFor (still_of old) (root_of old) pairs

-- the same cells under the same rule, in words of no more pair slots
pub record IsCompacted (old new : RootedStill) : Type 0 where
  pub cells : IsSame (still_cells new) (still_cells old)
  pub rule : (key_of (still_of new)).rule ≡ (key_of (still_of old)).rule
  pub pairs : 2 ^ (key_of (still_of new)).shape.bits ≤ 2 ^ (key_of (still_of old)).shape.bits

-- the cells at a table that has just been opened of the words under this exponent, beside these
-- other tables
pub record IsOpenedAt (rooted : RootedStill) (exponent : ℕ) (beside : OtherTables)
    (universe : Universe) : Type 0 where
  pub cells : IsSame (live_cells universe) (still_cells rooted)
  pub opened : IsOpened (still_of rooted) (key_of (still_of rooted)).rule exponent universe.here
  pub others : universe.others ≡ beside
