-- The pair slots of several tables.
use Rattle.std.specs.Prelude.{◌≡◌, ℕ, ◌<◌, ◌≤◌, List, drop, remove, slice_get, Some, sum_by}
use Rattle.universe.specs.declared.tables.OpenTable.{OpenTable}
use Rattle.universe.specs.Tables.{pairs_in}

-- how many pair slots they have together
abbrev pub pair_sum : List OpenTable → ℕ
pair_sum tables = sum_by pairs_in tables

-- the last of the tables, as many as have together at most so many pair slots
pub record AreLast (old new : List OpenTable) (room : ℕ) : Type 0 where
  pub gone : ℕ
  pub rest : new ≡ drop gone old
  pub fits : pair_sum new ≤ room
  pub needed : (fewer : ℕ) → fewer < gone → room < pair_sum (drop fewer old)

-- the others, without this one
pub record IsTakenOut (old new : List OpenTable) (table : OpenTable) : Type 0 where
  pub place : ℕ
  pub there : slice_get old place ≡ Some table
  pub rest : new ≡ remove old place
