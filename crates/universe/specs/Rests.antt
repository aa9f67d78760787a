-- A universe at rest.
use Rattle.std.specs.Prelude.{◌≡◌, []}
use Rattle.node_table.specs.Stills.{key_of}
use Rattle.plane.specs.Square.{IsSame}
use Rattle.universe.specs.Cells.{live_cells, others_of, resting_cells, rooted_of, still_of}
use Rattle.universe.specs.Stills.{IsCompacted}
use Rattle.universe.specs.Tables.{key_at}
use Rattle.universe.specs.declared.resting.Resting.{Resting}
use Rattle.universe.specs.declared.universe.Universe.{Universe}

-- the same cells, in the words of a table of the same shape, rule and exponent, beside the same
-- other tables
pub record IsAtRest (universe : Universe) (resting : Resting) : Type 0 where
  pub cells : IsSame (resting_cells resting) (live_cells universe)
  pub key : key_of (still_of (rooted_of resting)) ≡ key_at universe.here
  pub others : resting.others ≡ universe.others

-- the same cells under the same rule and limit, in words of no more pair slots, without other tables
pub record IsSnapshot (resting snapshot : Resting) : Type 0 where
  pub compacted : IsCompacted (rooted_of resting) (rooted_of snapshot)
  pub limit : (others_of snapshot).limit ≡ (others_of resting).limit
  pub none : (others_of snapshot).tables.items ≡ []
