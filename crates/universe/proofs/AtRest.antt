-- Universes that come to rest, and go on.
use Rattle.std.proofs.Common.{sym}
use Rattle.node_table.specs.Openings.{SaysAll}
use Rattle.node_table.specs.Stills.{key_of}
use Rattle.plane.proofs.Same.{same_sym}
use Rattle.universe.specs.Cells.{known_by, rooted_of, shown_by, still_of}
use Rattle.universe.specs.Rests.{IsAtRest}
use Rattle.universe.specs.Stills.{IsOpenedAt}
use Rattle.universe.specs.declared.resting.Resting.{Resting}
use Rattle.universe.specs.declared.universe.Universe.{Universe}
use Rattle.universe.proofs.OpenedResults.{opened_says}

-- the words that were opened under their own exponent are the universe at rest
pub resumed : (resting : Resting) (universe : Universe) → IsOpenedAt (rooted_of resting) (key_of (still_of (rooted_of resting))).exponent resting.others universe → IsAtRest universe resting
resumed resting universe is = record { cells = same_sym is.cells; key = sym is.opened.opens.key; others = sym is.others }

-- and the table knows all that they say
pub resumed_says : (resting : Resting) (universe : Universe) → IsOpenedAt (rooted_of resting) (key_of (still_of (rooted_of resting))).exponent resting.others universe → SaysAll (shown_by resting) (known_by universe)
resumed_says resting universe is = opened_says (still_of (rooted_of resting)) universe.here.table universe.here.desk is.opened.opens
