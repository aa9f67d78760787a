-- The live cells of a universe, at work and at rest.
use Rattle.std.specs.Prelude.{ℕ, ◌+◌, ◌^◌}
use Rattle.rule_text.specs.CountRule.{CountRule}
use Rattle.plane.specs.Plane.{Plane, after}
use Rattle.node_table.specs.declared.still.Still.{Still}
use Rattle.node_table.specs.Stills.{book_in, key_of}
use Rattle.squares.specs.Book.{Book}
use Rattle.squares.specs.Roots.{square_plane}
use Rattle.squares.specs.declared.sq.Sq.{Sq}
use Rattle.universe.specs.declared.other_tables.OtherTables.{OtherTables}
use Rattle.universe.specs.declared.resting.Resting.{Resting}
use Rattle.universe.specs.declared.rooted_still.RootedStill.{RootedStill}
use Rattle.universe.specs.declared.tables.OpenTable.{OpenTable}
use Rattle.universe.specs.declared.universe.Universe.{Universe}
use Rattle.universe.specs.Sums.{pair_sum}
use Rattle.universe.specs.Tables.{key_at, known_at, pairs_in}

-- the words, and the square in them
abbrev pub still_of : RootedStill → Still
still_of rooted = rooted.still

abbrev pub root_of : RootedStill → Sq
root_of rooted = rooted.root

abbrev pub still_cells : RootedStill → Plane
still_cells rooted = square_plane (book_in (still_of rooted)) (root_of rooted)

-- the cells of a square at a table, one step later
abbrev pub next_cells : OpenTable → Sq → Plane
next_cells opened root =
    after (key_at opened).rule (square_plane (known_at opened) root) (2 ^ (key_at opened).exponent)

abbrev pub live_cells : Universe → Plane
live_cells universe = square_plane (known_at universe.here) universe.root

-- by which rule its generations follow one another
abbrev pub rule_of : Universe → CountRule
rule_of universe = (key_at universe.here).rule

-- how many pair slots its tables may have together
abbrev pub limit_of : Universe → ℕ
limit_of universe = 2 ^ universe.others.limit.bits

-- how many pair slots its tables have together
abbrev pub pairs_of : Universe → ℕ
pairs_of universe = pairs_in universe.here + pair_sum universe.others.tables.items

-- how many generations a step of the table with its square takes, as a power of two
abbrev pub exponent_of : Universe → ℕ
exponent_of universe = (key_at universe.here).exponent

-- what is known at the table with its square
abbrev pub known_by : Universe → Book
known_by universe = known_at universe.here

-- ---- at rest

-- its live cells, as a square in words
abbrev pub rooted_of : Resting → RootedStill
rooted_of resting = resting.cells

abbrev pub resting_cells : Resting → Plane
resting_cells resting = still_cells (rooted_of resting)

abbrev pub resting_rule : Resting → CountRule
resting_rule resting = (key_of (still_of (rooted_of resting))).rule

-- its tables beside the one of its cells
abbrev pub others_of : Resting → OtherTables
others_of resting = resting.others

abbrev pub resting_limit : Resting → ℕ
resting_limit resting = 2 ^ (others_of resting).limit.bits

-- what its words show
abbrev pub shown_by : Resting → Book
shown_by resting = book_in (still_of (rooted_of resting))
