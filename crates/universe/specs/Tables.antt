-- What is known at open tables.
use Rattle.std.specs.Prelude.{◌≡◌, ℕ, ◌≤◌, ◌^◌, IsTrue, []}
use Rattle.rule_text.specs.CountRule.{CountRule}
use Rattle.node_table.specs.declared.desk.Desk.{Desk}
use Rattle.node_table.specs.declared.still.Still.{Still}
use Rattle.node_table.specs.Books.{IsTrueOfGoodWords}
use Rattle.node_table.specs.Desks.{book_at}
use Rattle.node_table.specs.Openings.{Opens}
use Rattle.node_table.specs.Refusals.{known_by}
use Rattle.node_table.specs.Stills.{IsVacant, book_in}
use Rattle.squares.specs.declared.sq.Sq.{Sq}
use Rattle.table_core.specs.declared.key.Key.{Key}
use Rattle.plane.specs.Plane.{Plane}
use Rattle.squares.specs.Roots.{IsRootOf}
use Rattle.squares.specs.Book.{Book, IsKnown, Keeps, Shows}
use Rattle.universe.specs.declared.tables.OpenTable.{OpenTable}

abbrev pub known_at : OpenTable → Book
known_at opened = book_at opened.table opened.desk

-- its shape, its rule and its exponent
abbrev pub key_at : OpenTable → Key
key_at opened = opened.table.key

-- how many pair slots it has
abbrev pub pairs_in : OpenTable → ℕ
pairs_in opened = 2 ^ (key_at opened).shape.bits

abbrev pub HasPairs : ℕ → OpenTable → Type 0
HasPairs pairs opened = pairs_in opened ≡ pairs

-- a table of the same shape under this rule and exponent that has just been opened from the words,
-- and knows what they show
pub record IsOpened (still : Still) (rule : CountRule) (exponent : ℕ)
    (opened : OpenTable) : Type 0 where
  pub opens : Opens still rule exponent opened.table opened.desk
  pub shows : (sq : Sq) → IsKnown (book_in still) sq.level sq →
      Shows (known_at opened) sq.level ((book_in still).cells sq) sq

-- the same table, which knows all that it knew
pub record StaysOpen (old new : OpenTable) : Type 0 where
  pub same_table : new.table ≡ old.table
  pub keeps : Keeps (known_at old) (known_at new)

-- the table is under this rule and exponent
abbrev pub IsTableUnder : CountRule → ℕ → OpenTable → Type 0
IsTableUnder rule exponent opened =
    ((key_at opened).exponent ≡ exponent) × ((key_at opened).rule ≡ rule)

-- a table that has just been opened without a square
pub record IsFreshTable (rule : CountRule) (exponent pairs : ℕ) (opened : OpenTable) : Type 0 where
  pub still : Still
  pub vacant : IsVacant still pairs
  pub is : IsOpened still rule exponent opened
  pub under : IsTableUnder rule exponent opened
  pub size : pairs_in opened ≡ pairs

-- a table of so many pair slots for single generations by this rule, which knows the square of
-- these cells around (0,0)
pub record IsBuilt (rule : CountRule) (live : Plane) (pairs : ℕ) (opened : OpenTable)
    (root : Sq) : Type 0 where
  pub under : IsTableUnder rule 0 opened
  pub size : pairs_in opened ≡ pairs
  pub is_root : IsRootOf (known_at opened) live root
  pub level : root.level ≤ 63

-- the table was opened from these words under this rule and exponent, and is full now; and all that
-- its desk knows is true of some good words under the table's key
pub record HasFilledUp (still : Still) (rule : CountRule) (exponent : ℕ)
    (table : OpenTable) : Type 0 where
  pub first : Desk
  pub opens : Opens still rule exponent table.table first
  pub keeps : Keeps (book_at table.table first) (known_at table)
  pub full : IsTrue (known_at table).is_full
  pub words : ∥ IsTrueOfGoodWords (key_at table) (known_by table.desk) ∥₁

-- a table is full as building may leave it: it has so many pair slots, is for single generations by
-- this rule, was opened without a square, and knows no result. Which squares fill it is not said:
-- they may be any, of use for the cells or not
pub record HasFullTable (rule : CountRule) (pairs : ℕ) : Type 0 where
  pub still : Still
  pub vacant : IsVacant still pairs
  pub table : OpenTable
  pub size : pairs_in table ≡ pairs
  pub filled : HasFilledUp still rule 0 table
  pub no_result : (known_at table).results ≡ []
