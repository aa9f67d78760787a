-- What a desk at its table knows.
use Rattle.std.specs.Prelude.{◌≡◌}
use Rattle.squares.specs.Book.{Book}
use Rattle.table_core.specs.Knowledge.{Grows}
use Rattle.node_table.specs.declared.at.At.{At}
use Rattle.node_table.specs.declared.desk.Desk.{Desk}
use Rattle.node_table.specs.Desks.{work_at}
use Rattle.node_table.specs.Numbers.{KeepsTold}
use Rattle.node_table.specs.Refusals.{known_by}

abbrev pub book_here : At → Book
book_here at = work_at at.expansions at.table.now at.desk

-- the second desk knows all that the first knew: its words, its squares and halves of squares, and
-- its results; so it has no room for a word for which the first has none
abbrev pub KnowsAllOf : Desk → Desk → Type 0
KnowsAllOf old new = Grows (known_by old) (known_by new)

-- a desk at work at the same table, which knows all that it knew
pub record GoesOn (old new : At) : Type 0 where
  pub table : new.table.now ≡ old.table.now
  pub grows : KnowsAllOf old.desk new.desk

-- a desk at work at the same table, which came with the same number of expansions
pub record StaysAt (old new : At) : Type 0 where
  pub table : new.table.now ≡ old.table.now
  pub expansions : new.expansions ≡ old.expansions

-- a desk that stays at its table knows all that it knew, and no other result
pub record LearnsBlocks (old new : At) : Type 0 where
  pub here : StaysAt old new
  pub grows : KnowsAllOf old.desk new.desk
  pub told : KeepsTold (known_by old.desk) (known_by new.desk)
