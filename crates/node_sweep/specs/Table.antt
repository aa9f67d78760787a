-- A table that is copied from or into: its size and its words.
use Rattle.std.specs.Prelude.{ℕ, List, slice_index}
use Rattle.table_core.specs.declared.key.Key.{Key}
use Rattle.table_core.specs.Layout.{result_of}
use Rattle.table_core.specs.Blocks.{Words, IsBlock}

-- the words of a table, and how many pair slots it has, as a power of two
pub record Table : Type 0 where
  pub bits : ℕ
  pub words : Words

-- these words under this head
abbrev pub table_by : Key → List ℕ → Table
table_by key words = record { bits = key.shape.bits; words = slice_index words }

-- the number shows a block of this rank
abbrev pub IsBlockIn : Table → (rank number : ℕ) → Type 0
IsBlockIn table rank number = IsBlock table.bits table.words rank number

-- the word beside a pair, which tells its result
abbrev pub word_beside : Table → (pair : ℕ) → ℕ
word_beside table pair = table.words (result_of table.bits pair)
