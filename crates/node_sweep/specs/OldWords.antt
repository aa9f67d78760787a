-- The words that are copied from.
use Rattle.std.specs.Prelude.{ℕ, slice_index}
use Rattle.table_core.specs.Blocks.{Words}
use Rattle.node_sweep.specs.Table.{Table, table_by}
use Rattle.node_sweep.specs.declared.transfer.OldWords.{OldWords}

abbrev pub words_in : OldWords → Words
words_in old = slice_index old.words.now

-- the size of the table, as a power of two
abbrev pub bits_in : OldWords → ℕ
bits_in old = old.key.now.shape.bits

-- the size and the words
abbrev pub table_in : OldWords → Table
table_in old = table_by old.key.now old.words.now
