-- What is copied into fresh words, while it is copied.
use Rattle.std.specs.Prelude.{◌≡◌, ℕ, ◌+◌, ◌^◌, List, length, slice_index}
use Rattle.plane.specs.declared.refusal.Refusal.{Refusal}
use Rattle.table_core.specs.declared.shape.Kind.{Kind}
use Rattle.table_core.specs.declared.shape.Kind.TheVariants.{Pair}
use Rattle.table_core.specs.Layout.{IsSlot, start}
use Rattle.table_core.specs.Blocks.{Words}
use Rattle.node_sweep.specs.Table.{IsBlockIn, Table, table_by}
use Rattle.node_sweep.specs.Copies.{HasNoRoomForWanted, IsCopyOf, IsWordOf, SaysFull}
use Rattle.node_sweep.specs.Copying.{IsCopying}
use Rattle.node_sweep.specs.Keeping.{AreResultWords, IsKeeping}
use Rattle.node_sweep.specs.OldWords.{bits_in, table_in, words_in}
use Rattle.node_sweep.specs.Reaching.{IsSomePlan, IsWanted}
use Rattle.node_sweep.specs.declared.transfer.Fresh.{Fresh}
use Rattle.node_sweep.specs.declared.transfer.Transfer.{Transfer}

abbrev pub old_words : Transfer → Words
old_words transfer = words_in transfer.old

abbrev pub fresh_words : Fresh → Words
fresh_words fresh = slice_index fresh.words.items

-- the sizes of both tables, as powers of two
abbrev pub old_bits : Transfer → ℕ
old_bits transfer = bits_in transfer.old

abbrev pub new_bits : Transfer → ℕ
new_bits transfer = transfer.to.shape.bits

-- the table that is copied from, and the one that is copied into
abbrev pub old_table : Transfer → Table
old_table transfer = table_in transfer.old

abbrev pub fresh_table : Transfer → Fresh → Table
fresh_table transfer fresh = table_by transfer.to fresh.words.items

-- how many numbers the leaves and the pairs of the old words have, with 0
abbrev pub number_count : Transfer → ℕ
number_count transfer = start (old_bits transfer) Pair + 2 ^ old_bits transfer

-- the number is to be copied
abbrev pub wants : Transfer → ℕ → Type 0
wants transfer = IsWanted transfer.plan (old_table transfer) transfer.root

-- something is planned, so any number may be copied
abbrev pub IsPlanned : Transfer → Type 0
IsPlanned transfer = IsSomePlan transfer.plan

-- the fresh words hold the copies that are noted, and nothing else; there is a note for each old
-- leaf and pair
pub record IsUnderway (transfer : Transfer) (fresh : Fresh) : Type 0 where
  pub copying : IsCopying (old_table transfer) transfer.to
      (wants transfer) fresh.words.items fresh.copies.items
  pub long : length fresh.copies.items ≡ number_count transfer

-- all is copied, and the results of so many pairs were gone through
abbrev pub AreResultsKept : Transfer → List ℕ → List ℕ → ℕ → Type 0
AreResultsKept transfer copies new done =
    IsKeeping (old_table transfer) transfer.to (wants transfer) copies new done

-- all is copied, and all results were gone through
abbrev pub AreAllResultsKept : Transfer → List ℕ → List ℕ → Type 0
AreAllResultsKept transfer copies new = AreResultsKept transfer copies new (2 ^ old_bits transfer)

-- the words to stand beside the copies of the 64 pairs from this slot on
abbrev pub AreNextResultWords : Transfer → List ℕ → List ℕ → ℕ → Type 0
AreNextResultWords transfer copies told from =
    AreResultWords (old_table transfer) copies told from 64

-- this is the word that the copy of the number has
abbrev pub IsWordNeeded : Transfer → List ℕ → Kind → ℕ → ℕ → Type 0
IsWordNeeded transfer new kind number word =
    IsWordOf (old_table transfer) (table_by transfer.to new) kind number word

-- the number has this copy
abbrev pub IsCopyMade : Transfer → List ℕ → ℕ → ℕ → Type 0
IsCopyMade transfer new number copy =
    IsCopyOf (old_table transfer) (table_by transfer.to new) number copy

-- the number has this copy, and that is noted
pub record IsCopyNoted (transfer : Transfer) (fresh : Fresh) (number copy : ℕ) : Type 0 where
  pub made : IsCopyMade transfer fresh.words.items number copy
  pub noted : slice_index fresh.copies.items number ≡ copy

-- copies of some that are wanted leave no room for another one
abbrev pub HasNoRoomLeft : Transfer → Type 0
HasNoRoomLeft transfer = HasNoRoomForWanted (old_table transfer) transfer.to (wants transfer)

-- the refusal is a full table, and there is no room left
abbrev pub SaysNoRoom : Transfer → Refusal → Type 0
SaysNoRoom transfer = SaysFull (HasNoRoomLeft transfer)
