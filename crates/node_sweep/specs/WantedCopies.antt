-- What it means that what is wanted was copied into fresh words.
use Rattle.std.specs.Prelude.{◌≡◌, ◌≢◌, ℕ, ◌+◌, ◌^◌, ◌⊎◌, List, slice_index}
use Rattle.table_core.specs.declared.key.Key.{Key}
use Rattle.table_core.specs.declared.shape.Kind.{Kind}
use Rattle.table_core.specs.declared.shape.Kind.TheVariants.{Pair}
use Rattle.table_core.specs.Layout.{IsSlot}
use Rattle.table_core.specs.Good.{AreGoodWords}
use Rattle.node_sweep.specs.Table.{IsBlockIn, Table, table_by, word_beside}
use Rattle.node_sweep.specs.Copies.{IsCopy, IsWantedCopy}

-- the result beside a pair is this number, and that is the empty square or wanted itself
pub record HasWantedResult (old : Table) (wanted : ℕ → Type 0) (pair future : ℕ) : Type 0 where
  pub told : word_beside old pair ≡ 2 ^ 32 + future
  pub there : (future ≡ 0) ⊎ wanted future

-- the result beside the copy of a pair is a copy of its result
pub record IsResultCopied (old new : Table) (wanted : ℕ → Type 0) (pair copy : ℕ) : Type 0 where
  pub future : ℕ
  pub may : HasWantedResult old wanted pair future
  pub number : ℕ
  pub told : word_beside new copy ≡ 2 ^ 32 + number
  pub rank : ℕ
  pub shown : IsCopy old new rank future number

-- it is where that is wanted, and else there is none
abbrev pub IsResultCopiedOrGone : (old new : Table) (wanted : ℕ → Type 0) (pair copy : ℕ) → Type 0
IsResultCopiedOrGone old new wanted pair copy =
    IsResultCopied old new wanted pair copy
    ⊎ (((future : ℕ) → HasWantedResult old wanted pair future → ⊥) × (word_beside new copy ≡ 0))

-- the new words are good, and have a copy of each wanted block of the old ones; each of their
-- leaves and pairs is such a copy; beside the copy of a pair stands a copy of its result where that
-- is the empty square or wanted, and no other result
pub record CopiesWanted (old : Table) (to : Key) (wanted : ℕ → Type 0) (new : List ℕ) : Type 0 where
  pub good : AreGoodWords to new
  pub copies : (rank number : ℕ) → IsBlockIn old rank number → wanted number →
      (copy : ℕ) × IsCopy old (table_by to new) rank number copy
  pub originals : (kind : Kind) (i : ℕ) → IsSlot to.shape.bits kind i → slice_index new i ≢ 0 →
      (number : ℕ) × IsWantedCopy old (table_by to new) wanted number i
  pub results : (pair rank i : ℕ) → IsSlot old.bits Pair pair → wanted pair →
      IsCopy old (table_by to new) rank pair i →
      IsResultCopiedOrGone old (table_by to new) wanted pair i
  pub no_others : (i : ℕ) → IsSlot to.shape.bits Pair i → slice_index new i ≡ 0 →
      word_beside (table_by to new) i ≡ 0
