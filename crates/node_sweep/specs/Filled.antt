-- Fresh words that were filled.
use Rattle.std.specs.Prelude.{ℕ, List}
use Rattle.node_sweep.specs.Copies.{has_note}
use Rattle.node_sweep.specs.Transfers.{old_table, wants}
use Rattle.node_sweep.specs.WantedCopies.{CopiesWanted}
use Rattle.node_sweep.specs.declared.transfer.Transfer.{Transfer}

-- with all that is wanted
abbrev pub CopiesInto : Transfer → List ℕ → Type 0
CopiesInto transfer new = CopiesWanted (old_table transfer) transfer.to (wants transfer) new

-- with the root and some other numbers, those for which something is noted
pub record CopiesSome (transfer : Transfer) (new : List ℕ) : Type 0 where
  pub notes : List ℕ
  pub has_root : has_note notes transfer.root
  pub all : CopiesWanted (old_table transfer) transfer.to (has_note notes) new
