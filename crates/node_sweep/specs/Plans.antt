-- What is to be copied, and what was.
use Rattle.std.specs.Prelude.{◌≡◌, ℕ}
use Rattle.squares.specs.declared.sq.Sq.{Sq}
use Rattle.node_table.specs.declared.still.Still.{Still}
use Rattle.node_table.specs.Stills.{key_of, items_of}
use Rattle.node_sweep.specs.Filled.{CopiesInto, CopiesSome}
use Rattle.node_sweep.specs.Transfers.{IsCopyMade}
use Rattle.node_sweep.specs.declared.transfer.Transfer.{Transfer}

-- the words have some numbers, and the copy of the root, with this level
pub record IsFilled (transfer : Transfer) (level : ℕ) (now : Still) (copy : Sq) : Type 0 where
  pub same_key : key_of now ≡ transfer.to
  pub all : CopiesSome transfer (items_of now)
  pub same_level : copy.level ≡ level
  pub made : IsCopyMade transfer (items_of now) transfer.root copy.num.0

-- the words have what is wanted and nothing else
abbrev pub IsFilledAlone : Transfer → Still → Type 0
IsFilledAlone transfer now = CopiesInto transfer (items_of now)
