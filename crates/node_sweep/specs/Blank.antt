-- Words without a square, into which squares are copied.
use Rattle.std.specs.Prelude.{ℕ}
use Rattle.table_core.specs.declared.key.Key.{Key}
use Rattle.node_sweep.specs.CopiedStills.{IsResized}
use Rattle.node_sweep.specs.Copying.{AreBlankWords}
use Rattle.node_sweep.specs.declared.blank.BlankWords.{BlankWords}

-- words of so many pair slots, under the rule and the exponent of this head, without a square
pub record AreBlank (from : Key) (pairs : ℕ) (blank : BlankWords) : Type 0 where
  pub words : AreBlankWords blank.key blank.words.items
  pub resized : IsResized from blank.key pairs
