-- Ways without a free slot, as a desk knows them.
use Rattle.std.specs.Prelude.{◌≢◌, ℕ, ◌<◌}
use Rattle.table_core.specs.declared.key.Key.{Key}
use Rattle.table_core.specs.declared.knowledge.Knowledge.{Knowledge}
use Rattle.table_core.specs.declared.shape.Kind.{Kind}
use Rattle.table_core.specs.Layout.{IsSlot, way}
use Rattle.table_core.specs.Blocks.{Words}
use Rattle.table_core.specs.Good.{IsGood, KeepsWords}
use Rattle.table_core.specs.Knowledge.{HasSeen, HasSeenAll, IsTrueOf}

-- it has seen another word there, and not 0
abbrev pub HasSeenAnother : Knowledge → ℕ → ℕ → Type 0
HasSeenAnother known index word =
    (other : ℕ) × HasSeen known index other × (other ≢ 0) × (other ≢ word)

-- it has seen another word at each place of the word's way
pub record KnowsFullWay (bits : ℕ) (known : Knowledge) (kind : Kind) (word : ℕ) : Type 0 where
  pub full : (place : ℕ) → place < 256 → HasSeenAnother known (way bits kind word place) word

-- the word stands nowhere among the words of its kind
abbrev pub StandsNowhere : ℕ → Words → Kind → ℕ → Type 0
StandsNowhere bits words kind word = (index : ℕ) → IsSlot bits kind index → words index ≢ word

-- a way that a desk knows to be full is full for all that have seen what it saw; and the word
-- stands nowhere, now or in any later good words
pub record StaysFull (key : Key) (words : Words) (known : Knowledge) (kind : Kind)
    (word : ℕ) : Type 0 where
  pub stays : (after : Knowledge) → HasSeenAll known after →
      KnowsFullWay key.shape.bits after kind word
  pub nowhere : (later : Words) → KeepsWords words later → IsGood key later →
      StandsNowhere key.shape.bits later kind word

abbrev pub EveryFullWayStays : Type 0
EveryFullWayStays =
    (key : Key) (words : Words) (known : Knowledge) (kind : Kind) (word : ℕ) → word ≢ 0 →
    IsTrueOf key.shape.bits words known → KnowsFullWay key.shape.bits known kind word →
    StaysFull key words known kind word
