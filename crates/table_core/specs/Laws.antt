-- Laws of all tables beside that of all runs.
use Rattle.std.specs.Prelude.{◌≡◌, ◌≢◌, ℕ, ◌^◌, ◌≤◌, ◌<◌, ◌↔◌, IsTrue, Contains, length}
use Rattle.table_core.specs.declared.key.Key.{Key}
use Rattle.table_core.specs.declared.knowledge.Knowledge.{Knowledge}
use Rattle.table_core.specs.declared.knowledge.KnownResult.{KnownResult}
use Rattle.table_core.specs.declared.machine.Event.{Event}
use Rattle.table_core.specs.declared.shape.Kind.{Kind}
use Rattle.table_core.specs.Layout.{GoesThroughShard, size}
use Rattle.table_core.specs.Blocks.{Words, IsBlock, cells_of}
use Rattle.table_core.specs.Good.{IsGood}
use Rattle.table_core.specs.Knowledge.{IsTrueOf, IsTrueResult, IsConsistent, HasSeen, KnowsBlock, Grows}
use Rattle.table_core.specs.FullShards.{KnowsFullShard, knows_full_shard}
use Rattle.table_core.specs.Events.{index_of}
use Rattle.table_core.specs.Lawful.{IsLawful}
use Rattle.table_core.specs.Learning.{LearnsFrom}

abbrev pub EveryWay : Type 0
EveryWay =
    (bits : ℕ) (kind : Kind) (word : ℕ) → 10 ≤ bits → bits ≤ 28 → GoesThroughShard bits kind word

-- what a desk knows after a lawful event: there is such knowledge, and whatever it is, it is true,
-- and no less than before
pub record Teaches (key : Key) (words : Words) (known : Knowledge) (event : Event)
    (word : ℕ) : Type 0 where
  pub some : (after : Knowledge) × LearnsFrom key event known word after
  pub true_of : (after : Knowledge) → LearnsFrom key event known word after →
      IsTrueOf key.shape.bits words after
  pub grows : (after : Knowledge) → LearnsFrom key event known word after → Grows known after

abbrev pub EveryEventTeaches : Type 0
EveryEventTeaches =
    (key : Key) (words : Words) (known : Knowledge) (event : Event) (word : ℕ) →
    IsGood key words → IsTrueOf key.shape.bits words known → IsLawful key known event →
    words (index_of event) ≡ word →
    Teaches key words known event word

abbrev pub EveryTruthIsConsistent : Type 0
EveryTruthIsConsistent =
    (key : Key) (words : Words) (known : Knowledge) → IsGood key words →
    IsTrueOf key.shape.bits words known → IsConsistent key.shape.bits known

-- all that good words say is known: each word, each block and each result
pub record KnowsAll (bits : ℕ) (words : Words) (known : Knowledge) : Type 0 where
  pub true_of : IsTrueOf bits words known
  pub seen : (i : ℕ) → i < size bits → words i ≢ 0 → HasSeen known i (words i)
  pub blocks : (rank i : ℕ) → IsBlock bits words rank i →
      KnowsBlock known rank i (cells_of words rank i)
  pub results : (result : KnownResult) → IsTrueResult bits words result →
      Contains known.results result

abbrev pub GoodWordsCanBeKnown : Type 0
GoodWordsCanBeKnown =
    (key : Key) (words : Words) → IsGood key words →
    (known : Knowledge) × KnowsAll key.shape.bits words known

-- each result that a desk truly knows has a pair slot of its own, so they are no more than the
-- table's pair slots
abbrev pub EveryResultHasItsSlot : Type 0
EveryResultHasItsSlot =
    (bits : ℕ) (words : Words) (known : Knowledge) → IsTrueOf bits words known →
    length known.results ≤ 2 ^ bits

abbrev pub FullShardIsSeen : Type 0
FullShardIsSeen =
    (bits : ℕ) (known : Knowledge) → 10 ≤ bits →
    IsTrue (knows_full_shard bits known) ↔ KnowsFullShard bits known
