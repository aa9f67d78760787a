-- Which events are lawful for a desk that knows so much.
use Rattle.std.specs.Prelude.{◌≡◌, ◌≢◌, ℕ, ◌-◌, ◌^◌, ◌<◌}
use Rattle.plane.specs.Plane.{Plane}
use Rattle.plane.specs.Square.{future}
use Rattle.table_core.specs.declared.key.Key.{Key}
use Rattle.table_core.specs.declared.knowledge.Knowledge.{Knowledge}
use Rattle.table_core.specs.declared.machine.Event.{Event}
use Rattle.table_core.specs.declared.machine.Event.TheVariants.{Look, Claim, Ask, Tell}
use Rattle.table_core.specs.declared.shape.Kind.{Kind}
use Rattle.table_core.specs.declared.shape.Kind.TheVariants.{Leaf, Pair}
use Rattle.table_core.specs.Layout.{IsSlot, way, result_of, first_part, second_part}
use Rattle.table_core.specs.Blocks.{square_rank, largest_rank}
use Rattle.table_core.specs.Knowledge.{HasSeen, KnowsBlock}

-- it knows both parts of a word, as blocks of this rank with these cells
pub record KnowsBoth (known : Knowledge) (rank word : ℕ) (one two : Plane) : Type 0 where
  pub first : KnowsBlock known rank (first_part word) one
  pub second : KnowsBlock known rank (second_part word) two

-- it knows both parts of a pair's word, as blocks of one rank, below that of the largest squares
pub record KnowsParts (known : Knowledge) (word : ℕ) : Type 0 where
  pub rank : ℕ
  pub low : rank < largest_rank
  pub one : Plane
  pub two : Plane
  pub both : KnowsBoth known rank word one two

-- it knows the parts that a word of this kind has
abbrev pub KnowsPartsFor : Knowledge → Kind → ℕ → Type 0
KnowsPartsFor known Leaf word = Unit {0}
KnowsPartsFor known Pair word = KnowsParts known word

-- a word may be claimed: at each earlier place of its way the desk has seen another word, and it
-- knows the word's parts
pub record MayClaim (bits : ℕ) (known : Knowledge) (index word : ℕ) : Type 0 where
  pub kind : Kind
  pub some : word ≢ 0
  pub fits : word < 2 ^ 64
  pub place : ℕ
  pub short : place < 256
  pub here : way bits kind word place ≡ index
  pub before : (earlier : ℕ) → earlier < place →
      (other : ℕ) × HasSeen known (way bits kind word earlier) other × (other ≢ word)
  pub parts : KnowsPartsFor known kind word

-- a result may be asked for: the slot is that of a square that the desk knows
pub record MayAsk (bits : ℕ) (known : Knowledge) (index : ℕ) : Type 0 where
  pub square : ℕ
  pub slot : IsSlot bits Pair square
  pub beside : index ≡ result_of bits square
  pub level : ℕ
  pub above : 3 < level
  pub plane : Plane
  pub shown : KnowsBlock known (square_rank level) square plane

-- a result may be told: the desk knows the square, and that the number shows its future
pub record MayTell (key : Key) (known : Knowledge) (index number : ℕ) : Type 0 where
  pub of : MayAsk key.shape.bits known index
  pub low : number < 2 ^ 32
  pub shown : KnowsBlock known (square_rank (of.level - 1)) number
      (future key.rule key.exponent of.level of.plane)

-- the event is lawful for a desk that knows so much
abbrev pub IsLawful : Key → Knowledge → Event → Type 0
IsLawful key known (Look desk index) = Unit {0}
IsLawful key known (Claim desk index word) = MayClaim key.shape.bits known index word
IsLawful key known (Ask desk index) = MayAsk key.shape.bits known index
IsLawful key known (Tell desk index number) = MayTell key known index number
