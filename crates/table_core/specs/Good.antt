-- Good words, and the parts of their pairs.
use Rattle.std.specs.Prelude.{◌≡◌, ◌≢◌, ℕ, suc, ◌+◌, ◌-◌, ◌*◌, ◌^◌, ◌<◌, List, slice_index, length}
use Rattle.plane.specs.Square.{future}
use Rattle.rule_text.specs.RuleCode.{code_of}
use Rattle.table_core.specs.declared.shape.Kind.{Kind}
use Rattle.table_core.specs.declared.shape.Kind.TheVariants.{Leaf, Pair}
use Rattle.table_core.specs.declared.key.Key.{Key}
use Rattle.table_core.specs.Layout.{IsSlot, way, result_of, size, first_part, second_part}
use Rattle.table_core.specs.Blocks.{Words, IsBlock, ShowsBlock, cells_of, square_rank, largest_rank}

-- the head's word, which names the rule and the exponent
abbrev pub head : Key → ℕ
head key = code_of key.rule + 2 ^ 20 * key.exponent

-- the word at the index stands on its own way, with no zero slot at an earlier place
pub record IsOnWay (bits : ℕ) (words : Words) (kind : Kind) (index : ℕ) : Type 0 where
  pub place : ℕ
  pub short : place < 256
  pub here : way bits kind (words index) place ≡ index
  pub filled : (earlier : ℕ) → earlier < place → words (way bits kind (words index) earlier) ≢ 0

-- the number shows the future of the square whose pair stands at the index
pub record IsFutureOf (key : Key) (words : Words) (index number : ℕ) : Type 0 where
  pub level : ℕ
  pub above : 3 < level
  pub square : IsBlock key.shape.bits words (square_rank level) index
  pub shown : ShowsBlock key.shape.bits words (square_rank (level - 1)) number
      (future key.rule key.exponent level (cells_of words (square_rank level) index))

-- the pair at the index is a finite block, of at most a square of the highest level
abbrev pub IsPairBlock : ℕ → Words → ℕ → Type 0
IsPairBlock bits words index =
    (rank : ℕ) × (rank < largest_rank) × IsBlock bits words (suc rank) index

-- the result word beside the pair at the index is that of a future
abbrev pub TellsFuture : Key → Words → ℕ → Type 0
TellsFuture key words index =
    (number : ℕ) × (words (result_of key.shape.bits index) ≡ 2 ^ 32 + number)
    × IsFutureOf key words index number

-- good words: the head names the rule and the exponent, a word of a leaf or a pair stands once, and
-- on its own way, each pair is a block, and each result is that of a future
pub record IsGood (key : Key) (words : Words) : Type 0 where
  pub names : words 0 ≡ head key
  pub fits : (index : ℕ) → words index < 2 ^ 64
  pub once : (kind : Kind) (i j : ℕ) → IsSlot key.shape.bits kind i → IsSlot key.shape.bits kind j →
      words i ≢ 0 → words i ≡ words j → i ≡ j
  pub on_way : (kind : Kind) (i : ℕ) → IsSlot key.shape.bits kind i → words i ≢ 0 →
      IsOnWay key.shape.bits words kind i
  pub blocks : (i : ℕ) → IsSlot key.shape.bits Pair i → words i ≢ 0 →
      IsPairBlock key.shape.bits words i
  pub results : (i : ℕ) → IsSlot key.shape.bits Pair i → words (result_of key.shape.bits i) ≢ 0 →
      TellsFuture key words i

-- the words of a whole table, and good
pub record AreGoodWords (key : Key) (words : List ℕ) : Type 0 where
  pub long : length words ≡ size key.shape.bits
  pub good : IsGood key (slice_index words)

-- no nonzero word has changed
pub record KeepsWords (old new : Words) : Type 0 where
  pub kept : (index : ℕ) → old index ≢ 0 → new index ≡ old index

-- the parts of a pair's word stand for blocks of one rank, below that of the largest squares
abbrev pub PartsStand : ℕ → Words → Kind → ℕ → Type 0
PartsStand bits words Leaf word = Unit {0}
PartsStand bits words Pair word =
    (rank : ℕ) × (rank < largest_rank) × IsBlock bits words rank (first_part word)
    × IsBlock bits words rank (second_part word)
