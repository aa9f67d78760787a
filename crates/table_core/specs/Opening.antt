-- The words that a table may begin with: only a head, or good words that stood under another head
-- and keep some results.
use Rattle.std.specs.Prelude.{◌≡◌, ◌≢◌, ℕ, ◌-◌, ◌^◌, ◌<◌, ◌≤◌, ◌⊎◌, min}
use Rattle.table_core.specs.declared.shape.Kind.{Kind}
use Rattle.table_core.specs.declared.shape.Kind.TheVariants.{Pair}
use Rattle.table_core.specs.declared.key.Key.{Key}
use Rattle.table_core.specs.Layout.{IsSlot, result_of}
use Rattle.table_core.specs.Blocks.{Words, IsBlock, square_rank}
use Rattle.table_core.specs.Good.{IsGood, head}

-- there is a head, and no other word
pub record IsFresh (key : Key) (words : Words) : Type 0 where
  pub names : words 0 ≡ head key
  pub vacant : (index : ℕ) → index ≢ 0 → words index ≡ 0

abbrev pub EveryFreshTable : Type 0
EveryFreshTable =
    (key : Key) (words : Words) → head key < 2 ^ 64 → IsFresh key words → IsGood key words

-- the result of a square of this level is the same under both heads: the rule is one, and so is the
-- exponent, or neither cuts the time of such a square short
abbrev pub KeepsResult : Key → Key → ℕ → Type 0
KeepsResult was key level =
    (was.rule ≡ key.rule)
    × ((was.exponent ≡ key.exponent) ⊎ (level - 2 ≤ min was.exponent key.exponent))

-- opening words under a head, where they stood under another: they are good; under another rule no
-- result is left, and under another exponent none of a square whose level, less 2, is above the
-- smaller of the two
pub record AreOpening (was key : Key) (words : Words) : Type 0 where
  pub good : IsGood key words
  pub by_rule : was.rule ≢ key.rule → (i : ℕ) → IsSlot key.shape.bits Pair i →
      words (result_of key.shape.bits i) ≡ 0
  pub by_exponent : was.rule ≡ key.rule → was.exponent ≢ key.exponent → (i level : ℕ) →
      IsSlot key.shape.bits Pair i → IsBlock key.shape.bits words (square_rank level) i →
      min was.exponent key.exponent < level - 2 → words (result_of key.shape.bits i) ≡ 0

-- the result beside a square of this level stays where it is the same under both heads, and else
-- goes
abbrev pub StaysOrGoes : Key → Key → Words → Words → ℕ → ℕ → Type 0
StaysOrGoes was key old new i level =
    (KeepsResult was key level
    × (new (result_of was.shape.bits i) ≡ old (result_of was.shape.bits i)))
    ⊎ ((¬ KeepsResult was key level) × (new (result_of was.shape.bits i) ≡ 0))

-- the words are opened under another head: leaves and pairs stay, each result stays or goes, and
-- none comes
pub record Reopens (was key : Key) (old new : Words) : Type 0 where
  pub shape : key.shape ≡ was.shape
  pub names : new 0 ≡ head key
  pub fits : (index : ℕ) → new index < 2 ^ 64
  pub slots : (kind : Kind) (i : ℕ) → IsSlot was.shape.bits kind i → new i ≡ old i
  pub results : (i level : ℕ) → IsSlot was.shape.bits Pair i → 3 < level →
      IsBlock was.shape.bits old (square_rank level) i →
      StaysOrGoes was key old new i level
  pub vacant : (i : ℕ) → IsSlot was.shape.bits Pair i →
      old (result_of was.shape.bits i) ≡ 0 → new (result_of was.shape.bits i) ≡ 0

abbrev pub EveryReopening : Type 0
EveryReopening =
    (was key : Key) (old new : Words) → IsGood was old → Reopens was key old new →
    AreOpening was key new
