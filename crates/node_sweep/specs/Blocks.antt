-- Pairs that are copied side by side.
use Rattle.std.specs.Prelude.{◌≡◌, ◌≢◌, ℕ, ◌+◌, ◌<◌, ◌⊎◌, List, length, slice_index}
use Rattle.table_core.specs.declared.shape.Kind.TheVariants.{Pair}
use Rattle.table_core.specs.Layout.{IsSlot, start, way, first_part, second_part}
use Rattle.node_sweep.specs.Copies.{has_note}
use Rattle.node_sweep.specs.Transfers.{IsWordNeeded, new_bits, old_bits, old_words}
use Rattle.node_sweep.specs.declared.transfer.Transfer.{Transfer}

-- the number of the pair at a slot
abbrev pub pair_at : Transfer → ℕ → ℕ
pair_at transfer slot = start (old_bits transfer) Pair + slot

-- the word of a pair
abbrev pub pair_word_at : Transfer → ℕ → ℕ
pair_word_at transfer slot = old_words transfer (pair_at transfer slot)

-- a pair stands at the slot, both of its parts are 0 or have copies, and these are the parts of the
-- word
pub record IsWordOfCopies (transfer : Transfer) (copies : List ℕ) (slot word : ℕ) : Type 0 where
  pub pair : IsSlot (old_bits transfer) Pair (pair_at transfer slot)
  pub there : pair_word_at transfer slot ≢ 0
  pub first : first_part word ≡ slice_index copies (first_part (pair_word_at transfer slot))
  pub second : second_part word ≡ slice_index copies (second_part (pair_word_at transfer slot))
  pub first_copied : has_note copies (first_part (pair_word_at transfer slot))
  pub second_copied : has_note copies (second_part (pair_word_at transfer slot))

-- so it is, or the word is 0
abbrev pub IsPairedCopy : Transfer → List ℕ → (slot word : ℕ) → Type 0
IsPairedCopy transfer copies slot word = word ≢ 0 → IsWordOfCopies transfer copies slot word

-- so it is at so many places
pub record ArePairedCopies (transfer : Transfer) (copies slots words : List ℕ)
    (end : ℕ) : Type 0 where
  pub each : (i : ℕ) → i < end →
      IsPairedCopy transfer copies (slice_index slots i) (slice_index words i)

-- the words that their copies have, or 0
pub record AreWordsNeeded (transfer : Transfer) (new slots words : List ℕ) : Type 0 where
  pub needed : (i : ℕ) → i < length slots → slice_index words i ≢ 0 →
      IsWordNeeded transfer new Pair (pair_at transfer (slice_index slots i)) (slice_index words i)

-- what stands at the first place of each word's way
pub record AreFirstFound (transfer : Transfer) (new words found : List ℕ) (end : ℕ) : Type 0 where
  pub there : (i : ℕ) → i < end →
      slice_index found i ≡ slice_index new (way (new_bits transfer) Pair (slice_index words i) 0)
