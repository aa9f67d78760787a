-- Where the words of a table stand, and which slots a word may take. A table of 2^bits pair slots
-- has the head at index 0, then 2^(bits - 2) leaf slots, the pair slots, and a result slot for each
-- pair slot.
use Rattle.std.specs.Prelude.{◌≡◌, ℕ, ◌+◌, ◌-◌, ◌*◌, ◌/◌, ◌%◌, ◌^◌, ◌<◌, ◌≤◌}
use Rattle.table_core.specs.declared.shape.Kind.{Kind}
use Rattle.table_core.specs.declared.shape.Kind.TheVariants.{Leaf, Pair}

-- a kind has 2 to so many slots
abbrev pub slot_bits : ℕ → Kind → ℕ
slot_bits bits Leaf = bits - 2
slot_bits bits Pair = bits

-- the index of the first word of a kind
abbrev pub start : ℕ → Kind → ℕ
start bits Leaf = 1
start bits Pair = 1 + 2 ^ (bits - 2)

-- the index is that of a slot of the kind
pub record IsSlot (bits : ℕ) (kind : Kind) (index : ℕ) : Type 0 where
  pub from : start bits kind ≤ index
  pub below : index < start bits kind + 2 ^ slot_bits bits kind

-- the index of the result slot beside a pair slot
abbrev pub result_of : ℕ → ℕ → ℕ
result_of bits index = index + 2 ^ bits

-- how many words a table has
abbrev pub size : ℕ → ℕ
size bits = 1 + 2 ^ (bits - 2) + 2 ^ bits + 2 ^ bits

-- the word of a pair, and its two numbers
abbrev pub pair_of : ℕ → ℕ → ℕ
pair_of first second = first * 2 ^ 32 + second

abbrev pub first_part : ℕ → ℕ
first_part word = word / 2 ^ 32

abbrev pub second_part : ℕ → ℕ
second_part word = word % 2 ^ 32

-- the slot that a word asks for first, among 2^bits: the highest bits of a product
unfoldable pub first : ℕ → ℕ → ℕ
first bits word = word * 0x9E37_79B9_7F4A_7C15 % 2 ^ 64 / 2 ^ (64 - bits)

-- the slot at this place of the word's way: the 256 slots of an aligned shard, from the first slot
-- on and round
unfoldable pub slot_on_way : ℕ → ℕ → ℕ → ℕ
slot_on_way bits word place =
    let slot = first bits word in
    256 * (slot / 256) + (slot + place) % 256

-- the index at this place of the word's way
unfoldable pub way : ℕ → Kind → ℕ → ℕ → ℕ
way bits kind word place = start bits kind + slot_on_way (slot_bits bits kind) word place

-- the index is in the shard of the word's way
unfoldable pub IsInShard : ℕ → Kind → ℕ → ℕ → Type 0
IsInShard bits kind word index =
    let begin = start bits kind + 256 * (first (slot_bits bits kind) word / 256) in
    (begin ≤ index) × (index < begin + 256)

-- the way goes through its shard: each place is one of the shard's slots, no two are one, and each
-- slot is some place
pub record GoesThroughShard (bits : ℕ) (kind : Kind) (word : ℕ) : Type 0 where
  pub slots : (place : ℕ) → IsSlot bits kind (way bits kind word place)
  pub inside : (place : ℕ) → IsInShard bits kind word (way bits kind word place)
  pub distinct : (one two : ℕ) → one < 256 → two < 256 →
      way bits kind word one ≡ way bits kind word two → one ≡ two
  pub covers : (index : ℕ) → IsInShard bits kind word index →
      (place : ℕ) × (place < 256) × (way bits kind word place ≡ index)
