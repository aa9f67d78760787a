-- Shards without a zero slot, as a desk knows them.
use Rattle.std.specs.Prelude.{ℕ, zero, suc, ◌+◌, ◌*◌, ◌/◌, ◌^◌, ◌<◌, ◌≤◌, ◌==◌, Bool, true, false, ◌&&◌, ◌||◌}
use Rattle.std.specs.List.{list_any}
use Rattle.table_core.specs.declared.knowledge.Knowledge.{Knowledge}
use Rattle.table_core.specs.declared.shape.Kind.{Kind}
use Rattle.table_core.specs.declared.shape.Kind.TheVariants.{Leaf, Pair}
use Rattle.table_core.specs.Layout.{start, slot_bits}
use Rattle.table_core.specs.Knowledge.{HasSeen}

-- it has seen a word in each slot of a shard
pub record KnowsFullShard (bits : ℕ) (known : Knowledge) : Type 0 where
  pub kind : Kind
  pub shard : ℕ
  pub within : 256 * shard + 256 ≤ 2 ^ slot_bits bits kind
  pub full : (slot : ℕ) → slot < 256 →
      (word : ℕ) × HasSeen known (start bits kind + (256 * shard + slot)) word

-- whether it has seen words at so many indices from the first on
unfoldable pub has_seen_all : Knowledge → ℕ → ℕ → Bool
has_seen_all known first zero = true
has_seen_all known first (suc count) =
    list_any (λ entry. entry.0 == first + count) known.words && has_seen_all known first count

-- whether one of so many shards, the first of which begins at this index, is full
unfoldable pub has_full_shard : Knowledge → ℕ → ℕ → Bool
has_full_shard known first zero = false
has_full_shard known first (suc count) =
    has_seen_all known (first + 256 * count) 256 || has_full_shard known first count

-- whether it knows a shard without a zero slot
unfoldable pub knows_full_shard : ℕ → Knowledge → Bool
knows_full_shard bits known =
    has_full_shard known (start bits Leaf) (2 ^ slot_bits bits Leaf / 256)
    || has_full_shard known (start bits Pair) (2 ^ slot_bits bits Pair / 256)
