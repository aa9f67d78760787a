-- Shards in each slot of which a desk has seen a word.
use Rattle.std.proofs.Common.{◌≡◌, ℕ, zero, suc, ◌+◌, ◌-◌, ◌*◌, ◌/◌, ◌^◌, ◌<◌, ◌≤◌, true, List, [], ◌∷◌, length, sym, ap, subst, arith, refl, ⊎_elim}
use Rattle.std.specs.Prelude.{◌==◌, Contains, slice_index_or}
use Rattle.std.specs.List.{list_any}
use Rattle.std.proofs.lemmas.Bool.{false≢true, eqb-true, eq-eqb, cases_lt}
use Rattle.std.proofs.lemmas.List.Elements.{Contains-append_right}
use Rattle.plane.proofs.Cuts.{and_left, and_right}
use Rattle.table_core.specs.declared.knowledge.Knowledge.{Knowledge}
use Rattle.table_core.specs.declared.shape.Kind.{Kind}
use Rattle.table_core.specs.declared.shape.Kind.TheVariants.{Leaf, Pair}
use Rattle.table_core.specs.Layout.{start, slot_bits, first, way, IsInShard}
use Rattle.table_core.specs.Knowledge.{HasSeen}
use Rattle.table_core.specs.FullShards.{KnowsFullShard, has_seen_all, has_full_shard, knows_full_shard}
use Rattle.table_core.specs.Laws.{FullShardIsSeen}
use Rattle.table_core.proofs.Ways.{first_below, whole, few, way_covers}
use Rattle.table_core.proofs.Booleans.{or_cases, or_left, or_right, and_both}

shard_slot : (bits : ℕ) (kind : Kind) (word slot : ℕ) → slot < 256 →
    IsInShard bits kind word (start bits kind + (256 * (first (slot_bits bits kind) word / 256) + slot))
unfolding IsInShard
shard_slot bits kind word slot h = (omega arith, omega arith)

shard_within : (b word : ℕ) → 10 ≤ b + 2 → b ≤ 64 → 256 * (first b word / 256) + 256 ≤ 2 ^ b
shard_within b word big low =
    let e : 2 ^ b ≡ 256 * 2 ^ (b - 8) = whole b (b - 8) (omega arith) in
    let small : first b word < 2 ^ b = first_below b word low in omega (arith, e)

many : (bits : ℕ) (kind : Kind) → 10 ≤ bits → 10 ≤ slot_bits bits kind + 2
many bits Leaf h = omega arith
many bits Pair h = omega arith

-- a desk that has seen words on a whole way knows a full shard
pub full_shard : (bits : ℕ) (known : Knowledge) (kind : Kind) (word : ℕ) → 10 ≤ bits → bits ≤ 64 →
    ((place : ℕ) → place < 256 → (other : ℕ) × HasSeen known (way bits kind word place) other) → KnowsFullShard bits known
full_shard bits known kind word big low saw = record {
  kind = kind;
  shard = first (slot_bits bits kind) word / 256;
  within = shard_within (slot_bits bits kind) word (many bits kind big) (few bits kind low);
  full = λ slot less.
      let t = way_covers bits kind word (start bits kind + (256 * (first (slot_bits bits kind) word / 256) + slot)) (shard_slot bits kind word slot less) in
      subst (λ i. (other : ℕ) × HasSeen known i other) t.2 (saw t.0 t.1);
}

-- and stays known
pub full_later : (bits : ℕ) (old new : Knowledge) → ((entry : ℕ × ℕ) → Contains old.words entry → Contains new.words entry) →
    KnowsFullShard bits old → KnowsFullShard bits new
full_later bits old new more f = record {
  kind = f.kind;
  shard = f.shard;
  within = f.within;
  full = λ slot less. let t = f.full slot less in (t.0, more (start bits f.kind + (256 * f.shard + slot), t.0) t.1);
}

-- the tests
seen_at : (words : List (ℕ × ℕ)) (index : ℕ) → list_any (λ entry. entry.0 == index) words ≡ true → (word : ℕ) × Contains words (index, word)
seen_at [] index h = absurd (false≢true h)
seen_at (x ∷ xs) index h = ⊎_elim
    (λ e. (x.1, (0, omega arith, let is : x.0 ≡ index = eqb-true x.0 index e in λ i. (is i, x.1))))
    (λ t. let s = seen_at xs index t in (s.0, Contains-append_right (x ∷ []) xs (index, s.0) s.1))
    (or_cases (x.0 == index) (list_any (λ entry. entry.0 == index) xs) h)

at_seen : (words : List (ℕ × ℕ)) (index word k : ℕ) → k < length words → ◌≡◌ {A = ℕ × ℕ} (slice_index_or words k (index, word)) (index, word) →
    list_any (λ entry. entry.0 == index) words ≡ true
at_seen [] index word k less e = absurd (omega arith)
at_seen (x ∷ xs) index word zero less e = or_left (x.0 == index) _ (eq-eqb x.0 index (ap (λ (p : ℕ × ℕ). p.0) e))
at_seen (x ∷ xs) index word (suc k) less e = or_right (x.0 == index) _ (at_seen xs index word k (omega arith) e)

all_seen : (known : Knowledge) (begin count : ℕ) → has_seen_all known begin count ≡ true → (slot : ℕ) → slot < count →
    (word : ℕ) × HasSeen known (begin + slot) word
unfolding has_seen_all
all_seen known begin zero h slot less = absurd (omega arith)
all_seen known begin (suc count) h slot less = ⊎_elim
    (λ t. all_seen known begin count (and_right (list_any (λ entry. entry.0 == begin + count) known.words) _ h) slot t)
    (λ t. let e : slot ≡ count = omega arith in subst (λ n. (word : ℕ) × HasSeen known (begin + n) word) (sym e) (seen_at known.words (begin + count) (and_left _ _ h)))
    (cases_lt slot count)

seen_all : (known : Knowledge) (begin count : ℕ) → ((slot : ℕ) → slot < count → (word : ℕ) × HasSeen known (begin + slot) word) →
    has_seen_all known begin count ≡ true
unfolding has_seen_all
seen_all known begin zero h = refl
seen_all known begin (suc count) h =
    let t = h count (omega arith) in
    and_both (list_any (λ entry. entry.0 == begin + count) known.words) _ (at_seen known.words (begin + count) t.0 t.1.0 t.1.1 t.1.2) (seen_all known begin count (λ slot less. h slot (omega arith)))

some_shard : (known : Knowledge) (begin count : ℕ) → has_full_shard known begin count ≡ true →
    (shard : ℕ) × (shard < count) × (has_seen_all known (begin + 256 * shard) 256 ≡ true)
unfolding has_full_shard
some_shard known begin zero h = absurd (false≢true h)
some_shard known begin (suc count) h = ⊎_elim (λ t. (count, omega arith, t)) (λ t. let s = some_shard known begin count t in (s.0, (let less = s.1 in omega arith), s.2))
    (or_cases (has_seen_all known (begin + 256 * count) 256) (has_full_shard known begin count) h)

shard_some : (known : Knowledge) (begin count shard : ℕ) → shard < count → has_seen_all known (begin + 256 * shard) 256 ≡ true →
    has_full_shard known begin count ≡ true
unfolding has_full_shard
shard_some known begin zero shard less h = absurd (omega arith)
shard_some known begin (suc count) shard less h = ⊎_elim
    (λ t. or_right (has_seen_all known (begin + 256 * count) 256) _ (shard_some known begin count shard t h))
    (λ t. let e : shard ≡ count = omega arith in or_left _ (has_full_shard known begin count) (subst (λ n. has_seen_all known (begin + 256 * n) 256 ≡ true) e h))
    (cases_lt shard count)

of_kind : (bits : ℕ) (kind : Kind) (known : Knowledge) → has_full_shard known (start bits kind) (2 ^ slot_bits bits kind / 256) ≡ true →
    KnowsFullShard bits known
of_kind bits kind known h =
    let s = some_shard known (start bits kind) (2 ^ slot_bits bits kind / 256) h in
    record {
      kind = kind;
      shard = s.0;
      within = let less = s.1 in omega arith;
      full = λ slot less. let t = all_seen known (start bits kind + 256 * s.0) 256 s.2 slot less in
          subst (λ i. (word : ℕ) × HasSeen known i word) (let e : start bits kind + 256 * s.0 + slot ≡ start bits kind + (256 * s.0 + slot) = omega arith in e) t;
    }

kind_of : (bits : ℕ) (known : Knowledge) (f : KnowsFullShard bits known) →
    has_full_shard known (start bits f.kind) (2 ^ slot_bits bits f.kind / 256) ≡ true
kind_of bits known f = shard_some known (start bits f.kind) (2 ^ slot_bits bits f.kind / 256) f.shard (let w = f.within in omega arith)
    (seen_all known (start bits f.kind + 256 * f.shard) 256 (λ slot less.
    subst (λ i. (word : ℕ) × HasSeen known i word) (let e : start bits f.kind + (256 * f.shard + slot) ≡ start bits f.kind + 256 * f.shard + slot = omega arith in e) (f.full slot less)))

either_kind : (bits : ℕ) (known : Knowledge) (kind : Kind) → has_full_shard known (start bits kind) (2 ^ slot_bits bits kind / 256) ≡ true →
    knows_full_shard bits known ≡ true
unfolding knows_full_shard
either_kind bits known Leaf h = or_left _ (has_full_shard known (start bits Pair) (2 ^ slot_bits bits Pair / 256)) h
either_kind bits known Pair h = or_right (has_full_shard known (start bits Leaf) (2 ^ slot_bits bits Leaf / 256)) _ h

pub full_shard_is_seen : FullShardIsSeen
unfolding knows_full_shard
full_shard_is_seen bits known big = (
  λ h. ⊎_elim (of_kind bits Leaf known) (of_kind bits Pair known) (or_cases (has_full_shard known (start bits Leaf) (2 ^ slot_bits bits Leaf / 256)) (has_full_shard known (start bits Pair) (2 ^ slot_bits bits Pair / 256)) h),
  λ f. either_kind bits known f.kind (kind_of bits known f),
)
