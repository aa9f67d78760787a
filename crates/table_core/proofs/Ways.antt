-- The ways of words. Nothing else here needs the arithmetic of the first slot.
use Rattle.std.proofs.Common.{◌≡◌, ◌≢◌, ℕ, ◌+◌, ◌-◌, ◌*◌, ◌/◌, ◌%◌, ◌^◌, ◌<◌, ◌≤◌, ◌∙◌, ap, subst, arith, refl}
use Rattle.std.proofs.lemmas.Nat.{pow_pos, pow-add}
use Rattle.std.proofs.Math.Pow.{pow_mono}
use Rattle.std.proofs.Math.Nat.{div-lt_iff_lt-mul}
use Rattle.table_core.specs.declared.shape.Kind.{Kind}
use Rattle.table_core.specs.declared.shape.Kind.TheVariants.{Leaf, Pair}
use Rattle.table_core.specs.Layout.{slot_bits, start, IsSlot, result_of, size, first, slot_on_way, way, IsInShard}
use Rattle.table_core.specs.Laws.{EveryWay}

-- a slot of both kinds is none
pub one_kind : (bits : ℕ) (a b : Kind) (i : ℕ) → IsSlot bits a i → IsSlot bits b i → a ≡ b
one_kind bits Leaf Leaf i h k = refl
one_kind bits Leaf Pair i h k = absurd (let one = h.below in let two = k.from in omega arith)
one_kind bits Pair Leaf i h k = absurd (let one = k.below in let two = h.from in omega arith)
one_kind bits Pair Pair i h k = refl

pub not_head : (bits : ℕ) (kind : Kind) (i : ℕ) → IsSlot bits kind i → i ≢ 0
not_head bits Leaf i h e = let one = h.from in omega arith
not_head bits Pair i h e = let one = h.from in omega arith

-- a result slot is not a slot of a leaf or a pair
pub not_result : (bits : ℕ) (kind : Kind) (i j : ℕ) → IsSlot bits kind i → IsSlot bits Pair j → i ≢ result_of bits j
not_result bits Leaf i j h k e = let one = h.below in let two = k.from in omega arith
not_result bits Pair i j h k e = let one = h.below in let two = k.from in omega arith

pub slot_below : (bits : ℕ) (kind : Kind) (i : ℕ) → IsSlot bits kind i → i < size bits
slot_below bits Leaf i h = let k = h.below in omega arith
slot_below bits Pair i h = let k = h.below in omega arith

pub few : (bits : ℕ) (kind : Kind) → bits ≤ 64 → slot_bits bits kind ≤ 64
few bits Leaf h = omega arith
few bits Pair h = h

long : (bits : ℕ) (kind : Kind) → 10 ≤ bits → (more : ℕ) × (slot_bits bits kind ≡ 8 + more)
long bits Leaf h = (bits - 10, omega arith)
long bits Pair h = (bits - 8, omega arith)

-- 2^bits slots are whole shards
pub whole : (b more : ℕ) → b ≡ 8 + more → 2 ^ b ≡ 256 * 2 ^ more
whole b more e = ap (λ n. 2 ^ n) e ∙ pow-add 2 8 more

pub first_below : (b word : ℕ) → b ≤ 64 → first b word < 2 ^ b
unfolding first
first_below b word h =
    let e : 2 ^ 64 ≡ 2 ^ b * 2 ^ (64 - b) = ap (λ n. 2 ^ n) (let k : 64 ≡ b + (64 - b) = omega arith in k) ∙ pow-add 2 b (64 - b) in
    let small : word * 11400714819323198485 % 2 ^ 64 < 2 ^ 64 = omega arith in
    (div-lt_iff_lt-mul (pow_pos (64 - b))).1 (subst (λ n. word * 11400714819323198485 % 2 ^ 64 < n) e small)

in_shards : (f x n : ℕ) → f < 256 * n → 256 * (f / 256) + x % 256 < 256 * n
in_shards f x n h = omega arith

pub on_way_below : (bits : ℕ) (kind : Kind) (word place : ℕ) → 10 ≤ bits → bits ≤ 64 →
    slot_on_way (slot_bits bits kind) word place < 2 ^ slot_bits bits kind
unfolding slot_on_way
on_way_below bits kind word place h k =
    let m = long bits kind h in
    let e : 2 ^ slot_bits bits kind ≡ 256 * 2 ^ m.0 = whole (slot_bits bits kind) m.0 m.1 in
    let low : slot_bits bits kind ≤ 64 = few bits kind k in
    let small : first (slot_bits bits kind) word < 256 * 2 ^ m.0 = subst (λ n. first (slot_bits bits kind) word < n) e (first_below (slot_bits bits kind) word low) in
    let inside = in_shards (first (slot_bits bits kind) word) (first (slot_bits bits kind) word + place) (2 ^ m.0) small in
    omega (arith, e)

-- a way stays among the slots of its kind
pub way_is_slot : (bits : ℕ) (kind : Kind) (word place : ℕ) → 10 ≤ bits → bits ≤ 64 → IsSlot bits kind (way bits kind word place)
unfolding way
way_is_slot bits kind word place h k = let small = on_way_below bits kind word place h k in record { from = omega arith; below = omega arith }

place_at : (f s index : ℕ) → s + 256 * (f / 256) ≤ index → index < s + 256 * (f / 256) + 256 →
    s + (256 * (f / 256) + (f + (index - (s + 256 * (f / 256)) + 256 - f % 256) % 256) % 256) ≡ index
place_at f s index low high = omega arith

round : (f s index : ℕ) → s + 256 * (f / 256) ≤ index → index < s + 256 * (f / 256) + 256 →
    (place : ℕ) × (place < 256) × (s + (256 * (f / 256) + (f + place) % 256) ≡ index)
round f s index low high =
    let i = index - (s + 256 * (f / 256)) in
    ((i + 256 - f % 256) % 256, omega arith, place_at f s index low high)

-- a way has each slot of its shard
pub way_covers : (bits : ℕ) (kind : Kind) (word index : ℕ) → IsInShard bits kind word index →
    (place : ℕ) × (place < 256) × (way bits kind word place ≡ index)
unfolding way slot_on_way IsInShard
way_covers bits kind word index h = round (first (slot_bits bits kind) word) (start bits kind) index h.0 h.1

-- and no slot twice
apart : (f s p q : ℕ) → p < 256 → q < 256 → s + (256 * (f / 256) + (f + p) % 256) ≡ s + (256 * (f / 256) + (f + q) % 256) → p ≡ q
apart f s p q low_p low_q e = omega arith

way_distinct : (bits : ℕ) (kind : Kind) (word p q : ℕ) → p < 256 → q < 256 → way bits kind word p ≡ way bits kind word q → p ≡ q
unfolding way slot_on_way
way_distinct bits kind word p q low_p low_q e = apart (first (slot_bits bits kind) word) (start bits kind) p q low_p low_q e

way_inside : (bits : ℕ) (kind : Kind) (word place : ℕ) → IsInShard bits kind word (way bits kind word place)
unfolding way slot_on_way IsInShard
way_inside bits kind word place = (omega arith, omega arith)

pub every_way : EveryWay
every_way bits kind word big low = record {
  slots = λ place. way_is_slot bits kind word place big (omega arith);
  inside = way_inside bits kind word;
  distinct = λ p q. way_distinct bits kind word p q;
  covers = way_covers bits kind word;
}

-- numbers of slots and indices fit 32 bits
pub power_fits : (b : ℕ) → b ≤ 28 → 2 ^ b ≤ 2 ^ 28
power_fits b h = pow_mono {i = b} {j = 28} h

pub le_few : (bits : ℕ) (kind : Kind) → bits ≤ 28 → slot_bits bits kind ≤ 28
le_few bits Leaf h = omega arith
le_few bits Pair h = h

pub first_fits : (b word : ℕ) → b ≤ 28 → first b word < 2 ^ 28
first_fits b word h = let s = power_fits b h in let f = first_below b word (omega arith) in omega arith

pub start_fits : (bits : ℕ) (kind : Kind) → bits ≤ 28 → start bits kind ≤ 1 + 2 ^ 28
start_fits bits Leaf h = omega arith
start_fits bits Pair h = let s = power_fits (bits - 2) (omega arith) in omega arith

pub size_fits : (bits : ℕ) → bits ≤ 28 → size bits < 2 ^ 32
size_fits bits h = let s = power_fits bits h in let t = power_fits (bits - 2) (omega arith) in omega arith
