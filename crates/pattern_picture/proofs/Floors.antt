-- Blocks of coordinates: rounding down.
use Rattle.std.proofs.Common.{◌≡◌, ℕ, zero, suc, ◌+◌, ◌-◌, ◌*◌, ◌/◌, ◌^◌, ◌<◌, ◌≤◌, ℤ, pos, negsuc, ◌+ℤ◌, ◌-ℤ◌, ◌*ℤ◌, ◌≤ℤ◌, ap, arith, subst, sym, ◌∙◌}
use Rattle.std.specs.Prelude.{unsigned_abs}
use Rattle.std.proofs.Math.Logic.{⊎_elim}
use Rattle.std.proofs.Math.Nat.{div-le_self, div-mul-le_self, eq-or-lt_of_le, lt-div-mul-add, mul-le-mul_right}
use Rattle.std.proofs.lemmas.Int.{ints}
use Rattle.std.proofs.lemmas.Nat.{div_below, pow-add, pow_pos}
use Rattle.std.specs.Int.{int_div_euclid}
use Rattle.plane.specs.declared.cell.Bounds.{Bounds}
use Rattle.viewport.specs.Blocks.{IsBlockRange}
use Rattle.pattern_picture.specs.Scale.{IsShown, IsShownSide, block_at, block_span, longer_side}

div_rising : (m a b : ℕ) → 0 < m → a ≤ b → a / m ≤ b / m
div_rising m a b some order = omega (arith, div_below a m (b / m + 1) some (omega (arith, lt-div-mul-add {a = b} some)))

floor_low : (m : ℕ) (z : ℤ) → 0 < m → (int_div_euclid z (pos m) *ℤ pos m) ≤ℤ z
floor_low m (pos a) some = omega (arith, ints, div-mul-le_self a m)
floor_low m (negsuc a) some = omega (arith, ints, lt-div-mul-add {a = a} some)

floor_rising : (m : ℕ) (y z : ℤ) → 0 < m → y ≤ℤ z → int_div_euclid y (pos m) ≤ℤ int_div_euclid z (pos m)
floor_rising m (pos a) (pos b) some order = omega (arith, ints, div_rising m a b some (omega (arith, ints)))
floor_rising m (negsuc a) (pos b) some order = omega (arith, ints)
floor_rising m (pos a) (negsuc b) some order = absurd (omega (arith, ints))
floor_rising m (negsuc a) (negsuc b) some order = omega (arith, ints, div_rising m b a some (omega (arith, ints)))

floor_least : (m bound : ℕ) (z : ℤ) → (pos 0 -ℤ pos bound) ≤ℤ z → (pos 0 -ℤ pos bound) ≤ℤ int_div_euclid z (pos m)
floor_least m bound (pos a) order = omega (arith, ints)
floor_least m bound (negsuc a) order = omega (arith, ints, div-le_self a m)

floor_most : (m bound : ℕ) (z : ℤ) → z ≤ℤ pos bound → int_div_euclid z (pos m) ≤ℤ pos bound
floor_most m bound (pos a) order = omega (arith, ints, div-le_self a m)
floor_most m bound (negsuc a) order = omega (arith, ints)

-- a block begins at its coordinates or before them
pub block_at-low : (exponent : ℕ) (z : ℤ) → (block_at exponent z *ℤ pos (2 ^ exponent)) ≤ℤ z
unfolding block_at
block_at-low exponent z = floor_low (2 ^ exponent) z (pow_pos exponent)

pub block_at-rising : (exponent : ℕ) (first last : ℤ) → first ≤ℤ last → block_at exponent first ≤ℤ block_at exponent last
unfolding block_at
block_at-rising exponent first last order = floor_rising (2 ^ exponent) first last (pow_pos exponent) order

-- there are at most as many blocks as coordinates
pub block_span-most : (exponent : ℕ) (first last : ℤ) → IsShownSide first last → block_span exponent first last ≤ 2 ^ 63 + 1
unfolding block_at
block_span-most exponent first last side =
    let low = floor_least (2 ^ exponent) (2 ^ 62) first side.low in
    let high = floor_most (2 ^ exponent) (2 ^ 62) last side.high in
    let order = floor_rising (2 ^ exponent) first last (pow_pos exponent) side.order in
    omega (arith, ints)

-- coordinates of at most a block's side lie in one of three blocks
floor_near : (m : ℕ) (z : ℤ) → 0 < m → (pos 0 -ℤ pos m) ≤ℤ z → z ≤ℤ pos m → ((pos 0 -ℤ pos 1) ≤ℤ int_div_euclid z (pos m)) × (int_div_euclid z (pos m) ≤ℤ pos 1)
floor_near m (pos a) some low high = (omega (arith, ints), omega (arith, ints, div_below a m 2 some (omega (arith, ints))))
floor_near m (negsuc a) some low high = (omega (arith, ints, div_below a m 1 some (omega (arith, ints))), omega (arith, ints))

-- three blocks of 2^62 coordinates are enough
block_span-62 : (first last : ℤ) → IsShownSide first last → block_span 62 first last ≤ 3
unfolding block_at
block_span-62 first last side =
    let left = floor_near (2 ^ 62) first (omega arith) side.low (omega (arith, ints, side.order, side.high)) in
    let right = floor_near (2 ^ 62) last (omega arith) (omega (arith, ints, side.order, side.low)) side.high in
    let order = floor_rising (2 ^ 62) first last (omega arith) side.order in
    omega (arith, ints)

-- so a picture has blocks of at most 2^62 coordinates a side
pub exponent_below : (exponent size : ℕ) (shown : Bounds) → IsShown shown → 16 ≤ size → exponent ≤ 62 → size < longer_side exponent shown → exponent < 62
exponent_below exponent size shown sides some limit large =
    ⊎_elim
    (λ (same : exponent ≡ 62).
    let most : longer_side 62 shown ≤ 3 = omega (arith, block_span-62 shown.left shown.right sides.columns, block_span-62 shown.top shown.bottom sides.rows) in
    let over : size < longer_side 62 shown = subst (λ e. size < longer_side e shown) same large in
    absurd (omega arith))
    (λ (below : exponent < 62). below)
    (eq-or-lt_of_le limit)

-- a multiple of the divisor is a bound for the block's beginning too
floor_multiple : (m q : ℕ) (z : ℤ) → 0 < m → (pos 0 -ℤ pos (q * m)) ≤ℤ z → (pos 0 -ℤ pos (q * m)) ≤ℤ (int_div_euclid z (pos m) *ℤ pos m)
floor_multiple m q (pos a) some low = omega (arith, ints)
floor_multiple m q (negsuc a) some low =
    let below : a / m + 1 ≤ q = omega (arith, div_below a m q some (omega (arith, ints))) in
    omega (arith, ints, mul-le-mul_right m below)

block_at-least : (exponent more : ℕ) (z : ℤ) → (pos 0 -ℤ pos (2 ^ more * 2 ^ exponent)) ≤ℤ z → (pos 0 -ℤ pos (2 ^ more * 2 ^ exponent)) ≤ℤ (block_at exponent z *ℤ pos (2 ^ exponent))
unfolding block_at
block_at-least exponent more z low = floor_multiple (2 ^ exponent) (2 ^ more) z (pow_pos exponent) low

no_more : (x y z : ℤ) → x ≤ℤ y → y ≤ℤ z → x ≤ℤ z
no_more x y z first second = omega (arith, ints)

product_next : (m : ℕ) (z : ℤ) → ((z +ℤ pos 1) *ℤ pos m) ≡ (z *ℤ pos m) +ℤ pos m
product_next m (pos a) = omega (arith, ints)
product_next m (negsuc zero) = omega (arith, ints)
product_next m (negsuc (suc a)) =
    let next : negsuc (suc a) +ℤ pos 1 ≡ negsuc a = omega (arith, ints) in
    rw next (omega (arith, ints))

last_block : (m : ℕ) (first last z : ℤ) → first ≤ℤ last → (last *ℤ pos m) ≤ℤ z → ((first +ℤ pos (unsigned_abs (last -ℤ first) + 1)) *ℤ pos m) ≤ℤ (z +ℤ pos m)
last_block m first last z order begins =
    let next : first +ℤ pos (unsigned_abs (last -ℤ first) + 1) ≡ last +ℤ pos 1 = omega (arith, ints) in
    rw (next, product_next m last) (omega (arith, ints))

-- the blocks of a shown side begin at -2^62 or behind it, and the last of them at 2^62 or before it
pub shown_range : (exponent : ℕ) (first last : ℤ) → IsShownSide first last → exponent ≤ 62 → IsBlockRange exponent (block_at exponent first) (block_span exponent first last)
shown_range exponent first last side limit =
    let parts : 62 ≡ (62 - exponent) + exponent = omega arith in
    let whole : 2 ^ 62 ≡ 2 ^ (62 - exponent) * 2 ^ exponent = ap (λ k. 2 ^ k) parts ∙ pow-add 2 (62 - exponent) exponent in
    record {
      low = subst (λ n. (pos 0 -ℤ pos n) ≤ℤ (block_at exponent first *ℤ pos (2 ^ exponent))) (sym whole)
          (block_at-least exponent (62 - exponent) first (subst (λ n. (pos 0 -ℤ pos n) ≤ℤ first) whole side.low));
      high = last_block (2 ^ exponent) (block_at exponent first) (block_at exponent last) (pos (2 ^ 62)) (block_at-rising exponent first last side.order)
          (no_more _ _ _ (block_at-low exponent last) side.high);
    }
