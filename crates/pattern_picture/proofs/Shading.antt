-- The shade of a block, by the bits of its number of live cells.
use Rattle.std.proofs.Common.{◌≡◌, ℕ, zero, suc, ◌*◌, ◌^◌, ◌<◌, ◌≤◌, pow_mono, inl, inr, ◌∙◌, ap, arith}
use Rattle.std.specs.Prelude.{if◌then◌else◌}
use Rattle.std.proofs.Math.Nat.{pow-suc}
use Rattle.std.proofs.lemmas.Bool.Decides.{leb_tells}
use Rattle.pattern_picture.specs.Shades.{floor_log2, log2_up_to}

highest : (k b n : ℕ) → b ≤ suc k → n < 2 * 2 ^ b → 2 ^ suc k ≤ n → suc k ≡ b
highest k b n low more there =
    let next = pow-suc 2 b in
    elim (leb_tells (suc b) (suc k)) [
      | inl p ↦ let above : 2 ^ suc b ≤ 2 ^ suc k = pow_mono p.1 in absurd (omega (arith, next, above))
      | inr p ↦ omega (arith, p.1)
    ]

lower : (k b n : ℕ) → b ≤ suc k → 2 ^ b ≤ n → n < 2 ^ suc k → b ≤ k
lower k b n low at_most less =
    elim (leb_tells (suc k) b) [
      | inl p ↦ let above : 2 ^ suc k ≤ 2 ^ b = pow_mono p.1 in absurd (omega (arith, above))
      | inr p ↦ omega (arith, p.1)
    ]

-- a power of two that is at most n, the next one being more, is the greatest
log2_is : (most n b : ℕ) → b ≤ most → 2 ^ b ≤ n → n < 2 * 2 ^ b → log2_up_to most n ≡ b
unfolding log2_up_to
log2_is zero n b low at_most more = omega arith
log2_is (suc k) n b low at_most more =
    elim (leb_tells (2 ^ suc k) n) [
      | inl p ↦ ap (λ t. if t then suc k else log2_up_to k n) p.0 ∙ highest k b n low more p.1
      | inr p ↦ ap (λ t. if t then suc k else log2_up_to k n) p.0 ∙ log2_is k n b (lower k b n low at_most p.1) at_most more
    ]

self_below : (n : ℕ) → n < 2 ^ n
self_below zero = omega arith
self_below (suc n) = let e = pow-suc 2 n in let h = self_below n in omega (arith, e, h)

pub floor_log2_is : (n b : ℕ) → 2 ^ b ≤ n → n < 2 * 2 ^ b → floor_log2 n ≡ b
floor_log2_is n b at_most more = let h = self_below b in log2_is n n b (omega (arith, h)) at_most more
