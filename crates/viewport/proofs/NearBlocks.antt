-- How far away blocks lie.
use Rattle.std.proofs.Common.{◌≡◌, ℕ, ◌+◌, ◌^◌, ◌≤◌, ℤ, pos, ◌+ℤ◌, ◌-ℤ◌, ◌≤ℤ◌, ◌<ℤ◌, true, false, arith}
use Rattle.std.specs.Prelude.{◌*ℤ◌, int_lt}
use Rattle.std.proofs.lemmas.Int.{ints}
use Rattle.std.proofs.lemmas.Nat.{pow_pos}
use Rattle.squares.proofs.NumberMaps.{by_cases}
use Rattle.viewport.specs.Blocks.{IsBlockRange}
use Rattle.viewport.specs.BlockSpans.{IsNearRange}
use Rattle.viewport.proofs.Products.{above_times, below_times}

is_less : (a b : ℤ) → int_lt a b ≡ true → a <ℤ b
is_less a b e = grind (arith, ints)

is_most : (a b : ℤ) → int_lt a b ≡ false → b ≤ℤ a
is_most a b e = grind (arith, ints)

not_before : (first : ℤ) (s : ℕ) → 1 ≤ s → (pos 0 -ℤ pos (2 ^ 62)) ≤ℤ (first *ℤ pos s) → first <ℤ (pos 0 -ℤ pos (2 ^ 62)) → ⊥
not_before first s some low before = let end = below_times first (2 ^ 62) s before in omega (arith, ints, end, low)

not_behind : (last : ℤ) (s : ℕ) → 1 ≤ s → (last *ℤ pos s) ≤ℤ (pos (2 ^ 62) +ℤ pos s) → pos (2 ^ 62 + 2) ≤ℤ last → ⊥
not_behind last s some high behind = let begin = above_times last (2 ^ 62 + 2) s behind in omega (arith, ints, begin, high)

-- blocks whose cells are near lie near
pub near_range : (e : ℕ) (first : ℤ) (count : ℕ) → IsBlockRange e first count → IsNearRange first count
near_range e first count is =
    let some = pow_pos e in
    record {
      low = by_cases (int_lt first (pos 0 -ℤ pos (2 ^ 62))) (λ b. absurd (not_before first (2 ^ e) some is.low (is_less _ _ b))) (λ b. is_most _ _ b);
      high = by_cases (int_lt (first +ℤ pos count) (pos (2 ^ 62 + 2)))
          (λ b. let less = is_less (first +ℤ pos count) (pos (2 ^ 62 + 2)) b in omega (arith, ints, less))
          (λ b. absurd (not_behind (first +ℤ pos count) (2 ^ e) some is.high (is_most _ _ b)));
    }
