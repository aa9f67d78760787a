-- The first row of a leaf with a live cell, by the place of its lowest bit.
use Rattle.std.proofs.Common.{◌≡◌, ◌≢◌, ℕ, ◌+◌, inl, inr, ◌-◌, ◌*◌, ◌/◌, ◌%◌, ◌^◌, ◌<◌, ◌≤◌, ℤ, pos, ◌≤ℤ◌, ◌<ℤ◌, true, ◌&&◌, sym, ◌∙◌, ap, arith, w64}
use Rattle.std.specs.Prelude.{◌==◌}
use Rattle.std.specs.Int.{bit_at, trailing_zeros}
use Rattle.std.proofs.lemmas.Bool.{eqb-true, cases_lt}
use Rattle.std.proofs.lemmas.Int.{ints}
use Rattle.std.proofs.lemmas.Nat.Bits.{bit_at-trailing_zeros, bit_at-zero, bit_at_above}
use lib.Pow.{shr-shr}
use native.Mathlib.Nat.{div-le_self}
use Rattle.plane.specs.Square.{bits_plane, bit, spans}
use Rattle.plane.proofs.Cuts.{and_left, and_right}
use Rattle.viewport.specs.Rows.{AreDeadRows, IsLiveRow}
use Rattle.squares.proofs.NumberMaps.{by_cases}
use Rattle.viewport.proofs.LeafBoxes.{place_of}
use Rattle.viewport.proofs.Leaves.{shows}

-- the bits behind a place
pub bit_behind : (word a j : ℕ) → bit_at (word / 2 ^ a) j ≡ bit_at word (a + j)
bit_behind word a j = ap (λ n. n % 2) (shr-shr word a j)

place_range : (x y : ℤ) (from row : ℕ) → (spans 8 x && spans 8 y) ≡ true → pos from ≤ℤ y → y <ℤ pos row → (8 * from ≤ place_of x y) × (place_of x y < 8 * row)
place_range x y from row e above below = (grind (arith, ints), grind (arith, ints))

-- rows none of whose bits is set
unset : (word from row end : ℕ) → ((k : ℕ) → 8 * from ≤ k → k < end → bit_at word k ≢ 1) → 8 * row ≤ end → AreDeadRows (bits_plane word) (pos from) (pos row)
unset word from row end none low = record {
  dead = λ x y above below. by_cases (bits_plane word x y)
      (λ e. let range = place_range x y from row (and_left _ _ e) above below in
      absurd (none (place_of x y) range.0 (omega (arith, range)) (eqb-true _ _ (and_right _ _ e))))
      (λ e. e);
}

zero_or_one : (n : ℕ) → n ≡ 0 → n ≢ 1
zero_or_one n e f = omega arith

-- no bit is left
pub none_left : (word from end : ℕ) → word / 2 ^ (8 * from) ≡ 0 → AreDeadRows (bits_plane word) (pos from) (pos end)
none_left word from end e =
    unset word from end (8 * end)
    (λ k low high. let split : 8 * from + (k - 8 * from) ≡ k = omega arith in
    zero_or_one _ (ap (bit_at word) (sym split) ∙ sym (bit_behind word (8 * from) (k - 8 * from)) ∙ ap (λ n. bit_at n (k - 8 * from)) e ∙ bit_at-zero (k - 8 * from)))
    (omega arith)

module _ (word from : ℕ) (fits : word < 2 ^ 64) (less : word / 2 ^ (8 * from) < 2 ^ 64) (some : word / 2 ^ (8 * from) ≢ 0) where
  first : ℕ
  first = trailing_zeros w64 (word / 2 ^ (8 * from))

  facts : (first < 64) × (bit_at (word / 2 ^ (8 * from)) first ≡ 1) × ((i : ℕ) → i < first → bit_at (word / 2 ^ (8 * from)) i ≡ 0)
  unfolding first
  facts = bit_at-trailing_zeros w64 (word / 2 ^ (8 * from)) (omega arith) less

  here : bit_at word (8 * from + first) ≡ 1
  here = sym (bit_behind word (8 * from) first) ∙ facts.1

  not_before : (k : ℕ) → 8 * from ≤ k → k < 8 * from + first → bit_at word k ≢ 1
  not_before k low high =
      let split : 8 * from + (k - 8 * from) ≡ k = omega arith in
      zero_or_one _ (ap (bit_at word) (sym split) ∙ sym (bit_behind word (8 * from) (k - 8 * from)) ∙ facts.2 (k - 8 * from) (omega arith))

  within : 8 * from + first < 64
  within = elim (cases_lt (8 * from + first) 64) as (λ _. 8 * from + first < 64) [ inl h ↦ h | inr h ↦ absurd (one_not (here_is h)) ] where
    here_is : 64 ≤ 8 * from + first → bit_at word (8 * from + first) ≡ 0
    here_is h = bit_at_above word 64 (8 * from + first) fits h

    one_not : bit_at word (8 * from + first) ≡ 0 → ⊥
    one_not e = omega (arith, e, here)

  pub dead_before : (row : ℕ) → row ≤ from + trailing_zeros w64 (word / 2 ^ (8 * from)) / 8 → AreDeadRows (bits_plane word) (pos from) (pos row)
  unfolding first
  dead_before row low = unset word from row (8 * from + first) not_before (omega arith)

  pub live_there : IsLiveRow (bits_plane word) (pos (from + trailing_zeros w64 (word / 2 ^ (8 * from)) / 8))
  unfolding first
  live_there = let in_leaf = within in let column : first % 8 < 8 = omega arith in
      let place : 8 * (from + first / 8) + first % 8 ≡ 8 * from + first = omega arith in record {
        x = pos (first % 8);
        live = shows word (first % 8) (from + first / 8) column (omega (arith, in_leaf)) ∙ ap (bit word) place ∙ ap (λ n. n == 1) here;
      }

-- what is left of a word is no larger
pub lower_rest : (word from : ℕ) → word < 2 ^ 64 → word / 2 ^ (8 * from) < 2 ^ 64
lower_rest word from h = let less = div-le_self word (2 ^ (8 * from)) in omega (arith, h, less)
