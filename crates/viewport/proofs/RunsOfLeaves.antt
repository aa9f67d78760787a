-- The runs of a leaf's row, by the lowest bits of what is left of it.
use Rattle.std.proofs.Common.{◌≡◌, ◌≢◌, ℕ, zero, suc, ◌+◌, ◌-◌, ◌*◌, ◌/◌, ◌^◌, ◌<◌, ◌≤◌, ℤ, pos, ◌+ℤ◌, ◌≤ℤ◌, Bool, true, false, ◌||◌, List, min, inl, inr, refl, sym, ◌∙◌, ap, subst, arith, w64}
use Rattle.std.specs.Prelude.{bit_and, ◌==◌}
use Rattle.std.specs.Int.{bit_at, trailing_ones, trailing_zeros}
use Rattle.std.specs.Int.Bits.{mask_lt}
use Rattle.std.proofs.lemmas.Bool.{cases_lt}
use Rattle.std.proofs.lemmas.Int.{ints}
use Rattle.std.proofs.lemmas.Nat.Bits.{bit_at-lt, bit_at-trailing_ones, bit_at-trailing_zeros, bit_at-zero, bit_at_above, bit_at_and, bit_at_ones}
use native.Mathlib.Nat.{div-le_self}
use Rattle.plane.specs.Square.{bits_plane}
use Rattle.viewport.specs.RowRuns.{AddsCells, EndBy, cells_at, run_cells}
use Rattle.viewport.proofs.LeafRows.{bit_behind}
use Rattle.viewport.proofs.RowsOfSquares.{cell_taken, cells_before, none_taken, step_passed, whole_row}
use Rattle.viewport.proofs.RunsBeside.{adds_none, adds_then}

-- ---- stretches of equal cells

-- a stretch of dead cells
pub dead_passed : (word y n count : ℕ) (left : ℤ) (old new : List (ℤ × ℕ)) → n + count ≤ 8 → y < 8 → ((i : ℕ) → i < count → bit_at word (8 * y + (n + i)) ≢ 1) →
    AddsCells left n (cells_before word left y n) old new → AddsCells left (n + count) (cells_before word left y (n + count)) old new
dead_passed word y n zero left old new wide tall clear h =
    let none : n ≡ n + zero = omega arith in subst (λ m. AddsCells left m (cells_before word left y m) old new) none h
dead_passed word y n (suc count) left old new wide tall clear h =
    let more : (n + count) + 1 ≡ n + suc count = omega arith in
    subst (λ m. AddsCells left m (cells_before word left y m) old new) more
    (step_passed word y (n + count) left old new (omega (arith, wide)) tall (clear count (omega arith))
    (dead_passed word y n count left old new (omega (arith, wide)) tall (λ i low. clear i (omega (arith, low))) h))

run_longer : (first x : ℤ) (count : ℕ) → (run_cells first count x || run_cells (first +ℤ pos count) 1 x) ≡ run_cells first (suc count) x
run_longer first x count = grind (arith, ints)

no_run : (first x : ℤ) → run_cells first 0 x ≡ false
no_run first x = grind (arith, ints)

or_nothing : (a b : Bool) → b ≡ false → (a || b) ≡ a
or_nothing true b none = refl
or_nothing false b none = none

or_assoc : (a b c : Bool) → ((a || b) || c) ≡ (a || (b || c))
or_assoc true b c = refl
or_assoc false b c = refl

further : (left : ℤ) (n count : ℕ) → left +ℤ pos (n + count) ≡ (left +ℤ pos n) +ℤ pos count
further left n count = omega (arith, ints)

live_cells : (word y n count : ℕ) (left x : ℤ) → n + count ≤ 8 → y < 8 → ((i : ℕ) → i < count → bit_at word (8 * y + (n + i)) ≡ 1) →
    cells_before word left y (n + count) x ≡ (cells_before word left y n x || run_cells (left +ℤ pos n) count x)
live_cells word y n zero left x wide tall set =
    let none : n + zero ≡ n = omega arith in
    ap (λ m. cells_before word left y m x) none ∙ sym (or_nothing (cells_before word left y n x) (run_cells (left +ℤ pos n) 0 x) (no_run (left +ℤ pos n) x))
live_cells word y n (suc count) left x wide tall set =
    let more : n + suc count ≡ suc (n + count) = omega arith in
    ap (λ m. cells_before word left y m x) more
    ∙ cell_taken word y (n + count) left x (omega (arith, wide)) tall (ap (λ b. b == 1) (set count (omega arith)))
    ∙ ap (λ b. b || run_cells (left +ℤ pos (n + count)) 1 x) (live_cells word y n count left x (omega (arith, wide)) tall (λ i low. set i (omega (arith, low))))
    ∙ or_assoc (cells_before word left y n x) (run_cells (left +ℤ pos n) count x) (run_cells (left +ℤ pos (n + count)) 1 x)
    ∙ ap (λ first. cells_before word left y n x || (run_cells (left +ℤ pos n) count x || run_cells first 1 x)) (further left n count)
    ∙ ap (λ b. cells_before word left y n x || b) (run_longer (left +ℤ pos n) x count)

-- a stretch of live cells
pub live_taken : (word y n count : ℕ) (left : ℤ) (old mid new : List (ℤ × ℕ)) → n + count ≤ 8 → y < 8 → ((i : ℕ) → i < count → bit_at word (8 * y + (n + i)) ≡ 1) →
    AddsCells left n (cells_before word left y n) old mid → AddsCells (left +ℤ pos n) count (run_cells (left +ℤ pos n) count) mid new →
    AddsCells left (n + count) (cells_before word left y (n + count)) old new
live_taken word y n count left old mid new wide tall set h k =
    adds_then left n count (cells_before word left y n) (run_cells (left +ℤ pos n) count) (cells_before word left y (n + count)) old mid new h k
    (λ x. live_cells word y n count left x wide tall set)

-- ---- what is left of a row

-- the number has the bits of the row from a place on
pub record IsRest (word y place rest : ℕ) : Type 0 where
  pub within : place ≤ 8
  pub small : rest < 256
  pub bits : (i : ℕ) → place + i < 8 → bit_at rest i ≡ bit_at word (8 * y + (place + i))
  pub none : (i : ℕ) → 8 ≤ place + i → bit_at rest i ≡ 0

least_one : (n : ℕ) → n < 2 → min n 1 ≡ n
least_one n low = omega arith

from_start : (i : ℕ) → i ≡ 0 + i
from_start i = omega arith

pub row_begins : (word y : ℕ) → IsRest word y 0 (bit_and (word / 2 ^ (8 * y)) 255)
row_begins word y = record {
  within = omega arith;
  small = mask_lt (word / 2 ^ (8 * y)) 8;
  bits = λ i low.
      bit_at_and (word / 2 ^ (8 * y)) 255 i
      ∙ ap (min (bit_at (word / 2 ^ (8 * y)) i)) (bit_at_ones 8 i (omega (arith, low)))
      ∙ least_one (bit_at (word / 2 ^ (8 * y)) i) (bit_at-lt (word / 2 ^ (8 * y)) i)
      ∙ bit_behind word (8 * y) i
      ∙ ap (λ n. bit_at word (8 * y + n)) (from_start i);
  none = λ i high. bit_at_above (bit_and (word / 2 ^ (8 * y)) 255) 8 i (mask_lt (word / 2 ^ (8 * y)) 8) (omega (arith, high));
}

-- the first run of what is left
pub record HasRun (word y place rest dead live : ℕ) : Type 0 where
  pub some : 0 < live
  pub within : place + dead + live ≤ 8
  pub clear : (i : ℕ) → i < dead → bit_at word (8 * y + (place + i)) ≢ 1
  pub set : (i : ℕ) → i < live → bit_at word (8 * y + ((place + dead) + i)) ≡ 1
  pub rest_is : IsRest word y (place + (dead + live)) (rest / 2 ^ dead / 2 ^ live)

not_one : (n : ℕ) → n ≡ 0 → n ≢ 1
not_one n is one = omega (arith, is, one)

shifted_small : (rest k : ℕ) → rest < 256 → rest / 2 ^ k < 256
shifted_small rest k low = let less = div-le_self rest (2 ^ k) in omega (arith, low, less)

module _ (word y place rest : ℕ) (is : IsRest word y place rest) (left_over : 0 < rest) where
  dead : ℕ
  dead = trailing_zeros w64 rest

  live : ℕ
  live = trailing_ones w64 (rest / 2 ^ dead)

  dead_facts : (dead < 64) × (bit_at rest dead ≡ 1) × ((i : ℕ) → i < dead → bit_at rest i ≡ 0)
  unfolding dead
  dead_facts = let small = is.small in bit_at-trailing_zeros w64 rest left_over (omega (arith, small))

  live_facts : (live < 64) × (bit_at (rest / 2 ^ dead) live ≡ 0) × ((i : ℕ) → i < live → bit_at (rest / 2 ^ dead) i ≡ 1)
  unfolding live
  live_facts = let small = shifted_small rest dead is.small in bit_at-trailing_ones w64 (rest / 2 ^ dead) (omega (arith, small))

  set_in_rest : (i : ℕ) → i < live → bit_at rest (dead + i) ≡ 1
  set_in_rest i low = sym (bit_behind rest dead i) ∙ live_facts.2 i low

  first_within : place + dead < 8
  first_within = elim (cases_lt (place + dead) 8) as (λ _. place + dead < 8) [ inl h ↦ h | inr h ↦ absurd (not_one _ (is.none dead h) dead_facts.1) ]

  some_live : 0 < live
  some_live = elim (cases_lt 0 live) as (λ _. 0 < live) [
    | inl h ↦ h
    | inr h ↦
        let none : live ≡ 0 = omega (arith, h) in
        let here : dead + 0 ≡ dead = omega arith in
        absurd (not_one _ (ap (bit_at (rest / 2 ^ dead)) (sym none) ∙ live_facts.1) (bit_behind rest dead 0 ∙ ap (bit_at rest) here ∙ dead_facts.1))
  ]

  all_within : place + dead + live ≤ 8
  all_within = elim (cases_lt 8 (place + dead + live)) as (λ _. place + dead + live ≤ 8) [
    | inl h ↦
        let low = first_within in
        let beyond : 8 - (place + dead) < live = omega (arith, h, low) in
        let end : 8 ≤ place + (dead + (8 - (place + dead))) = omega (arith, low) in
        absurd (not_one _ (is.none (dead + (8 - (place + dead))) end) (set_in_rest (8 - (place + dead)) beyond))
    | inr h ↦ h
  ]

  next_bit : (i : ℕ) → bit_at (rest / 2 ^ dead / 2 ^ live) i ≡ bit_at rest (dead + (live + i))
  next_bit i = bit_behind (rest / 2 ^ dead) live i ∙ bit_behind rest dead (live + i)

  pub first_run : HasRun word y place rest (trailing_zeros w64 rest) (trailing_ones w64 (rest / 2 ^ trailing_zeros w64 rest))
  unfolding dead live
  first_run =
      let within = all_within in
      let low_first = first_within in record {
        some = some_live;
        within = within;
        clear = λ i low. not_one _ (sym (is.bits i (omega (arith, low, low_first))) ∙ dead_facts.2 i low);
        set = λ i low.
            let at : 8 * y + (place + (dead + i)) ≡ 8 * y + ((place + dead) + i) = omega arith in
            ap (bit_at word) (sym at) ∙ sym (is.bits (dead + i) (omega (arith, low, within))) ∙ set_in_rest i low;
        rest_is = record {
          within = omega (arith, within);
          small = shifted_small (rest / 2 ^ dead) live (shifted_small rest dead is.small);
          bits = λ i low.
              let at : 8 * y + (place + (dead + (live + i))) ≡ 8 * y + ((place + (dead + live)) + i) = omega arith in
              next_bit i ∙ is.bits (dead + (live + i)) (omega (arith, low)) ∙ ap (bit_at word) at;
          none = λ i high. next_bit i ∙ is.none (dead + (live + i)) (omega (arith, high));
        };
      }

-- ---- the loop

-- the cells so far, and what is left of the row
pub record AreTaken (word y place rest : ℕ) (left : ℤ) (old new : List (ℤ × ℕ)) : Type 0 where
  pub rest_is : IsRest word y place rest
  pub adds : AddsCells left place (cells_before word left y place) old new

pub none_taken_yet : (word y : ℕ) (left : ℤ) (old : List (ℤ × ℕ)) → EndBy left old → AreTaken word y 0 (bit_and (word / 2 ^ (8 * y)) 255) left old old
none_taken_yet word y left old before = record {
  rest_is = row_begins word y;
  adds = adds_none left 0 (cells_before word left y 0) old before (none_taken word y left);
}

pub before_run : (word y place rest dead live : ℕ) (left : ℤ) (old new : List (ℤ × ℕ)) → y < 8 → AreTaken word y place rest left old new → HasRun word y place rest dead live →
    AddsCells left (place + dead) (cells_before word left y (place + dead)) old new
before_run word y place rest dead live left old new tall taken run =
    let within = run.within in dead_passed word y place dead left old new (omega (arith, within)) tall run.clear taken.adds

pub run_taken : (word y place rest dead live : ℕ) (left : ℤ) (old mid new : List (ℤ × ℕ)) → y < 8 → AreTaken word y place rest left old mid → HasRun word y place rest dead live →
    AddsCells (left +ℤ pos (place + dead)) live (run_cells (left +ℤ pos (place + dead)) live) mid new →
    AreTaken word y (place + (dead + live)) (rest / 2 ^ dead / 2 ^ live) left old new
run_taken word y place rest dead live left old mid new tall taken run added =
    let same : (place + dead) + live ≡ place + (dead + live) = omega arith in record {
      rest_is = run.rest_is;
      adds = subst (λ m. AddsCells left m (cells_before word left y m) old new) same
          (live_taken word y (place + dead) live left old mid new run.within tall run.set (before_run word y place rest dead live left old mid tall taken run) added);
    }

pub all_of_row : (word y place : ℕ) (left : ℤ) (old new : List (ℤ × ℕ)) → y < 8 → AreTaken word y place 0 left old new → AddsCells left 8 (cells_at (bits_plane word) left y) old new
all_of_row word y place left old new tall taken =
    let within = taken.rest_is.within in
    let whole : place + (8 - place) ≡ 8 = omega (arith, within) in
    whole_row word y (place + (8 - place)) left old new whole
    (dead_passed word y place (8 - place) left old new (omega (arith, whole)) tall (λ i low. not_one _ (sym (taken.rest_is.bits i (omega (arith, low, within))) ∙ bit_at-zero i)) taken.adds)

-- the run has room
pub run_room : (left : ℤ) (place dead live : ℕ) → place + dead + live ≤ 8 → (left +ℤ pos 8) ≤ℤ pos (2 ^ 62) → ((left +ℤ pos (place + dead)) +ℤ pos live) ≤ℤ pos (2 ^ 62)
run_room left place dead live within room = omega (arith, ints, within, room)
