-- The runs of a row of a square, from those of the two quarters that have it.
use Rattle.std.proofs.Common.{◌≡◌, ℕ, ◌-◌, ◌^◌, ◌<◌, ◌≤◌, ℤ, pos, ◌+ℤ◌, ◌-ℤ◌, ◌≤ℤ◌, ◌<ℤ◌, Bool, true, false, ◌||◌, List, [], ◌∷◌, ◌++◌, length, get_or, refl, sym, ◌∙◌, ap, subst, arith}
use Rattle.std.specs.List.{AllByRecursion, list_any}
use Rattle.std.proofs.lemmas.Int.{ints}
use Rattle.std.proofs.lemmas.List.Folds.{list_any-append}
use Rattle.plane.specs.Plane.{Plane}
use Rattle.plane.specs.Square.{IsSquare, spans}
use Rattle.plane.proofs.Paddings.{twice_half}
use Rattle.viewport.specs.Halves.{IsHalfRow}
use Rattle.viewport.specs.RowRuns.{AddsCells, EndBy, cells_at, end_of, is_in_row_run, is_in_some, run_cells}
use Rattle.squares.proofs.NumberMaps.{by_cases}
use Rattle.viewport.proofs.Quarters.{dead_column}
use Rattle.viewport.proofs.RowsOfSquares.{half_row}
use Rattle.viewport.proofs.RunsBeside.{ended, is_last, adds_as, adds_then}

past : (left x first : ℤ) (count : ℕ) → (first +ℤ pos count) ≤ℤ left → left ≤ℤ x → spans count (x -ℤ first) ≡ false
past left x first count ends at = grind (arith, ints)

-- runs that end here or before have no cell from here on
none_behind : (left x : ℤ) (runs : List (ℤ × ℕ)) → AllByRecursion (λ run. end_of run ≤ℤ left) runs → left ≤ℤ x → is_in_some runs x ≡ false
unfolding is_in_some
none_behind left x [] ends at = refl
none_behind left x (run ∷ runs) ends at = ap (λ b. b || list_any (is_in_row_run x) runs) (past left x run.0 run.1 ends.0 at) ∙ none_behind left x runs ends.1 at

further : (x left far : ℤ) → x -ℤ (left +ℤ far) ≡ (x -ℤ far) -ℤ left
further x left far = omega (arith, ints)

further_low : (h : ℕ) (x left far : ℤ) → spans h (x -ℤ (left +ℤ far)) ≡ true → left ≤ℤ (x -ℤ far)
further_low h x left far e = grind (arith, ints)

further_high : (h : ℕ) (x left far : ℤ) → far ≡ pos h → spans h (x -ℤ (left +ℤ far)) ≡ true → (x -ℤ far) <ℤ (left +ℤ far)
further_high h x left far far_is e = grind (arith, ints)

-- the last run has all cells from here to where it ends
pub last_covers : (runs : List (ℤ × ℕ)) (last : ℤ × ℕ) (left end : ℤ) → 0 < length runs → last ≡ get_or runs (length runs - 1) last → last.0 ≤ℤ left → end_of last ≡ end → (x : ℤ) → left ≤ℤ x → x <ℤ end → is_in_some runs x ≡ true
unfolding is_in_some
last_covers runs last left end some is first at x low high =
    let parts = ended runs some in
    let front = parts.0 in
    let last_is : last ≡ parts.1 = is ∙ is_last runs front parts.1 last parts.2 in
    ap (list_any (is_in_row_run x)) (parts.2.whole ∙ ap (λ (run : ℤ × ℕ). front ++ run ∷ []) (sym last_is)) ∙ list_any-append (is_in_row_run x) front (last ∷ [])
    ∙ ap (λ b. list_any (is_in_row_run x) front || (b || false)) (within last.0 last.1 left end x first at low high)
    ∙ or_true (list_any (is_in_row_run x) front)
  where
    within : (first : ℤ) (count : ℕ) (left end x : ℤ) → first ≤ℤ left → first +ℤ pos count ≡ end → left ≤ℤ x → x <ℤ end → spans count (x -ℤ first) ≡ true
    within first count left end x at is low high = grind (arith, ints)

    or_true : (b : Bool) → (b || true) ≡ true
    or_true true = refl
    or_true false = refl

-- two squares beside one another, of which the second begins so far behind left
module _ (level : ℕ) (left far : ℤ) (far_is : far ≡ pos (2 ^ (level - 1))) (p first second : Plane) (y row : ℕ) (is : IsHalfRow (2 ^ (level - 1)) p first second y row) (old mid : List (ℤ × ℕ)) (low : ℕ) (low_is : low ≡ level - 1)
    (one : AddsCells left (2 ^ low) (cells_at first left row) old mid) where
  begun : AddsCells left (2 ^ (level - 1)) (cells_at first left row) old mid
  begun = subst (λ n. AddsCells left (2 ^ n) (cells_at first left row) old mid) low_is one

  -- the runs of the first end where the second begins
  pub ends_between : EndBy (left +ℤ far) mid
  ends_between = subst (λ z. EndBy (left +ℤ z) mid) (sym far_is) begun.end

  row_cells : (x : ℤ) → cells_at p left y x ≡ (cells_at first left row x || cells_at second (left +ℤ far) row x)
  row_cells x =
      is.cells (x -ℤ left) ∙ half_row (2 ^ (level - 1)) first second left x row
      ∙ ap (λ z. cells_at first left row x || cells_at second (left +ℤ z) row x) (sym far_is)

  pub both_add : (next : ℕ) (new : List (ℤ × ℕ)) → 1 ≤ level → next ≡ level - 1 → AddsCells (left +ℤ far) (2 ^ next) (cells_at second (left +ℤ far) row) mid new → AddsCells left (2 ^ level) (cells_at p left y) old new
  both_add next new least next_is two =
      let half : ℕ = 2 ^ (level - 1) in
      let behind = subst (λ z. AddsCells z half (cells_at second (left +ℤ far) row) mid new) (ap (λ z. left +ℤ z) far_is)
      (subst (λ n. AddsCells (left +ℤ far) (2 ^ n) (cells_at second (left +ℤ far) row) mid new) next_is two) in
      subst (λ n. AddsCells left n (cells_at p left y) old new) (sym (twice_half level least))
      (adds_then left half half (cells_at first left row) (cells_at second (left +ℤ far) row) (cells_at p left y) old mid new begun behind row_cells)

  module _ (covered : (x : ℤ) → left ≤ℤ x → x <ℤ (left +ℤ far) → is_in_some mid x ≡ true) (before : EndBy left old) where
    all_live : (x : ℤ) → left ≤ℤ x → x <ℤ (left +ℤ far) → cells_at first left row x ≡ true
    all_live x low high = sym (ap (λ b. b || cells_at first left row x) (none_behind left x old before.ends low)) ∙ sym (begun.adds x) ∙ covered x low high

    pub live_again : IsSquare (2 ^ (level - 1)) first → (x : ℤ) → cells_at first (left +ℤ far) row x ≡ run_cells (left +ℤ far) (2 ^ (level - 1)) x
    live_again square x =
        by_cases (spans (2 ^ (level - 1)) (x -ℤ (left +ℤ far)))
        (λ e. ap (λ u. first u (pos row)) (further x left far) ∙ all_live (x -ℤ far) (further_low (2 ^ (level - 1)) x left far e) (further_high (2 ^ (level - 1)) x left far far_is e) ∙ sym e)
        (λ e. dead_column (2 ^ (level - 1)) first square (x -ℤ (left +ℤ far)) (pos row) e ∙ sym e)

    -- the first square once more, as one run
    pub again_adds : (count : ℕ) (new : List (ℤ × ℕ)) → 1 ≤ level → IsSquare (2 ^ (level - 1)) first → second ≡ first → count ≡ 2 ^ (level - 1) →
        AddsCells (left +ℤ far) count (run_cells (left +ℤ far) count) mid new → AddsCells left (2 ^ level) (cells_at p left y) old new
    again_adds count new least square same count_is run =
        both_add (level - 1) new least refl
        (adds_as (left +ℤ far) count (2 ^ (level - 1)) (run_cells (left +ℤ far) count) (cells_at second (left +ℤ far) row) mid new count_is
        (λ x. ap (λ q. cells_at q (left +ℤ far) row x) same ∙ live_again square x ∙ ap (λ n. run_cells (left +ℤ far) n x) (sym count_is)) run)
