-- Two rows of squares, one above the other, and the row of the squares that they make.
use Rattle.std.proofs.Common.{◌≡◌, ℕ, suc, zero, ◌+◌, ◌*◌, ◌/◌, ◌<◌, ◌≤◌, List, [], ◌∷◌, Some, None, take, length, get_or, ◌∙◌, ap, subst, arith, refl, inl, inr, ⊎_elim}
use Rattle.std.specs.Prelude.{◌⊎◌, Option, max, min, slice_get, IfSome}
use Rattle.std.specs.List.{AllByRecursion}
use Rattle.std.proofs.lemmas.Bool.{cases_lt}
use Rattle.std.proofs.lemmas.List.{take_all}
use Rattle.std.proofs.lemmas.Option.{slice_get-get_or}
use Rattle.squares.specs.SquareRows.{EndsBy, HasColumns, square_at}
use Rattle.squares.specs.declared.sq.Sq.{Sq}
use Rattle.squares.specs.declared.square_rows.Segment.{Segment}
use Rattle.squares.proofs.RowColumns.{has_first, passed_first}

-- ---- the segment that has a column

ended_by : (row : List Segment) (column : ℕ) → AllByRecursion (EndsBy column) row → square_at row column ≡ None
ended_by [] column ends = refl
ended_by (t ∷ row) column ends = passed_first t row column ends.0 ∙ ended_by row column ends.1

none_some : (found : Option Sq) (sq : Sq) → found ≡ None → found ≡ Some sq → ⊥
none_some found sq e f = cc

pub within_row : (row : List Segment) (at column : ℕ) → at ≤ length row → HasColumns (column + 1) row → AllByRecursion (EndsBy column) (take at row) → at < length row
within_row row at column within columns ends = ⊎_elim (λ h. h)
    (λ past. let has = columns column (omega arith) in
    let all : take at row ≡ row = take_all at row past in
    absurd (none_some (square_at row column) has.0 (ended_by row column (subst (AllByRecursion (EndsBy column)) all ends)) has.1))
    (cases_lt at (length row))

pub ends_one_more : (row : List Segment) (at column : ℕ) (d : Segment) → AllByRecursion (EndsBy column) (take at row) → at < length row → (get_or row at d).end ≤ column → AllByRecursion (EndsBy column) (take (at + 1) row)
ends_one_more [] at column d ends within h = absurd (omega (arith, within))
ends_one_more (t ∷ row) zero column d ends within h = (h, tt)
ends_one_more (t ∷ row) (suc at) column d ends within h = let e : suc (at + 1) ≡ suc at + 1 = omega arith in
    subst (λ n. AllByRecursion (EndsBy column) (take n (t ∷ row))) e (ends.0, ends_one_more row at column d ends.1 (omega (arith, within)) h)

pub ends_later : (row : List Segment) (column column' : ℕ) → column ≤ column' → AllByRecursion (EndsBy column) row → AllByRecursion (EndsBy column') row
ends_later [] column column' h ends = tt
ends_later (t ∷ row) column column' h ends = (omega (arith, h, ends.0), ends_later row column column' h ends.1)

pub found_square : (row : List Segment) (i column other : ℕ) (d : Segment) → AllByRecursion (EndsBy column) (take i row) → i < length row → column ≤ other → other < (get_or row i d).end → square_at row other ≡ Some (get_or row i d).sq
found_square [] i column other d ends within low high = absurd (omega (arith, within))
found_square (t ∷ row) zero column other d ends within low high = has_first t row other high
found_square (t ∷ row) (suc i) column other d ends within low high = passed_first t row other (omega (arith, ends.0, low)) ∙ found_square row i column other d ends.1 (omega (arith, within)) low high

pub end_of : (row : List Segment) (i column : ℕ) (d : Segment) → i < length row → IfSome (slice_get row i) (λ (s : Segment). column < s.end) → column < (get_or row i d).end
end_of row i column d within behind = subst (λ found. IfSome found (λ (s : Segment). column < s.end)) (slice_get-get_or row i d within) behind

-- ---- the two quarters of one row

some_same : (a b : Sq) (found : Option Sq) → found ≡ Some a → found ≡ Some b → a ≡ b
some_same a b found e f = cc

module _ (row : List Segment) (i j column : ℕ) (d e : Segment) (ends : AllByRecursion (EndsBy (2 * column)) (take i row)) (within : i < length row) (behind : 2 * column < (get_or row i d).end)
    (next_ends : AllByRecursion (EndsBy (2 * column + 1)) (take j row)) (next_within : j < length row) (next_behind : 2 * column + 1 < (get_or row j e).end) (other : ℕ) where
  pub left_quarter : column ≤ other → (other ≡ column) ⊎ (2 * other + 1 < (get_or row i d).end) → square_at row (2 * other) ≡ Some (get_or row i d).sq
  left_quarter low which = found_square row i (2 * column) (2 * other) d ends within (omega (arith, low)) (⊎_elim (λ same. omega (arith, same, behind)) (λ h. omega (arith, h)) which)

  pub right_quarter : column ≤ other → (other ≡ column) ⊎ (2 * other + 1 < (get_or row i d).end) → square_at row (2 * other + 1) ≡ Some (get_or row j e).sq
  right_quarter low which = ⊎_elim
      (λ same. found_square row j (2 * column + 1) (2 * other + 1) e next_ends next_within (omega (arith, low)) (omega (arith, same, next_behind)))
      (λ h. let here = found_square row i (2 * column) (2 * column + 1) d ends within (omega arith) (omega (arith, h, low)) in
      let next = found_square row j (2 * column + 1) (2 * column + 1) e next_ends next_within (omega arith) next_behind in
      let same = some_same (get_or row i d).sq (get_or row j e).sq (square_at row (2 * column + 1)) here next in
      found_square row i (2 * column) (2 * other + 1) d ends within (omega (arith, low)) h ∙ ap Some same) which

-- how far both rows have the same quarters
pub which_end : (a b m end column other : ℕ) → m ≡ min a b → end ≡ max (m / 2) (column + 1) → column ≤ other → other < end → (other ≡ column) ⊎ ((2 * other + 1 < a) × (2 * other + 1 < b))
which_end a b m end column other is_m is_end low high = ⊎_elim
    (λ h. inl (omega (arith, low, h)))
    (λ h. let less : other < m / 2 = omega (arith, is_end, high, h) in inr (omega (arith, less, is_m), omega (arith, less, is_m)))
    (cases_lt other (column + 1))
