-- What shifts of lanes and in lanes do to the cells: each moves, and those that leave the square
-- are gone.
use mir.Syntax.{Width}
use mir.Val.{bits}
use Rattle.std.proofs.Common.{◌≡◌, ℕ, zero, suc, ◌+◌, ◌-◌, ◌*◌, ◌/◌, ◌%◌, ◌^◌, ◌<◌, ◌≤◌, ℤ, pos, ◌+ℤ◌, ◌-ℤ◌, Bool, true, false, List, ◌++◌, length, get_or, replicate, refl, sym, ◌∙◌, ap, arith, Fits, inl, inr}
use Rattle.std.specs.Prelude.{◌&&◌, unsigned_abs}
use Rattle.std.specs.List.{range_with_len}
use Rattle.std.proofs.lemmas.Bool.{cases_lt}
use Rattle.std.proofs.lemmas.Int.{ints}
use Rattle.std.proofs.lemmas.List.{length-replicate, get_or_append_left, get_or-append_right, get_or_past}
use Rattle.std.proofs.Math.ListN.{length-append}
use Rattle.std.proofs.lemmas.Simd.{get_or-zip2, get_or-replicate, Each1-get_or, pick_l-range_with_len, get_or-chunk}
use lib.Lanes.{zip2, Each1, pick_l}
use Rattle.plane.specs.Square.{spans, bit}
use Rattle.leaf_kernels.specs.Rows.{cells_of_rows}
use Rattle.plane.proofs.WordBits.{bit-shr, bit-shl, bit-shl_below, bit-above, bit-none}
use Rattle.leaf_kernels.proofs.Lanes.{cell_in, rows_show}

one_on : (i : ℕ) → pos (suc i) -ℤ pos 1 ≡ pos i
one_on i = omega (arith, ints)

outside : (n i : ℕ) → n ≤ i → spans n (pos i) ≡ false
outside n i h = grind (arith, ints)

guard_columns : (s u t p : Bool) → ((s && t) && ((u && t) && p)) ≡ (s && ((u && t) && p))
guard_columns true true t p = twice t p
  where
    twice : (t p : Bool) → (t && (t && p)) ≡ (t && p)
    twice true p = refl
    twice false p = refl
guard_columns true false true p = refl
guard_columns true false false p = refl
guard_columns false u t p = refl

guard_rows : (s u t p : Bool) → ((s && t) && ((s && u) && p)) ≡ (t && ((s && u) && p))
guard_rows true u t p = refl
guard_rows false u true p = refl
guard_rows false u false p = refl

abbrev shr : ℕ → ℕ → ℕ
shr a b = a / 2 ^ b

module _ (w : Width) (n : ℕ) where
  -- a lane after an operation with the same number at each lane
  pub with_each : (f : ℕ → ℕ → ℕ) (rows : List ℕ) (s j : ℕ) → length rows ≡ n → j < n → get_or (zip2 f rows (replicate n s)) j 0 ≡ f (get_or rows j 0) s
  with_each f rows s j long k = get_or-zip2 f rows (replicate n s) j 0 0 0 (omega arith) (omega (arith, length-replicate {A = ℕ} n s)) ∙ ap (f (get_or rows j 0)) (get_or-replicate n j s 0 k)

  abbrev shl : ℕ → ℕ → ℕ
  shl a b = a * 2 ^ b % 2 ^ bits w

  left_cell : (rows : List ℕ) → length rows ≡ n → (i j : ℕ) → i < bits w → j < n → bit (get_or (zip2 shl rows (replicate n 1)) j 0) i ≡ cells_of_rows (bits w) n rows (pos i -ℤ pos 1) (pos j)
  left_cell rows long zero j h k = ap (λ r. bit r 0) (with_each shl rows 1 j long k) ∙ bit-shl_below w (get_or rows j 0) 1 0 (omega arith) h
  left_cell rows long (suc i) j h k =
      ap (λ r. bit r (suc i)) (with_each shl rows 1 j long k) ∙ bit-shl w (get_or rows j 0) 1 i (suc i) (omega arith) h
      ∙ sym (cell_in w n rows i j (omega arith) k) ∙ ap (λ z. cells_of_rows (bits w) n rows z (pos j)) (sym (one_on i))

  -- each cell as its left neighbour
  pub from_left_cells : (rows : List ℕ) → length rows ≡ n → (x y : ℤ) → cells_of_rows (bits w) n (zip2 shl rows (replicate n 1)) x y ≡ (spans (bits w) x && cells_of_rows (bits w) n rows (x -ℤ pos 1) y)
  from_left_cells rows long x y =
      rows_show w n (zip2 shl rows (replicate n 1)) (λ u v. cells_of_rows (bits w) n rows (u -ℤ pos 1) v) (left_cell rows long) x y
      ∙ guard_columns (spans (bits w) x) (spans (bits w) (x -ℤ pos 1)) (spans n y) (bit (get_or rows (unsigned_abs y) 0) (unsigned_abs (x -ℤ pos 1)))

  -- a cell in any column
  pub cell_in_row : (rows : List ℕ) (i j : ℕ) → length rows ≡ n → Each1 (Fits w) rows → j < n → bit (get_or rows j 0) i ≡ cells_of_rows (bits w) n rows (pos i) (pos j)
  cell_in_row rows i j long fits k = elim (cases_lt i (bits w)) [
    | inl h ↦ sym (cell_in w n rows i j h k)
    | inr h ↦
        let lane : Fits w (get_or rows j 0) = Each1-get_or (Fits w) rows j 0 (omega arith) fits in
        bit-above (get_or rows j 0) (bits w) i lane.fits h ∙ ap (λ s. (s && spans n (pos j)) && bit (get_or rows j 0) i) (sym (outside (bits w) i h))
  ]

  -- each cell as its right neighbour
  right_cell : (rows : List ℕ) → length rows ≡ n → Each1 (Fits w) rows → (i j : ℕ) → i < bits w → j < n → bit (get_or (zip2 shr rows (replicate n 1)) j 0) i ≡ cells_of_rows (bits w) n rows (pos i +ℤ pos 1) (pos j)
  right_cell rows long fits i j h k =
      ap (λ r. bit r i) (with_each shr rows 1 j long k) ∙ bit-shr (get_or rows j 0) 1 i ∙ cell_in_row rows (1 + i) j long fits k ∙ ap (λ z. cells_of_rows (bits w) n rows z (pos j)) (later i)
    where
      later : (i : ℕ) → pos (1 + i) ≡ pos i +ℤ pos 1
      later i = omega (arith, ints)

  pub from_right_cells : (rows : List ℕ) → length rows ≡ n → Each1 (Fits w) rows → (x y : ℤ) → cells_of_rows (bits w) n (zip2 shr rows (replicate n 1)) x y ≡ (spans (bits w) x && cells_of_rows (bits w) n rows (x +ℤ pos 1) y)
  from_right_cells rows long fits x y =
      rows_show w n (zip2 shr rows (replicate n 1)) (λ u v. cells_of_rows (bits w) n rows (u +ℤ pos 1) v) (right_cell rows long fits) x y
      ∙ guard_columns (spans (bits w) x) (spans (bits w) (x +ℤ pos 1)) (spans n y) (bit (get_or rows (unsigned_abs y) 0) (unsigned_abs (x +ℤ pos 1)))

  -- a lane of neighbouring ones
  neighbouring : (both : List ℕ) (from j : ℕ) → from + n ≤ length both → j < n → get_or (pick_l 0 both (range_with_len from n)) j 0 ≡ get_or both (from + j) 0
  neighbouring both from j room k = ap (λ l. get_or l j 0) (pick_l-range_with_len 0 both from n room) ∙ get_or-chunk from n both j 0 k

  first_lane : (rows : List ℕ) → 0 < n → get_or (replicate n 0 ++ rows) (n - 1 + 0) 0 ≡ 0
  first_lane rows some =
      get_or_append_left (replicate n 0) rows 0 (n - 1 + 0) (omega (arith, length-replicate {A = ℕ} n 0)) ∙ get_or-replicate n (n - 1 + 0) 0 0 (omega arith)

  above_cell : (rows : List ℕ) → length rows ≡ n → (i j : ℕ) → i < bits w → j < n → bit (get_or (pick_l 0 (replicate n 0 ++ rows) (range_with_len (n - 1) n)) j 0) i ≡ cells_of_rows (bits w) n rows (pos i) (pos j -ℤ pos 1)
  above_cell rows long i zero h k =
      ap (λ r. bit r i) (neighbouring (replicate n 0 ++ rows) (n - 1) 0 (omega (arith, length-replicate {A = ℕ} n 0, length-append (replicate n 0) rows)) k ∙ first_lane rows k) ∙ bit-none i ∙ no_row (spans (bits w) (pos i)) (bit (get_or rows 1 0) i)
    where
      no_row : (s p : Bool) → false ≡ ((s && false) && p)
      no_row true p = refl
      no_row false p = refl
  above_cell rows long i (suc j) h k =
      ap (λ r. bit r i) (neighbouring (replicate n 0 ++ rows) (n - 1) (suc j) (omega (arith, length-replicate {A = ℕ} n 0, length-append (replicate n 0) rows)) k
      ∙ get_or-append_right (replicate n 0) rows n (n - 1 + suc j) 0 (length-replicate {A = ℕ} n 0) (omega arith) ∙ ap (λ m. get_or rows m 0) (back j))
      ∙ sym (cell_in w n rows i j h (omega arith)) ∙ ap (λ z. cells_of_rows (bits w) n rows (pos i) z) (sym (one_on j))
    where
      back : (j : ℕ) → n - 1 + suc j - n ≡ j
      back j = omega arith

  -- each cell as its upper neighbour
  pub from_above_cells : (rows : List ℕ) → length rows ≡ n → (x y : ℤ) → cells_of_rows (bits w) n (pick_l 0 (replicate n 0 ++ rows) (range_with_len (n - 1) n)) x y ≡ (spans n y && cells_of_rows (bits w) n rows x (y -ℤ pos 1))
  from_above_cells rows long x y =
      rows_show w n (pick_l 0 (replicate n 0 ++ rows) (range_with_len (n - 1) n)) (λ u v. cells_of_rows (bits w) n rows u (v -ℤ pos 1)) (above_cell rows long) x y
      ∙ guard_rows (spans (bits w) x) (spans n (y -ℤ pos 1)) (spans n y) (bit (get_or rows (unsigned_abs (y -ℤ pos 1)) 0) (unsigned_abs x))

  -- a cell in any row
  pub cell_in_column : (rows : List ℕ) (i j : ℕ) → length rows ≡ n → i < bits w → bit (get_or rows j 0) i ≡ cells_of_rows (bits w) n rows (pos i) (pos j)
  cell_in_column rows i j long h = elim (cases_lt j n) [
    | inl k ↦ sym (cell_in w n rows i j h k)
    | inr k ↦ ap (λ r. bit r i) (get_or_past rows j 0 (omega arith)) ∙ bit-none i ∙ no_row (spans (bits w) (pos i)) (bit (get_or rows j 0) i) ∙ ap (λ s. (spans (bits w) (pos i) && s) && bit (get_or rows j 0) i) (sym (outside n j k))
  ]
    where
      no_row : (s p : Bool) → false ≡ ((s && false) && p)
      no_row true p = refl
      no_row false p = refl

  below_lane : (rows : List ℕ) (j : ℕ) → length rows ≡ n → j < n → get_or (rows ++ replicate n 0) (1 + j) 0 ≡ get_or rows (1 + j) 0
  below_lane rows j long k = elim (cases_lt (1 + j) n) [
    | inl h ↦ get_or_append_left rows (replicate n 0) 0 (1 + j) (omega arith)
    | inr h ↦
        get_or-append_right rows (replicate n 0) n (1 + j) 0 long h ∙ get_or-replicate n (1 + j - n) 0 0 (omega arith) ∙ sym (get_or_past rows (1 + j) 0 (omega arith))
  ]

  below_cell : (rows : List ℕ) → length rows ≡ n → (i j : ℕ) → i < bits w → j < n → bit (get_or (pick_l 0 (rows ++ replicate n 0) (range_with_len 1 n)) j 0) i ≡ cells_of_rows (bits w) n rows (pos i) (pos j +ℤ pos 1)
  below_cell rows long i j h k =
      ap (λ r. bit r i) (neighbouring (rows ++ replicate n 0) 1 j (omega (arith, length-replicate {A = ℕ} n 0, length-append rows (replicate n 0))) k ∙ below_lane rows j long k)
      ∙ cell_in_column rows i (1 + j) long h ∙ ap (λ z. cells_of_rows (bits w) n rows (pos i) z) (later j)
    where
      later : (j : ℕ) → pos (1 + j) ≡ pos j +ℤ pos 1
      later j = omega (arith, ints)

  -- each cell as its lower neighbour
  pub from_below_cells : (rows : List ℕ) → length rows ≡ n → (x y : ℤ) → cells_of_rows (bits w) n (pick_l 0 (rows ++ replicate n 0) (range_with_len 1 n)) x y ≡ (spans n y && cells_of_rows (bits w) n rows x (y +ℤ pos 1))
  from_below_cells rows long x y =
      rows_show w n (pick_l 0 (rows ++ replicate n 0) (range_with_len 1 n)) (λ u v. cells_of_rows (bits w) n rows u (v +ℤ pos 1)) (below_cell rows long) x y
      ∙ guard_rows (spans (bits w) x) (spans n (y +ℤ pos 1)) (spans n y) (bit (get_or rows (unsigned_abs (y +ℤ pos 1)) 0) (unsigned_abs x))
