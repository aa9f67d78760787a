-- Gaps at the sides of squares: of a square by its two halves.
use Rattle.std.proofs.Common.{◌≡◌, ℕ, ◌+◌, ◌<◌, ◌⊎◌, ℤ, pos, ◌+ℤ◌, ◌-ℤ◌, ◌≤ℤ◌, ◌<ℤ◌, true, false, sym, ◌∙◌, subst, inl, inr, arith, rules}
use Rattle.std.specs.Prelude.{Option, Some, None, is_some}
use Rattle.std.specs.Option.{option_map}
use Rattle.std.proofs.lemmas.Int.{ints}
use Rattle.std.proofs.lemmas.Bool.{false≢true}
use Rattle.plane.specs.Plane.{Plane}
use Rattle.plane.specs.Square.{IsSame, IsSquare, empty}
use Rattle.squares.proofs.NumberMaps.{by_cases}
use Rattle.viewport.specs.declared.gaps.Side.{Side}
use Rattle.viewport.specs.declared.gaps.Side.TheVariants.{Left, Right, Top, Bottom}
use Rattle.viewport.specs.Gaps.{HasCellAt, IsGap, IsNearest, distance_from, lesser}
use Rattle.viewport.specs.Halves.{either}
use Rattle.viewport.proofs.BoxesOfPlanes.{live_in_column, live_in_row, within_span}

-- cells of a square lie between its sides
between_sides : (side : Side) (size : ℕ) (x y n : ℤ) → (pos 0 ≤ℤ x) × (x <ℤ pos size) → (pos 0 ≤ℤ y) × (y <ℤ pos size) → distance_from side size x y ≡ n → (pos 0 ≤ℤ n) × (n <ℤ pos size)
between_sides Left size x y n h k e = (omega (arith, ints), omega (arith, ints))
between_sides Right size x y n h k e = (omega (arith, ints), omega (arith, ints))
between_sides Top size x y n h k e = (omega (arith, ints), omega (arith, ints))
between_sides Bottom size x y n h k e = (omega (arith, ints), omega (arith, ints))

pub inside : (side : Side) (size : ℕ) (p : Plane) (n : ℤ) → IsSquare size p → HasCellAt side size p n → (pos 0 ≤ℤ n) × (n <ℤ pos size)
inside side size p n is cell =
    between_sides side size cell.x cell.y n (within_span size cell.x (live_in_column size p is _ _ cell.live)) (within_span size cell.y (live_in_row size p is _ _ cell.live)) cell.there

pub gap_inside : (side : Side) (size gap : ℕ) (p : Plane) → IsSquare size p → IsNearest side size p gap → gap < size
gap_inside side size gap p is h = let between = inside side size p (pos gap) is h.reached in omega (arith, ints, between.0, between.1)

-- the halves of a square of twice this side: the one at the side, and the other
pub record IsHalved (side : Side) (h : ℕ) (p near far : Plane) : Type 0 where
  pub near_square : IsSquare h near
  pub far_square : IsSquare h far
  pub near_cell : (n : ℤ) → HasCellAt side h near n → HasCellAt side (h + h) p (n +ℤ pos 0)
  pub far_cell : (n : ℤ) → HasCellAt side h far n → HasCellAt side (h + h) p (n +ℤ pos h)
  pub each : (x y : ℤ) → p x y ≡ true → HasCellAt side h near (distance_from side (h + h) x y -ℤ pos 0) ⊎ HasCellAt side h far (distance_from side (h + h) x y -ℤ pos h)

near_clear : (g h : ℕ) (d z : ℤ) → pos g ≤ℤ d → d ≡ z -ℤ pos 0 → pos g ≤ℤ z
near_clear g h d z k e = omega (arith, ints)

far_behind : (g h : ℕ) (z : ℤ) → g < h → pos 0 ≤ℤ (z -ℤ pos h) → pos g ≤ℤ z
far_behind g h z k e = omega (arith, ints)

far_clear : (g h : ℕ) (d z : ℤ) → pos g ≤ℤ d → d ≡ z -ℤ pos h → pos (g + h) ≤ℤ z
far_clear g h d z k e = omega (arith, ints)

no_farther : (g : ℕ) → pos g +ℤ pos 0 ≡ pos g
no_farther g = omega (arith, ints)

farther_by : (g h : ℕ) → pos g +ℤ pos h ≡ pos (g + h)
farther_by g h = omega (arith, ints)

-- a gap in the half at the side is that of the square
pub near_found : (side : Side) (h gap : ℕ) (p near far : Plane) → IsHalved side h p near far → IsNearest side h near gap → IsNearest side (h + h) p gap
near_found side h gap p near far is found = record {
  clear = λ x y live. elim (is.each x y live) [
    | inl cell ↦ near_clear gap h _ _ (found.clear cell.x cell.y cell.live) cell.there
    | inr cell ↦ far_behind gap h _ (gap_inside side h gap near is.near_square found) (inside side h far _ is.far_square cell).0
  ];
  reached = subst (HasCellAt side (h + h) p) (no_farther gap) (is.near_cell (pos gap) found.reached);
}

-- where that half has no live cell, it is the gap of the other half, farther by half the side
pub far_found : (side : Side) (h : ℕ) (p near far : Plane) (o : Option ℕ) → IsHalved side h p near far → IsSame near empty → IsGap side h far o → IsGap side (h + h) p (option_map (λ g. g + h) o)
far_found side h p near far None is none found = record {
  same = λ x y. by_cases (p x y)
      (λ live. elim (is.each x y live) [
        | inl cell ↦ absurd (false≢true (sym (none.same cell.x cell.y) ∙ cell.live))
        | inr cell ↦ absurd (false≢true (sym (found.same cell.x cell.y) ∙ cell.live))
      ])
      (λ dead. dead);
}
far_found side h p near far (Some gap) is none found = record {
  clear = λ x y live. elim (is.each x y live) [
    | inl cell ↦ absurd (false≢true (sym (none.same cell.x cell.y) ∙ cell.live))
    | inr cell ↦ far_clear gap h _ _ (found.clear cell.x cell.y cell.live) cell.there
  ];
  reached = subst (HasCellAt side (h + h) p) (farther_by gap h) (is.far_cell (pos gap) found.reached);
}

-- the gap of a square, if it was found in the half at the side
pub near_gap : (side : Side) (h : ℕ) (p near far : Plane) (o : Option ℕ) → IsHalved side h p near far → is_some o ≡ true → IsGap side h near o → IsGap side (h + h) p o
near_gap side h p near far None is some found = absurd (false≢true some)
near_gap side h p near far (Some gap) is some found = near_found side h gap p near far is found

-- no cell is live where no gap was found
pub none_live : (side : Side) (h : ℕ) (p : Plane) (o : Option ℕ) → is_some o ≡ false → IsGap side h p o → IsSame p empty
none_live side h p None none found = found
none_live side h p (Some gap) none found = absurd (false≢true (sym none))

-- a gap in the other half is less than half the side
pub far_small : (side : Side) (h : ℕ) (p near far : Plane) (o : Option ℕ) → IsHalved side h p near far → IsGap side h far o → (gap : ℕ) → o ≡ Some gap → gap < h
far_small side h p near far o is found gap e =
    let some : IsGap side h far (Some gap) = subst (λ (r : Option ℕ). IsGap side h far r) e found in
    gap_inside side h gap far is.far_square some

-- the gap of two squares laid over one another
pub lesser_gap : (side : Side) (h : ℕ) (p q : Plane) (a b : Option ℕ) → IsGap side h p a → IsGap side h q b → IsGap side h (either p q) (lesser a b)
lesser_gap side h p q a b one two = search rules
