-- The box of a square and the gaps at its sides, each by the other.
use Rattle.std.proofs.Common.{◌≡◌, ℕ, ◌-◌, ◌^◌, ◌≤◌, ◌<◌, ℤ, pos, ◌-ℤ◌, ◌≤ℤ◌, sym, ◌∙◌, ap, subst, arith, w64, to_z, SFits}
use Rattle.std.specs.Prelude.{Option, None, Some}
use Rattle.std.proofs.lemmas.Int.{ints, to_z_pos}
use Rattle.plane.specs.declared.cell.Bounds.{Bounds}
use Rattle.plane.specs.Plane.{Plane}
use Rattle.plane.specs.Square.{IsSame, IsSquare, empty}
use Rattle.viewport.specs.BoundingBox.{IsBoxOf, IsLocalBox}
use Rattle.viewport.specs.declared.gaps.Side.{Side}
use Rattle.viewport.specs.declared.gaps.Side.TheVariants.{Left, Right, Top, Bottom}
use Rattle.viewport.specs.Gaps.{IsGap, IsNearest}
use Rattle.viewport.proofs.BoxesOfPlanes.{local_from, same_bounds}
use Rattle.viewport.proofs.GapsOfHalves.{gap_inside}

-- how far a box lies from a side of a square of this size
abbrev pub box_distance : Side → ℕ → Bounds → ℤ
box_distance Left size box = box.left
box_distance Right size box = (pos size -ℤ pos 1) -ℤ box.right
box_distance Top size box = box.top
box_distance Bottom size box = (pos size -ℤ pos 1) -ℤ box.bottom

at_least : (gap : ℕ) (a z : ℤ) → a ≡ pos gap → a ≤ℤ z → pos gap ≤ℤ z
at_least gap a z e h = omega (arith, ints)

at_most : (size gap : ℕ) (a z : ℤ) → (pos size -ℤ pos 1) -ℤ a ≡ pos gap → z ≤ℤ a → pos gap ≤ℤ ((pos size -ℤ pos 1) -ℤ z)
at_most size gap a z e h = omega (arith, ints)

-- the gaps of a plane, by its box
pub gap_of_box : (side : Side) (size gap : ℕ) (p : Plane) (box : Bounds) → IsBoxOf p box → box_distance side size box ≡ pos gap → IsNearest side size p gap
gap_of_box Left size gap p box h e = record {
  clear = λ x y live. at_least gap box.left x e (h.columns x y live).0;
  reached = record { x = box.left; y = h.at_left.0; live = h.at_left.1; there = e };
}
gap_of_box Right size gap p box h e = record {
  clear = λ x y live. at_most size gap box.right x e (h.columns x y live).1;
  reached = record { x = box.right; y = h.at_right.0; live = h.at_right.1; there = e };
}
gap_of_box Top size gap p box h e = record {
  clear = λ x y live. at_least gap box.top y e (h.rows x y live).0;
  reached = record { x = h.at_top.0; y = box.top; live = h.at_top.1; there = e };
}
gap_of_box Bottom size gap p box h e = record {
  clear = λ x y live. at_most size gap box.bottom y e (h.rows x y live).1;
  reached = record { x = h.at_bottom.0; y = box.bottom; live = h.at_bottom.1; there = e };
}

up_to_gap : (size gap : ℕ) (z : ℤ) → gap < size → pos gap ≤ℤ ((pos size -ℤ pos 1) -ℤ z) → z ≤ℤ pos (size - 1 - gap)
up_to_gap size gap z h k = omega (arith, ints)

last_before : (size gap : ℕ) (z : ℤ) → gap < size → (pos size -ℤ pos 1) -ℤ z ≡ pos gap → pos (size - 1 - gap) ≡ z
last_before size gap z h e = omega (arith, ints)

-- the box within these gaps at the sides of a square
abbrev pub box_within : ℕ → ℕ → ℕ → ℕ → ℕ → Bounds
box_within size left right top bottom = record { left = pos left; top = pos top; right = pos (size - 1 - right); bottom = pos (size - 1 - bottom) }

-- the box of a square, by its gaps
pub box_of_gaps : (size left right top bottom : ℕ) (p : Plane) → IsSquare size p → IsNearest Left size p left → IsNearest Right size p right → IsNearest Top size p top → IsNearest Bottom size p bottom →
    IsLocalBox size p (Some (box_within size left right top bottom))
box_of_gaps size left right top bottom p is l r t b =
    let right_in = gap_inside Right size right p is r in
    let bottom_in = gap_inside Bottom size bottom p is b in
    local_from size p (Some (box_within size left right top bottom)) is (record {
      columns = λ x y live. (l.clear x y live, up_to_gap size right x right_in (r.clear x y live));
      rows = λ x y live. (t.clear x y live, up_to_gap size bottom y bottom_in (b.clear x y live));
      at_left = (l.reached.y, ap (λ z. p z l.reached.y) (sym l.reached.there) ∙ l.reached.live);
      at_right = (r.reached.y, ap (λ z. p z r.reached.y) (last_before size right r.reached.x right_in r.reached.there) ∙ r.reached.live);
      at_top = (t.reached.x, ap (λ z. p t.reached.x z) (sym t.reached.there) ∙ t.reached.live);
      at_bottom = (b.reached.x, ap (λ z. p b.reached.x z) (last_before size bottom b.reached.y bottom_in b.reached.there) ∙ b.reached.live);
    })

as_read : (size gap : ℕ) → size ≤ 2 ^ 63 → gap < size → to_z w64 gap ≡ pos gap
as_read size gap most h = to_z_pos w64 gap (omega (arith, most, h))

-- these are the gaps of a square that has less than 2^63 columns and rows, or as many
pub record HasGaps (size left right top bottom : ℕ) (p : Plane) : Type 0 where
  pub square : IsSquare size p
  pub most : size ≤ 2 ^ 63
  pub at_left : IsNearest Left size p left
  pub at_right : IsNearest Right size p right
  pub at_top : IsNearest Top size p top
  pub at_bottom : IsNearest Bottom size p bottom

-- a number below the side is one of 63 bits
pub near_fits : (size gap : ℕ) → size ≤ 2 ^ 63 → gap < size → SFits w64 (pos gap)
near_fits size gap most h = omega (arith, ints)

-- the same box, of numbers that are read as signed ones
pub read_box : (size left right top bottom : ℕ) (p : Plane) → HasGaps size left right top bottom p →
    IsLocalBox size p (Some (record { left = to_z w64 left; top = to_z w64 top; right = to_z w64 (size - 1 - right); bottom = to_z w64 (size - 1 - bottom) }))
read_box size left right top bottom p h =
    let most = h.most in
    let left_in = gap_inside Left size left p h.square h.at_left in
    let top_in = gap_inside Top size top p h.square h.at_top in
    subst (λ (box : Bounds). IsLocalBox size p (Some box))
    (sym (same_bounds _ (box_within size left right top bottom) (as_read size left most left_in) (as_read size top most top_in)
    (as_read size (size - 1 - right) most (omega (arith, left_in))) (as_read size (size - 1 - bottom) most (omega (arith, left_in)))))
    (box_of_gaps size left right top bottom p h.square h.at_left h.at_right h.at_top h.at_bottom)

-- a gap that was found
pub found_gap : (side : Side) (size gap : ℕ) (p : Plane) (o : Option ℕ) → o ≡ Some gap → IsGap side size p o → IsNearest side size p gap
found_gap side size gap p o e is = let some : IsGap side size p (Some gap) = subst (λ (r : Option ℕ). IsGap side size p r) e is in some

-- no gap was found
pub none_found : (side : Side) (size : ℕ) (p : Plane) (o : Option ℕ) → o ≡ None → IsGap side size p o → IsSame p empty
none_found side size p o e is = let none : IsGap side size p None = subst (λ (r : Option ℕ). IsGap side size p r) e is in none
