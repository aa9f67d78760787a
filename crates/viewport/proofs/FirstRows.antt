-- First rows with live cells: of planes beside and below one another, and around (0,0).
use Rattle.std.proofs.Common.{◌≡◌, ℕ, ◌+◌, ◌-◌, ◌^◌, ◌<◌, ◌≤◌, min, ℤ, pos, ◌+ℤ◌, ◌-ℤ◌, ◌≤ℤ◌, ◌<ℤ◌, true, false, ◌⊎◌, inl, inr, sym, ◌∙◌, ap, subst, arith}
use Rattle.std.specs.Prelude.{Option, Some, None, unwrap_or, is_some, int_lt}
use Rattle.std.specs.Int.{int_max}
use Rattle.std.specs.Option.{option_or, option_map}
use Rattle.std.proofs.lemmas.Int.{ints, clamps}
use Rattle.std.proofs.lemmas.Bool.{false≢true}
use Rattle.plane.specs.Centred.{centred}
use Rattle.plane.specs.Laws.{moved}
use Rattle.plane.specs.Plane.{Plane}
use Rattle.plane.specs.Square.{IsSame, IsSquare, spans}
use Rattle.plane.proofs.Paddings.{twice_half}
use Rattle.plane.proofs.Same.{plane_equal, same_sym}
use Rattle.viewport.specs.Rows.{AreDeadRows, IsDeadFrom, IsFirstRow, IsFirstRowBelow, IsLiveRow}
use Rattle.viewport.proofs.BoxesOfPlanes.{or_left, or_right, both_dead, there_and_back}
use Rattle.squares.proofs.NumberMaps.{by_cases}
use Rattle.viewport.specs.Halves.{either, side_by_side}
use Rattle.viewport.proofs.Quarters.{dead_row, from_nothing, IsQuartered, over}

-- two planes with no live cell in these rows
both_rows : (p q : Plane) (from end : ℤ) → AreDeadRows p from end → AreDeadRows q from end → AreDeadRows (either p q) from end
both_rows p q from end h k = record { dead = λ x y above below. both_dead (p x y) (q x y) (h.dead x y above below) (k.dead x y above below) }

fewer_rows : (p : Plane) (from end less : ℤ) → less ≤ℤ end → AreDeadRows p from end → AreDeadRows p from less
fewer_rows p from end less le h = record { dead = λ x y above below. h.dead x y above (omega (arith, ints)) }

live_left : (p q : Plane) (y : ℤ) → IsLiveRow p y → IsLiveRow (either p q) y
live_left p q y h = record { x = h.x; live = or_left (p h.x y) (q h.x y) h.live }

live_right : (p q : Plane) (y : ℤ) → IsLiveRow q y → IsLiveRow (either p q) y
live_right p q y h = record { x = h.x; live = or_right (p h.x y) (q h.x y) h.live }

pos_lt : (a b : ℕ) → a < b → pos a ≤ℤ pos b
pos_lt a b h = omega (arith, ints)

-- the first row of two planes: that of the second one above the first one's, or else the first
-- one's
pub either_rows : (p q : Plane) (from end : ℕ) (a b : Option ℕ) → IsFirstRowBelow p from end a → IsFirstRowBelow q from (unwrap_or a end) b → IsFirstRowBelow (either p q) from end (option_or b a)
either_rows p q from end None None h k = both_rows p q _ _ h k
either_rows p q from end None (Some s) h k = (k.0, k.1, live_right p q _ k.2, both_rows p q _ _ (fewer_rows p _ _ _ (pos_lt s end k.1) h) k.3)
either_rows p q from end (Some r) None h k = (h.0, h.1, live_left p q _ h.2, both_rows p q _ _ h.3 k)
either_rows p q from end (Some r) (Some s) h k =
    let low : s < r = k.1 in let high : r < end = h.1 in
    (k.0, omega arith, live_right p q _ k.2, both_rows p q _ _ (fewer_rows p _ _ _ (pos_lt s r low) h.3) k.3)

aside : (p : Plane) (h : ℕ) (x y : ℤ) → moved (pos h) (pos 0) p x y ≡ p (x -ℤ pos h) y
aside p h x y = ap (p (x -ℤ pos h)) (from_nothing y)

rows_aside : (p : Plane) (h : ℕ) (from end : ℤ) → AreDeadRows p from end → AreDeadRows (moved (pos h) (pos 0) p) from end
rows_aside p h from end is = record { dead = λ x y above below. aside p h x y ∙ is.dead (x -ℤ pos h) y above below }

live_aside : (p : Plane) (h : ℕ) (y : ℤ) → IsLiveRow p y → IsLiveRow (moved (pos h) (pos 0) p) y
live_aside p h y is = record { x = is.x +ℤ pos h; live = aside p h (is.x +ℤ pos h) y ∙ ap (λ u. p u y) (there_and_back is.x (pos h)) ∙ is.live }

-- a plane that was moved to the right
pub moved_rows : (p : Plane) (h from end : ℕ) (o : Option ℕ) → IsFirstRowBelow p from end o → IsFirstRowBelow (moved (pos h) (pos 0) p) from end o
moved_rows p h from end None is = rows_aside p h _ _ is
moved_rows p h from end (Some r) is = (is.0, is.1, live_aside p h _ is.2, rows_aside p h _ _ is.3)

-- the first row of two squares beside one another
pub beside_rows : (p q : Plane) (h from end : ℕ) (a b : Option ℕ) → IsFirstRowBelow p from end a → IsFirstRowBelow q from (unwrap_or a end) b → IsFirstRowBelow (side_by_side h p q) from end (option_or b a)
beside_rows p q h from end a b is are = either_rows p (moved (pos h) (pos 0) q) from end a b is (moved_rows q h from _ b are)

under : (p : Plane) (h : ℕ) (x y : ℤ) → moved (pos 0) (pos h) p x y ≡ p x (y -ℤ pos h)
under p h x y = ap (λ u. p u (y -ℤ pos h)) (from_nothing x)

-- a plane whose rows all lie in so many from the top
pub record IsInRows (h : ℕ) (p : Plane) : Type 0 where
  pub above : (x y : ℤ) → y <ℤ pos 0 → p x y ≡ false
  pub below : (x y : ℤ) → pos h ≤ℤ y → p x y ≡ false

pub outside_low : (h : ℕ) (z : ℤ) → z <ℤ pos 0 → spans h z ≡ false
outside_low h z e = grind (arith, ints)

pub outside_high : (h : ℕ) (z : ℤ) → pos h ≤ℤ z → spans h z ≡ false
outside_high h z e = grind (arith, ints)

pub rows_beside : (h : ℕ) (p q : Plane) → IsSquare h p → IsSquare h q → IsInRows h (side_by_side h p q)
rows_beside h p q is_p is_q = record {
  above = λ x y e. both_dead (p x y) _ (dead_row h p is_p x y (outside_low h y e)) (aside q h x y ∙ dead_row h q is_q _ y (outside_low h y e));
  below = λ x y e. both_dead (p x y) _ (dead_row h p is_p x y (outside_high h y e)) (aside q h x y ∙ dead_row h q is_q _ y (outside_high h y e));
}

before : (y : ℤ) (r h : ℕ) → y <ℤ pos r → r < h → (y -ℤ pos h) <ℤ pos 0
before y r h e f = omega (arith, ints)

-- the first row of the upper half is that of the whole
pub upper_rows : (u w : Plane) (h from end r : ℕ) → IsInRows h w → IsFirstRowBelow u from (min end h) (Some r) → IsFirstRowBelow (either u (moved (pos 0) (pos h) w)) from end (Some r)
upper_rows u w h from end r in_w is =
    let low : r < min end h = is.1 in
    let in_half : r < h = omega arith in (
      is.0,
      omega arith,
      live_left u _ _ is.2,
      record {
        dead = λ x y above below. both_dead (u x y) _ (is.3.dead x y above below) (under w h x y ∙ in_w.above x (y -ℤ pos h) (before y r h below in_half));
      },
    )

is_above : (y : ℤ) (h : ℕ) → int_lt y (pos h) ≡ true → y <ℤ pos h
is_above y h e = grind (arith, ints)

is_below : (y : ℤ) (h : ℕ) → int_lt y (pos h) ≡ false → pos h ≤ℤ y
is_below y h e = grind (arith, ints)

by_row : {A : Type 0} (y : ℤ) (h : ℕ) → (y <ℤ pos h → A) → (pos h ≤ℤ y → A) → A
by_row y h k m = by_cases (int_lt y (pos h)) (λ e. k (is_above y h e)) (λ e. m (is_below y h e))

half_dead : (u : Plane) (h from end : ℕ) → IsInRows h u → AreDeadRows u (pos from) (pos (min end h)) → AreDeadRows u (pos from) (pos end)
half_dead u h from end in_u is = record {
  dead = λ x y above below. by_row y h (λ e. is.dead x y above (omega (arith, ints))) (λ e. in_u.below x y e);
}

down : (y : ℤ) (h from : ℕ) → pos from ≤ℤ y → pos h ≤ℤ y → pos (from - h) ≤ℤ (y -ℤ pos h)
down y h from e f = omega (arith, ints)

down_end : (y : ℤ) (h end : ℕ) → y <ℤ pos end → pos h ≤ℤ y → (y -ℤ pos h) <ℤ pos (end - h)
down_end y h end e f = omega (arith, ints)

rows_under : (w : Plane) (h from end : ℕ) → IsInRows h w → AreDeadRows w (pos (from - h)) (pos (end - h)) → AreDeadRows (moved (pos 0) (pos h) w) (pos from) (pos end)
rows_under w h from end in_w is = record {
  dead = λ x y above below. under w h x y
      ∙ by_row y h (λ e. in_w.above x (y -ℤ pos h) (omega (arith, ints))) (λ e. is.dead x (y -ℤ pos h) (down y h from above e) (down_end y h end below e));
}

back_up : (s h : ℕ) → pos (s + h) -ℤ pos h ≡ pos s
back_up s h = omega (arith, ints)

-- where the upper half has none, the first row of the lower half
pub lower_rows : (u w : Plane) (h from end : ℕ) (o : Option ℕ) → IsInRows h u → IsInRows h w → IsFirstRowBelow u from (min end h) None → IsFirstRowBelow w (from - h) (end - h) o →
    IsFirstRowBelow (either u (moved (pos 0) (pos h) w)) from end (option_map (λ s. s + h) o)
lower_rows u w h from end None in_u in_w none is = both_rows u _ _ _ (half_dead u h from end in_u none) (rows_under w h from end in_w is)
lower_rows u w h from end (Some s) in_u in_w none is =
    let low : from - h ≤ s = is.0 in let high : s < end - h = is.1 in
    let back : (s + h) - h ≡ s = omega arith in (
      omega arith,
      omega arith,
      live_right u _ _ (record { x = is.2.x; live = under w h is.2.x (pos (s + h)) ∙ ap (w is.2.x) (back_up s h) ∙ is.2.live }),
      both_rows u _ _ _ (fewer_rows u (pos from) (pos end) (pos (s + h)) (omega (arith, ints)) (half_dead u h from end in_u none))
          (rows_under w h from (s + h) in_w (subst (λ n. AreDeadRows w (pos (from - h)) (pos n)) (sym back) is.3)),
    )

-- the first row of the half that two squares make
pub half_rows : (h : ℕ) (p q : Plane) (from end bound : ℕ) (left right half : Option ℕ) → IsFirstRowBelow p from end left → bound ≡ unwrap_or left end → IsFirstRowBelow q from bound right → half ≡ option_or right left →
    IsFirstRowBelow (side_by_side h p q) from end half
half_rows h p q from end bound left right half is e are f =
    subst (λ (o : Option ℕ). IsFirstRowBelow (side_by_side h p q) from end o) (sym f)
    (beside_rows p q h from end left right is (subst (λ n. IsFirstRowBelow q from n right) e are))

some_upper : (u w : Plane) (h from end : ℕ) (o : Option ℕ) → IsInRows h w → is_some o ≡ true → IsFirstRowBelow u from (min end h) o → IsFirstRowBelow (either u (moved (pos 0) (pos h) w)) from end o
some_upper u w h from end None in_w e is = absurd (false≢true e)
some_upper u w h from end (Some r) in_w e is = upper_rows u w h from end r in_w is

none_of : (u : Plane) (from end : ℕ) (o : Option ℕ) → is_some o ≡ false → IsFirstRowBelow u from end o → IsFirstRowBelow u from end None
none_of u from end None e is = is
none_of u from end (Some r) e is = absurd (false≢true (sym e))

-- a square whose upper half has a live cell below the row, and one whose upper half has none
module _ (h : ℕ) (p nw ne sw se : Plane) (quarters : IsQuartered h p nw ne sw se) (from end top : ℕ) (upper : Option ℕ) (least : top ≡ min end h) (at_upper : IsFirstRowBelow (side_by_side h nw ne) from top upper) where
  in_upper : IsFirstRowBelow (side_by_side h nw ne) from (min end h) upper
  in_upper = subst (λ n. IsFirstRowBelow (side_by_side h nw ne) from n upper) least at_upper

  pub upper_part : is_some upper ≡ true → IsFirstRowBelow p from end upper
  upper_part e =
      subst (λ q. IsFirstRowBelow q from end upper) (sym (over h p nw ne sw se quarters))
      (some_upper (side_by_side h nw ne) (side_by_side h sw se) h from end upper (rows_beside h sw se quarters.in_sw quarters.in_se) e in_upper)

  pub lower_part : is_some upper ≡ false → (from' end' : ℕ) (lower : Option ℕ) → from' ≡ from - h → end' ≡ end - h → IsFirstRowBelow (side_by_side h sw se) from' end' lower →
      IsFirstRowBelow p from end (option_map (λ s. s + h) lower)
  lower_part e from' end' lower from_is end_is at_lower =
      subst (λ q. IsFirstRowBelow q from end (option_map (λ s. s + h) lower)) (sym (over h p nw ne sw se quarters))
      (lower_rows (side_by_side h nw ne) (side_by_side h sw se) h from end lower (rows_beside h nw ne quarters.in_nw quarters.in_ne) (rows_beside h sw se quarters.in_sw quarters.in_se)
      (none_of (side_by_side h nw ne) from (min end h) upper e in_upper)
      (subst (λ n. IsFirstRowBelow (side_by_side h sw se) n (end - h) lower) from_is (subst (λ n. IsFirstRowBelow (side_by_side h sw se) from' n lower) end_is at_lower)))

-- the rows of a leaf, of the cells that it shows
pub rows_as : (p q : Plane) (from end : ℕ) (o : Option ℕ) → IsSame p q → IsFirstRowBelow q from end o → IsFirstRowBelow p from end o
rows_as p q from end o same is = subst (λ r. IsFirstRowBelow r from end o) (plane_equal _ _ (same_sym same)) is

to_top : (z : ℤ) (h : ℕ) → (z -ℤ pos h) +ℤ pos h ≡ z
to_top z h = omega (arith, ints)

module _ (level : ℕ) (p : Plane) (least : 1 ≤ level) (is : IsSquare (2 ^ level) p) where
  rows_in : (x y : ℤ) → (y <ℤ pos 0) ⊎ (pos (2 ^ level) ≤ℤ y) → p x y ≡ false
  rows_in x y (inl e) = dead_row (2 ^ level) p is x y (outside_low (2 ^ level) y e)
  rows_in x y (inr e) = dead_row (2 ^ level) p is x y (outside_high (2 ^ level) y e)

  -- no row is left below the square
  pub past_all : (y half : ℤ) → half ≡ pos (2 ^ (level - 1)) → half ≤ℤ y → IsDeadFrom (centred level p) y
  past_all y half e h = record {
    dead = λ x z from. let twice = twice_half level least in rows_in (x +ℤ pos (2 ^ (level - 1))) (z +ℤ pos (2 ^ (level - 1))) (inr (omega (arith, ints, twice)));
  }

  -- the first row of a square, counted from (0,0)
  pub centred_rows : (y : ℤ) (from : ℕ) (o : Option ℕ) → pos from ≡ int_max (pos 0) (y +ℤ pos (2 ^ (level - 1))) → IsFirstRowBelow p from (2 ^ level) o →
      IsFirstRow (centred level p) y (option_map (λ r. pos r -ℤ pos (2 ^ (level - 1))) o)
  centred_rows y from None e are = record {
    dead = λ x z above. let h : ℕ = 2 ^ (level - 1) in
        by_row (z +ℤ pos h) 0 (λ k. rows_in (x +ℤ pos h) (z +ℤ pos h) (inl k))
        (λ k. by_row (z +ℤ pos h) (2 ^ level) (λ m. are.dead (x +ℤ pos h) (z +ℤ pos h) (omega (arith, ints, clamps)) m) (λ m. rows_in (x +ℤ pos h) (z +ℤ pos h) (inr m)));
  }
  centred_rows y from (Some r) e are =
      let h : ℕ = 2 ^ (level - 1) in
      let low : from ≤ r = are.0 in (
        omega (arith, ints, clamps),
        record { x = are.2.x -ℤ pos h; live = ap (λ u. p u ((pos r -ℤ pos h) +ℤ pos h)) (to_top are.2.x h) ∙ ap (p are.2.x) (to_top (pos r) h) ∙ are.2.live },
        record {
          dead = λ x z above below. by_row (z +ℤ pos h) 0 (λ k. rows_in (x +ℤ pos h) (z +ℤ pos h) (inl k))
              (λ k. are.3.dead (x +ℤ pos h) (z +ℤ pos h) (omega (arith, ints, clamps)) (omega (arith, ints)));
        },
      )
