-- A square is its quarters, laid over one another.
use Rattle.std.proofs.Common.{◌≡◌, ℕ, ◌-◌, ◌^◌, ◌<◌, ◌≤◌, ℤ, pos, ◌-ℤ◌, Bool, true, false, cond, ◌&&◌, ◌||◌, List, refl, sym, ◌∙◌, ap, subst, arith}
use Rattle.std.specs.Prelude.{int_lt}
use Rattle.std.proofs.lemmas.Int.{ints}
use Rattle.plane.specs.Laws.{moved}
use Rattle.plane.specs.Plane.{Plane}
use Rattle.plane.specs.Square.{IsSame, IsSquare, spans, joined}
use Rattle.plane.proofs.Paddings.{twice_half}
use Rattle.plane.proofs.Middles.{whole_joined}
use Rattle.plane.proofs.Same.{plane_equal, same_sym}
use Rattle.viewport.specs.Halves.{either, side_by_side}
use Rattle.squares.specs.Book.{Book, IsBook, IsKnown, AreQuarters, nth}
use Rattle.squares.specs.declared.sq.Sq.{Sq}

or_false : (a : Bool) → (a || false) ≡ a
or_false true = refl
or_false false = refl

-- of four cells the one in its quarter, where the others are dead
pick : (v u a b c d : Bool) → (u ≡ true → b ≡ false) → (u ≡ true → d ≡ false) → (u ≡ false → a ≡ false) → (u ≡ false → c ≡ false) →
    (v ≡ true → c ≡ false) → (v ≡ true → d ≡ false) → (v ≡ false → a ≡ false) → (v ≡ false → b ≡ false) →
    cond v (cond u a b) (cond u c d) ≡ ((a || b) || (c || d))
pick true true a b c d ub ud ua uc vc vd va vb =
    sym (ap (λ t. (a || t) || (c || d)) (ub refl) ∙ ap (λ t. (a || false) || (t || d)) (vc refl) ∙ ap (λ t. (a || false) || t) (vd refl) ∙ or_false (a || false) ∙ or_false a)
pick true false a b c d ub ud ua uc vc vd va vb =
    sym (ap (λ t. (t || b) || (c || d)) (ua refl) ∙ ap (λ t. b || (t || d)) (vc refl) ∙ ap (λ t. b || t) (vd refl) ∙ or_false b)
pick false true a b c d ub ud ua uc vc vd va vb =
    sym (ap (λ t. (t || b) || (c || d)) (va refl) ∙ ap (λ t. t || (c || d)) (vb refl) ∙ ap (λ t. c || t) (ud refl) ∙ or_false c)
pick false false a b c d ub ud ua uc vc vd va vb =
    sym (ap (λ t. (t || b) || (c || d)) (va refl) ∙ ap (λ t. t || (c || d)) (vb refl) ∙ ap (λ t. t || d) (uc refl))

and_dead_left : (a b : Bool) → a ≡ false → (a && b) ≡ false
and_dead_left a b e = ap (λ t. t && b) e

pub and_dead_right : (a b : Bool) → b ≡ false → (a && b) ≡ false
and_dead_right true b e = e
and_dead_right false b e = refl

before_all : (h : ℕ) (z : ℤ) → int_lt z (pos h) ≡ true → spans h (z -ℤ pos h) ≡ false
before_all h z e = grind (arith, ints)

behind_all : (h : ℕ) (z : ℤ) → int_lt z (pos h) ≡ false → spans h z ≡ false
behind_all h z e = grind (arith, ints)

-- a square's cells are dead in columns and in rows outside it
pub dead_column : (h : ℕ) (p : Plane) → IsSquare h p → (x y : ℤ) → spans h x ≡ false → p x y ≡ false
dead_column h p is x y e = is.dead x y (and_dead_left (spans h x) (spans h y) e)

pub dead_row : (h : ℕ) (p : Plane) → IsSquare h p → (x y : ℤ) → spans h y ≡ false → p x y ≡ false
dead_row h p is x y e = is.dead x y (and_dead_right (spans h x) (spans h y) e)

pub from_nothing : (z : ℤ) → z -ℤ pos 0 ≡ z
from_nothing z = omega (arith, ints)

-- four squares joined are laid over one another
pub laid_over : (h : ℕ) (nw ne sw se : Plane) → IsSquare h nw → IsSquare h ne → IsSquare h sw → IsSquare h se →
    IsSame (joined h nw ne sw se) (either (side_by_side h nw ne) (moved (pos 0) (pos h) (side_by_side h sw se)))
laid_over h nw ne sw se in_nw in_ne in_sw in_se = record {
  same = λ x y.
      pick (int_lt y (pos h)) (int_lt x (pos h)) (nw x y) (ne (x -ℤ pos h) y) (sw x (y -ℤ pos h)) (se (x -ℤ pos h) (y -ℤ pos h))
      (λ e. dead_column h ne in_ne _ _ (before_all h x e)) (λ e. dead_column h se in_se _ _ (before_all h x e))
      (λ e. dead_column h nw in_nw _ _ (behind_all h x e)) (λ e. dead_column h sw in_sw _ _ (behind_all h x e))
      (λ e. dead_row h sw in_sw _ _ (before_all h y e)) (λ e. dead_row h se in_se _ _ (before_all h y e))
      (λ e. dead_row h nw in_nw _ _ (behind_all h y e)) (λ e. dead_row h ne in_ne _ _ (behind_all h y e))
      ∙ sym (ap (λ v. (nw x y || ne (x -ℤ pos h) v) || (sw (x -ℤ pos 0) (y -ℤ pos h) || se ((x -ℤ pos 0) -ℤ pos h) ((y -ℤ pos h) -ℤ pos 0))) (from_nothing y)
      ∙ ap (λ u. (nw x y || ne (x -ℤ pos h) y) || (sw u (y -ℤ pos h) || se (u -ℤ pos h) ((y -ℤ pos h) -ℤ pos 0))) (from_nothing x)
      ∙ ap (λ v. (nw x y || ne (x -ℤ pos h) y) || (sw x (y -ℤ pos h) || se (x -ℤ pos h) v)) (from_nothing (y -ℤ pos h)));
}

-- a plane in four quarters of this side
pub record IsQuartered (h : ℕ) (plane nw ne sw se : Plane) : Type 0 where
  pub joined_are : plane ≡ joined h nw ne sw se
  pub in_nw : IsSquare h nw
  pub in_ne : IsSquare h ne
  pub in_sw : IsSquare h sw
  pub in_se : IsSquare h se

-- the cells of a quartered plane
pub over : (h : ℕ) (plane nw ne sw se : Plane) → IsQuartered h plane nw ne sw se → plane ≡ either (side_by_side h nw ne) (moved (pos 0) (pos h) (side_by_side h sw se))
over h plane nw ne sw se is = is.joined_are ∙ plane_equal _ _ (laid_over h nw ne sw se is.in_nw is.in_ne is.in_sw is.in_se)

pub known_square : (book : Book) (level : ℕ) (sq : Sq) → IsBook book → IsKnown book level sq → IsSquare (2 ^ level) (book.cells sq)
known_square book level sq laws known = subst (λ n. IsSquare (2 ^ n) (book.cells sq)) known.at_level (laws.square sq known.known)

-- a known square and its quarters
pub quartered : (book : Book) (sq : Sq) (quarters : List Sq) → IsBook book → IsKnown book sq.level sq → 3 < sq.level → AreQuarters book sq.level (book.cells sq) quarters →
    IsQuartered (2 ^ (sq.level - 1)) (book.cells sq) (book.cells (nth quarters 0)) (book.cells (nth quarters 1)) (book.cells (nth quarters 2)) (book.cells (nth quarters 3))
quartered book sq quarters laws known above are = record {
  joined_are = plane_equal _ _ (same_sym (whole_joined (2 ^ (sq.level - 1)) (book.cells sq) _ _ _ _
      (subst (λ n. IsSquare n (book.cells sq)) (twice_half sq.level (omega arith)) (known_square book sq.level sq laws known))
      are.nw.cells are.ne.cells are.sw.cells are.se.cells));
  in_nw = known_square book _ _ laws are.nw.known;
  in_ne = known_square book _ _ laws are.ne.known;
  in_sw = known_square book _ _ laws are.sw.known;
  in_se = known_square book _ _ laws are.se.known;
}

pub own_level : (book : Book) (level : ℕ) (sq : Sq) → IsKnown book level sq → IsKnown book sq.level sq
own_level book level sq known = subst (λ n. IsKnown book n sq) (sym known.at_level) known

-- the same, of a side that has another name
pub quartered_by : (book : Book) (sq : Sq) (quarters : List Sq) (half : ℕ) → IsBook book → IsKnown book sq.level sq → 3 < sq.level → AreQuarters book sq.level (book.cells sq) quarters → half ≡ 2 ^ (sq.level - 1) →
    IsQuartered half (book.cells sq) (book.cells (nth quarters 0)) (book.cells (nth quarters 1)) (book.cells (nth quarters 2)) (book.cells (nth quarters 3))
quartered_by book sq quarters half laws known above are side =
    subst (λ n. IsQuartered n (book.cells sq) (book.cells (nth quarters 0)) (book.cells (nth quarters 1)) (book.cells (nth quarters 2)) (book.cells (nth quarters 3))) (sym side)
    (quartered book sq quarters laws known above are)

-- what a call that looks into a quarter asks for: that it is known, its level, and more
pub of_quarter : {More : Type 0} (book : Book) (level : ℕ) (quarter : Sq) → level ≤ 63 → IsKnown book (level - 1) quarter → More → IsKnown book quarter.level quarter × ((quarter.level ≤ 63) × More)
of_quarter book level quarter high known more =
    let at_level = known.at_level in (own_level book _ _ known, (omega (arith, at_level), more))
