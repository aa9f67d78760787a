-- Boxes round planes: of two planes, of a plane that was moved, of a square, and of a listing.
use Rattle.std.proofs.Common.{◌≡◌, ℕ, ◌-◌, ◌^◌, ◌≤◌, ℤ, pos, ◌+ℤ◌, ◌-ℤ◌, ◌≤ℤ◌, ◌<ℤ◌, Bool, true, false, cond, ◌||◌, List, [], ◌∷◌, map, refl, sym, ◌∙◌, ap, subst, arith}
use Rattle.std.specs.Prelude.{Option, Some, None, int_lt}
use Rattle.std.specs.Int.{int_min, int_max}
use Rattle.std.specs.List.{AllByRecursion, list_any}
use Rattle.std.proofs.lemmas.Int.{ints, clamps}
use Rattle.std.proofs.lemmas.Bool.{false≢true}
use Rattle.plane.specs.declared.cell.Cell.{Cell}
use Rattle.plane.specs.declared.cell.Bounds.{Bounds}
use Rattle.plane.specs.Bounds.{bounds_of, IsWithin}
use Rattle.plane.specs.Centred.{centred}
use Rattle.plane.specs.Laws.{moved, IsSmallest}
use Rattle.plane.specs.Listing.{is_at, plane_of, IsListing}
use Rattle.plane.specs.Plane.{Plane}
use Rattle.plane.specs.Square.{IsSame, IsSquare, spans, empty}
use Rattle.plane.specs.Window.{square_cells}
use Rattle.plane.proofs.Around.{live_cell}
use Rattle.plane.proofs.Boxes.{smallest_box_lem, some_box, box_at}
use Rattle.plane.proofs.Listings.{is_at-own}
use Rattle.plane.proofs.Paddings.{centred_moved}
use Rattle.plane.proofs.Populations.{moved_cell}
use Rattle.plane.proofs.Same.{plane_equal, same_sym}
use Rattle.viewport.specs.BoundingBox.{HasBounds, IsBoxOf, IsInSquare, IsLocalBox, FitsMoved, box_of_both, moved_box}
use Rattle.viewport.proofs.Counts.{centred_listing}
use Rattle.squares.proofs.NumberMaps.{by_cases}
use Rattle.viewport.specs.Halves.{either}
use Rattle.viewport.proofs.Quarters.{dead_column, dead_row}

-- the box of a plane, if it has any live cell
abbrev pub BoxMatches : Plane → Option Bounds → Type 0
BoxMatches plane None = IsSame plane empty
BoxMatches plane (Some box) = IsBoxOf plane box

pub or_left : (a b : Bool) → a ≡ true → (a || b) ≡ true
or_left a b e = ap (λ t. t || b) e

pub or_right : (a b : Bool) → b ≡ true → (a || b) ≡ true
or_right true b e = refl
or_right false b e = e

pub or_case : {A : Type 0} (a b : Bool) → (a || b) ≡ true → (a ≡ true → A) → (b ≡ true → A) → A
or_case true b e h k = h refl
or_case false b e h k = k e

-- one of two numbers is the least, and one the greatest
least_of : (P : ℤ → Type 0) (a b : ℤ) → P a → P b → P (int_min a b)
least_of P a b h k = elim (int_lt b a) as (λ t. P (cond t b a)) [ true ↦ k | false ↦ h ]

greatest_of : (P : ℤ → Type 0) (a b : ℤ) → P a → P b → P (int_max a b)
greatest_of P a b h k = elim (int_lt b a) as (λ t. P (cond t a b)) [ true ↦ h | false ↦ k ]

lower : (a b c d z : ℤ) → (a ≤ℤ z) × (z ≤ℤ c) → (int_min a b ≤ℤ z) × (z ≤ℤ int_max c d)
lower a b c d z h = (omega (arith, ints, clamps), omega (arith, ints, clamps))

upper : (a b c d z : ℤ) → (b ≤ℤ z) × (z ≤ℤ d) → (int_min a b ≤ℤ z) × (z ≤ℤ int_max c d)
upper a b c d z h = (omega (arith, ints, clamps), omega (arith, ints, clamps))

pub both_dead : (a b : Bool) → a ≡ false → b ≡ false → (a || b) ≡ false
both_dead a b e f = ap (λ t. t || b) e ∙ f

pub or_false : (a b : Bool) → b ≡ false → (a || b) ≡ a
or_false true b e = refl
or_false false b e = e

-- the box round two planes
pub either_box : (p q : Plane) (a b : Option Bounds) → BoxMatches p a → BoxMatches q b → BoxMatches (either p q) (box_of_both a b)
either_box p q None None h k = record { same = λ x y. both_dead (p x y) (q x y) (h.same x y) (k.same x y) }
either_box p q None (Some b) h k = subst (λ r. IsBoxOf r b) (plane_equal _ _ (record { same = λ x y. sym (ap (λ t. t || q x y) (h.same x y)) })) k
either_box p q (Some a) None h k = subst (λ r. IsBoxOf r a) (plane_equal _ _ (record { same = λ x y. sym (or_false (p x y) (q x y) (k.same x y)) })) h
either_box p q (Some a) (Some b) h k = record {
  columns = λ x y live. or_case (p x y) (q x y) live (λ e. lower a.left b.left a.right b.right x (h.columns x y e)) (λ e. upper a.left b.left a.right b.right x (k.columns x y e));
  rows = λ x y live. or_case (p x y) (q x y) live (λ e. lower a.top b.top a.bottom b.bottom y (h.rows x y e)) (λ e. upper a.top b.top a.bottom b.bottom y (k.rows x y e));
  at_left = least_of (λ z. (y : ℤ) × (either p q z y ≡ true)) a.left b.left (h.at_left.0, or_left _ _ h.at_left.1) (k.at_left.0, or_right _ _ k.at_left.1);
  at_right = greatest_of (λ z. (y : ℤ) × (either p q z y ≡ true)) a.right b.right (h.at_right.0, or_left _ _ h.at_right.1) (k.at_right.0, or_right _ _ k.at_right.1);
  at_top = least_of (λ z. (x : ℤ) × (either p q x z ≡ true)) a.top b.top (h.at_top.0, or_left _ _ h.at_top.1) (k.at_top.0, or_right _ _ k.at_top.1);
  at_bottom = greatest_of (λ z. (x : ℤ) × (either p q x z ≡ true)) a.bottom b.bottom (h.at_bottom.0, or_left _ _ h.at_bottom.1) (k.at_bottom.0, or_right _ _ k.at_bottom.1);
}

pub there_and_back : (z by : ℤ) → (z +ℤ by) -ℤ by ≡ z
there_and_back z by = omega (arith, ints)

shifted : (a b z by : ℤ) → (a ≤ℤ (z -ℤ by)) × ((z -ℤ by) ≤ℤ b) → ((a +ℤ by) ≤ℤ z) × (z ≤ℤ (b +ℤ by))
shifted a b z by h = (omega (arith, ints), omega (arith, ints))

pub here_too : (p : Plane) (right down x y : ℤ) → p x y ≡ true → moved right down p (x +ℤ right) (y +ℤ down) ≡ true
here_too p right down x y e = ap (λ u. p u ((y +ℤ down) -ℤ down)) (there_and_back x right) ∙ ap (p x) (there_and_back y down) ∙ e

-- the box of a plane that was moved
pub moved_matches : (right down : ℤ) (p : Plane) (o : Option Bounds) → BoxMatches p o → BoxMatches (moved right down p) (moved_box right down o)
moved_matches right down p None h = record { same = λ x y. h.same (x -ℤ right) (y -ℤ down) }
moved_matches right down p (Some box) h = record {
  columns = λ x y live. shifted box.left box.right x right (h.columns (x -ℤ right) (y -ℤ down) live);
  rows = λ x y live. shifted box.top box.bottom y down (h.rows (x -ℤ right) (y -ℤ down) live);
  at_left = (h.at_left.0 +ℤ down, here_too p right down _ _ h.at_left.1);
  at_right = (h.at_right.0 +ℤ down, here_too p right down _ _ h.at_right.1);
  at_top = (h.at_top.0 +ℤ right, here_too p right down _ _ h.at_top.1);
  at_bottom = (h.at_bottom.0 +ℤ right, here_too p right down _ _ h.at_bottom.1);
}

pub live_in_column : (s : ℕ) (p : Plane) → IsSquare s p → (x y : ℤ) → p x y ≡ true → spans s x ≡ true
live_in_column s p is x y live = by_cases (spans s x) (λ e. e) (λ e. absurd (false≢true (sym (dead_column s p is x y e) ∙ live)))

pub live_in_row : (s : ℕ) (p : Plane) → IsSquare s p → (x y : ℤ) → p x y ≡ true → spans s y ≡ true
live_in_row s p is x y live = by_cases (spans s y) (λ e. e) (λ e. absurd (false≢true (sym (dead_row s p is x y e) ∙ live)))

pub within_span : (s : ℕ) (z : ℤ) → spans s z ≡ true → (pos 0 ≤ℤ z) × (z <ℤ pos s)
within_span s z e = (grind (arith, ints), grind (arith, ints))

-- the box of a square lies in the square
pub local_from : (s : ℕ) (p : Plane) (o : Option Bounds) → IsSquare s p → BoxMatches p o → IsLocalBox s p o
local_from s p None is h = h
local_from s p (Some box) is h = (
  h,
  record {
    left = (within_span s box.left (live_in_column s p is _ _ h.at_left.1)).0;
    right = (within_span s box.right (live_in_column s p is _ _ h.at_right.1)).1;
    top = (within_span s box.top (live_in_row s p is _ _ h.at_top.1)).0;
    bottom = (within_span s box.bottom (live_in_row s p is _ _ h.at_bottom.1)).1;
    wide = (h.columns _ _ h.at_left.1).1;
    tall = (h.rows _ _ h.at_top.1).1;
  },
)

pub matches_from : (s : ℕ) (p : Plane) (o : Option Bounds) → IsLocalBox s p o → BoxMatches p o
matches_from s p None h = h
matches_from s p (Some box) h = h.0

pub inside_of : (side : ℕ) (p : Plane) (o : Option Bounds) (box : Bounds) → o ≡ Some box → IsLocalBox side p o → IsInSquare side box
inside_of side p o box e is = let some : IsLocalBox side p (Some box) = subst (λ (r : Option Bounds). IsLocalBox side p r) e is in some.1

-- a box in the largest square can be moved back by half its side
pub room_back : (half side : ℕ) (box : Bounds) → half ≤ 2 ^ 62 → side ≤ 2 ^ 63 → IsInSquare side box → FitsMoved (pos 0 -ℤ pos half) (pos 0 -ℤ pos half) box
room_back half side box h s is = record {
  at_left = omega (arith, ints, is.left, is.right, is.wide);
  at_top = omega (arith, ints, is.top, is.bottom, is.tall);
  at_right = omega (arith, ints, is.left, is.right, is.wide);
  at_bottom = omega (arith, ints, is.top, is.bottom, is.tall);
}

-- what holds of each live cell holds of each cell of a list of them
each_listed : (P : Cell → Type 0) (cells : List Cell) → ((cell : Cell) → plane_of cells cell.x cell.y ≡ true → P cell) → AllByRecursion P cells
unfolding plane_of
each_listed P [] h = tt
each_listed P (cell ∷ cells) h = (
  h cell (or_left (is_at cell.x cell.y cell) (list_any (is_at cell.x cell.y) cells) (is_at-own cell)),
  each_listed P cells (λ other e. h other (or_right (is_at other.x other.y cell) (list_any (is_at other.x other.y) cells) e)),
)

between : (p : Plane) (box : Bounds) → IsBoxOf p box → (cell : Cell) → p cell.x cell.y ≡ true → IsWithin box cell
between p box h cell live = record {
  left = (h.columns _ _ live).0;
  right = (h.columns _ _ live).1;
  top = (h.rows _ _ live).0;
  bottom = (h.rows _ _ live).1;
}

both_ways : (a b : ℤ) → a ≤ℤ b → b ≤ℤ a → a ≡ b
both_ways a b h k = omega (arith, ints)

pub same_bounds : (a b : Bounds) → a.left ≡ b.left → a.top ≡ b.top → a.right ≡ b.right → a.bottom ≡ b.bottom → a ≡ b
same_bounds a b l t r m = λ i. record { left = l i; top = t i; right = r i; bottom = m i }

-- the smallest box of a listing is the box of its plane
one_box : (p : Plane) (cells : List Cell) (box outer : Bounds) → IsListing cells p → IsBoxOf p box → IsSmallest outer cells → box ≡ outer
one_box p cells box outer listing h is =
    let inner = is.no_smaller box (each_listed (IsWithin box) cells (λ cell e. between p box h cell (sym (listing.live cell.x cell.y) ∙ e))) in
    let left = live_cell (IsWithin outer) cells box.left h.at_left.0 is.holds (listing.live _ _ ∙ h.at_left.1) in
    let right = live_cell (IsWithin outer) cells box.right h.at_right.0 is.holds (listing.live _ _ ∙ h.at_right.1) in
    let top = live_cell (IsWithin outer) cells h.at_top.0 box.top is.holds (listing.live _ _ ∙ h.at_top.1) in
    let bottom = live_cell (IsWithin outer) cells h.at_bottom.0 box.bottom is.holds (listing.live _ _ ∙ h.at_bottom.1) in
    same_bounds box outer
    (both_ways _ _ inner.0 (subst (λ z. outer.left ≤ℤ z) (sym left.x_is) left.holds.left))
    (both_ways _ _ inner.1 (subst (λ z. outer.top ≤ℤ z) (sym top.y_is) top.holds.top))
    (both_ways _ _ (subst (λ z. z ≤ℤ outer.right) (sym right.x_is) right.holds.right) inner.2)
    (both_ways _ _ (subst (λ z. z ≤ℤ outer.bottom) (sym bottom.y_is) bottom.holds.bottom) inner.3)

some_cell : (p : Plane) (cell : Cell) (cells : List Cell) → IsListing (cell ∷ cells) p → p cell.x cell.y ≡ true
unfolding plane_of
some_cell p cell cells listing = sym (listing.live cell.x cell.y) ∙ or_left (is_at cell.x cell.y cell) _ (is_at-own cell)

no_cell : (p : Plane) → IsListing [] p → (x y : ℤ) → p x y ≡ false
unfolding plane_of
no_cell p listing x y = sym (listing.live x y)

-- what is known of a value
pub inspect : {A : Type 0} (P : Option A → Type 0) (o : Option A) → (o ≡ None → P None) → ((x : A) → o ≡ Some x → P (Some x)) → P o
inspect P None h k = h refl
inspect P (Some x) h k = k x refl

-- the box of a plane is that of its listing
pub listed_box : (p : Plane) (cells : List Cell) (o : Option Bounds) → IsListing cells p → BoxMatches p o → o ≡ bounds_of cells
listed_box p [] None listing h = refl
listed_box p [] (Some box) listing h = absurd (false≢true (sym (no_cell p listing box.left h.at_left.0) ∙ h.at_left.1))
listed_box p (cell ∷ cells) None listing h = absurd (false≢true (sym (h.same cell.x cell.y) ∙ some_cell p cell cells listing))
listed_box p (cell ∷ cells) (Some box) listing h =
    inspect (λ b. Some box ≡ b) (bounds_of (cell ∷ cells))
    (λ e. absurd (some_box (box_at cell) cells e))
    (λ outer e. ap (λ (b : Bounds). Some b) (one_box p (cell ∷ cells) box outer listing h (smallest_box_lem (cell ∷ cells) outer e)))

-- the box of a square around (0,0)
pub centred_bounds : (level : ℕ) (p : Plane) (o : Option Bounds) → IsSquare (2 ^ level) p → IsLocalBox (2 ^ level) p o →
    HasBounds (centred level p) (moved_box (pos 0 -ℤ pos (2 ^ (level - 1))) (pos 0 -ℤ pos (2 ^ (level - 1))) o)
centred_bounds level p o is h =
    let back : ℤ = pos 0 -ℤ pos (2 ^ (level - 1)) in
    record {
      cells = map (moved_cell back back) (square_cells (2 ^ level) p);
      listing = centred_listing level p is;
      bounds = listed_box (centred level p) (map (moved_cell back back) (square_cells (2 ^ level) p)) (moved_box back back o) (centred_listing level p is)
          (subst (λ q. BoxMatches q (moved_box back back o)) (plane_equal (moved back back p) (centred level p) (same_sym (centred_moved level p))) (moved_matches back back p o (matches_from (2 ^ level) p o h)));
    }
