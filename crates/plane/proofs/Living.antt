-- The cells that live in the next generation, collected one candidate after the other.
use Rattle.std.proofs.Common.{◌≡◌, ℤ, Bool, true, false, ◌&&◌, ◌||◌, List, [], ◌∷◌, ◌++◌, refl, sym, ◌∙◌, ap}
use Rattle.std.specs.List.{list_any}
use Rattle.std.specs.List.Sorted.{IsStrictlySortedBy}
use Rattle.plane.specs.declared.cell.Cell.{Cell}
use Rattle.plane.specs.CellSet.{with_cell}
use Rattle.plane.specs.Listing.{plane_of, is_at, reading_order, IsListing}
use Rattle.plane.specs.Plane.{Plane}
use Rattle.plane.proofs.Around.{at_place}

-- the living are those of the cells that live on the plane
abbrev pub LiveAmong : Plane → List Cell → List Cell → Type 0
LiveAmong plane cells living = (x y : ℤ) → plane_of living x y ≡ (plane_of cells x y && plane x y)

pub plane_of-nil : (x y : ℤ) → plane_of [] x y ≡ false
unfolding plane_of
plane_of-nil x y = refl

-- no cell lives among none
pub none_live : (plane : Plane) (living : List Cell) → living ≡ [] → LiveAmong plane [] living
none_live plane living none x y = ap (λ cells. plane_of cells x y) none ∙ plane_of-nil x y ∙ sym (ap (λ b. b && plane x y) (plane_of-nil x y))

or_swap : (a b c : Bool) → (a || (b || c)) ≡ (b || (a || c))
or_swap true true c = refl
or_swap true false c = refl
or_swap false b c = refl

any_push : {X : Type 0} (p : X → Bool) (xs : List X) (x : X) → list_any p (xs ++ x ∷ []) ≡ (p x || list_any p xs)
any_push p [] x = refl
any_push p (y ∷ xs) x = ap (λ b. p y || b) (any_push p xs x) ∙ or_swap (p y) (p x) (list_any p xs)

pub plane_of-push : (cells : List Cell) (cell : Cell) (x y : ℤ) → plane_of (cells ++ cell ∷ []) x y ≡ (is_at x y cell || plane_of cells x y)
unfolding plane_of
plane_of-push cells cell x y = any_push (is_at x y) cells cell

-- what the plane has at a cell's place
pub at_cell : (plane : Plane) (x y : ℤ) (cell : Cell) (b : Bool) → plane cell.x cell.y ≡ b → is_at x y cell ≡ true → plane x y ≡ b
at_cell plane x y cell b is here =
    let place = at_place x y cell here in ap (λ u. plane u y) place.0 ∙ ap (λ v. plane cell.x v) place.1 ∙ is

-- a cell that lives comes in
pub kept_or : (here live among : Bool) → (here ≡ true → live ≡ true) → (here || (among && live)) ≡ ((here || among) && live)
kept_or true live among is = sym (is refl)
kept_or false live among is = refl

-- a cell that does not live stays out
pub left_out : (here live among : Bool) → (here ≡ true → live ≡ false) → (among && live) ≡ ((here || among) && live)
left_out true live true is = refl
left_out true live false is = sym (is refl)
left_out false live among is = refl

pub one_lives : (plane : Plane) (cells old new : List Cell) (cell : Cell) → LiveAmong plane cells old → plane cell.x cell.y ≡ true →
    IsListing new (with_cell cell (plane_of old)) → LiveAmong plane (cells ++ cell ∷ []) new
one_lives plane cells old new cell among lives listing x y =
    listing.live x y ∙ ap (λ b. is_at x y cell || b) (among x y)
    ∙ kept_or (is_at x y cell) (plane x y) (plane_of cells x y) (at_cell plane x y cell true lives)
    ∙ ap (λ b. b && plane x y) (sym (plane_of-push cells cell x y))

pub one_dies : (plane : Plane) (cells living : List Cell) (cell : Cell) → LiveAmong plane cells living → plane cell.x cell.y ≡ false →
    LiveAmong plane (cells ++ cell ∷ []) living
one_dies plane cells living cell among dies x y =
    among x y ∙ left_out (is_at x y cell) (plane x y) (plane_of cells x y) (at_cell plane x y cell false dies)
    ∙ ap (λ b. b && plane x y) (sym (plane_of-push cells cell x y))

covered : (there live : Bool) → (live ≡ true → there ≡ true) → (there && live) ≡ live
covered true live is = refl
covered false true is = is refl
covered false false is = refl

-- where the cells cover the plane, the living among them are its live cells
pub all_live : (plane : Plane) (cells living : List Cell) → LiveAmong plane cells living →
    ((x y : ℤ) → plane x y ≡ true → plane_of cells x y ≡ true) → (x y : ℤ) → plane_of living x y ≡ plane x y
all_live plane cells living among covers x y = among x y ∙ covered (plane_of cells x y) (plane x y) (covers x y)

-- no cells are in order
pub none_rise : (cells : List Cell) → cells ≡ [] → IsStrictlySortedBy reading_order cells
unfolding IsStrictlySortedBy
none_rise cells none = rw none tt
