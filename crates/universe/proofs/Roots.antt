-- Squares around (0,0).
use Rattle.std.proofs.Common.{◌≡◌, ◌↔◌, ℕ, ◌-◌, ◌^◌, ℤ, ◌-ℤ◌, pos, ◌+ℤ◌, Bool, true, false, ◌&&◌, refl, sym, ◌∙◌, ap, subst, arith}
use Rattle.std.proofs.lemmas.Int.{ints}
use Rattle.plane.specs.Centred.{Holds, centred}
use Rattle.plane.specs.Plane.{Plane}
use Rattle.plane.specs.Range.{IsCoordinate}
use Rattle.plane.specs.Square.{IsSame, empty, spans}
use Rattle.plane.proofs.Same.{same_sym, same_trans}
use Rattle.squares.specs.Book.{Book, IsBook, IsEmpty, IsKnown, numbered}
use Rattle.squares.specs.declared.sq.Sq.{Sq}

pub held_same : (level : ℕ) (plane other : Plane) → IsSame plane other → Holds level plane → Holds level other
held_same level plane other same is = record { dead = λ x y outside. sym (same.same x y) ∙ is.dead x y outside }

-- the range lies in the square of side 2^63 around (0,0)
pub in_square : (z : ℤ) → IsCoordinate z → spans (2 ^ 63) (z +ℤ pos (2 ^ 62)) ≡ true
in_square z at = grind (arith, ints, at.low, at.high)

pub both : (a b : Bool) → a ≡ true → b ≡ true → (a && b) ≡ true
both true b h k = k
both false b h k = cc

number_empty : (book : Book) (sq : Sq) → IsBook book → sq.num.0 ≡ 0 → IsSame (book.cells sq) empty
number_empty book sq laws is = subst (λ (n : ℕ). IsSame (book.cells (numbered sq.level n)) empty) (sym is) (laws.zero_empty sq.level)

empty_number : (book : Book) (sq : Sq) → IsBook book → IsKnown book sq.level sq → IsSame (book.cells sq) empty → sq.num.0 ≡ 0
empty_number book sq laws known none =
    ap (λ (s : Sq). s.num.0) (laws.one_number sq (numbered sq.level 0) known.known (laws.zero_known sq.level known.low known.high) refl (same_trans none (same_sym (laws.zero_empty sq.level))))

here_and_back : (half : ℕ) (z : ℤ) → (z -ℤ pos half) +ℤ pos half ≡ z
here_and_back half z = omega (arith, ints)

centred_empty : (level : ℕ) (plane : Plane) → IsSame plane empty → IsSame (centred level plane) empty
centred_empty level plane none = record { same = λ x y. none.same (x +ℤ pos (2 ^ (level - 1))) (y +ℤ pos (2 ^ (level - 1))) }

empty_centred : (level : ℕ) (plane : Plane) → IsSame (centred level plane) empty → IsSame plane empty
empty_centred level plane none = record {
  same = λ x y.
      sym (ap (λ u. plane u y) (here_and_back (2 ^ (level - 1)) x) ∙ refl)
      ∙ sym (ap (λ v. plane ((x -ℤ pos (2 ^ (level - 1))) +ℤ pos (2 ^ (level - 1))) v) (here_and_back (2 ^ (level - 1)) y))
      ∙ none.same (x -ℤ pos (2 ^ (level - 1))) (y -ℤ pos (2 ^ (level - 1)));
}

-- a square is the empty one exactly if it has no cell
pub is_without_cells : (book : Book) (sq : Sq) → IsBook book → IsKnown book sq.level sq → IsEmpty sq ↔ IsSame (centred sq.level (book.cells sq)) empty
is_without_cells book sq laws known = (
  λ is. centred_empty sq.level (book.cells sq) (number_empty book sq laws is),
  λ none. empty_number book sq laws known (empty_centred sq.level (book.cells sq) none),
)
