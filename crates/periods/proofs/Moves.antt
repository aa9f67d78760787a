-- Planes that are moved, and moved again.
use Rattle.std.proofs.Common.{◌≡◌, ℤ, pos, ◌+ℤ◌, ◌-ℤ◌, sym, ◌∙◌, ap, arith}
use Rattle.std.proofs.lemmas.Int.{ints}
use Rattle.plane.specs.Laws.{moved}
use Rattle.plane.specs.Plane.{Plane}
use Rattle.plane.specs.Square.{IsSame}

-- a plane has one state at coordinates that are equal
at_equal : (plane : Plane) (x y u v : ℤ) → x ≡ u → y ≡ v → plane x y ≡ plane u v
at_equal plane x y u v across down = ap (λ a. plane a y) across ∙ ap (plane u) down

-- planes with the same cells have the same cells where they are moved
pub moved_same : (right down : ℤ) (plane other : Plane) → IsSame plane other → IsSame (moved right down plane) (moved right down other)
moved_same right down plane other is = record { same = λ x y. is.same (x -ℤ right) (y -ℤ down) }

two_steps : (z first second : ℤ) → (z -ℤ first) -ℤ second ≡ z -ℤ (first +ℤ second)
two_steps z first second = omega (arith, ints)

-- two moves are one
pub moved_twice : (a b c d : ℤ) (plane : Plane) → IsSame (moved a b (moved c d plane)) (moved (a +ℤ c) (b +ℤ d) plane)
moved_twice a b c d plane = record { same = λ x y. at_equal plane _ _ _ _ (two_steps x a c) (two_steps y b d) }

other_order : (z first second : ℤ) → (z -ℤ first) -ℤ second ≡ (z -ℤ second) -ℤ first
other_order z first second = omega (arith, ints)

-- the order of two moves does not matter
pub moved_swap : (a b c d : ℤ) (plane : Plane) → IsSame (moved a b (moved c d plane)) (moved c d (moved a b plane))
moved_swap a b c d plane = record { same = λ x y. at_equal plane _ _ _ _ (other_order x a c) (other_order y b d) }

no_step : (z : ℤ) → z ≡ z -ℤ pos 0
no_step z = omega (arith, ints)

-- a plane that is not moved is the same
pub unmoved : (plane : Plane) → IsSame plane (moved (pos 0) (pos 0) plane)
unmoved plane = record { same = λ x y. at_equal plane _ _ _ _ (no_step x) (no_step y) }

back : (z by : ℤ) → z ≡ (z +ℤ by) -ℤ by
back z by = omega (arith, ints)

rest_of : (z by far : ℤ) → (z +ℤ by) -ℤ far ≡ z -ℤ (far -ℤ by)
rest_of z by far = omega (arith, ints)

-- a move is taken back, on the other side too
pub taken_back : (a b c d : ℤ) (plane other : Plane) → IsSame (moved a b plane) (moved c d other) → IsSame plane (moved (c -ℤ a) (d -ℤ b) other)
taken_back a b c d plane other is = record {
  same = λ x y.
      at_equal plane _ _ _ _ (back x a) (back y b) ∙ is.same (x +ℤ a) (y +ℤ b)
      ∙ at_equal other _ _ _ _ (rest_of x a c) (rest_of y b d);
}

-- planes have the same cells where they have them moved
pub unmoved_same : (a b : ℤ) (plane other : Plane) → IsSame (moved a b plane) (moved a b other) → IsSame plane other
unmoved_same a b plane other is = record {
  same = λ x y.
      at_equal plane _ _ _ _ (back x a) (back y b) ∙ is.same (x +ℤ a) (y +ℤ b)
      ∙ sym (at_equal other _ _ _ _ (back x a) (back y b));
}
