-- Planes with the same cells.
use Rattle.std.proofs.Common.{◌≡◌, sym, ◌∙◌, refl}
use Rattle.plane.specs.Plane.{Plane}
use Rattle.plane.specs.Square.{IsSame}

pub same_trans : {p q r : Plane} → IsSame p q → IsSame q r → IsSame p r
same_trans h k = record { same = λ x y. h.same x y ∙ k.same x y }

pub same_sym : {p q : Plane} → IsSame p q → IsSame q p
same_sym h = record { same = λ x y. sym (h.same x y) }

pub same_refl : (p : Plane) → IsSame p p
same_refl p = record { same = λ x y. refl }

-- planes with the same cells are equal
pub plane_equal : (p q : Plane) → IsSame p q → p ≡ q
plane_equal p q h = λ i x y. h.same x y i

pub same_of : (p q : Plane) → p ≡ q → IsSame p q
same_of p q e = record { same = λ x y i. e i x y }
