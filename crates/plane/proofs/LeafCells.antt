-- Leaves and their cells.
use Rattle.std.proofs.Common.{◌≡◌, ℕ, ◌+◌, ◌*◌, ◌<◌, ℤ, pos, Bool, true, false, refl, sym, ap}
use Rattle.std.specs.Prelude.{◌&&◌, unsigned_abs}
use Rattle.plane.specs.Plane.{Plane}
use Rattle.plane.specs.Square.{IsSquare, spans, bit, bits_plane}
use Rattle.plane.proofs.SquareCells.{and_true, less_spans}

pub leaf_cell : (word i j : ℕ) → i < 8 → j < 8 → bits_plane word (pos i) (pos j) ≡ bit word (8 * j + i)
leaf_cell word i j h k = and_true (spans 8 (pos i)) (spans 8 (pos j)) (bit word (8 * j + i)) (less_spans 8 i h) (less_spans 8 j k)

pub leaf_square : (word : ℕ) → IsSquare 8 (bits_plane word)
leaf_square word = record { dead = λ x y e. ap (λ g. g && bit word (8 * unsigned_abs y + unsigned_abs x)) e }

pub in_square : (n : ℕ) (p : Plane) → IsSquare n p → (x y : ℤ) → ((spans n x && spans n y) && p x y) ≡ p x y
in_square n p square x y = inside (spans n x && spans n y) (p x y) (square.dead x y)
  where
    inside : (g b : Bool) → (g ≡ false → b ≡ false) → (g && b) ≡ b
    inside true b h = refl
    inside false b h = sym (h refl)
