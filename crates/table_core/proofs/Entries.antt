-- The live cells of a block as a list.
use Rattle.std.proofs.Common.{◌≡◌, ℕ, ℤ, pos, Bool, true, false, ◌⊎◌, List, sym, ◌∙◌, ap, arith, refl, inl, inr, ⊎_elim}
use Rattle.std.specs.Prelude.{◌&&◌, ◌-ℤ◌}
use Rattle.std.proofs.lemmas.Int.{ints}
use Rattle.plane.specs.declared.cell.Cell.{Cell}
use Rattle.plane.specs.Plane.{Plane}
use Rattle.plane.specs.Square.{IsSame, spans}
use Rattle.plane.specs.Block.{IsInside}
use Rattle.plane.specs.Listing.{plane_of}
use Rattle.plane.specs.Window.{cells_in, IsInWindow}
use Rattle.plane.proofs.Windows.{listing_in}

less_zero : (z : ℤ) → z -ℤ pos 0 ≡ z
less_zero z = omega (arith, ints)

one_out : (a b : Bool) → (a && b) ≡ false → (a ≡ false) ⊎ (b ≡ false)
one_out true b h = inr h
one_out false b h = inl refl

in_window : (width height : ℕ) (plane : Plane) → IsInside width height plane → IsInWindow (pos 0) (pos 0) width height plane
in_window width height plane inside = record {
  dead = λ x y e. ⊎_elim
      (λ t. inside.columns x y t) (λ t. inside.rows x y t)
      (one_out (spans width x) (spans height y) (ap (λ u. spans width u && spans height y) (sym (less_zero x)) ∙ ap (λ v. spans width (x -ℤ pos 0) && spans height v) (sym (less_zero y)) ∙ e));
}

-- a plane that is dead outside so many columns and rows is that of a list of cells
pub listing : (plane : Plane) (width height : ℕ) → IsInside width height plane → (cells : List Cell) × IsSame (plane_of cells) plane
listing plane width height inside = (cells_in (pos 0) (pos 0) width height plane, record { same = (listing_in (pos 0) (pos 0) width height plane (in_window width height plane inside)).live })
