use Rattle.std.proofs.Common.{pos, ◌-ℤ◌, subst, arith, rules, w64, SFits}
use Rattle.std.specs.Prelude.{Option, Some}
use Rattle.std.proofs.lemmas.Int.{to_z-of_z, ints}
use Rattle.plane.specs.declared.cell.Bounds.{Bounds}
use Rattle.plane.specs.Square.{bits_plane}
use Rattle.viewport.specs.BoundingBox.{IsLocalBox}
use Rattle.viewport.specs.declared.gaps.Side.TheVariants.{Left, Right, Top, Bottom}
use Rattle.viewport.proofs.BoxesOfGaps.{gap_of_box}
use Rattle.viewport.proofs.gaps.leaf_gap.Goals as goal

pub returns-in-Left : goal.returns-in-Left
returns-in-Left c =
    let box : IsLocalBox 8 (bits_plane c.args.word) (Some c.in_ok-bounds.bounds) = subst (λ (o : Option Bounds). IsLocalBox 8 (bits_plane c.args.word) o) c.in_ok-bounds.was c.leaf_box.ensures in
    let inside = box.1.left in
    let left : SFits w64 c.in_ok-bounds.bounds.left = search rules in
    rw c.in-Left.is (simp to_z-of_z (gap_of_box Left 8 _ (bits_plane c.args.word) c.in_ok-bounds.bounds box.0 (omega (arith, ints, inside))))

pub returns-in-Top : goal.returns-in-Top
returns-in-Top c =
    let box : IsLocalBox 8 (bits_plane c.args.word) (Some c.in_ok-bounds.bounds) = subst (λ (o : Option Bounds). IsLocalBox 8 (bits_plane c.args.word) o) c.in_ok-bounds.was c.leaf_box.ensures in
    let inside = box.1.top in
    let top : SFits w64 c.in_ok-bounds.bounds.top = search rules in
    rw c.in-Top.is (simp to_z-of_z (gap_of_box Top 8 _ (bits_plane c.args.word) c.in_ok-bounds.bounds box.0 (omega (arith, ints, inside))))

pub returns-in-Right : goal.returns-in-Right
returns-in-Right c =
    let box : IsLocalBox 8 (bits_plane c.args.word) (Some c.in_ok-bounds.bounds) = subst (λ (o : Option Bounds). IsLocalBox 8 (bits_plane c.args.word) o) c.in_ok-bounds.was c.leaf_box.ensures in
    let low = box.1.left in let wide = box.1.wide in let inside = box.1.right in
    let right : SFits w64 c.in_ok-bounds.bounds.right = search rules in
    let rest : SFits w64 (pos 7 -ℤ c.in_ok-bounds.bounds.right) = omega (arith, ints, low, wide, inside) in
    rw c.in-Right.is (simp to_z-of_z (gap_of_box Right 8 _ (bits_plane c.args.word) c.in_ok-bounds.bounds box.0 (omega (arith, ints, inside))))

pub returns-in-Bottom : goal.returns-in-Bottom
returns-in-Bottom c =
    let box : IsLocalBox 8 (bits_plane c.args.word) (Some c.in_ok-bounds.bounds) = subst (λ (o : Option Bounds). IsLocalBox 8 (bits_plane c.args.word) o) c.in_ok-bounds.was c.leaf_box.ensures in
    let low = box.1.top in let tall = box.1.tall in let inside = box.1.bottom in
    let bottom : SFits w64 c.in_ok-bounds.bounds.bottom = search rules in
    let rest : SFits w64 (pos 7 -ℤ c.in_ok-bounds.bounds.bottom) = omega (arith, ints, low, tall, inside) in
    rw c.in-Bottom.is (simp to_z-of_z (gap_of_box Bottom 8 _ (bits_plane c.args.word) c.in_ok-bounds.bounds box.0 (omega (arith, ints, inside))))
