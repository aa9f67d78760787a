use Rattle.std.proofs.Common.{◌-◌, ◌^◌, pow_mono, pos, ◌-ℤ◌, sym, subst, arith, rules, w64, SFits}
use Rattle.std.specs.Prelude.{Option}
use Rattle.std.proofs.lemmas.Int.{to_z-of_z, ints}
use Rattle.plane.specs.Centred.{centred}
use Rattle.plane.specs.declared.cell.Bounds.{Bounds}
use Rattle.viewport.specs.BoundingBox.{HasBounds}
use Rattle.viewport.proofs.BoxesOfPlanes.{centred_bounds, inside_of, room_back}
use Rattle.viewport.proofs.Quarters.{known_square}
use Rattle.viewport.proofs.boxes.bounds_at.Goals as goal

pub shift-requires : goal.shift-requires
shift-requires g c = λ x e.
    let half : SFits w64 c.signed_half_side-half.result = search rules in
    let small = c.signed_half_side-half.ensures.small in
    let back : SFits w64 (pos 0 -ℤ c.signed_half_side-half.result) = rw c.signed_half_side-half.ensures.side (omega (arith, ints, small)) in
    simp to_z-of_z (simp c.signed_half_side-half.ensures.side (room_back (2 ^ (c.args.sq.level - 1)) (2 ^ c.args.sq.level) x small (pow_mono {i = c.args.sq.level} {j = 63} c.requires.level)
    (inside_of _ _ c.in_ok-local.local x e c.in_ok-local.ensures.ok)))

pub returns-clause-ok : goal.returns-clause-ok
returns-clause-ok g c =
    let book = g.R.Reading.book c.args.book.now in
    let half : SFits w64 c.signed_half_side-half.result = search rules in
    let small = c.signed_half_side-half.ensures.small in
    let back : SFits w64 (pos 0 -ℤ c.signed_half_side-half.result) = rw c.signed_half_side-half.ensures.side (omega (arith, ints, small)) in
    let moved_is = simp c.signed_half_side-half.ensures.side at (simp to_z-of_z at c.shift.ensures) in
    subst (λ (o : Option Bounds). HasBounds (centred c.args.sq.level (book.cells c.args.sq)) o) (sym moved_is)
    (centred_bounds c.args.sq.level (book.cells c.args.sq) c.in_ok-local.local (known_square book c.args.sq.level c.args.sq (g.met.R.Reading.is_book c.args.book.now) c.requires.known) c.in_ok-local.ensures.ok)
