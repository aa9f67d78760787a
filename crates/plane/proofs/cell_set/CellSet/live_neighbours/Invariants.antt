use Rattle.std.proofs.Common.{◌≡◌, ◌+ℤ◌, take, count_by}
use Rattle.plane.specs.Listing.{plane_of}
use Rattle.plane.proofs.cell_set.CellSet.live_neighbours.Given as goal

abbrev pub invariant-loop-offset : goal.invariant-loop-offset
invariant-loop-offset l = l.count ≡ count_by (λ offset. plane_of l.self (l.cell.x +ℤ offset.right) (l.cell.y +ℤ offset.down)) (take l.offset-index l.offset-items)
