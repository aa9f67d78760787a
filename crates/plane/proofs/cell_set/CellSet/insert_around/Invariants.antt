use Rattle.std.proofs.Common.{◌≡◌, ◌-ℤ◌, take, true}
use Rattle.std.specs.List.{All}
use Rattle.plane.specs.Generation.{IsKept}
use Rattle.plane.specs.Listing.{plane_of}
use Rattle.plane.proofs.cell_set.CellSet.insert_around.Given as goal

abbrev pub invariant-loop-offset : goal.invariant-loop-offset
invariant-loop-offset l = record {
  kept : IsKept (plane_of l.fn.self) (plane_of l.self);
  itself : plane_of l.self l.cell.x l.cell.y ≡ true;
  around : All (λ offset. plane_of l.self (l.cell.x -ℤ offset.right) (l.cell.y -ℤ offset.down) ≡ true) (take l.offset-index l.offset-items);
}
