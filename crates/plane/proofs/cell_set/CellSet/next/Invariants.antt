use Rattle.std.proofs.Common.{◌≡◌, ◌++◌, map}
use Rattle.std.specs.List.Sorted.{IsStrictlySortedBy}
use Rattle.std.specs.Map.Iter.{deref}
use Rattle.plane.specs.Listing.{plane_of, reading_order}
use Rattle.plane.specs.Plane.{next}
use Rattle.plane.proofs.Living.{LiveAmong}
use Rattle.plane.proofs.cell_set.CellSet.next.Given as goal

abbrev pub invariant-loop-cell : goal.invariant-loop-cell
invariant-loop-cell l = record {
  listed : map deref l.yielded ++ l.cell-iterator ≡ l.initial.cell-iterator;
  living : LiveAmong (next l.rule (plane_of l.self)) (map deref l.yielded) l.living;
  rising : IsStrictlySortedBy reading_order l.living;
}
