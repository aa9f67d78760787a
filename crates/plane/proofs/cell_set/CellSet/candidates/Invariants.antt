use Rattle.std.proofs.Common.{◌≡◌, ◌++◌, map}
use Rattle.std.specs.List.{AllByRecursion}
use Rattle.std.specs.Map.Iter.{deref}
use Rattle.plane.specs.Generation.{HasAround}
use Rattle.plane.specs.Listing.{plane_of}
use Rattle.plane.proofs.cell_set.CellSet.candidates.Given as goal

abbrev pub invariant-loop-cell : goal.invariant-loop-cell
invariant-loop-cell l = record {
  listed : map deref l.yielded ++ l.cell-iterator ≡ l.self;
  around : AllByRecursion (λ cell. HasAround l.neighbourhood cell (plane_of l.candidates)) (map deref l.yielded);
}
