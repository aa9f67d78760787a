use Rattle.std.proofs.Common.{◌≡◌, ◌++◌, map}
use Rattle.std.specs.Map.Iter.{deref}
use Rattle.squares.specs.Spans.{single_run}
use Rattle.squares.proofs.runs.runs_of.Given as goal

abbrev pub invariant-loop-cell : goal.invariant-loop-cell
invariant-loop-cell l = record {
  listed : map deref l.yielded ++ l.cell-iterator ≡ l.initial.cell-iterator;
  runs : l.runs.items ≡ map single_run (map deref l.yielded);
}
