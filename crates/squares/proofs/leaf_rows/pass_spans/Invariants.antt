use Rattle.std.proofs.Common.{length, ◌-◌, ◌≤◌}
use Rattle.squares.specs.Strips.{ArePassed}
use Rattle.squares.proofs.leaf_rows.pass_spans.Given as goal

-- the spans before this one are passed
abbrev pub invariant-loop-at : goal.invariant-loop-at
invariant-loop-at l = record {
  within : l.at ≤ length l.spans;
  passed : ArePassed l.spans l.at l.row l.left;
}

abbrev pub decreases-loop-at : goal.decreases-loop-at
decreases-loop-at l = length l.spans - l.at
