use Rattle.std.proofs.Common.{ℕ, ◌^◌, ◌≤◌, ◌↔◌}
use Rattle.std.specs.List.{AllWithin}
use Rattle.squares.specs.Spans.{FitsInRoot}
use Rattle.squares.proofs.runs.reach_of_all.Given as goal

-- what was found of the runs so far
abbrev pub invariant-loop-run : goal.invariant-loop-run
invariant-loop-run l = record {
  range : l.farthest ≤ 2 ^ 62;
  fit : (half : ℕ) → AllWithin (FitsInRoot half) l.runs 0 l.run-index ↔ (l.farthest ≤ half);
}
