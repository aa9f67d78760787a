use Rattle.std.proofs.Common.{ℕ, ◌-◌, ◌^◌, ◌<◌, ◌≤◌}
use Rattle.squares.proofs.sq.level_around.Given as goal

-- no smaller level goes so far
abbrev pub invariant-loop-level : goal.invariant-loop-level
invariant-loop-level l = (k : ℕ) → 4 ≤ k → k < l.level → 2 ^ (k - 1) < l.reach
