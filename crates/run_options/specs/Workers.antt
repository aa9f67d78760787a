-- How many workers may run.
use Rattle.std.specs.Prelude.{ℕ, ◌≤◌}

-- from 1 to 64
abbrev pub IsWorkerCount : ℕ → Type 0
IsWorkerCount workers = (1 ≤ workers) × (workers ≤ 64)
