-- Runs of live cells, moved.
use Rattle.std.specs.Prelude.{ℕ, ℤ, ◌+ℤ◌, List, map}

-- the run, so far to the right
abbrev pub moved_run : ℤ → (ℤ × ℕ) → (ℤ × ℕ)
moved_run right run = (run.0 +ℤ right, run.1)

abbrev pub moved_runs : ℤ → List (ℤ × ℕ) → List (ℤ × ℕ)
moved_runs right runs = map (moved_run right) runs
