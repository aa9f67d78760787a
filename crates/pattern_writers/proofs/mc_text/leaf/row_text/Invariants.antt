use Rattle.std.proofs.Common.{◌≡◌, ℕ, ◌+◌, ◌^◌, ◌<◌, ◌≤◌, ◌++◌, length}
use Rattle.pattern_writers.specs.LeafText.{bits_text}
use Rattle.pattern_writers.proofs.mc_text.leaf.row_text.Given as goal

abbrev pub invariant-loop-cells : goal.invariant-loop-cells
invariant-loop-cells l = (count : ℕ) × (l.cells < 2 ^ count) × (length l.text + count ≤ 8) × (l.text ++ bits_text count l.cells ≡ bits_text 8 l.row)

abbrev pub decreases-loop-cells : goal.decreases-loop-cells
decreases-loop-cells l = l.cells
