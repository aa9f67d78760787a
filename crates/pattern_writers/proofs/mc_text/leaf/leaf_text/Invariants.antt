use Rattle.std.proofs.Common.{◌≡◌, ℕ, ◌+◌, ◌*◌, ◌^◌, ◌<◌, ◌≤◌, ◌++◌, length}
use Rattle.pattern_writers.proofs.BitRows.{rows_text}
use Rattle.pattern_writers.proofs.mc_text.leaf.leaf_text.Given as goal

abbrev pub invariant-loop-rows : goal.invariant-loop-rows
invariant-loop-rows l = (count : ℕ) × (l.rows < 256 ^ count) × (length l.text + 9 * count ≤ 72) × (l.text ++ rows_text count l.rows ≡ rows_text 8 l.word)

abbrev pub decreases-loop-rows : goal.decreases-loop-rows
decreases-loop-rows l = l.rows
