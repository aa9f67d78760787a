use Rattle.std.proofs.Common.{◌≡◌, length}
use Rattle.text_lines.specs.Bytes.{trimmed_end}
use Rattle.text_lines.proofs.bytes.trim_end.Given as goal

abbrev pub invariant-loop-last : goal.invariant-loop-last
invariant-loop-last l = trimmed_end l.rest ≡ trimmed_end l.text

abbrev pub decreases-loop-last : goal.decreases-loop-last
decreases-loop-last l = length l.rest
