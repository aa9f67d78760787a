use Rattle.std.proofs.Common.{◌≡◌, length}
use Rattle.rule_text.specs.RuleText.{trimmed_start}
use Rattle.rule_text.proofs.blanks.trim_start.Given as goal

abbrev pub invariant-loop-first : goal.invariant-loop-first
invariant-loop-first l = trimmed_start l.rest ≡ trimmed_start l.text

abbrev pub decreases-loop-first : goal.decreases-loop-first
decreases-loop-first l = length l.rest
