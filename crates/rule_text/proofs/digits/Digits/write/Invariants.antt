use Rattle.std.proofs.Common.{◌≡◌, ◌+◌, ◌≤◌, ◌++◌, filter, length}
use Rattle.std.specs.List.{range_with_len}
use Rattle.rule_text.specs.CountRule.{has}
use Rattle.rule_text.specs.RuleText.{digit_text}
use Rattle.rule_text.proofs.digits.Digits.write.Given as goal

abbrev pub invariant-loop-digit : goal.invariant-loop-digit
invariant-loop-digit l = record {
  digits : l.text.bytes ≡ l.fn.text.bytes ++ digit_text (filter (has l.self) (range_with_len 0 l.digit));
  length : length l.text.bytes ≤ length l.fn.text.bytes + l.digit;
}
