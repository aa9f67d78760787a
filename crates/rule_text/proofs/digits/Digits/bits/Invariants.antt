use Rattle.std.proofs.Common.{◌≡◌, ◌^◌, ◌<◌, filter, sum_by}
use Rattle.std.specs.List.{range_with_len}
use Rattle.rule_text.specs.CountRule.{has}
use Rattle.rule_text.proofs.digits.Digits.bits.Given as goal

abbrev pub invariant-loop-digit : goal.invariant-loop-digit
invariant-loop-digit l = record {
  sum : l.bits ≡ sum_by (λ digit. 2 ^ digit) (filter (has l.self) (range_with_len 0 l.digit));
  bound : l.bits < 2 ^ l.digit;
}
