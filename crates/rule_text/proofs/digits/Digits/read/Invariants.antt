use Rattle.std.proofs.Common.{◌≡◌, take}
use Rattle.rule_text.specs.CountRule.{Fit, rising}
use Rattle.rule_text.specs.RuleCut.{digit_values}
use Rattle.rule_text.proofs.digits.Digits.read.Given as goal

abbrev pub invariant-loop-byte : goal.invariant-loop-byte
invariant-loop-byte l = record {
  digits : l.digits ≡ rising (digit_values (take l.byte-index l.text));
  fit : Fit l.fn.neighbourhood (digit_values (take l.byte-index l.text));
}
