use Rattle.std.proofs.Common.{◌≡◌, ◌^◌, length, take}
use Rattle.std.specs.Prelude.{sum_by}
use Rattle.universe.proofs.digits.rising_steps.Given as goal

-- a step for each digit so far
abbrev pub invariant-loop-digit : goal.invariant-loop-digit
invariant-loop-digit l = record {
  sum : sum_by (λ step. 2 ^ step.exponent) l.steps.items ≡ sum_by (λ exponent. 2 ^ exponent) (take l.digit-index l.digit-items);
  count : length l.steps.items ≡ l.digit-index;
}
