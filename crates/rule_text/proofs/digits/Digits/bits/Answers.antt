use Rattle.std.proofs.Common.{◌≡◌, ◌+◌, ◌^◌, sum_by, sym, ◌∙◌, ap, arith}
use Rattle.rule_text.specs.CountRule.{has}
use Rattle.rule_text.proofs.CountUp.{below, below-yes, below-no, below-nine, sum-push, shifted_one, bits_below-more, bits_below-same}
use Rattle.rule_text.proofs.digits.Digits.bits.Goals.{then-contains, else-contains}
use Rattle.rule_text.proofs.digits.Digits.bits.Goals as goal

pub loop-digit-preserved : goal.loop-digit-preserved
loop-digit-preserved c =
    let n = c.loop-digit.digit in
    let marked = has c.args.self in
    elim c.if-contains.branch [
      | then-contains w ↦
          let more : c.if-contains.bits ≡ c.loop-digit.bits + 2 ^ n = w.bits-is ∙ ap (λ bit. c.loop-digit.bits + bit) (shifted_one n c.loop-digit-test.true) in
          record {
            sum =
                more
                ∙ ap (λ sum. sum + 2 ^ n) c.loop-digit.invariant.sum
                ∙ sym (sum-push (below marked n) n)
                ∙ ap (sum_by (λ d. 2 ^ d)) (sym (below-yes marked n (sym c.contains.ensures ∙ w.if-contains.true)));
            bound = rw more (bits_below-more n c.loop-digit.bits c.loop-digit.invariant.bound);
          }
      | else-contains w ↦
          record {
            sum =
                w.bits-is
                ∙ c.loop-digit.invariant.sum
                ∙ ap (sum_by (λ d. 2 ^ d)) (sym (below-no marked n (sym c.contains.ensures ∙ w.if-contains.false)));
            bound = rw w.bits-is (bits_below-same n c.loop-digit.bits c.loop-digit.invariant.bound);
          }
    ]

pub returns-clause-sum : goal.returns-clause-sum
returns-clause-sum c =
    let nine : c.loop-digit.digit ≡ 9 = omega arith in
    c.loop-digit.invariant.sum
    ∙ ap (λ n. sum_by (λ d. 2 ^ d) (below (has c.args.self) n)) nine
    ∙ ap (sum_by (λ d. 2 ^ d)) (below-nine c.args.self)
