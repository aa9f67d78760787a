use Rattle.std.proofs.Common.{◌≡◌, ◌-◌, ◌≤◌, ◌∷◌, take, get_or, sym, ◌∙◌, ap, arith}
use Rattle.std.proofs.lemmas.List.{take_all}
use Rattle.std.proofs.lemmas.List.Elements.{All-nil, All-push, All-same}
use Rattle.rule_text.specs.CountRule.{rising, counts}
use Rattle.rule_text.specs.Neighbourhood.{neighbour_count}
use Rattle.rule_text.specs.RuleCut.{digit_values}
use Rattle.rule_text.proofs.RisingDigits.{rising-push, digit_values-take_more, unfit_at}
use Rattle.rule_text.proofs.digits.Digits.read.Goals as goal

pub loop-byte-init : goal.loop-byte-init
unfolding rising counts
loop-byte-init c = record {
  digits = c.new-digits.ensures;
  fit = All-nil (λ digit. digit ≤ neighbour_count c.args.neighbourhood);
}

pub loop-byte-preserved : goal.loop-byte-preserved
loop-byte-preserved c =
    let text = c.args.text.now in
    let i = c.loop-byte.byte-index in
    let digit = get_or text i 0 - 48 in
    let more = digit_values-take_more text i c.loop-byte-test.true in
    record {
      digits =
          c.insert.ensures
          ∙ ap (λ digits. rising (digit ∷ digits)) c.loop-byte.invariant.digits
          ∙ rising-push (digit_values (take i text)) digit
          ∙ ap rising (sym more);
      fit =
          All-same (λ d. d ≤ neighbour_count c.args.neighbourhood) _ _ more
          (All-push (λ d. d ≤ neighbour_count c.args.neighbourhood) (digit_values (take i text)) digit c.loop-byte.invariant.fit (omega arith));
    }

pub returns-then-digit-most-clause-unfit : goal.returns-then-digit-most-clause-unfit
returns-then-digit-most-clause-unfit c =
    unfit_at c.args.neighbourhood c.args.text.now c.loop-byte.byte-index c.loop-byte-test.true (omega arith)

whole : (c : goal.After-loop-byte) → take c.loop-byte.byte-index c.args.text.now ≡ c.args.text.now
whole c = take_all c.loop-byte.byte-index c.args.text.now (omega arith)

pub returns-clause-digits : goal.returns-clause-digits
returns-clause-digits c = c.loop-byte.invariant.digits ∙ ap (λ text. rising (digit_values text)) (whole c)

pub returns-clause-fit : goal.returns-clause-fit
returns-clause-fit c =
    All-same (λ d. d ≤ neighbour_count c.args.neighbourhood) _ _ (ap digit_values (sym (whole c))) c.loop-byte.invariant.fit
