use Rattle.std.proofs.Common.{◌≡◌, ap, sym, ◌∙◌, take, drop, rules}
use Rattle.std.specs.Char.{is_ascii_digit}
use Rattle.std.specs.List.{prefix_len}
use Rattle.std.proofs.lemmas.List.Sums.{prefix_len_is}
use Rattle.rule_text.specs.RuleText.{capitals}
use Rattle.rule_text.proofs.Capitals.{is_ascii_digit-capital, after_all-capitals, take_while-capitals}
use Rattle.rule_text.proofs.parts.leading_digits.Goals as goal

end_is : (c : goal.After-split_at) → prefix_len is_ascii_digit c.args.text.now ≡ c.unwrap_or-end.result
end_is c =
    prefix_len_is is_ascii_digit c.args.text.now c.unwrap_or-end.result 0 (search rules) (λ k h. search rules) (λ h. search rules)

pub returns-clause-digits : goal.returns-clause-digits
returns-clause-digits c =
    c.split_at.ensures.front
    ∙ ap (λ end. take end c.args.text.now) (sym (end_is c))
    ∙ sym (take_while-capitals c.args.text.now)

pub returns-clause-rest : goal.returns-clause-rest
returns-clause-rest c =
    ap capitals c.split_at.ensures.back
    ∙ ap (λ end. capitals (drop end c.args.text.now)) (sym (end_is c))
    ∙ sym (after_all-capitals is_ascii_digit is_ascii_digit-capital c.args.text.now)
