use Rattle.std.proofs.Common.{◌≡◌, false, slice_index_or, sym, ◌∙◌, ap, rules}
use Rattle.rule_text.specs.CountRule.{has}
use Rattle.rule_text.specs.DigitMarks.{has-digits_listed}
use Rattle.rule_text.proofs.digits.Digits.contains.Goals as goal

pub returns : goal.returns
returns c =
    let read : c.unwrap_or.result ≡ slice_index_or c.self.inside.listed c.args.count false = search rules in
    read
    ∙ sym (has-digits_listed c.self.inside.listed c.args.count c.self.invariant)
    ∙ ap (λ digits. has digits c.args.count) c.self.view_is
