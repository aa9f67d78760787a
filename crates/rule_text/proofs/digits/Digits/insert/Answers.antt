use Rattle.std.proofs.Common.{◌∙◌, ap, ◌∷◌}
use Rattle.rule_text.specs.CountRule.{rising}
use Rattle.rule_text.proofs.Marks.{digits_listed-set}
use Rattle.rule_text.proofs.digits.Digits.insert.Goals as goal

pub returns : goal.returns
returns c =
    digits_listed-set c.self.inside.listed c.args.digit c.self.invariant c.requires
    ∙ ap (λ digits. rising (c.args.digit ∷ digits)) c.self.view_is
