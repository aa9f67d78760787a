use Rattle.std.proofs.Common.{◌∙◌, ap, sym}
use Rattle.std.proofs.lemmas.Bool.{eq-eqb, eqb-true}
use Rattle.rule_text.specs.RuleCode.{code_of}
use Rattle.rule_text.proofs.Codes.{one_rule}
use Rattle.node_table.proofs.still.Still.has_rule_of.Goals as goal

pub returns : goal.returns
returns c = (
  (λ t. one_rule c.args.self.now.key.rule c.args.key.now.rule c.code.ensures.rule c.code-2.ensures.rule (sym c.code.ensures.code ∙ eqb-true c.code.result c.code-2.result t ∙ c.code-2.ensures.code)),
  (λ e. eq-eqb c.code.result c.code-2.result (c.code.ensures.code ∙ ap code_of e ∙ sym c.code-2.ensures.code)),
)
