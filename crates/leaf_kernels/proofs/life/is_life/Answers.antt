use Rattle.std.proofs.Common.{ap, sym, ◌∙◌}
use Rattle.std.proofs.lemmas.Bool.{eq-eqb, eqb-true}
use Rattle.rule_text.specs.RuleCode.{code_of}
use Rattle.rule_text.proofs.Codes.{one_rule}
use Rattle.leaf_kernels.specs.Life.{life}
use Rattle.leaf_kernels.proofs.LifeCells.{is_rule}
use Rattle.leaf_kernels.proofs.life.is_life.Goals as goal

pub returns : goal.returns
returns c = (
  λ same. one_rule c.args.rule.now life c.code.ensures.rule is_rule (sym c.code.ensures.code ∙ eqb-true c.code.result 6152 same),
  λ is. eq-eqb c.code.result 6152 (c.code.ensures.code ∙ ap code_of is),
)
