use Rattle.std.proofs.Common.{ap, eq-eqb, sym, ◌∙◌}
use Rattle.std.proofs.lemmas.Bool.{eqb-true}
use Rattle.rule_text.specs.RuleCode.{code_of}
use Rattle.rule_text.proofs.Codes.{one_rule}
use Rattle.table_core.specs.declared.key.Key.{Key}
use Rattle.universe.proofs.tables.OpenTable.is_under.Goals as goal

pub returns-then-key-exponent : goal.returns-then-key-exponent
returns-then-key-exponent c =
    let key = c.key-key.ensures in
    let own = c.code.ensures in
    let other = c.code-then-key-exponent.ensures in (
      λ same. (
        ap (λ (k : Key). k.exponent) (sym key) ∙ c.if-key-exponent.true,
        ap (λ (k : Key). k.rule) (sym key) ∙ one_rule c.key-key.result.now.rule c.args.rule.now own.rule other.rule (sym own.code ∙ eqb-true _ _ same ∙ other.code),
      ),
      λ under. eq-eqb _ _ (own.code ∙ ap code_of (ap (λ (k : Key). k.rule) key ∙ under.1) ∙ sym other.code),
    )
