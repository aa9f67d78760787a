use Rattle.std.proofs.Common.{◌≡◌, Err, None, codes, rules, subst, sym, ap, ◌∙◌}
use Rattle.std.specs.Option.{unwrap_or}
use Rattle.rule_text.specs.RuleText.{Reads}
use Rattle.engine.specs.Judgement.{ReadsRule, rule_text_of}
use Rattle.pattern_files.specs.Meaning.{meaning_of}
use Rattle.engine.proofs.Endings.{copied_or}
use Rattle.engine.proofs.accepted.given_or_named.Goals as goal

pub returns-in-Err-clause-err : goal.returns-in-Err-clause-err
returns-in-Err-clause-err c =
    let text : c.unwrap_or.result.now ≡ rule_text_of (meaning_of c.args.text.now) =
    ap (λ slice. slice.now) c.unwrap_or.ensures ∙ copied_or c.rule_slice.result _ ∙ ap (λ rule. unwrap_or rule (codes "B3/S23")) c.rule_slice.ensures in
    let none : c.args.given ≡ None = search rules in (
      c.in-Err.fault,
      subst (λ given. ReadsRule given (meaning_of c.args.text.now) (Err c.in-Err.fault)) (sym none) (subst (λ bytes. Reads bytes (Err c.in-Err.fault)) text c.in-Err.ensures.reads),
      search rules,
    )
