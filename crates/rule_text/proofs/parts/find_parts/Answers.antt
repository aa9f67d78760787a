use Rattle.std.proofs.Common.{rules}
use Rattle.rule_text.specs.RuleCut.{seen_body}
use Rattle.rule_text.proofs.FoundParts.{no_parts, parts_found}
use Rattle.rule_text.proofs.parts.find_parts.Goals as goal

pub returns-then-not-is_empty-clause-parts : goal.returns-then-not-is_empty-clause-parts
returns-then-not-is_empty-clause-parts c =
    let found = parts_found c.args.text.now c.trim_start.result.now c.trim_start.ensures (seen_body c.in_ok-birth.field-0)
    c.leading_neighbourhood-neighbourhood.result.0 c.leading_neighbourhood-neighbourhood.result.1.now c.trim_start-2.result.now
    c.in_ok-birth.ensures.body c.leading_neighbourhood-neighbourhood.ensures c.trim_start-2.ensures in
    search rules

pub returns-in_err-birth-clause-parts : goal.returns-in_err-birth-clause-parts
returns-in_err-birth-clause-parts c =
    let none = no_parts c.args.text.now c.trim_start.result.now c.trim_start.ensures c.in_err-birth.ensures.body in
    search rules

pub returns-clause-parts : goal.returns-clause-parts
returns-clause-parts c =
    let found = parts_found c.args.text.now c.trim_start.result.now c.trim_start.ensures (seen_body c.in_ok-birth.field-0)
    c.leading_neighbourhood-neighbourhood.result.0 c.leading_neighbourhood-neighbourhood.result.1.now c.trim_start-2.result.now
    c.in_ok-birth.ensures.body c.leading_neighbourhood-neighbourhood.ensures c.trim_start-2.ensures in
    search rules
