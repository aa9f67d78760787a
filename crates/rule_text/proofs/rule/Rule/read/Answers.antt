use Rattle.std.proofs.Common.{sym, ◌∙◌}
use Rattle.rule_text.specs.RuleText.{Fits}
use Rattle.rule_text.specs.RuleCut.{seen_parts}
use Rattle.rule_text.proofs.Readings.{reads-no_parts, reads-unfit, reads-birth_on_zero, reads-rule, IsRule-found}
use Rattle.rule_text.proofs.rule.Rule.read.Goals as goal

pub returns-in_default-clause-reads : goal.returns-in_default-clause-reads
returns-in_default-clause-reads c = reads-no_parts c.args.text.now (sym c.in_default.ensures.parts)

pub returns-in_default-read-clause-reads : goal.returns-in_default-read-clause-reads
returns-in_default-read-clause-reads c =
    reads-unfit c.args.text.now (seen_parts c.in-Some.parts) (sym c.in-Some.ensures.parts)
    (λ fits. c.in_default-read.ensures.unfit fits.birth)

pub returns-in_default-read-2-clause-reads : goal.returns-in_default-read-2-clause-reads
returns-in_default-read-2-clause-reads c =
    reads-unfit c.args.text.now (seen_parts c.in-Some.parts) (sym c.in-Some.ensures.parts)
    (λ fits. c.in_default-read-2.ensures.unfit fits.survival)

pub returns-then-contains-clause-reads : goal.returns-then-contains-clause-reads
returns-then-contains-clause-reads c =
    reads-birth_on_zero c.args.text.now (seen_parts c.in-Some.parts) c.in-Some-read.birth (sym c.in-Some.ensures.parts)
    (record { birth = c.in-Some-read.ensures.fit; survival = c.in-Some-read-2.ensures.fit }) c.in-Some-read.ensures.digits
    (sym c.contains.ensures ∙ c.if-contains.true)

fits : (c : goal.Else-contains) → Fits (seen_parts c.in-Some.parts)
fits c = record { birth = c.in-Some-read.ensures.fit; survival = c.in-Some-read-2.ensures.fit }

pub invariant_of-result : goal.invariant_of-result
invariant_of-result c =
    IsRule-found (seen_parts c.in-Some.parts) c.in-Some-read.birth c.in-Some-read-2.survival (fits c) c.in-Some-read.ensures.digits
    c.in-Some-read-2.ensures.digits (sym c.contains.ensures ∙ c.if-contains.false)

pub returns-clause-reads : goal.returns-clause-reads
returns-clause-reads c =
    reads-rule (seen_parts c.in-Some.parts) c.in-Some-read.birth c.in-Some-read-2.survival (fits c) c.in-Some-read.ensures.digits
    c.in-Some-read-2.ensures.digits (sym c.contains.ensures ∙ c.if-contains.false) c.args.text.now (sym c.in-Some.ensures.parts)

pub returns-clause-rule : goal.returns-clause-rule
returns-clause-rule c = invariant_of-result c
