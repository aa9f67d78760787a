use Rattle.std.proofs.Common.{Some, subst}
use Rattle.rule_text.specs.CountRule.{CountRule}
use Rattle.engine.specs.Pattern.{plane_of}
use Rattle.engine.specs.Sessions.{IsOpenedFor, cells_of, opening}
use Rattle.pipe_program.proofs.ShownPatterns.{displaced}
use Rattle.pipe_program.proofs.looking.displacement_of.Goals as goal

pub returns-clause-ok : goal.returns-clause-ok
returns-clause-ok g c =
    displaced c.args.file.now c.args.session.now.rule c.args.pairs (cells_of c.args.session.now) (plane_of c.in_ok-first.first) c.in_ok-other.other c.in_ok-displacement_from.field-0
    (subst (λ (rule : CountRule). IsOpenedFor c.args.file.now (opening (Some rule) c.args.pairs) c.in_ok-other.other) c.rule.ensures c.in_ok-other.ensures.ok)
    c.in_ok-first.ensures.ok c.in_ok-displacement_from.ensures.some c.in_ok-displacement_from.ensures.still c.in_ok-displacement_from.ensures.none
