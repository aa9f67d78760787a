use Rattle.std.proofs.Common.{sym, ◌∙◌}
use Rattle.engine.proofs.Sessions.{resumed}
use Rattle.engine.proofs.state.State.take_universe.Goals as goal

pub returns-in_ok-resume-in-AtRest-clause-same : goal.returns-in_ok-resume-in-AtRest-clause-same
returns-in_ok-resume-in-AtRest-clause-same c =
    resumed c.args.self.now c.in-AtRest.pattern c.in_ok-resume-in-AtRest.field-0 (sym c.replace.ensures.value ∙ c.in-AtRest.is)
    c.in_ok-resume-in-AtRest.ensures.same
