use Rattle.std.proofs.Common.{refl, subst, sym}
use Rattle.engine.specs.States.{IsSameState}
use Rattle.engine.specs.declared.state.State.{State}
use Rattle.engine.specs.declared.state.State.TheVariants.{AtWork}
use Rattle.engine.proofs.Sessions.{asked, same_by_state}
use Rattle.engine.proofs.session.Session.bounds.Goals as goal

pub returns-in-AtWork-clause-same : goal.returns-in-AtWork-clause-same
returns-in-AtWork-clause-same c =
    same_by_state c.args.self.now _ refl refl refl (subst (λ (s : State). IsSameState s (AtWork c.bounds.new.self)) (sym c.in-AtWork.is)
    (asked {old = c.in-AtWork.universe} {new = c.bounds.new.self} c.bounds.ensures.same))
