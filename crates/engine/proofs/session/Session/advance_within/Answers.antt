use Rattle.std.proofs.Common.{◌≡◌, ◌∙◌, Err, ap, arith, refl, subst, sym, inl, inr}
use Rattle.std.proofs.result.Match.{err_is}
use Rattle.plane.specs.declared.refusal.Refusal.TheVariants.{NoMemory}
use Rattle.plane.proofs.Same.{same_trans}
use Rattle.engine.specs.States.{IsByRule, is_there}
use Rattle.universe.specs.Advances.{IsAdvance}
use Rattle.universe.specs.declared.advances.Advance.{Advance}
use Rattle.engine.proofs.Sessions.{held_at_work, later_by, stuck_by}
use Rattle.engine.proofs.session.Session.advance_within.Goals as goal

pub advance-requires-clause-held : goal.advance-requires-clause-held
advance-requires-clause-held g c κs within = held_at_work c.args.self.now c.in_ok-universe.universe c.args.generations c.in_ok-universe.ensures.same c.requires.held

pub advance-requires-clause-short : goal.advance-requires-clause-short
advance-requires-clause-short g c κs within = λ some. c.requires.short (λ none. some (same_trans c.in_ok-universe.ensures.same.cells none))

pub returns-in-Done-clause-ok : goal.returns-in-Done-clause-ok
returns-in-Done-clause-ok g c =
    let later = subst (λ (advance : Advance). IsAdvance c.in_ok-universe.universe c.args.generations advance) c.in-Done.is c.in_ok-later.ensures.ok in
    later_by c.args.self.now _ c.in_ok-universe.universe c.in-Done.later c.args.generations refl refl refl c.in_ok-universe.ensures.same later c.put_universe.ensures

pub returns-in-Stuck-clause-refused : goal.returns-in-Stuck-clause-refused
returns-in-Stuck-clause-refused g c =
    let stuck = subst (λ (advance : Advance). IsAdvance c.in_ok-universe.universe c.args.generations advance) c.in-Stuck.is c.in_ok-later.ensures.ok in
    inl (refl, stuck_by c.args.self.now _ c.in_ok-universe.universe c.in-Stuck.there c.args.generations c.in-Stuck.done refl refl refl c.in_ok-universe.ensures.same stuck c.put_universe-in-Stuck.ensures)

pub returns-in_err-universe-clause-refused : goal.returns-in_err-universe-clause-refused
returns-in_err-universe-clause-refused g c =
    let is : c.from_residual.result ≡ Err NoMemory = err_is _ _ c.from_residual.ensures.1 ∙ ap Err c.in_err-universe.ensures.memory in
    rw is (inr (refl, record { comments = refl; rule = refl; generation = refl; closed = ap is_there c.take_universe.ensures.lost }))

pub returns-in_err-later-clause-refused : goal.returns-in_err-later-clause-refused
returns-in_err-later-clause-refused g c =
    let is : c.from_residual-in_err-later.result ≡ Err NoMemory = err_is _ _ c.from_residual-in_err-later.ensures.1 in
    rw is (inr (refl, record { comments = refl; rule = refl; generation = refl; closed = ap is_there c.take_universe.ensures.lost }))

pub invariant_of-self-in-Done : goal.invariant_of-self-in-Done
invariant_of-self-in-Done g c =
    let later = subst (λ (advance : Advance). IsAdvance c.in_ok-universe.universe c.args.generations advance) c.in-Done.is c.in_ok-later.ensures.ok in
    let by = c.in_ok-universe.ensures.same.rule c.args.self.now.rule c.args.self.now.by_rule in
    record {
      lawful = c.args.self.now.lawful;
      by_rule = subst (IsByRule c.args.self.now.rule) (sym c.put_universe.ensures) (later.rule ∙ by);
      last = c.requires.last;
    }

pub invariant_of-self-in-Stuck : goal.invariant_of-self-in-Stuck
invariant_of-self-in-Stuck g c =
    let stuck = subst (λ (advance : Advance). IsAdvance c.in_ok-universe.universe c.args.generations advance) c.in-Stuck.is c.in_ok-later.ensures.ok in
    let by = c.in_ok-universe.ensures.same.rule c.args.self.now.rule c.args.self.now.by_rule in
    let before = stuck.before in
    let last = c.requires.last in
    record {
      lawful = c.args.self.now.lawful;
      by_rule = subst (IsByRule c.args.self.now.rule) (sym c.put_universe-in-Stuck.ensures) (stuck.later.rule ∙ by);
      last = omega (arith, before, last);
    }
