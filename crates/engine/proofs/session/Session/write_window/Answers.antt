use Rattle.std.proofs.Common.{◌≡◌, ◌∙◌, refl, rules, subst, sym, true}
use Rattle.std.specs.Prelude.{OnErr, OnOk}
use Rattle.std.specs.Io.KnownBytes.{Appends}
use Rattle.plane.specs.Device.{AppendsBeginning}
use Rattle.plane.specs.Plane.{Plane}
use Rattle.engine.specs.Pattern.{plane_of}
use Rattle.engine.specs.Report.{window_text}
use Rattle.engine.specs.States.{is_there, state_cells}
use Rattle.engine.proofs.Sessions.{refused_window, same_by_state, whenever}
use Rattle.engine.proofs.session.Session.write_window.Goals as goal

pub returns-clause-refused : goal.returns-clause-refused
returns-clause-refused g c =
    let is : plane_of c.in_ok-pattern.pattern.now ≡ state_cells c.rest.new.self = rw c.in_ok-pattern.ensures.ok_part at c.pattern.ensures.some in
    refused_window _ _ _ _ (c.write_window.ensures.failure.refused)
    (subst (λ (p : Plane). OnErr c.write_window.result (AppendsBeginning (g.W.Sink.taken c.args.report.now) (g.W.Sink.taken c.write_window.new.report) (window_text c.args.window p))) is c.write_window.ensures.beginning)

pub returns-in_err-pattern-clause-same : goal.returns-in_err-pattern-clause-same
returns-in_err-pattern-clause-same g c = same_by_state c.args.self.now _ refl refl refl c.rest.ensures.same

pub returns-in_err-pattern-clause-results : goal.returns-in_err-pattern-clause-results
returns-in_err-pattern-clause-results g c = c.rest.ensures.results

pub returns-clause-same : goal.returns-clause-same
returns-clause-same g c = same_by_state c.args.self.now _ refl refl refl c.rest.ensures.same

pub returns-clause-results : goal.returns-clause-results
returns-clause-results g c = c.rest.ensures.results

pub returns-clause-closed : goal.returns-clause-closed
returns-clause-closed g c =
    let there : is_there c.rest.new.self ≡ true = search rules in
    whenever c.write_window.result (sym c.rest.ensures.same.there ∙ there)

pub returns-clause-written : goal.returns-clause-written
returns-clause-written g c =
    let is : plane_of c.in_ok-pattern.pattern.now ≡ state_cells c.rest.new.self = rw c.in_ok-pattern.ensures.ok_part at c.pattern.ensures.some in
    subst (λ (p : Plane). OnOk c.write_window.result (Appends (g.W.Sink.taken c.args.report.now) (g.W.Sink.taken c.write_window.new.report)
    (window_text c.args.window p))) is c.write_window.ensures.written
