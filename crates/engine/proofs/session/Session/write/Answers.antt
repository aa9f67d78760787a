use Rattle.std.proofs.Common.{◌≡◌, ◌∙◌, List, ℕ, refl, rules, subst, sym, true}
use Rattle.std.specs.Prelude.{IfErr, OnOk}
use Rattle.plane.specs.Device.{AppendsBeginning}
use Rattle.plane.specs.Plane.{Plane}
use Rattle.pattern_writers.specs.Output.{IfTaken, IsWriterRefusal}
use Rattle.engine.specs.Formats.{Exceeds, HasText, format_of}
use Rattle.engine.specs.Pattern.{plane_of}
use Rattle.engine.specs.Sessions.{comments_of}
use Rattle.engine.specs.States.{is_there, state_cells}
use Rattle.engine.proofs.Sessions.{same_by_state, whenever}
use Rattle.engine.proofs.session.Session.write.Goals as goal

pub returns-clause-read_back : goal.returns-clause-read_back
returns-clause-read_back g c =
    let is : plane_of c.in_ok-pattern.pattern.now ≡ state_cells c.rest.new.self = rw c.in_ok-pattern.ensures.ok_part at c.pattern.ensures.some in
    let written : Plane → List (List ℕ) → Type 0 = λ (p : Plane) (comments : List (List ℕ)). OnOk c.write.result (IfTaken (g.V.Sink.taken c.args.file.now) (g.V.Sink.taken c.write.new.file) ((format_of c.args.format).IsReadBack p comments c.args.self.now.rule c.args.self.now.generation)) in
    subst (λ (p : Plane). written p (comments_of c.args.self.now)) is (subst (λ (comments : List (List ℕ)). written (plane_of c.in_ok-pattern.pattern.now) comments) c.comments.ensures c.write.ensures.read_back)

pub returns-in_err-pattern-clause-same : goal.returns-in_err-pattern-clause-same
returns-in_err-pattern-clause-same g c = same_by_state c.args.self.now _ refl refl refl c.rest.ensures.same

pub returns-in_err-pattern-clause-results : goal.returns-in_err-pattern-clause-results
returns-in_err-pattern-clause-results g c = c.rest.ensures.results

pub returns-clause-same : goal.returns-clause-same
returns-clause-same g c = same_by_state c.args.self.now _ refl refl refl c.rest.ensures.same

pub returns-clause-results : goal.returns-clause-results
returns-clause-results g c = c.rest.ensures.results

pub returns-clause-closed : goal.returns-clause-closed
returns-clause-closed g c =
    let there : is_there c.rest.new.self ≡ true = search rules in
    whenever c.write.result (sym c.rest.ensures.same.there ∙ there)

pub returns-clause-refused : goal.returns-clause-refused
returns-clause-refused g c =
    let is : plane_of c.in_ok-pattern.pattern.now ≡ state_cells c.rest.new.self = rw c.in_ok-pattern.ensures.ok_part at c.pattern.ensures.some in
    let refused : Plane → List (List ℕ) → Type 0 = λ (p : Plane) (comments : List (List ℕ)). IfErr c.write.result
    (IsWriterRefusal g.V.Sink.failure_count c.args.file.now c.write.new.file (Exceeds (format_of c.args.format) p)
    (HasText (format_of c.args.format) p comments c.args.self.now.rule c.args.self.now.generation
    (AppendsBeginning (g.V.Sink.taken c.args.file.now) (g.V.Sink.taken c.write.new.file)))) in
    subst (λ (p : Plane). refused p (comments_of c.args.self.now)) is
    (subst (λ (comments : List (List ℕ)). refused (plane_of c.in_ok-pattern.pattern.now) comments) c.comments.ensures c.write.ensures.refused)
