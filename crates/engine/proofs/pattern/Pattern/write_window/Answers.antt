use Rattle.std.proofs.Common.{subst}
use Rattle.std.specs.Prelude.{OnErr, OnOk}
use Rattle.std.specs.Io.KnownBytes.{Appends}
use Rattle.plane.specs.Device.{AppendsBeginning}
use Rattle.plane.specs.Plane.{Plane}
use Rattle.viewport.specs.Picture.{picture_text}
use Rattle.engine.proofs.CellsAtRest.{same_cells}
use Rattle.engine.proofs.pattern.Pattern.write_window.Goals as goal

pub returns-in-Some-clause-written : goal.returns-in-Some-clause-written
returns-in-Some-clause-written g c =
    let same = same_cells c.args.self.now.resting.cells c.still.result.now c.root.result c.still.ensures c.root.ensures.root in
    rw c.in-Some.is (subst (λ (p : Plane). OnOk c.picture.result
    (Appends (g.W.Sink.taken c.args.report.now) (g.W.Sink.taken c.picture.new.sink) (picture_text p c.in-Some.window)))
    same c.picture.ensures.drawn)

pub returns-in-Some-clause-beginning : goal.returns-in-Some-clause-beginning
returns-in-Some-clause-beginning g c =
    let same = same_cells c.args.self.now.resting.cells c.still.result.now c.root.result c.still.ensures c.root.ensures.root in
    rw c.in-Some.is (subst (λ (p : Plane). OnErr c.picture.result
    (AppendsBeginning (g.W.Sink.taken c.args.report.now) (g.W.Sink.taken c.picture.new.sink) (picture_text p c.in-Some.window)))
    same c.picture.ensures.beginning)
