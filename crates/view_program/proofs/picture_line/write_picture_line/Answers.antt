use Rattle.std.proofs.Common.{◌≡◌, Err, OnOk, rules, subst}
use Rattle.std.specs.Io.KnownBytes.{Appends}
use Rattle.std.proofs.KnownBytes.{Appends-trans}
use Rattle.std.specs.Prelude.{OnErr}
use Rattle.std.proofs.result.Match.{err_is}
use Rattle.std.proofs.lemmas.Result.{on_err_weaker, on_ok_weaker}
use Rattle.plane.proofs.Beginnings.{beginning_of_more, text_and_beginning}
use Rattle.plane.specs.Device.{AppendsBeginning}
use Rattle.view_program.specs.PictureLine.{scale_words}
use Rattle.view_program.proofs.picture_line.write_picture_line.Goals as goal

pub returns-clause-written : goal.returns-clause-written
returns-clause-written g c =
    let name : c.as_bytes.result.now ≡ c.args.name.now = search rules in
    let words = c.scale_words-line.ensures in
    let first = subst (λ bytes. Appends (g.W.Sink.taken c.args.out.now) (g.W.Sink.taken c.write_all.new.sink) bytes) name c.in_ok-write_all.ensures.written in
    on_ok_weaker c.write_to.result
    (λ wrote. Appends-trans _ _ _ c.args.name.now (scale_words c.args.shown c.args.scale) first wrote)
    (subst (λ bytes. OnOk c.write_to.result (Appends (g.W.Sink.taken c.write_all.new.sink) (g.W.Sink.taken c.write_to.new.sink) bytes)) words c.write_to.ensures.written)

pub returns-in_err-write_all-clause-beginning : goal.returns-in_err-write_all-clause-beginning
returns-in_err-write_all-clause-beginning g c =
    let name : c.as_bytes.result.now ≡ c.args.name.now = search rules in
    let first = subst (AppendsBeginning (g.W.Sink.taken c.args.out.now) (g.W.Sink.taken c.write_all.new.sink)) name c.in_err-write_all.ensures.beginning in
    let is : c.from_residual.result ≡ Err c.in_err-write_all.field-0.0 = err_is _ _ c.from_residual.ensures.1 in
    rw is (beginning_of_more (scale_words c.args.shown c.args.scale) first)

pub returns-clause-beginning : goal.returns-clause-beginning
returns-clause-beginning g c =
    let name : c.as_bytes.result.now ≡ c.args.name.now = search rules in
    let words = c.scale_words-line.ensures in
    let first = subst (λ bytes. Appends (g.W.Sink.taken c.args.out.now) (g.W.Sink.taken c.write_all.new.sink) bytes) name c.in_ok-write_all.ensures.written in
    on_err_weaker c.write_to.result
    (λ begun. text_and_beginning c.args.name.now first begun)
    (subst (λ bytes. OnErr c.write_to.result (AppendsBeginning (g.W.Sink.taken c.write_all.new.sink) (g.W.Sink.taken c.write_to.new.sink) bytes)) words c.write_to.ensures.beginning)
