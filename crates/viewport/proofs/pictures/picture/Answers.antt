use Rattle.std.proofs.Common.{◌≡◌, Err, refl, rules}
use Rattle.std.proofs.result.Match.{err_is}
use Rattle.viewport.proofs.PictureLines.{broken_off, nothing_written, written_on}
use Rattle.viewport.proofs.pictures.picture.Goals as goal

pub loop-row-init : goal.loop-row-init
loop-row-init g c = (refl, nothing_written _ _ _)

pub loop-row-preserved : goal.loop-row-preserved
loop-row-preserved g c = (search rules, written_on _ _ _ _ _ _ _ c.draw_row.ensures c.loop-row.invariant.1 c.in_ok-write_all.ensures.written)

pub returns-in_err-write_all-clause-beginning : goal.returns-in_err-write_all-clause-beginning
returns-in_err-write_all-clause-beginning g c =
    let is : c.from_residual.result ≡ Err c.in_err-write_all.field-0.0 = err_is _ _ c.from_residual.ensures.1 in
    rw is (broken_off _ _ c.loop-row.row _ (search rules) c.draw_row.ensures c.loop-row.invariant.1 c.in_err-write_all.ensures.beginning)
