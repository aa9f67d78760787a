use Rattle.std.proofs.Common.{◌≡◌, ◌++◌, ◌∙◌, get_or, flat_map, Vec, Global, ap, sym, SFits, w64, rules}
use Rattle.std.proofs.lemmas.Int.{to_z-of_z}
use Rattle.std.proofs.lemmas.Result.{IfOk-from_err}
use Rattle.pattern_writers.specs.Items.{cell_after, items_of}
use Rattle.pattern_writers.specs.declared.rle_text.row_run.RowRun.{RowRun}
use Rattle.pattern_writers.proofs.BodyText.{all_bands_pushed, items_of-band}
use Rattle.pattern_writers.proofs.rle_text.items.items.Goals as goal

pub loop-band-preserved : goal.loop-band-preserved
loop-band-preserved c =
    let x : SFits w64 c.args.corner.x = search rules in
    let y : SFits w64 c.args.corner.y = search rules in
    let left = to_z-of_z w64 c.args.corner.x x in
    let band = get_or c.args.bands.now c.loop-band.band-index c.band-item.result in
    let runs : c.deref.result.now ≡ band.items = search rules in
    let pushed : c.push_runs.new.items.items ≡ c.loop-band.items.items ++ items_of c.args.corner.x c.loop-band.next band.items = (rw left at c.in_ok-next.ensures.items) ∙ ap (λ l. c.loop-band.items.items ++ items_of c.args.corner.x c.loop-band.next l) runs in
    let after : c.in_ok-next.next ≡ cell_after c.loop-band.next band.items = c.in_ok-next.ensures.next ∙ ap (cell_after c.loop-band.next) runs in
    c.loop-band.invariant
    ∙ items_of-band c.args.corner.x c.loop-band.next c.in_ok-next.next c.args.bands.now c.loop-band.band-index c.band-item.result c.loop-band.items.items c.push_runs.new.items.items c.loop-band-test.true pushed after

pub loop-band-init : goal.loop-band-init
loop-band-init c =
    let corner = c.args.corner in
    let runs = flat_map (λ (band : Vec RowRun Global). band.items) c.args.bands.now in
    ap (λ l. l ++ items_of corner.x corner runs) (sym c.new-items.ensures.items)

pub returns : goal.returns
returns c =
    let none = all_bands_pushed c.args.corner.x c.loop-band.next c.args.bands.now c.loop-band.band-index c.loop-band.items.items c.loop-band-test.false in
    sym (c.loop-band.invariant ∙ none)

pub returns-in_err-next : goal.returns-in_err-next
returns-in_err-next c = IfOk-from_err c.from_residual.result _ c.from_residual.ensures.0
