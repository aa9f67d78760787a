use Rattle.std.proofs.Common.{pos, refl, sym, ap, ◌∙◌, w64, rules}
use Rattle.std.proofs.lemmas.Int.{to_z-of_z}
use Rattle.std.proofs.lemmas.List.{drop_all}
use Rattle.std.proofs.lemmas.Result.{IfOk-from_err}
use Rattle.pattern_writers.specs.Items.{cell_after}
use Rattle.pattern_writers.proofs.BodyText.{all_pushed, cell_after-more, items_of-more}
use Rattle.pattern_writers.proofs.rle_text.items.push_runs.Goals as goal

pub loop-run-preserved : goal.loop-run-preserved
loop-run-preserved c =
    let left = to_z-of_z w64 c.args.left c.ranges.left in
    let before = rw left at c.loop-run.invariant in
    let pushed = rw left at c.in_ok-push_run.ensures in
    rw left (
      before.0
          ∙ items_of-more c.args.left c.loop-run.next c.args.runs.now c.loop-run.run-index (record { row = pos 0; first = pos 0; end = pos 0 }) c.loop-run.items.items (search rules)
          ∙ (search rules),
      before.1
          ∙ cell_after-more c.loop-run.next c.args.runs.now c.loop-run.run-index (record { row = pos 0; first = pos 0; end = pos 0 }) (search rules)
          ∙ (search rules),
    )

pub loop-run-init : goal.loop-run-init
loop-run-init c = (refl, refl)

pub returns-clause-items : goal.returns-clause-items
returns-clause-items c =
    let runs = c.args.runs.now in
    let none = all_pushed c.args.left c.loop-run.next runs c.loop-run.run-index c.loop-run.items.items c.loop-run-test.false in
    sym ((rw (to_z-of_z w64 c.args.left c.ranges.left) at c.loop-run.invariant.0) ∙ none)

pub returns-clause-next : goal.returns-clause-next
returns-clause-next c =
    let none = drop_all c.loop-run.run-index c.args.runs.now c.loop-run-test.false in
    sym (c.loop-run.invariant.1 ∙ ap (cell_after c.loop-run.next) none)

pub returns-in_err-push_run-clause-items : goal.returns-in_err-push_run-clause-items
returns-in_err-push_run-clause-items c = IfOk-from_err c.from_residual.result _ c.from_residual.ensures.0

pub returns-in_err-push_run-clause-next : goal.returns-in_err-push_run-clause-next
returns-in_err-push_run-clause-next c = IfOk-from_err c.from_residual.result _ c.from_residual.ensures.0
