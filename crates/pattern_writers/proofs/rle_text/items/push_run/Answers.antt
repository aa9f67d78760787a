use Rattle.std.proofs.Common.{rules, ap, sym, ◌∙◌, of_z, to_z, w64, SFits}
use Rattle.std.proofs.lemmas.Int.{to_z-of_z}
use Rattle.pattern_writers.proofs.BodyText.{run_items-pushed, chosen_other, chosen_same}
use Rattle.pattern_writers.proofs.rle_text.items.push_run.Goals as goal
use Rattle.pattern_writers.proofs.rle_text.items.push_run.Goals.{then-run-next, else-run-next}

pub returns : goal.returns
returns c =
    let row : SFits w64 c.args.run.row = search rules in
    let next : SFits w64 c.args.next.y = search rules in
    run_items-pushed c.args.items.now.items c.push_counted.new.items.items c.push_counted-2.new.items.items _ c.args.left c.args.next c.args.run
    c.if-run-next.start c.abs_diff.result c.abs_diff-2.result c.abs_diff-3.result
    (search rules)
    (elim c.if-run-next.branch [ then-run-next w ↦ chosen_same c.args.run.row c.args.next.y _ _ _ (sym (to_z-of_z w64 _ row) ∙ ap (to_z w64) w.if-run-next.true ∙ to_z-of_z w64 _ next) (search rules) | else-run-next w ↦ chosen_other c.args.run.row c.args.next.y _ _ _ (λ same. w.if-run-next.false (ap (of_z w64) same)) (search rules) ])
    (search rules) (search rules) c.in_ok-push_counted.ensures c.in_ok-push_counted-2.ensures c.in_ok-push_counted-3.ensures
