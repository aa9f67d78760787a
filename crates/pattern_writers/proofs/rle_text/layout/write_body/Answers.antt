use Rattle.std.proofs.Common.{◌+◌, ◌∷◌, ◌++◌, ◌∙◌, [], append-nil, append_assoc, length, codes, refl, sym, ap, subst, rules, arith, ◌≡◌, ◌≤◌}
use Rattle.std.proofs.lemmas.List.{take_all}
use Rattle.std.proofs.lemmas.Result.{IfOk-from_err, on_err_weaker, on_ok_weaker}
use Rattle.pattern_writers.specs.Layout.{body_text, laid_out}
use Rattle.pattern_writers.proofs.BlocksOut.{broken_off, buffered_more, buffered_none, on_err, passed_on, told_since}
use Rattle.pattern_writers.proofs.BodyText.{LaysOut-more, body_text-ends, body_text-so_far}
use Rattle.pattern_writers.proofs.rle_text.layout.write_body.Goals as goal

pub loop-item-preserved : goal.loop-item-preserved
loop-item-preserved g c =
    let before = c.loop-item.invariant.2 in
    let put = c.in_ok-add_to_line.ensures.laid in (
      search rules,
      search rules,
      (
        before.0 ++ put.0,
        buffered_more before.1 put.1,
        LaysOut-more c.args.items.now c.loop-item.item-index _ c.as_str.result.now _ _ before.0 put.0 (search rules) (c.as_str.ensures.bytes ∙ c.text.ensures) before.2 put.2,
      ),
    )

pub returns-clause-written : goal.returns-clause-written
returns-clause-written g c =
    let items = c.args.items.now in
    let before = rw (take_all c.loop-item.item-index items (omega arith)) at c.loop-item.invariant.2 in
    let put = c.in_ok-add_to_line-2.ensures.laid in
    let last = c.add_to_line-2.new.line.bytes in
    let whole : body_text items ≡ (before.0 ++ put.0) ++ (last ++ codes "\n") = body_text-ends items _ last before.0 put.0 before.2 put.2 in
    on_ok_weaker c.end_line.result
    (λ wrote. rw whole (buffered_more (buffered_more before.1 put.1) wrote))
    c.end_line.ensures.written

pub loop-item-init : goal.loop-item-init
loop-item-init g c =
    let empty = c.new-line.ensures in (
      subst (λ l. length l ≤ 70) (sym empty) (omega arith),
      refl,
      ([], buffered_none _ _, λ rest. ap (λ l. laid_out l rest) (sym empty)),
    )

pub returns-in_err-add_to_line-clause-written : goal.returns-in_err-add_to_line-clause-written
returns-in_err-add_to_line-clause-written g c = IfOk-from_err c.from_residual.result _ c.from_residual.ensures.0

pub returns-in_err-add_to_line-2-clause-written : goal.returns-in_err-add_to_line-2-clause-written
returns-in_err-add_to_line-2-clause-written g c = IfOk-from_err c.from_residual-in_err-add_to_line-2.result _ c.from_residual-in_err-add_to_line-2.ensures.0

pub returns-in_err-add_to_line-clause-failure : goal.returns-in_err-add_to_line-clause-failure
returns-in_err-add_to_line-clause-failure g c =
    passed_on _ _ _ c.in_err-add_to_line.field-0.0 _ c.loop-item.invariant.1 c.from_residual.ensures.0 c.from_residual.ensures.1 c.in_err-add_to_line.ensures.failure

pub returns-in_err-add_to_line-2-clause-failure : goal.returns-in_err-add_to_line-2-clause-failure
returns-in_err-add_to_line-2-clause-failure g c =
    passed_on _ _ _ c.in_err-add_to_line-2.field-0.0 _ c.loop-item.invariant.1 c.from_residual-in_err-add_to_line-2.ensures.0 c.from_residual-in_err-add_to_line-2.ensures.1 c.in_err-add_to_line-2.ensures.failure

pub returns-clause-failure : goal.returns-clause-failure
returns-clause-failure g c =
    let since = c.in_ok-add_to_line-2.ensures.failure.unfailed ∙ c.loop-item.invariant.1 in
    told_since _ _ _ c.end_line.result since c.end_line.ensures.failure

pub returns-in_err-add_to_line-clause-beginning : goal.returns-in_err-add_to_line-clause-beginning
returns-in_err-add_to_line-clause-beginning g c =
    let items = c.args.items.now in
    let before = c.loop-item.invariant.2 in
    let begun = c.in_err-add_to_line.ensures.beginning in
    let so_far = LaysOut-more items c.loop-item.item-index _ c.as_str.result.now _ _ before.0 begun.0 (search rules) (c.as_str.ensures.bytes ∙ c.text.ensures) before.2 begun.2 in
    let whole = body_text-so_far items (c.loop-item.item-index + 1) c.as_str.result.now (before.0 ++ begun.0) so_far in
    on_err c.from_residual.result (broken_off begun.0 _ (body_text items) before.1 begun.1 (whole ∙ append_assoc before.0 begun.0 _))

pub returns-in_err-add_to_line-2-clause-beginning : goal.returns-in_err-add_to_line-2-clause-beginning
returns-in_err-add_to_line-2-clause-beginning g c =
    let items = c.args.items.now in
    let before = rw (take_all c.loop-item.item-index items (omega arith)) at c.loop-item.invariant.2 in
    let begun = c.in_err-add_to_line-2.ensures.beginning in
    let whole = before.2 (codes "!" ∷ []) ∙ ap (λ l. before.0 ++ l) (begun.2 []) in
    on_err c.from_residual-in_err-add_to_line-2.result (broken_off begun.0 _ (body_text items) before.1 begun.1 whole)

pub returns-clause-beginning : goal.returns-clause-beginning
returns-clause-beginning g c =
    let items = c.args.items.now in
    let before = rw (take_all c.loop-item.item-index items (omega arith)) at c.loop-item.invariant.2 in
    let put = c.in_ok-add_to_line-2.ensures.laid in
    let last = c.add_to_line-2.new.line.bytes ++ codes "\n" in
    let whole : body_text items ≡ (before.0 ++ put.0) ++ last = body_text-ends items _ c.add_to_line-2.new.line.bytes before.0 put.0 before.2 put.2 in
    on_err_weaker c.end_line.result
    (λ begun. broken_off last [] (body_text items) (buffered_more before.1 put.1) begun (whole ∙ ap (λ l. (before.0 ++ put.0) ++ l) (sym (append-nil last)))) c.end_line.ensures.beginning
