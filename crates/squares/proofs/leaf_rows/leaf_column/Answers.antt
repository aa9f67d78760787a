use Rattle.std.proofs.Common.{◌+◌, ◌*◌, ◌∙◌, arith, rules}
use Rattle.squares.proofs.LeafColumns.{passed_more, same_more, slice_next, slice_order, slice_rows, word_more}
use Rattle.squares.proofs.SpanCells.{bit_or_is}
use Rattle.squares.proofs.leaf_rows.leaf_column.Goals as goal

pub row_bits-word-requires-clause-order : goal.row_bits-word-requires-clause-order
row_bits-word-requires-clause-order c = slice_order c.args.spans.now c.pass_spans-count.result c.requires.order

pub row_bits-word-requires-clause-rows : goal.row_bits-word-requires-clause-rows
row_bits-word-requires-clause-rows c = slice_rows c.args.spans.now c.pass_spans-count.result (c.loop-y.y + c.args.top) (8 * c.args.column) c.requires.order c.pass_spans-count.ensures.next

pub same_up_to-requires-clause-order : goal.same_up_to-requires-clause-order
same_up_to-requires-clause-order c = slice_order c.args.spans.now c.pass_spans-count.result c.requires.order

pub same_up_to-requires-clause-next : goal.same_up_to-requires-clause-next
same_up_to-requires-clause-next c = slice_next c.args.spans.now c.pass_spans-count.result (c.loop-y.y + c.args.top) (8 * c.args.column) c.pass_spans-count.ensures.next

pub loop-y-preserved : goal.loop-y-preserved
loop-y-preserved c =
    let spans = c.args.spans.now in
    let count = c.pass_spans-count.result in
    let passed = c.pass_spans-count.ensures.passed in
    let before = c.loop-y.invariant in record {
      word = λ x y hx hy. bit_or_is c.loop-y.word c.row_bits-word.result (8 * y + x)
          ∙ word_more spans count c.loop-y.y c.args.top c.args.column passed x y _ _ (before.word x y hx hy) (c.row_bits-word.ensures x y hx hy);
      behind = (let e = c.min-end.ensures in let h = c.same_up_to.ensures.behind in omega (arith, e, h, before.behind));
      same = same_more spans count c.loop-y.y c.args.top c.args.column passed c.loop-y.end c.same_up_to.result _ c.min-end.ensures before.same c.same_up_to.ensures.same;
      passed = passed_more spans count c.loop-y.y c.args.top c.args.column passed c.loop-y.passed (search rules) c.loop-y-test.true c.pass_spans-count.ensures.within before.passed;
    }
