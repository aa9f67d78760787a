use Rattle.std.proofs.Common.{◌∙◌}
use Rattle.viewport.proofs.LeafBlocks.{span_begun, span_more}
use Rattle.viewport.proofs.block_spans.count_leaf_span.Goals as goal

pub loop-column-init : goal.loop-column-init
loop-column-init c = span_begun c.args.word c.args.exponent c.args.span.row c.args.span.from c.args.found.now.items

pub loop-column-preserved : goal.loop-column-preserved
loop-column-preserved c =
    c.in_ok-push.ensures.items
    ∙ span_more c.args.word c.args.exponent c.args.span.row c.args.span.from c.loop-column.column _ c.args.found.now.items c.loop-column.found.items
    c.loop-column.auto.column c.loop-column.invariant (c.from.ensures ∙ c.count_in_leaf.ensures)
