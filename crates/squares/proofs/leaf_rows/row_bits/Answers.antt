use Rattle.std.proofs.Common.{◌+◌, ◌*◌, ◌∙◌, ap, sym, refl, arith}
use Rattle.std.specs.Prelude.{◌&&◌, ◌==◌}
use Rattle.std.proofs.lemmas.Bool.{false≢true}
use Rattle.squares.proofs.SpanCells.{bit_none, bit_or_is, none_in}
use Rattle.squares.proofs.SpanOrder.{and_none, cells_before, row_more}
use Rattle.squares.proofs.leaf_rows.row_bits.Goals as goal

pub loop-span-init : goal.loop-span-init
loop-span-init c = λ x y hx hy. bit_none (8 * y + x) ∙ sym (and_none _ _ (none_in (x + c.args.left) c.args.row))

pub loop-span-preserved : goal.loop-span-preserved
loop-span-preserved c = λ x y hx hy.
    let spans = c.args.spans.now in
    let i = c.loop-span.span-index in
    let row = c.args.row in
    bit_or_is c.loop-span.word c.bits_in-word.result (8 * y + x)
    ∙ row_more spans i row (c.args.left + 7) (x + c.args.left) (y + c.args.top) _ _ _ _ (c.bits_in-word.ensures x y hx hy) refl c.loop-span-test.true
    c.requires.rows (λ begins. false≢true (sym c.if-begins_behind.false ∙ c.begins_behind.ensures.1 begins))
    (c.loop-span.invariant x y hx hy)

pub returns-then-begins_behind : goal.returns-then-begins_behind
returns-then-begins_behind c = λ x y hx hy. c.loop-span.invariant x y hx hy
    ∙ ap (λ b. (y + c.args.top == c.args.row) && b)
    (cells_before c.args.spans.now c.loop-span.span-index c.args.row (c.args.left + 7) (x + c.args.left) _ _ c.requires.order c.loop-span-test.true refl (c.begins_behind.ensures.0 c.if-begins_behind.true) (omega (arith, hx)))
