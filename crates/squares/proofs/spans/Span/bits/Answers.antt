use Rattle.std.proofs.Common.{◌+◌, ◌-◌, ◌*◌, ◌∙◌, ap, arith}
use Rattle.plane.specs.Square.{bit}
use Rattle.squares.proofs.SpanCells.{ones_shifted, span_bit}
use Rattle.squares.proofs.spans.Span.bits.Goals as goal

pub returns : goal.returns
returns c = λ x y hx hy.
    let row = c.args.self.row in
    let first = c.args.self.first in
    let last = c.min-end.result in
    let e = c.min-end.ensures in
    let low = c.if-self-ge8.false in
    let some = c.if-self-end.false in
    ap (λ w. bit w (8 * y + x)) (ones_shifted (last - first) (8 * row + first) (omega arith) (omega arith))
    ∙ span_bit row first last c.args.self.end x y low some e hx hy
