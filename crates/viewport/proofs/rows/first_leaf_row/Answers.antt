use Rattle.std.proofs.Common.{◌+◌, pos, sym, ap, subst, arith}
use Rattle.plane.specs.Square.{bits_plane}
use Rattle.viewport.specs.Rows.{IsLiveRow}
use Rattle.viewport.proofs.LeafRows.{none_left, dead_before, live_there, lower_rest}
use Rattle.viewport.proofs.rows.first_leaf_row.Goals as goal

pub returns-then-rest-eq0 : goal.returns-then-rest-eq0
returns-then-rest-eq0 c = none_left c.args.word c.args.from c.args.end c.if-rest-eq0.true

pub returns-then-row-end : goal.returns-then-row-end
returns-then-row-end c =
    let less = lower_rest c.args.word c.args.from c.ranges.word.fits in
    let row_is = ap (λ n. c.args.from + n) c.from.ensures in (
      omega arith,
      c.if-row-end.true,
      subst (λ n. IsLiveRow (bits_plane c.args.word) (pos n)) (sym row_is) (live_there c.args.word c.args.from c.ranges.word.fits less c.if-rest-eq0.false),
      dead_before c.args.word c.args.from c.ranges.word.fits less c.if-rest-eq0.false (c.args.from + c.from.result) (omega (arith, row_is)),
    )

pub returns-else-row-end : goal.returns-else-row-end
returns-else-row-end c =
    let less = lower_rest c.args.word c.args.from c.ranges.word.fits in
    let row_is = ap (λ n. c.args.from + n) c.from.ensures in
    dead_before c.args.word c.args.from c.ranges.word.fits less c.if-rest-eq0.false c.args.end (omega (arith, row_is, c.if-row-end.false))
