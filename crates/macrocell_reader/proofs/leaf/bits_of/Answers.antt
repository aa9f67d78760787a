use Rattle.std.proofs.Common.{◌≡◌, ◌<◌, true, false, sym, ◌∙◌, get_or, arith}
use Rattle.std.specs.Prelude.{◌==◌}
use Rattle.std.proofs.lemmas.Bool.Decides.{nat_tests}
use Rattle.macrocell_reader.proofs.LeafLemmas.{bits_on-start, ends, stops-past, stops-over, stops-other, goes_on-row_end, goes_on-cell, row_end-small, cell-small}
use Rattle.macrocell_reader.proofs.leaf.bits_of.Goals as goal
use Rattle.macrocell_reader.proofs.leaf.bits_of.Goals.{then-column-eq8-via-then-column-eq8, then-column-eq8-via-else-column-eq8+then-not-is_cell, then-byte-eq36, else-byte-eq36+else-column-eq8+else-not-is_cell}

pub loop-byte-init : goal.loop-byte-init
loop-byte-init c = record {
  rows = omega arith;
  columns = omega arith;
  last_row = λ h. omega arith;
  small = omega arith;
  so_far = bits_on-start c.args.text.now;
}

pub returns-then-row-eq8 : goal.returns-then-row-eq8
returns-then-row-eq8 c =
    stops-past c.args.text.now c.loop-byte.row c.loop-byte.column c.loop-byte.bits c.loop-byte.byte-index c.loop-byte.invariant.so_far
    c.loop-byte-test.true c.if-row-eq8.true

pub returns-then-column-eq8 : goal.returns-then-column-eq8
returns-then-column-eq8 c =
    let text = c.args.text.now in
    let no_end : (get_or text c.loop-byte.byte-index 0 == 36) ≡ false = grind (arith, nat_tests, c.if-byte-eq36.false) in
    elim c.then-column-eq8.branch [
      | then-column-eq8-via-then-column-eq8 w ↦
          stops-over text c.loop-byte.row c.loop-byte.column c.loop-byte.bits c.loop-byte.byte-index c.loop-byte.invariant.so_far
          c.loop-byte-test.true no_end w.if-column-eq8.true
      | then-column-eq8-via-else-column-eq8+then-not-is_cell w ↦
          stops-other text c.loop-byte.row c.loop-byte.column c.loop-byte.bits c.loop-byte.byte-index c.loop-byte.invariant.so_far
          c.loop-byte-test.true no_end (sym w.is_cell.ensures ∙ w.if-not-is_cell.true)
    ]

pub loop-byte-preserved : goal.loop-byte-preserved
loop-byte-preserved c =
    let text = c.args.text.now in
    let at = c.loop-byte.byte-index in
    let row = c.loop-byte.row in
    let column = c.loop-byte.column in
    let low = c.loop-byte.invariant.rows in
    let left = c.loop-byte.invariant.columns in
    elim c.if-byte-eq36.branch [
      | then-byte-eq36 w ↦
          let is_end : (get_or text at 0 == 36) ≡ true = grind (arith, nat_tests, w.if-byte-eq36.true) in
          rw (w.bits-is, w.row-is, w.column-is) (record {
            rows = omega (arith, c.if-row-eq8.false);
            columns = omega arith;
            last_row = λ h. omega arith;
            small = row_end-small row column c.loop-byte.bits left c.loop-byte.invariant.small;
            so_far = goes_on-row_end text row column c.loop-byte.bits at c.loop-byte.invariant.so_far c.loop-byte-test.true left is_end;
          })
      | else-byte-eq36+else-column-eq8+else-not-is_cell w ↦
          let no_end : (get_or text at 0 == 36) ≡ false = grind (arith, nat_tests, w.if-byte-eq36.false) in
          let above : row < 8 = omega (arith, c.if-row-eq8.false) in
          let before : column < 8 = omega (arith, w.if-column-eq8.false) in
          rw (w.bits-is, w.row-is, w.column-is) (record {
            rows = low;
            columns = omega arith;
            last_row = λ h. omega arith;
            small = cell-small row column w.with_cell-bits.result w.with_cell-bits.ensures.free;
            so_far = goes_on-cell text row column c.loop-byte.bits at c.loop-byte.invariant.so_far c.loop-byte-test.true no_end
                w.with_cell-bits.result above before (sym w.is_cell.ensures ∙ w.if-not-is_cell.false) w.with_cell-bits.ensures.value;
          })
    ]

pub returns : goal.returns
returns c =
    ends c.args.text.now c.loop-byte.row c.loop-byte.column c.loop-byte.bits c.loop-byte.byte-index c.loop-byte.invariant.so_far c.loop-byte-test.false c.loop-byte.invariant.rows
