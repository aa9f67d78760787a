use Rattle.std.proofs.Common.{◌≡◌, ◌%◌, [], ◌∷◌, ◌++◌, length, ◌∙◌, ap, subst, arith, rules}
use Rattle.std.specs.Prelude.{◌==◌}
use Rattle.pattern_writers.specs.LeafText.{bits_text, cell_byte}
use Rattle.pattern_writers.proofs.BitRows.{cell_more, cells_end}
use Rattle.pattern_writers.proofs.mc_text.leaf.row_text.Goals as goal

pub loop-cells-init : goal.loop-cells-init
loop-cells-init c =
    let none : c.new-text.result ≡ [] = search rules in
    let short = ap length none in
    (8, omega (arith, c.ranges.row.fits), omega (arith, short), ap (λ l. l ++ bits_text 8 c.args.row) none)

pub loop-cells-preserved : goal.loop-cells-preserved
loop-cells-preserved c =
    let test = c.cell_text.ensures in
    let cell : c.cell_text.result.now ≡ cell_byte (c.loop-cells.cells % 2 == 1) ∷ [] = search rules in
    cell_more c.loop-cells.invariant.0 c.loop-cells.cells c.args.row c.loop-cells.text c.push.new.self c.loop-cells-test.true c.loop-cells.invariant.1 c.loop-cells.invariant.2 c.loop-cells.invariant.3
    (c.push.ensures.text ∙ ap (λ l. c.loop-cells.text ++ l) cell)

pub returns : goal.returns
returns c =
    let none : c.loop-cells.cells ≡ 0 = search rules in
    cells_end c.loop-cells.invariant.0 c.args.row c.loop-cells.text (subst (λ n. c.loop-cells.text ++ bits_text c.loop-cells.invariant.0 n ≡ bits_text 8 c.args.row) none c.loop-cells.invariant.3)
