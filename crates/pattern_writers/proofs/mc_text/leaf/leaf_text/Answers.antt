use Rattle.std.proofs.Common.{◌≡◌, ◌%◌, ◌≤◌, [], ◌++◌, length, codes, ◌∙◌, ap, subst, arith, rules, append_assoc}
use Rattle.pattern_writers.specs.LeafText.{bits_text}
use Rattle.pattern_writers.proofs.BitRows.{row_more, rows_end, rows_text}
use Rattle.pattern_writers.proofs.mc_text.leaf.leaf_text.Goals as goal

pub loop-rows-init : goal.loop-rows-init
loop-rows-init c =
    let none : c.new-text.result ≡ [] = search rules in
    let short = ap length none in
    (8, omega (arith, c.ranges.word.fits), omega (arith, short), ap (λ l. l ++ rows_text 8 c.args.word) none)

pub loop-rows-preserved : goal.loop-rows-preserved
loop-rows-preserved c =
    let row : c.as_str.result.now ≡ bits_text 8 (c.loop-rows.rows % 256) = c.as_str.ensures.bytes ∙ c.row_text.ensures in
    let narrow : length (bits_text 8 (c.loop-rows.rows % 256)) ≤ 8 = subst (λ l. length l ≤ 8) row c.as_str.ensures.short in
    row_more c.loop-rows.invariant.0 c.loop-rows.rows c.args.word c.loop-rows.text c.push-in-loop-rows.new.self c.loop-rows-test.true c.loop-rows.invariant.1 c.loop-rows.invariant.2 c.loop-rows.invariant.3 narrow
    (c.push-in-loop-rows.ensures.text ∙ ap (λ l. l ++ codes "$") (c.push.ensures.text ∙ ap (λ l. c.loop-rows.text ++ l) row)
    ∙ append_assoc c.loop-rows.text (bits_text 8 (c.loop-rows.rows % 256)) (codes "$"))

pub returns : goal.returns
returns c =
    let none : c.loop-rows.rows ≡ 0 = search rules in
    rows_end c.loop-rows.invariant.0 c.args.word c.loop-rows.text (subst (λ n. c.loop-rows.text ++ rows_text c.loop-rows.invariant.0 n ≡ rows_text 8 c.args.word) none c.loop-rows.invariant.3)
