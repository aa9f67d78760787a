use Rattle.std.proofs.Common.{◌≡◌, ℕ, ◌+◌, ◌*◌, ◌<◌, ◌≤◌, List, ◌∙◌, ap, sym, subst, arith, refl}
use Rattle.std.specs.List.{AllByRecursion}
use Rattle.plane.specs.Square.{cut}
use Rattle.squares.specs.Book.{Shows}
use Rattle.squares.specs.Spans.{in_spans, marked}
use Rattle.squares.specs.SquareRows.{EndsBy, IsRow}
use Rattle.squares.specs.declared.square_rows.Segment.{Segment}
use Rattle.squares.proofs.Kept.{adds_none, adds_trans}
use Rattle.squares.proofs.LeafColumns.{first_passed, further}
use Rattle.squares.proofs.RowColumns.{ends_more, leaf_shown, no_columns, row_more}
use Rattle.squares.proofs.leaf_rows.leaf_row.Goals as goal

pub loop-column-init : goal.loop-column-init
loop-column-init g c = record {
  within = omega arith;
  passed = first_passed c.args.spans.now c.args.top;
  shown = no_columns (g.S.Squares.book c.args.book.now) 3 c.args.top (marked (in_spans c.args.spans.now)) c.new-row.result.items;
  ends = subst (AllByRecursion (EndsBy 0)) (sym c.new-row.ensures.items) tt;
  adds = adds_none (g.S.Squares.book c.args.book.now);
}

pub loop-column-preserved : goal.loop-column-preserved
loop-column-preserved g c =
    let old = g.S.Squares.book c.loop-column.book in
    let new = g.S.Squares.book c.leaf.new.self in
    let spans = c.args.spans.now in
    let top = c.args.top in
    let plane = marked (in_spans spans) in
    let row = c.loop-column.row.items in
    let before = c.loop-column.invariant in
    let end = c.min-end.result in
    let leaf = c.leaf_column-leaf in
    let least = c.min-end.ensures in
    let here : (column : ℕ) → c.loop-column.column ≤ column → column < end → Shows new 3 (cut 8 (column * 8) top plane) c.in_ok-sq.sq =
    λ column low high. leaf_shown new spans leaf.result.word column top c.in_ok-sq.sq
    (λ x y hx hy. leaf.ensures.word x y hx hy ∙ sym (leaf.ensures.same y hy column x low (omega (arith, high, least)) hx) ∙ ap (λ n. in_spans spans (x + n) (y + top)) (let e : 8 * column ≡ column * 8 = omega arith in e)) c.in_ok-sq.ensures.ok in
    let behind = leaf.ensures.behind in
    let more = c.loop-column-test.true in record {
      within = omega (arith, least);
      passed = further spans leaf.new.passed top c.loop-column.column end (omega (arith, least, behind, more)) leaf.ensures.passed;
      shown = subst (λ (r : List Segment). IsRow new 3 end top plane r) (sym c.in_ok-push.ensures.items) (row_more old new 3 c.loop-column.column end top plane row _ c.leaf.ensures.adds.keeps before.shown before.ends refl here);
      ends = subst (AllByRecursion (EndsBy end)) (sym c.in_ok-push.ensures.items) (ends_more c.loop-column.column end row _ before.ends (omega (arith, least, behind, more)) (omega arith));
      adds = adds_trans before.adds c.leaf.ensures.adds;
    }
