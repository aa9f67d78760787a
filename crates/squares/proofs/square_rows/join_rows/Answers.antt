use Rattle.std.proofs.Common.{◌+◌, List, sym, subst, arith, refl, rules}
use Rattle.std.specs.List.{AllByRecursion}
use Rattle.squares.specs.SquareRows.{EndsBy, IsJoined}
use Rattle.squares.specs.declared.square_rows.Segment.{Segment}
use Rattle.squares.proofs.JoinedRows.{joined_more, passed_later, quarters_known}
use Rattle.squares.proofs.Kept.{adds_trans}
use Rattle.squares.proofs.RowColumns.{ends_more}
use Rattle.squares.proofs.square_rows.join_rows.Goals as goal

pub quad-requires-clause-level : goal.quad-requires-clause-level
quad-requires-clause-level g c =
    let column = c.square_column-next in
    (c.requires.quarters.known c.loop-column.column column.result.quarters c.loop-column-test.true (column.ensures.quarters c.loop-column.column (omega arith) column.ensures.behind)).level

pub quad-requires-clause-known : goal.quad-requires-clause-known
quad-requires-clause-known g c =
    let column = c.square_column-next in
    quarters_known (g.S.Squares.book c.args.book.now) (g.S.Squares.book c.loop-column.book) column.result.quarters (search rules) c.loop-column.invariant.adds.keeps
    (c.requires.quarters.known c.loop-column.column column.result.quarters c.loop-column-test.true (column.ensures.quarters c.loop-column.column (omega arith) column.ensures.behind))

pub loop-column-preserved : goal.loop-column-preserved
loop-column-preserved g c =
    let first = g.S.Squares.book c.args.book.now in
    let old = g.S.Squares.book c.loop-column.book in
    let new = g.S.Squares.book c.quad.new.self in
    let upper = c.args.upper.now in
    let lower = c.args.lower.now in
    let row = c.loop-column.row.items in
    let from = c.loop-column.column in
    let end = c.min-end.result in
    let before = c.loop-column.invariant in
    let column = c.square_column-next in
    let least = c.min-end.ensures in
    let behind = column.ensures.behind in
    let more = c.loop-column-test.true in
    let can = c.requires.quarters.known from column.result.quarters more (column.ensures.quarters from (omega arith) behind) in record {
      within = omega (arith, least);
      passed = passed_later upper lower column.new.from (from + 1) end (omega (arith, least, behind, more)) column.ensures.passed;
      joined = subst (λ (r : List Segment). IsJoined first new upper lower end r) (sym c.in_ok-push.ensures.items)
          (joined_more first old new upper lower row _ column.result.quarters from end before.adds.keeps c.quad.ensures.adds.keeps can c.in_ok-sq.ensures.ok refl
          (λ other low high. column.ensures.quarters other low (omega (arith, high, least))) before.ends before.joined);
      ends = subst (AllByRecursion (EndsBy end)) (sym c.in_ok-push.ensures.items) (ends_more from end row _ before.ends (omega (arith, least, behind, more)) (omega arith));
      adds = adds_trans before.adds c.quad.ensures.adds;
    }
