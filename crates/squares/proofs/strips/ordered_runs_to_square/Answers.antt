use Rattle.std.proofs.Common.{◌≡◌, ◌-◌, ◌*◌, ◌^◌, ◌≤◌, List, Some, map, arith, sym, subst, ◌∙◌, ap}
use Rattle.std.proofs.Math.Pow.{pow_mono}
use Rattle.std.specs.List.{AllByRecursion}
use Rattle.plane.specs.Square.{cut}
use Rattle.squares.specs.Book.{Shows}
use Rattle.squares.specs.Spans.{FitsInRoot, in_spans, marked, span_of}
use Rattle.squares.specs.SquareRows.{HasColumns, IsRow, square_at}
use Rattle.squares.specs.declared.square_rows.Segment.{Segment}
use Rattle.squares.proofs.RunLevels.{cells_shown}
use Rattle.squares.proofs.RunOrder.{left_first}
use Rattle.squares.proofs.StripRows.{shown_there}
use Rattle.squares.proofs.strips.ordered_runs_to_square.Given.{Over}
use Rattle.squares.proofs.strips.ordered_runs_to_square.Goals.{After-drop-strips-2}
use Rattle.squares.proofs.strips.ordered_runs_to_square.Goals as goal

pub strip_row-requires-clause-left : goal.strip_row-requires-clause-left
strip_row-requires-clause-left g c =
    let half = c.half_side-half.ensures.value in
    let fit = subst (λ n. AllByRecursion (FitsInRoot n) (g.R.RunSequence.left c.args.runs)) (sym half) c.requires.fit in
    left_first c.half_side-half.result c.next_span-next.result (g.R.RunSequence.left c.args.runs) _ c.half_side-half.ensures.bound c.next_span-next.ensures.fit c.next_span-next.ensures.ended c.next_span-next.ensures.spans fit c.requires.order

pub square_at-requires : goal.square_at-requires
square_at-requires g c = subst (λ (rows : List Segment). HasColumns 1 rows) (sym c.deref.ensures.value) (λ column less. let had = c.in_ok-row.ensures.ok column less in (had.0, had.1))

-- the one square of the row
shown : (g : Over) (c : After-drop-strips-2 g) → Shows (g.S.Squares.book c.strip_row.new.book) c.args.level
    (cut (2 ^ c.args.level) (0 * 2 ^ c.args.level) 0 (marked (in_spans (map (span_of (2 ^ (c.args.level - 1))) (g.R.RunSequence.left c.args.runs))))) c.square_at.result
shown g c =
    let book = g.S.Squares.book c.strip_row.new.book in
    let level = c.args.level in
    let runs = g.R.RunSequence.left c.args.runs in
    let spans = c.next_span-next.ensures.spans ∙ ap (λ half. map (span_of half) runs) c.half_side-half.ensures.value in
    let row = subst (λ ss. IsRow book level 1 0 (marked (in_spans ss)) c.in_ok-row.row.items) spans c.in_ok-row.ensures.ok in
    let there = subst (λ (rows : List Segment). square_at rows 0 ≡ Some c.square_at.result) c.deref.ensures.value c.square_at.ensures in
    shown_there book level 1 0 (marked (in_spans (map (span_of (2 ^ (level - 1))) runs))) c.in_ok-row.row.items 0 c.square_at.result row (omega arith) there

pub returns-clause-known : goal.returns-clause-known
returns-clause-known g c = (shown g c).known

pub returns-clause-cells : goal.returns-clause-cells
returns-clause-cells g c =
    let book = g.S.Squares.book c.strip_row.new.book in
    let level = c.args.level in
    let runs = g.R.RunSequence.left c.args.runs in
    let low = c.requires.level.0 in
    cells_shown book level runs c.square_at.result (omega (arith, low)) c.requires.fit
    (subst (λ n. Shows book level (cut (2 ^ level) n 0 (marked (in_spans (map (span_of (2 ^ (level - 1))) runs)))) c.square_at.result) (let e : 0 * 2 ^ level ≡ 0 = omega arith in e)
    (shown g c))

pub returns-in_err-row-clause-adds : goal.returns-in_err-row-clause-adds
returns-in_err-row-clause-adds g c = c.strip_row.ensures.adds

pub returns-clause-adds : goal.returns-clause-adds
returns-clause-adds g c = c.strip_row.ensures.adds

pub strip_row-requires-clause-tall : goal.strip_row-requires-clause-tall
strip_row-requires-clause-tall g c = let high : 2 ^ c.args.level ≤ 2 ^ 63 = pow_mono c.requires.level.1 in omega (arith, high)

pub strip_row-requires-clause-wide : goal.strip_row-requires-clause-wide
strip_row-requires-clause-wide g c = pow_mono {i = 0} {j = 63 - c.args.level} (omega arith)
