use Rattle.std.proofs.Common.{◌≡◌, ℕ, ◌+◌, ◌-◌, ◌*◌, ◌^◌, ◌<◌, ◌≤◌, List, arith, rules, sym, subst, ⊎_elim}
use Rattle.std.specs.Prelude.{MatchOption, OnOk, Result, Ok, Err, ⊤}
use Rattle.std.specs.List.{AllByRecursion}
use Rattle.std.proofs.lemmas.Bool.{cases_lt}
use Rattle.std.proofs.lemmas.Result.{IfOk-weaker}
use Rattle.plane.proofs.Paddings.{twice_half}
use Rattle.squares.specs.Spans.{in_spans, marked}
use Rattle.squares.specs.SquareRows.{HaveQuarters, IsJoined, IsRow}
use Rattle.squares.specs.Strips.{AreInOrder, AreLeft, AreTaken, IsTaken, spans_left}
use Rattle.squares.specs.declared.spans.Span.{Span}
use Rattle.squares.specs.declared.square_rows.Segment.{Segment}
use Rattle.squares.proofs.Kept.{adds_none, adds_trans}
use Rattle.squares.proofs.StripLaws.{at_most, left_below_at, left_from, left_from_top, order_taken, wider}
use Rattle.squares.proofs.StripRows.{empty_shown, have_quarters, left_cells_below, none_taken, row_same, rows_joined, taken_cells, taken_twice}
use Rattle.squares.proofs.RowColumns.{row_kept}
use Rattle.squares.proofs.strips.+strip_row.Given.{Over}
use Rattle.squares.proofs.strips.+strip_row.Goals.{In_ok-empty_row, In_ok-lower}
use Rattle.squares.proofs.strips.+strip_row.Goals as goal

-- nothing that is left lies above the bottom
below : (g : Over) (t : ℕ) (c : In_ok-empty_row g t) → AllByRecursion (λ (span : Span). c.args.top + 2 ^ c.args.level ≤ span.row) (spans_left c.args.strips.now.half c.args.strips.now.next (g.R.RunSequence.left c.args.strips.now.runs))
below g t c = left_below_at c.args.strips.now.half (c.args.top + 2 ^ c.args.level) c.args.strips.now.next (g.R.RunSequence.left c.args.strips.now.runs) c.requires.left.ended c.requires.left.order (subst (λ n. MatchOption c.args.strips.now.next ⊤ (λ (span : Span). c.args.top + n ≤ span.row)) c.side.ensures (c.lies_below.ensures.0 c.if-lies_below.true))

pub returns-then-lies_below-clause-ok : goal.returns-then-lies_below-clause-ok
returns-then-lies_below-clause-ok g t c =
    let left = spans_left c.args.strips.now.half c.args.strips.now.next (g.R.RunSequence.left c.args.strips.now.runs) in
    let book = g.S.Squares.book c.args.book.now in
    let high = c.requires.level.1 in
    subst (λ (row : List Segment). IsRow book c.args.level c.args.width c.args.top (marked (in_spans left)) row) (sym c.in_ok-empty_row.ensures)
    (empty_shown book c.args.level c.args.width c.args.top left (g.met.S.Squares.is_book c.args.book.now) c.requires.level.0 (omega (arith, high)) (below g t c))

pub returns-then-lies_below-clause-left : goal.returns-then-lies_below-clause-left
returns-then-lies_below-clause-left g t c = left_from c.args.strips.now.half c.args.top (c.args.top + 2 ^ c.args.level) _ _ c.requires.left (below g t c)

pub returns-then-lies_below-clause-taken : goal.returns-then-lies_below-clause-taken
returns-then-lies_below-clause-taken g t c = none_taken (c.args.top + 2 ^ c.args.level) _ (below g t c)

pub take_spans-requires : goal.take_spans-requires
take_spans-requires g t c = record { left = left_from_top c.args.strips.now.half c.args.top _ _ c.requires.left }

pub leaf_row-requires-clause-order : goal.leaf_row-requires-clause-order
leaf_row-requires-clause-order g t c = subst AreInOrder (sym c.deref.ensures.value) (order_taken c.in_ok-spans.spans.items _ (subst AreInOrder c.in_ok-spans.ensures.taken.whole c.requires.left.order))

pub returns-then-level-eq-LEAF_LEVEL-clause-ok : goal.returns-then-level-eq-LEAF_LEVEL-clause-ok
returns-then-level-eq-LEAF_LEVEL-clause-ok g t c =
    let left = spans_left c.args.strips.now.half c.args.strips.now.next (g.R.RunSequence.left c.args.strips.now.runs) in
    let book = g.S.Squares.book c.leaf_row.new.book in
    let spans = c.in_ok-spans.spans.items in
    let is : c.args.level ≡ 3 = c.if-level-eq-LEAF_LEVEL.true in
    IfOk-weaker c.leaf_row.result _ _ (λ row shown. subst (λ n. IsRow book n c.args.width c.args.top (marked (in_spans left)) row.items) (sym is)
    (row_same book 3 c.args.width c.args.top (in_spans spans) (in_spans left) row.items
    (λ x y low high. taken_cells (c.args.top + 2 ^ c.args.level) x y left _ spans (subst (λ n. IsTaken (c.args.top + n) left (spans_left c.take_spans.new.strips.half c.take_spans.new.strips.next (g.R.RunSequence.left c.take_spans.new.strips.runs)) spans) c.side.ensures c.in_ok-spans.ensures.taken) (subst (λ n. y < c.args.top + 2 ^ n) (sym is) high))
    (subst (λ (ss : List Span). IsRow book 3 c.args.width c.args.top (marked (in_spans ss)) row.items) c.deref.ensures.value shown)))
    c.leaf_row.ensures.ok

pub overflow_mul-width : goal.overflow_mul-width
overflow_mul-width g t c = let h = at_most c.args.width c.args.level c.requires.level.0 c.requires.wide in search (rules, h)

-- the level above a leaf's, and the rows of cells in its half
least : (level : ℕ) → 3 ≤ level → ¬ (level ≡ 3) → 4 ≤ level
least level low not = ⊎_elim (λ h. absurd (not (omega (arith, low, h)))) (λ h. h) (cases_lt level 4)

halves : (top level limit : ℕ) → 4 ≤ level → top + 2 ^ level ≤ limit → (top + 2 ^ (level - 1)) + 2 ^ (level - 1) ≤ limit
halves top level limit low h = let twice = twice_half level (omega (arith, low)) in omega (arith, h, twice)

pub strip_row-requires : goal.strip_row-requires
strip_row-requires g t c κs within =
    let low = least c.args.level c.requires.level.0 c.if-level-eq-LEAF_LEVEL.false in
    let high = c.requires.level.1 in
    let tall = halves c.args.top c.args.level (2 ^ 63) low c.requires.tall in
    let down = c.decreases in
    (omega (arith, down, low), (within.0, (within.1, ((omega (arith, low), omega (arith, high)), (omega (arith, tall), (wider c.args.width c.args.level low high c.requires.wide, c.requires.left))))))

pub overflow_mul-width-2 : goal.overflow_mul-width-2
overflow_mul-width-2 g t c = let h = at_most c.args.width c.args.level c.requires.level.0 c.requires.wide in search (rules, h)

pub strip_row-requires-2 : goal.strip_row-requires-2
strip_row-requires-2 g t c κs within =
    let low = least c.args.level c.requires.level.0 c.if-level-eq-LEAF_LEVEL.false in
    let high = c.requires.level.1 in
    let tall = halves c.args.top c.args.level (2 ^ 63) low c.requires.tall in
    let half = c.half_side.ensures.value in
    let down = c.decreases in (
      omega (arith, down, low),
      (
        within.0,
        (
          within.1,
          (
            (omega (arith, low), omega (arith, high)),
            (
              omega (arith, tall, half),
              (
                wider c.args.width c.args.level low high c.requires.wide,
                subst (λ n. AreLeft c.strip_row.new.strips.half (c.args.top + n) c.strip_row.new.strips.next (g.R.RunSequence.left c.strip_row.new.strips.runs)) (sym half) c.in_ok-upper.ensures.left,
              ),
            ),
          ),
        ),
      ),
    )

pub join_rows-requires-clause-wide : goal.join_rows-requires-clause-wide
join_rows-requires-clause-wide g t c = at_most c.args.width c.args.level c.requires.level.0 c.requires.wide

-- both rows in the book that has both, by the cells that were left at first
upper_row : (g : Over) (t : ℕ) (c : In_ok-lower g t) → IsRow (g.S.Squares.book c.strip_row-2.new.book) (c.args.level - 1) (2 * c.args.width) c.args.top
    (marked (in_spans (spans_left c.args.strips.now.half c.args.strips.now.next (g.R.RunSequence.left c.args.strips.now.runs)))) c.in_ok-upper.upper.items
upper_row g t c = row_kept (g.S.Squares.book c.strip_row.new.book) (g.S.Squares.book c.strip_row-2.new.book) (c.args.level - 1) (2 * c.args.width) c.args.top
    (marked (in_spans (spans_left c.args.strips.now.half c.args.strips.now.next (g.R.RunSequence.left c.args.strips.now.runs)))) c.in_ok-upper.upper.items c.strip_row-2.ensures.adds.keeps c.in_ok-upper.ensures.ok

lower_row : (g : Over) (t : ℕ) (c : In_ok-lower g t) → IsRow (g.S.Squares.book c.strip_row-2.new.book) (c.args.level - 1) (2 * c.args.width) (c.args.top + 2 ^ (c.args.level - 1))
    (marked (in_spans (spans_left c.args.strips.now.half c.args.strips.now.next (g.R.RunSequence.left c.args.strips.now.runs)))) c.in_ok-lower.lower.items
lower_row g t c =
    let book = g.S.Squares.book c.strip_row-2.new.book in
    let middle = c.args.top + 2 ^ (c.args.level - 1) in
    let before = spans_left c.args.strips.now.half c.args.strips.now.next (g.R.RunSequence.left c.args.strips.now.runs) in
    let after = spans_left c.strip_row.new.strips.half c.strip_row.new.strips.next (g.R.RunSequence.left c.strip_row.new.strips.runs) in
    row_same book (c.args.level - 1) (2 * c.args.width) middle (in_spans after) (in_spans before) c.in_ok-lower.lower.items
    (λ x y low high. left_cells_below middle x y before after c.in_ok-upper.ensures.taken.0 c.in_ok-upper.ensures.taken.1 low)
    (subst (λ n. IsRow book (c.args.level - 1) (2 * c.args.width) (c.args.top + n) (marked (in_spans after)) c.in_ok-lower.lower.items) c.half_side.ensures.value c.in_ok-lower.ensures.ok)

pub join_rows-requires-clause-quarters : goal.join_rows-requires-clause-quarters
join_rows-requires-clause-quarters g t c =
    let book = g.S.Squares.book c.strip_row-2.new.book in
    let high = c.requires.level.1 in
    let plane = marked (in_spans (spans_left c.args.strips.now.half c.args.strips.now.next (g.R.RunSequence.left c.args.strips.now.runs))) in
    subst (λ (rows : List Segment). HaveQuarters book c.args.width rows c.deref-3.result.now) (sym c.deref-2.ensures.value)
    (subst (λ (rows : List Segment). HaveQuarters book c.args.width c.in_ok-upper.upper.items rows) (sym c.deref-3.ensures.value)
    (have_quarters book (c.args.level - 1) c.args.width c.args.top (c.args.top + 2 ^ (c.args.level - 1)) plane plane c.in_ok-upper.upper.items c.in_ok-lower.lower.items (omega (arith, high)) (upper_row g t (goal.at.join_rows-requires-clause-quarters g t c).In_ok-lower) (lower_row g t (goal.at.join_rows-requires-clause-quarters g t c).In_ok-lower)))

pub returns-clause-ok : goal.returns-clause-ok
returns-clause-ok g t c =
    let old = g.S.Squares.book c.strip_row-2.new.book in
    let new = g.S.Squares.book c.join_rows.new.book in
    let plane = marked (in_spans (spans_left c.args.strips.now.half c.args.strips.now.next (g.R.RunSequence.left c.args.strips.now.runs))) in
    let low = c.requires.level.0 in
    IfOk-weaker c.join_rows.result _ _ (λ row made. rows_joined old new c.args.level c.args.width c.args.top plane c.in_ok-upper.upper.items c.in_ok-lower.lower.items row.items (omega (arith, low))
    (upper_row g t (goal.at.returns-clause-ok g t c).In_ok-lower) (lower_row g t (goal.at.returns-clause-ok g t c).In_ok-lower)
    (subst (λ (rows : List Segment). IsJoined old new c.in_ok-upper.upper.items rows c.args.width row.items) c.deref-3.ensures.value
    (subst (λ (rows : List Segment). IsJoined old new rows c.deref-3.result.now c.args.width row.items) c.deref-2.ensures.value made)))
    c.join_rows.ensures.ok

always_ok : {A E : Type 0} (result : Result A E) (P : Type 0) → P → OnOk result P
always_ok (Ok a) P p = p
always_ok (Err e) P p = tt

pub returns-clause-left : goal.returns-clause-left
returns-clause-left g t c =
    let top = c.args.top in
    let level = c.args.level in
    let low = c.requires.level.0 in
    let twice = twice_half level (omega (arith, low)) in
    let half = c.half_side.ensures.value in
    let e : (top + c.half_side.result) + 2 ^ (level - 1) ≡ top + 2 ^ level = omega (arith, twice, half) in
    let strips = c.strip_row-2.new.strips in
    always_ok c.join_rows.result _ (subst (λ n. AreLeft strips.half n strips.next (g.R.RunSequence.left strips.runs)) e c.in_ok-lower.ensures.left)

pub returns-clause-refusal : goal.returns-clause-refusal
returns-clause-refusal g t c = c.join_rows.ensures.refusal

pub returns-then-level-eq-LEAF_LEVEL-clause-refusal : goal.returns-then-level-eq-LEAF_LEVEL-clause-refusal
returns-then-level-eq-LEAF_LEVEL-clause-refusal g t c = c.leaf_row.ensures.refusal

pub returns-then-level-eq-LEAF_LEVEL-clause-left : goal.returns-then-level-eq-LEAF_LEVEL-clause-left
returns-then-level-eq-LEAF_LEVEL-clause-left g t c =
    let strips = c.take_spans.new.strips in
    always_ok c.leaf_row.result _ (subst (λ n. AreLeft strips.half (c.args.top + n) strips.next (g.R.RunSequence.left strips.runs)) c.side.ensures c.in_ok-spans.ensures.left)

pub returns-then-level-eq-LEAF_LEVEL-clause-taken : goal.returns-then-level-eq-LEAF_LEVEL-clause-taken
returns-then-level-eq-LEAF_LEVEL-clause-taken g t c =
    let before = spans_left c.args.strips.now.half c.args.strips.now.next (g.R.RunSequence.left c.args.strips.now.runs) in
    let after = spans_left c.take_spans.new.strips.half c.take_spans.new.strips.next (g.R.RunSequence.left c.take_spans.new.strips.runs) in
    let spans = c.in_ok-spans.spans.items in
    always_ok c.leaf_row.result _ (spans, subst (λ n. IsTaken (c.args.top + n) before after spans) c.side.ensures c.in_ok-spans.ensures.taken)

pub returns-clause-taken : goal.returns-clause-taken
returns-clause-taken g t c =
    let top = c.args.top in
    let level = c.args.level in
    let h = 2 ^ (level - 1) in
    let first = spans_left c.args.strips.now.half c.args.strips.now.next (g.R.RunSequence.left c.args.strips.now.runs) in
    let second = spans_left c.strip_row.new.strips.half c.strip_row.new.strips.next (g.R.RunSequence.left c.strip_row.new.strips.runs) in
    let third = spans_left c.strip_row-2.new.strips.half c.strip_row-2.new.strips.next (g.R.RunSequence.left c.strip_row-2.new.strips.runs) in
    let low = c.requires.level.0 in
    let twice = twice_half level (omega (arith, low)) in
    let half = c.half_side.ensures.value in
    let e : (top + c.half_side.result) + h ≡ top + 2 ^ level = omega (arith, twice, half) in
    always_ok c.join_rows.result _ (taken_twice (top + h) (top + 2 ^ level) first second third (omega (arith, twice)) c.in_ok-upper.ensures.taken (subst (λ n. AreTaken n second third) e c.in_ok-lower.ensures.taken))

pub returns-then-lies_below-clause-adds : goal.returns-then-lies_below-clause-adds
returns-then-lies_below-clause-adds g t c = adds_none _

pub returns-in_err-empty_row-clause-adds : goal.returns-in_err-empty_row-clause-adds
returns-in_err-empty_row-clause-adds g t c = adds_none _

pub returns-in_err-spans-clause-adds : goal.returns-in_err-spans-clause-adds
returns-in_err-spans-clause-adds g t c = adds_none _

pub returns-then-level-eq-LEAF_LEVEL-clause-adds : goal.returns-then-level-eq-LEAF_LEVEL-clause-adds
returns-then-level-eq-LEAF_LEVEL-clause-adds g t c = c.leaf_row.ensures.adds

pub returns-in_err-upper-clause-adds : goal.returns-in_err-upper-clause-adds
returns-in_err-upper-clause-adds g t c = c.strip_row.ensures.adds

pub returns-in_err-lower-clause-adds : goal.returns-in_err-lower-clause-adds
returns-in_err-lower-clause-adds g t c = adds_trans c.strip_row.ensures.adds c.strip_row-2.ensures.adds

pub returns-clause-adds : goal.returns-clause-adds
returns-clause-adds g t c = adds_trans c.strip_row.ensures.adds (adds_trans c.strip_row-2.ensures.adds c.join_rows.ensures.adds)
