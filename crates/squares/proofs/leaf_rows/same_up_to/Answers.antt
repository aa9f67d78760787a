use Rattle.std.proofs.Common.{◌+◌, ◌*◌, ◌<◌, ◌≤◌, length, get_or, ◌⊎◌, refl, arith, inl, inr, rules, tests, subst}
use Rattle.std.specs.Prelude.{IfSome}
use Rattle.std.proofs.lemmas.Option.{slice_get-get_or}
use Rattle.squares.specs.Strips.{EndsBefore}
use Rattle.squares.specs.declared.spans.Span.{Span}
use Rattle.squares.proofs.SpanOrder.{below_same, first_same, max_of, none_same, row_of_first}
use Rattle.squares.proofs.leaf_rows.same_up_to.Goals.{then-span-column, else-span-column}
use Rattle.squares.proofs.leaf_rows.same_up_to.Goals as goal

pub returns-then-is_empty-clause-same : goal.returns-then-is_empty-clause-same
returns-then-is_empty-clause-same c = none_same c.args.spans.now c.args.row c.args.column _ (let e = c.is_empty.ensures in let t = c.if-is_empty.true in search (rules, tests, e, t))

pub returns-then-span-row-clause-same : goal.returns-then-span-row-clause-same
returns-then-span-row-clause-same c =
    let some : 0 < length c.args.spans.now = (let e = c.is_empty.ensures in let t = c.if-is_empty.false in search (rules, tests, e, t)) in
    below_same c.args.spans.now c.args.row c.args.column _ _ _ c.requires.order some refl c.if-span-row.true

pub returns-clause-same : goal.returns-clause-same
returns-clause-same c =
    let spans = c.args.spans.now in
    let row = c.args.row in
    let left = 8 * c.args.column in
    let s : Span = get_or spans 0 (record { row = 0; first = 0; end = 0 }) in
    let some : 0 < length spans = (let e = c.is_empty.ensures in let t = c.if-is_empty.false in search (rules, tests, e, t)) in
    let high : s.row ≤ row = c.if-span-row.false in
    let live : ¬ EndsBefore row left s = subst (λ found. IfSome found (λ (span : Span). ¬ EndsBefore row left span)) (slice_get-get_or spans 0 _ some) c.requires.next in
    let at = row_of_first row left s high live in
    let kind : ((left < s.first) × (8 * c.if-span-column.end ≤ s.first)) ⊎ ((s.first ≤ left) × (8 * c.if-span-column.end ≤ s.end)) =
    elim c.if-span-column.branch [
      | then-span-column w ↦ let e = w.end-is in let t = w.if-span-column.true in inl (t, omega (arith, e))
      | else-span-column w ↦ let e = w.end-is in let t = w.if-span-column.false in inr (t, omega (arith, e))
    ] in
    first_same spans row c.args.column c.if-span-column.end c.max.result s _ c.requires.order some refl at kind (max_of c.max.result c.if-span-column.end (c.args.column + 1) c.max.ensures)
