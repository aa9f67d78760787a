use Rattle.std.proofs.Common.{ℕ, sym, subst, arith, rules, w64, SFits}
use Rattle.std.specs.Prelude.{Option, Some, None}
use Rattle.std.proofs.lemmas.Int.{to_z-of_z}
use Rattle.plane.specs.Centred.{centred}
use Rattle.viewport.specs.Rows.{IsFirstRow, IsFirstRowBelow}
use Rattle.viewport.proofs.FirstRows.{centred_rows, past_all}
use Rattle.viewport.proofs.Quarters.{known_square}
use Rattle.viewport.proofs.RowsOfSquares.{is_most}
use Rattle.viewport.proofs.rows.first_row.Goals as goal

pub returns-then-y-half : goal.returns-then-y-half
returns-then-y-half g c =
    let book = g.B.Look.book c.args.book.now in
    let half : SFits w64 c.signed_half_side-half.result = search rules in
    let y : SFits w64 c.args.y = c.ranges.y in
    past_all c.args.sq.level (book.cells c.args.sq) (omega arith) (known_square book c.args.sq.level c.args.sq (g.met.B.Look.is_book c.args.book.now) c.requires.known)
    c.args.y c.signed_half_side-half.result c.signed_half_side-half.ensures.side (is_most _ _ (simp to_z-of_z at c.if-y-half.true))

pub returns-in_err-row : goal.returns-in_err-row
returns-in_err-row g c =
    let book = g.B.Look.book c.args.book.now in
    let p = book.cells c.args.sq in
    let half : SFits w64 c.signed_half_side-half.result = search rules in
    let y : SFits w64 c.args.y = c.ranges.y in
    let from_is = rw c.signed_half_side-half.ensures.side at (simp to_z-of_z at c.rows_above-from.ensures) in
    let none = subst (λ n. IsFirstRowBelow p c.rows_above-from.result n None) c.side.ensures
    (subst (λ (o : Option ℕ). IsFirstRowBelow p c.rows_above-from.result c.side.result o) c.in_err-row.was c.first_row_below.ensures) in
    subst (λ o. IsFirstRow (centred c.args.sq.level p) c.args.y o) (sym c.from_residual.ensures)
    (centred_rows c.args.sq.level p (omega arith) (known_square book c.args.sq.level c.args.sq (g.met.B.Look.is_book c.args.book.now) c.requires.known) c.args.y c.rows_above-from.result None from_is none)

pub returns : goal.returns
returns g c =
    let book = g.B.Look.book c.args.book.now in
    let p = book.cells c.args.sq in
    let half : SFits w64 c.signed_half_side-half.result = search rules in
    let y : SFits w64 c.args.y = c.ranges.y in
    let row : SFits w64 c.row_at.result = search rules in
    let from_is = rw c.signed_half_side-half.ensures.side at (simp to_z-of_z at c.rows_above-from.ensures) in
    let row_is = rw c.signed_half_side-half.ensures.side at (simp to_z-of_z at c.row_at.ensures) in
    let some = subst (λ n. IsFirstRowBelow p c.rows_above-from.result n (Some c.in_ok-row.row)) c.side.ensures
    (subst (λ (o : Option ℕ). IsFirstRowBelow p c.rows_above-from.result c.side.result o) c.in_ok-row.was c.first_row_below.ensures) in
    simp to_z-of_z (subst (λ z. IsFirstRow (centred c.args.sq.level p) c.args.y (Some z)) (sym row_is)
    (centred_rows c.args.sq.level p (omega arith) (known_square book c.args.sq.level c.args.sq (g.met.B.Look.is_book c.args.book.now) c.requires.known) c.args.y c.rows_above-from.result (Some c.in_ok-row.row) from_is some))
