use Rattle.std.proofs.Common.{◌+◌, ◌^◌, ◌≡◌, ℕ, ap, sym, ◌∙◌, subst, arith}
use Rattle.std.specs.Prelude.{Option}
use Rattle.std.specs.Option.{option_map}
use Rattle.squares.specs.Book.{IsKnown, nth}
use Rattle.viewport.specs.Rows.{IsFirstRowBelow}
use Rattle.viewport.proofs.FirstRows.{half_rows, rows_as, upper_part, lower_part}
use Rattle.viewport.proofs.Quarters.{quartered_by}
use Rattle.viewport.proofs.rows.+first_row_below.Goals as goal

pub first_row_below-returns-then-is_some : goal.first_row_below-returns-then-is_some
first_row_below-returns-then-is_some g t c =
    let book = g.B.Look.book c.args.book.now in
    let quarters = quartered_by book c.args.sq c.parts.result _ (g.met.B.Look.is_book c.args.book.now) c.requires.known (omega arith) c.parts.ensures c.half_side-half.ensures.value in
    let upper_side : 2 ^ (nth c.parts.result 0).level ≡ c.half_side-half.result = ap (λ n. 2 ^ n) c.parts.ensures.nw.known.at_level ∙ sym c.half_side-half.ensures.value in
    upper_part c.half_side-half.result (book.cells c.args.sq) _ _ _ _ quarters c.args.from c.args.end c.min.result c.first_row_beside-upper.result c.min.ensures
    (rw upper_side at c.first_row_beside-upper.ensures) (sym c.is_some.ensures ∙ c.if-is_some.true)

pub first_row_below-returns-in_err-lower : goal.first_row_below-returns-in_err-lower
first_row_below-returns-in_err-lower g t c =
    let book = g.B.Look.book c.args.book.now in
    let quarters = quartered_by book c.args.sq c.parts.result _ (g.met.B.Look.is_book c.args.book.now) c.requires.known (omega arith) c.parts.ensures c.half_side-half.ensures.value in
    let upper_side : 2 ^ (nth c.parts.result 0).level ≡ c.half_side-half.result = ap (λ n. 2 ^ n) c.parts.ensures.nw.known.at_level ∙ sym c.half_side-half.ensures.value in
    let lower_side : 2 ^ (nth c.parts.result 2).level ≡ c.half_side-half.result = ap (λ n. 2 ^ n) c.parts.ensures.sw.known.at_level ∙ sym c.half_side-half.ensures.value in
    let lower = lower_part c.half_side-half.result (book.cells c.args.sq) _ _ _ _ quarters c.args.from c.args.end c.min.result c.first_row_beside-upper.result c.min.ensures
    (rw upper_side at c.first_row_beside-upper.ensures) (sym c.is_some.ensures ∙ c.if-is_some.false)
    c.saturating_sub-from.result c.saturating_sub-end.result c.first_row_beside.result c.saturating_sub-from.ensures c.saturating_sub-end.ensures (rw lower_side at c.first_row_beside.ensures) in
    subst (λ (o : Option ℕ). IsFirstRowBelow (book.cells c.args.sq) c.args.from c.args.end o) (sym c.from_residual.ensures)
    (subst (λ (o : Option ℕ). IsFirstRowBelow (book.cells c.args.sq) c.args.from c.args.end (option_map (λ s. s + c.half_side-half.result) o)) c.in_err-lower.was lower)

pub first_row_below-returns : goal.first_row_below-returns
first_row_below-returns g t c =
    let book = g.B.Look.book c.args.book.now in
    let quarters = quartered_by book c.args.sq c.parts.result _ (g.met.B.Look.is_book c.args.book.now) c.requires.known (omega arith) c.parts.ensures c.half_side-half.ensures.value in
    let upper_side : 2 ^ (nth c.parts.result 0).level ≡ c.half_side-half.result = ap (λ n. 2 ^ n) c.parts.ensures.nw.known.at_level ∙ sym c.half_side-half.ensures.value in
    let lower_side : 2 ^ (nth c.parts.result 2).level ≡ c.half_side-half.result = ap (λ n. 2 ^ n) c.parts.ensures.sw.known.at_level ∙ sym c.half_side-half.ensures.value in
    let lower = lower_part c.half_side-half.result (book.cells c.args.sq) _ _ _ _ quarters c.args.from c.args.end c.min.result c.first_row_beside-upper.result c.min.ensures
    (rw upper_side at c.first_row_beside-upper.ensures) (sym c.is_some.ensures ∙ c.if-is_some.false)
    c.saturating_sub-from.result c.saturating_sub-end.result c.first_row_beside.result c.saturating_sub-from.ensures c.saturating_sub-end.ensures (rw lower_side at c.first_row_beside.ensures) in
    subst (λ (o : Option ℕ). IsFirstRowBelow (book.cells c.args.sq) c.args.from c.args.end (option_map (λ s. s + c.half_side-half.result) o)) c.in_ok-lower.was lower

pub first_row_below-returns-then-sq-eq-LEAF_LEVEL : goal.first_row_below-returns-then-sq-eq-LEAF_LEVEL
first_row_below-returns-then-sq-eq-LEAF_LEVEL g t c = rows_as _ _ c.args.from c.args.end c.first_leaf_row.result c.bits.ensures.cells c.first_leaf_row.ensures

pub first_row_beside-returns : goal.first_row_beside-returns
first_row_beside-returns g t c =
    let book = g.B.Look.book c.args.book.now in
    half_rows (2 ^ c.args.left.level) (book.cells c.args.left) (book.cells c.args.right) c.args.from c.args.end c.unwrap_or.result c.first_row_below-found.result c.first_row_below.result c.or.result
    c.first_row_below-found.ensures c.unwrap_or.ensures c.first_row_below.ensures c.or.ensures

pub first_row_below-bits-requires : goal.first_row_below-bits-requires
first_row_below-bits-requires g t c = subst (λ n. IsKnown (g.B.Look.book c.args.book.now) n c.args.sq) c.if-sq-eq-LEAF_LEVEL.true c.requires.known
