use Rattle.std.proofs.Common.{ℕ, ◌^◌, ◌-◌, ◌<◌, ◌≡◌, pos, sym, ap, subst, ◌∙◌, arith, rules}
use Rattle.plane.specs.Plane.{Plane}
use Rattle.plane.proofs.Paddings.{twice_half}
use Rattle.squares.specs.Book.{IsKnown}
use Rattle.squares.specs.declared.sq.Sq.{Sq}
use Rattle.viewport.specs.Halves.{side_by_side}
use Rattle.viewport.proofs.Counts.{zero_is_empty}
use Rattle.viewport.proofs.Leaves.{leaf_cell}
use Rattle.viewport.proofs.Quarters.{known_square, of_quarter}
use Rattle.viewport.proofs.RowsOfSquares.{left_cell, right_cell}
use Rattle.viewport.proofs.pictures.+has_cell.Goals as goal
use Rattle.viewport.proofs.pictures.+has_cell.Goals.{then-x-half, else-x-half}

pub returns-then-is_empty : goal.returns-then-is_empty
returns-then-is_empty g t c =
    let book = g.B.Look.book c.args.book.now in
    let empty = zero_is_empty book c.args.sq (g.met.B.Look.is_book c.args.book.now) (c.is_empty.ensures.0 c.if-is_empty.true) in
    sym (ap (λ (p : Plane). p (pos c.args.x) (pos c.args.y)) empty)

pub returns-then-sq-eq-LEAF_LEVEL : goal.returns-then-sq-eq-LEAF_LEVEL
returns-then-sq-eq-LEAF_LEVEL g t c =
    let leaf = c.if-sq-eq-LEAF_LEVEL.true in
    let x : c.args.x < 8 = subst (λ n. c.args.x < 2 ^ n) leaf c.requires.column in
    let y : c.args.y < 8 = subst (λ n. c.args.y < 2 ^ n) leaf c.requires.row in
    leaf_cell c.bits.result c.args.x c.args.y _ x y c.bits.ensures.cells

pub has_cell-requires : goal.has_cell-requires
has_cell-requires g t c κs within =
    let book = g.B.Look.book c.args.book.now in
    let half = c.half_with_row-row in
    let low : ℕ = c.args.sq.level - 1 in
    let side = c.half_side-half.ensures.value in
    let twice = twice_half c.args.sq.level (omega arith) in
    let most = c.requires.column in
    let InHalf : (Sq × ℕ) → Type 0 = λ r. IsKnown book low r.0 × (r.1 < 2 ^ low) in
    let picked : InHalf c.if-x-half.column =
    elim c.if-x-half.branch [
      | then-x-half w ↦ subst InHalf (sym w.column-is) (half.ensures.first, omega (arith, side, w.if-x-half.true))
      | else-x-half w ↦ subst InHalf (sym w.column-is) (half.ensures.second, omega (arith, side, twice, most, w.if-x-half.false))
    ] in
    let at_level = picked.0.at_level in
    let column = subst (λ n. c.if-x-half.column.1 < 2 ^ n) (sym at_level) picked.1 in
    let row = subst (λ n. half.result.2 < 2 ^ n) (sym at_level) half.ensures.row.inside in
    (search rules, (search rules, of_quarter book _ _ c.requires.level picked.0 (column, row)))

pub returns : goal.returns
returns g t c =
    let book = g.B.Look.book c.args.book.now in
    let laws = g.met.B.Look.is_book c.args.book.now in
    let half = c.half_with_row-row in
    let row = half.result.2 in
    let one = known_square book _ _ laws half.ensures.first in
    let two = known_square book _ _ laws half.ensures.second in
    let side = c.half_side-half.ensures.value in
    let whole = side_by_side (2 ^ (c.args.sq.level - 1)) (book.cells half.result.0) (book.cells half.result.1) in
    let Cell : (Sq × ℕ) → Type 0 = λ r. whole (pos c.args.x) (pos row) ≡ book.cells r.0 (pos r.1) (pos row) in
    let beside : Cell c.if-x-half.column =
    elim c.if-x-half.branch [
      | then-x-half w ↦ subst Cell (sym w.column-is) (left_cell _ _ _ one two c.args.x row _ side w.if-x-half.true)
      | else-x-half w ↦ subst Cell (sym w.column-is) (right_cell _ _ _ one two c.args.x row _ side w.if-x-half.false)
    ] in
    c.has_cell.ensures ∙ sym (half.ensures.row.cells (pos c.args.x) ∙ beside)

pub bits-requires : goal.bits-requires
bits-requires g t c = subst (λ n. IsKnown (g.B.Look.book c.args.book.now) n c.args.sq) c.if-sq-eq-LEAF_LEVEL.true c.requires.known
