use Rattle.std.proofs.Common.{◌^◌, ◌≤◌, ◌-◌, ◌<◌, ◌≡◌, pos, ◌+ℤ◌, ◌-ℤ◌, ◌≤ℤ◌, true, refl, sym, subst, ap, arith, rules, w64, SFits}
use Rattle.std.proofs.lemmas.Int.{to_z-of_z}
use Rattle.std.proofs.lemmas.Result.{IfOk-weaker, on_ok_weaker}
use Rattle.std.specs.Prelude.{IsTrue}
use Rattle.std.proofs.lemmas.Bool.{eqb-true}
use Rattle.plane.proofs.Cuts.{and_left, and_right}
use Rattle.viewport.specs.RowRuns.{cells_at}
use Rattle.viewport.proofs.Counts.{zero_is_empty}
use Rattle.squares.specs.Book.{IsKnown}
use Rattle.squares.proofs.SquareNumbers.{same_sq}
use Rattle.viewport.proofs.Quarters.{known_square, of_quarter}
use Rattle.viewport.proofs.RowsOfHalves.{again_adds, both_add, ends_between}
use Rattle.viewport.proofs.RowsOfSquares.{half_room, middle_fits, quarter_room, row_as}
use Rattle.viewport.proofs.RunsBeside.{adds_none}
use Rattle.viewport.proofs.runs.+add_row.Goals as goal

pub returns-then-is_empty : goal.returns-then-is_empty
returns-then-is_empty g t c =
    let book = g.B.Look.book c.args.book.now in
    record {
      ok = adds_none c.args.left (2 ^ c.args.sq.level) (cells_at (book.cells c.args.sq) c.args.left c.args.y) c.args.runs.now.items c.requires.before
          (λ x. ap (λ p. p (x -ℤ c.args.left) (pos c.args.y)) (zero_is_empty book c.args.sq (g.met.B.Look.is_book c.args.book.now) (c.is_empty.ensures.0 c.if-is_empty.true)));
    }

pub returns-then-sq-eq-LEAF_LEVEL : goal.returns-then-sq-eq-LEAF_LEVEL
returns-then-sq-eq-LEAF_LEVEL g t c =
    let left : SFits w64 c.args.left = c.ranges.left in
    record {
      ok = on_ok_weaker c.add_leaf_row.result (row_as c.args.sq.level _ _ c.args.left c.args.y c.args.runs.now.items c.add_leaf_row.new.runs.items c.if-sq-eq-LEAF_LEVEL.true c.bits.ensures.cells)
          (simp to_z-of_z at c.add_leaf_row.ensures.ok);
    }

pub add_run-requires-clause-room : goal.add_run-requires-clause-room
add_run-requires-clause-room g t c =
    let left : SFits w64 c.args.left = c.ranges.left in
    let half : SFits w64 c.signed_half_side.result = search rules in
    let least : 1 ≤ c.args.sq.level = omega arith in
    let middle : SFits w64 (c.args.left +ℤ c.signed_half_side.result) = middle_fits c.args.left c.signed_half_side.result c.args.sq.level least left c.signed_half_side.ensures.side c.requires.room in
    rw c.half_side.ensures.value (simp to_z-of_z (quarter_room c.args.left c.signed_half_side.result c.args.sq.level (c.args.sq.level - 1) least c.signed_half_side.ensures.side refl c.requires.room))

pub returns-then-is_covered : goal.returns-then-is_covered
returns-then-is_covered g t c =
    let book = g.B.Look.book c.args.book.now in
    let first = c.half_with_row-row.result.0 in
    let second = c.half_with_row-row.result.1 in
    let left : SFits w64 c.args.left = c.ranges.left in
    let half : SFits w64 c.signed_half_side.result = search rules in
    let least : 1 ≤ c.args.sq.level = omega arith in
    let middle : SFits w64 (c.args.left +ℤ c.signed_half_side.result) = middle_fits c.args.left c.signed_half_side.result c.args.sq.level least left c.signed_half_side.ensures.side c.requires.room in
    let one = simp to_z-of_z at c.in_ok-add_row.ensures.ok in
    let yes : IsTrue true = search rules in
    let covered = rw c.deref.ensures.value at (simp to_z-of_z at (c.if-is_covered.ensures yes)) in
    let run_is = simp to_z-of_z at c.add_run.ensures.ok in
    let same : second ≡ first = same_sq second first (eqb-true _ _ (and_left _ _ (sym c.if-eq.ensures))) (eqb-true _ _ (and_right _ _ (sym c.if-eq.ensures))) in
    let square = known_square book _ first (g.met.B.Look.is_book c.args.book.now) c.half_with_row-row.ensures.first in
    record {
      ok = IfOk-weaker c.add_run.result _ _
          (λ _ run. again_adds c.args.sq.level c.args.left c.signed_half_side.result c.signed_half_side.ensures.side (book.cells c.args.sq) _ _ c.args.y _ c.half_with_row-row.ensures.row c.args.runs.now.items c.add_row.new.runs.items
          _ c.half_with_row-row.ensures.first.at_level one covered c.requires.before c.half_side.result c.add_run.new.runs.items least square (ap book.cells same) c.half_side.ensures.value run)
          run_is;
    }

pub add_row-requires-2 : goal.add_row-requires-2
add_row-requires-2 g t c κs within =
    let left : SFits w64 c.args.left = c.ranges.left in
    let half : SFits w64 c.signed_half_side.result = search rules in
    let least : 1 ≤ c.args.sq.level = omega arith in
    let middle : SFits w64 (c.args.left +ℤ c.signed_half_side.result) = middle_fits c.args.left c.signed_half_side.result c.args.sq.level least left c.signed_half_side.ensures.side c.requires.room in
    let book = g.B.Look.book c.args.book.now in
    let second = c.half_with_row-row.result.1 in
    let known = c.half_with_row-row.ensures.second in
    let is = c.half_with_row-row.ensures.row in
    let one = simp to_z-of_z at c.in_ok-add_row.ensures.ok in
    let row = subst (λ n. c.half_with_row-row.result.2 < 2 ^ n) (sym known.at_level) is.inside in
    let room = quarter_room c.args.left c.signed_half_side.result c.args.sq.level second.level least c.signed_half_side.ensures.side known.at_level c.requires.room in
    let ends = ends_between c.args.sq.level c.args.left c.signed_half_side.result c.signed_half_side.ensures.side (book.cells c.args.sq) _ _ c.args.y _ is c.args.runs.now.items c.add_row.new.runs.items _ c.half_with_row-row.ensures.first.at_level one in
    (search rules, (search rules, of_quarter _ _ _ c.requires.level known (row, (simp to_z-of_z room, simp to_z-of_z ends))))

pub returns : goal.returns
returns g t c =
    let book = g.B.Look.book c.args.book.now in
    let left : SFits w64 c.args.left = c.ranges.left in
    let half : SFits w64 c.signed_half_side.result = search rules in
    let least : 1 ≤ c.args.sq.level = omega arith in
    let middle : SFits w64 (c.args.left +ℤ c.signed_half_side.result) = middle_fits c.args.left c.signed_half_side.result c.args.sq.level least left c.signed_half_side.ensures.side c.requires.room in
    let one = simp to_z-of_z at c.in_ok-add_row.ensures.ok in
    record {
      ok = IfOk-weaker c.add_row-2.result _ _
          (λ _ two. both_add c.args.sq.level c.args.left c.signed_half_side.result c.signed_half_side.ensures.side (book.cells c.args.sq) _ _ c.args.y _ c.half_with_row-row.ensures.row c.args.runs.now.items c.add_row.new.runs.items
          _ c.half_with_row-row.ensures.first.at_level one _ c.add_row-2.new.runs.items least c.half_with_row-row.ensures.second.at_level two)
          (simp to_z-of_z at c.add_row-2.ensures.ok);
    }

pub add_leaf_row-requires-clause-room : goal.add_leaf_row-requires-clause-room
add_leaf_row-requires-clause-room g t c =
    let left : SFits w64 c.args.left = c.ranges.left in
    simp to_z-of_z (subst (λ n. (c.args.left +ℤ pos (2 ^ n)) ≤ℤ pos (2 ^ 62)) c.if-sq-eq-LEAF_LEVEL.true c.requires.room)

pub overflow_add-middle : goal.overflow_add-middle
overflow_add-middle g t c =
    let left : SFits w64 c.args.left = c.ranges.left in
    let half : SFits w64 c.signed_half_side.result = search rules in
    let least : 1 ≤ c.args.sq.level = omega arith in
    simp to_z-of_z (middle_fits c.args.left c.signed_half_side.result c.args.sq.level least left c.signed_half_side.ensures.side c.requires.room)

pub add_row-requires : goal.add_row-requires
add_row-requires g t c κs within =
    let left : SFits w64 c.args.left = c.ranges.left in
    let least : 1 ≤ c.args.sq.level = omega arith in
    let known = c.half_with_row-row.ensures.first in
    let row = subst (λ n. c.half_with_row-row.result.2 < 2 ^ n) (sym known.at_level) c.half_with_row-row.ensures.row.inside in
    let room = half_room c.args.left c.args.sq.level c.half_with_row-row.result.0.level least known.at_level c.requires.room in
    (search rules, (search rules, of_quarter _ _ _ c.requires.level known (row, (simp to_z-of_z room, simp to_z-of_z c.requires.before))))

pub add_run-requires-clause-before : goal.add_run-requires-clause-before
add_run-requires-clause-before g t c =
    let left : SFits w64 c.args.left = c.ranges.left in
    let half : SFits w64 c.signed_half_side.result = search rules in
    let least : 1 ≤ c.args.sq.level = omega arith in
    let far = c.signed_half_side.result in
    let side = c.signed_half_side.ensures.side in
    let middle : SFits w64 (c.args.left +ℤ far) = middle_fits c.args.left far c.args.sq.level least left side c.requires.room in
    let plane = (g.B.Look.book c.args.book.now).cells c.args.sq in
    let is = c.half_with_row-row.ensures.row in
    let low = c.half_with_row-row.ensures.first.at_level in
    let one = simp to_z-of_z at c.in_ok-add_row.ensures.ok in
    let mid = c.add_row.new.runs.items in
    simp to_z-of_z (ends_between c.args.sq.level c.args.left far side plane _ _ c.args.y _ is c.args.runs.now.items mid _ low one)

pub bits-requires : goal.bits-requires
bits-requires g t c = subst (λ n. IsKnown (g.B.Look.book c.args.book.now) n c.args.sq) c.if-sq-eq-LEAF_LEVEL.true c.requires.known
