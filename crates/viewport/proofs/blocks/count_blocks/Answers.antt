use Rattle.std.proofs.Common.{◌≡◌, ℕ, ℤ, pos, ◌+ℤ◌, ◌-ℤ◌, ap, ◌∙◌, ◌++◌, sym, arith, rules, w64, SFits, replicate}
use Rattle.std.proofs.lemmas.Int.{ints, to_z-of_z}
use Rattle.std.proofs.lemmas.Result.{on_ok_weaker}
use Rattle.squares.proofs.Kept.{keeps_none}
use Rattle.viewport.specs.BlockSpans.{span_counts}
use Rattle.viewport.proofs.Quarters.{known_square}
use Rattle.viewport.proofs.RowsOfBlocks.{beside_counts, inside_span, outside_counts, three_added}
use Rattle.viewport.proofs.blocks.count_blocks.Goals as goal

pub returns-in_default-clause-ok : goal.returns-in_default-clause-ok
returns-in_default-clause-ok g c =
    let book = g.R.Reading.book c.args.from.now in
    let j : SFits w64 c.args.j = c.ranges.j in
    let low = c.requires.known.low in
    let square = known_square book c.args.sq.level c.args.sq (g.met.R.Reading.is_book c.args.from.now) c.requires.known in
    on_ok_weaker c.add_dead.result
    (λ e. e
    ∙ ap (λ n. c.args.found.now.items ++ replicate n 0) c.from.ensures
    ∙ ap (λ l. c.args.found.now.items ++ l)
    (sym (outside_counts c.args.sq.level c.args.blocks.now.exponent c.min-exponent.result (book.cells c.args.sq) (omega (arith, low)) c.min-exponent.ensures square
    c.args.blocks.now.left c.args.j c.args.blocks.now.width (simp to_z-of_z at c.in_default.ensures))))
    c.add_dead.ensures.ok

pub count_span-requires-clause-span : goal.count_span-requires-clause-span
count_span-requires-clause-span g c =
    let low = c.requires.known.low in
    let least = c.min-exponent.ensures in
    let left : SFits w64 c.args.blocks.now.left = omega (arith, ints) in
    let half : SFits w64 c.signed_half_side.result = search rules in
    let are = simp to_z-of_z at c.columns_beside-columns.ensures in
    inside_span c.args.sq.level c.min-exponent.result c.in-Some.row c.args.blocks.now.left c.signed_half_side.result c.args.blocks.now.width c.columns_beside-columns.result
    (omega (arith, low, least)) c.signed_half_side.ensures.side are c.in-Some.ensures.1

row_place : (row n : ℕ) (j half : ℤ) → pos row ≡ j +ℤ pos n → half ≡ pos n → j ≡ pos row -ℤ half
row_place row n j half e side = omega (arith, ints, e, side)

pub returns-clause-ok : goal.returns-clause-ok
returns-clause-ok g c =
    let book = g.R.Reading.book c.args.from.now in
    let j : SFits w64 c.args.j = c.ranges.j in
    let low = c.requires.known.low in
    let square = known_square book c.args.sq.level c.args.sq (g.met.R.Reading.is_book c.args.from.now) c.requires.known in
    let columns = c.columns_beside-columns.result in
    let left : SFits w64 c.args.blocks.now.left = omega (arith, ints) in
    let half : SFits w64 c.signed_half_side.result = search rules in
    let are = simp to_z-of_z at c.columns_beside-columns.ensures in
    on_ok_weaker c.add_dead-3.result
    (λ last. three_added c.args.found.now.items c.add_dead-2.new.found.items c.count_span.new.found.items c.add_dead-3.new.found.items
    (replicate columns.before 0) (span_counts (book.cells c.args.sq) c.min-exponent.result (record { row = c.in-Some.row; from = columns.from; end = columns.end })) (replicate columns.behind 0) _
    c.in_ok-add_dead.ensures.ok c.in_ok-count_span.ensures.ok last
    (beside_counts c.args.sq.level c.args.blocks.now.exponent c.min-exponent.result (book.cells c.args.sq) (omega (arith, low)) c.min-exponent.ensures square
    c.args.blocks.now.left c.args.j c.signed_half_side.result c.args.blocks.now.width c.in-Some.row columns c.signed_half_side.ensures.side
    (row_place c.in-Some.row _ c.args.j c.signed_half_side.result (simp to_z-of_z at c.in-Some.ensures.0) c.signed_half_side.ensures.side) are))
    c.add_dead-3.ensures.ok

pub returns-in_default-clause-counted : goal.returns-in_default-clause-counted
returns-in_default-clause-counted g c = c.requires.counted

pub returns-in_default-clause-keeps : goal.returns-in_default-clause-keeps
returns-in_default-clause-keeps g c = keeps_none _

pub returns-in_err-add_dead-clause-counted : goal.returns-in_err-add_dead-clause-counted
returns-in_err-add_dead-clause-counted g c = c.requires.counted

pub returns-in_err-add_dead-clause-keeps : goal.returns-in_err-add_dead-clause-keeps
returns-in_err-add_dead-clause-keeps g c = keeps_none _

pub returns-in_err-count_span-clause-counted : goal.returns-in_err-count_span-clause-counted
returns-in_err-count_span-clause-counted g c = c.count_span.ensures.counted

pub returns-in_err-count_span-clause-keeps : goal.returns-in_err-count_span-clause-keeps
returns-in_err-count_span-clause-keeps g c = c.count_span.ensures.keeps

pub returns-clause-counted : goal.returns-clause-counted
returns-clause-counted g c = c.count_span.ensures.counted

pub returns-clause-keeps : goal.returns-clause-keeps
returns-clause-keeps g c = c.count_span.ensures.keeps

pub count_span-requires-clause-known : goal.count_span-requires-clause-known
count_span-requires-clause-known g c = c.requires.known

pub count_span-requires-clause-counted : goal.count_span-requires-clause-counted
count_span-requires-clause-counted g c = c.requires.counted
