use Rattle.std.proofs.Common.{◌≡◌, ◌-◌, ◌^◌, ◌++◌, ◌≤◌, sym, subst, ◌∙◌, ap, arith, rules}
use Rattle.std.proofs.lemmas.Result.{on_ok_weaker}
use Rattle.plane.specs.Plane.{Plane}
use Rattle.plane.proofs.Same.{plane_equal}
use Rattle.squares.specs.Book.{IsKnown}
use Rattle.squares.proofs.Kept.{keeps_none, keeps_trans, known_kept}
use Rattle.viewport.specs.BlockSpans.{IsInBlocks, span_counts}
use Rattle.viewport.proofs.Counts.{zero_is_empty}
use Rattle.viewport.proofs.CountsLater.{kept_counts}
use Rattle.viewport.proofs.Quarters.{of_quarter, own_level}
use Rattle.viewport.proofs.SpanCounts.{blocks_of_half, empty_blocks, joined_on, left_in_blocks, no_blocks, parts_of, right_in_blocks, span_in_halves, whole_block}
use Rattle.viewport.proofs.block_spans.+count_span.Goals as goal

pub returns-then-span-clause-ok : goal.returns-then-span-clause-ok
returns-then-span-clause-ok g t c = no_blocks _ _ c.args.span _ c.if-span.true

pub returns-then-is_empty-clause-ok : goal.returns-then-is_empty-clause-ok
returns-then-is_empty-clause-ok g t c =
    let book = g.R.Reading.book c.args.from.now in
    on_ok_weaker c.add_dead.result
    (λ e. e ∙ ap (λ l. c.args.found.now.items ++ l) (sym (empty_blocks (book.cells c.args.sq) c.args.exponent c.args.span (zero_is_empty book c.args.sq (g.met.R.Reading.is_book c.args.from.now) (c.is_empty.ensures.0 c.if-is_empty.true)))))
    c.add_dead.ensures.ok

pub returns-then-sq-exponent-clause-ok : goal.returns-then-sq-exponent-clause-ok
returns-then-sq-exponent-clause-ok g t c =
    let book = g.R.Reading.book c.args.from.now in
    c.in_ok-push.ensures.items
    ∙ ap (λ l. c.args.found.now.items ++ l)
    (sym (whole_block (book.cells c.args.sq) c.args.sq.level c.args.exponent c.args.span _ c.if-sq-exponent.true c.requires.span c.if-span.false c.in_ok-count.ensures.ok.cells))

pub returns-then-sq-eq-LEAF_LEVEL-clause-counted : goal.returns-then-sq-eq-LEAF_LEVEL-clause-counted
returns-then-sq-eq-LEAF_LEVEL-clause-counted g t c =
    kept_counts (g.R.Reading.book c.args.from.now) (g.R.Reading.book c.cells_of.new.self) c.args.counts.now c.cells_of.ensures.adds.keeps c.requires.counted

pub half_with_blocks-row-requires-clause-row : goal.half_with_blocks-row-requires-clause-row
half_with_blocks-row-requires-clause-row g t c =
    let exponent = c.requires.exponent in
    let other = c.if-sq-exponent.false in
    let side = blocks_of_half c.args.sq.level c.args.exponent c.half_side-half.result (omega (arith, exponent, other)) c.half_side-half.ensures.value in
    let row = c.requires.span.row in omega (arith, side, row)

pub count_span-requires-2 : goal.count_span-requires-2
count_span-requires-2 g t c κs within =
    let exponent = c.requires.exponent in
    let other = c.if-sq-exponent.false in
    let half = c.half_with_blocks-row in
    let keeps = c.in_ok-count_span.ensures.keeps in
    let at_level = half.ensures.second.at_level in
    let side = c.half_side-half.ensures.value in
    let blocks = blocks_of_half c.args.sq.level c.args.exponent c.half_side-half.result (omega (arith, exponent, other)) side in
    let less : c.args.sq.level - c.args.exponent - 1 ≡ half.result.1.level - c.args.exponent = omega (arith, at_level) in (
      search rules,
      (
        search rules,
        (
          own_level _ _ _ (known_kept keeps half.ensures.second),
          (
            omega (arith, at_level),
            (
              omega (arith, at_level, exponent, other),
              (
                subst (λ n. IsInBlocks n c.right_part.result) (side ∙ ap (λ n. 2 ^ n) less)
                    (right_in_blocks c.half_side-half.result half.result.2 c.args.span c.left_part.result c.right_part.result (subst (λ n. IsInBlocks n c.args.span) blocks c.requires.span) half.ensures.row.inside
                    (parts_of c.half_side-half.result half.result.2 c.args.span c.left_part.result c.right_part.result c.left_part.ensures.row c.left_part.ensures.from c.left_part.ensures.end c.right_part.ensures.row c.right_part.ensures.from c.right_part.ensures.end)),
                c.in_ok-count_span.ensures.counted,
              ),
            ),
          ),
        ),
      ),
    )

pub returns-clause-ok : goal.returns-clause-ok
returns-clause-ok g t c =
    let old = g.R.Reading.book c.args.from.now in
    let half = c.half_with_blocks-row in
    let book = g.R.Reading.book half.new.from in
    let later = g.R.Reading.book c.count_span.new.from in
    let exponent = c.requires.exponent in
    let other = c.if-sq-exponent.false in
    let left = span_counts (book.cells half.result.0) c.args.exponent c.left_part.result in
    let same : later.cells half.result.1 ≡ book.cells half.result.1 = plane_equal _ _ (c.in_ok-count_span.ensures.keeps.cells half.result.1 half.ensures.second.known) in
    let whole = span_in_halves book c.args.sq.level c.args.exponent c.half_side-half.result half.result.2 (old.cells c.args.sq) half.result.0 half.result.1 c.args.span c.left_part.result c.right_part.result
    (g.met.R.Reading.is_book half.new.from) (omega (arith, exponent, other)) c.half_side-half.ensures.value c.requires.span half.ensures.first half.ensures.second half.ensures.row
    (parts_of c.half_side-half.result half.result.2 c.args.span c.left_part.result c.right_part.result c.left_part.ensures.row c.left_part.ensures.from c.left_part.ensures.end c.right_part.ensures.row c.right_part.ensures.from c.right_part.ensures.end) in
    on_ok_weaker c.count_span-2.result
    (λ e. joined_on c.args.found.now.items c.count_span.new.found.items c.count_span-2.new.found.items left _ _ c.in_ok-count_span.ensures.ok
    (e ∙ ap (λ (p : Plane). c.count_span.new.found.items ++ span_counts p c.args.exponent c.right_part.result) same) whole)
    c.count_span-2.ensures.ok

pub returns-clause-keeps : goal.returns-clause-keeps
returns-clause-keeps g t c = keeps_trans c.half_with_blocks-row.ensures.keeps (keeps_trans c.in_ok-count_span.ensures.keeps c.count_span-2.ensures.keeps)

pub returns-then-span-clause-keeps : goal.returns-then-span-clause-keeps
returns-then-span-clause-keeps g t c = keeps_none _

pub returns-then-is_empty-clause-keeps : goal.returns-then-is_empty-clause-keeps
returns-then-is_empty-clause-keeps g t c = keeps_none _

pub returns-in_err-count_span-clause-keeps : goal.returns-in_err-count_span-clause-keeps
returns-in_err-count_span-clause-keeps g t c = keeps_trans c.half_with_blocks-row.ensures.keeps c.in_err-count_span.ensures.keeps

pub count_span-requires : goal.count_span-requires
count_span-requires g t c κs within =
    let exponent = c.requires.exponent in
    let other = c.if-sq-exponent.false in
    let half = c.half_with_blocks-row in
    let at_level = half.ensures.first.at_level in
    let n = c.half_side-half.result in
    let side = c.half_side-half.ensures.value in
    let part = c.left_part.ensures in
    let blocks = blocks_of_half c.args.sq.level c.args.exponent n (omega (arith, exponent, other)) side in
    let less : c.args.sq.level - c.args.exponent - 1 ≡ half.result.0.level - c.args.exponent = omega (arith, at_level) in
    let whole = subst (λ n. IsInBlocks n c.args.span) blocks c.requires.span in
    let left = left_in_blocks n half.result.2 c.args.span c.left_part.result whole half.ensures.row.inside part.row part.from part.end in
    let in_blocks = subst (λ n. IsInBlocks n c.left_part.result) (side ∙ ap (λ n. 2 ^ n) less) left in
    let counts = kept_counts _ _ c.args.counts.now half.ensures.keeps c.requires.counted in
    let below : c.args.exponent ≤ half.result.0.level = omega (arith, at_level, exponent, other) in
    (search rules, (search rules, of_quarter _ _ _ c.requires.level half.ensures.first (below, (in_blocks, counts))))

pub cells_of-requires : goal.cells_of-requires
cells_of-requires g t c = subst (λ n. IsKnown (g.R.Reading.book c.args.from.now) n c.args.sq) c.if-sq-eq-LEAF_LEVEL.true c.requires.known

pub returns-then-span-clause-counted : goal.returns-then-span-clause-counted
returns-then-span-clause-counted g t c = c.requires.counted

pub returns-then-is_empty-clause-counted : goal.returns-then-is_empty-clause-counted
returns-then-is_empty-clause-counted g t c = c.requires.counted

pub returns-in_err-count-clause-counted : goal.returns-in_err-count-clause-counted
returns-in_err-count-clause-counted g t c = c.count.ensures.counted

pub returns-in_err-count-clause-keeps : goal.returns-in_err-count-clause-keeps
returns-in_err-count-clause-keeps g t c = c.count.ensures.adds.keeps

pub returns-in_err-push-clause-counted : goal.returns-in_err-push-clause-counted
returns-in_err-push-clause-counted g t c = c.count.ensures.counted

pub returns-in_err-push-clause-keeps : goal.returns-in_err-push-clause-keeps
returns-in_err-push-clause-keeps g t c = c.count.ensures.adds.keeps

pub returns-then-sq-exponent-clause-counted : goal.returns-then-sq-exponent-clause-counted
returns-then-sq-exponent-clause-counted g t c = c.count.ensures.counted

pub returns-then-sq-exponent-clause-keeps : goal.returns-then-sq-exponent-clause-keeps
returns-then-sq-exponent-clause-keeps g t c = c.count.ensures.adds.keeps

pub returns-then-sq-eq-LEAF_LEVEL-clause-keeps : goal.returns-then-sq-eq-LEAF_LEVEL-clause-keeps
returns-then-sq-eq-LEAF_LEVEL-clause-keeps g t c = c.cells_of.ensures.adds.keeps

pub returns-in_err-count_span-clause-counted : goal.returns-in_err-count_span-clause-counted
returns-in_err-count_span-clause-counted g t c = c.count_span.ensures.counted

pub returns-clause-counted : goal.returns-clause-counted
returns-clause-counted g t c = c.count_span-2.ensures.counted
