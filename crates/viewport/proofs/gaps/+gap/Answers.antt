use Rattle.std.proofs.Common.{◌+◌, ◌-◌, ◌^◌, ℕ, sym, ◌∙◌, subst, arith, rules}
use Rattle.std.specs.Prelude.{Option}
use Rattle.std.specs.Option.{option_map}
use Rattle.plane.proofs.Paddings.{twice_half}
use Rattle.squares.specs.Book.{IsKnown}
use Rattle.squares.proofs.Kept.{adds_none, adds_trans, known_kept}
use Rattle.squares.proofs.NotedValues.{true_of_kept, true_of_same}
use Rattle.viewport.specs.Gaps.{IsGap, IsKnownGap}
use Rattle.viewport.specs.Halves.{either}
use Rattle.viewport.proofs.GapsLater.{gap_as, gap_before, gap_later, gap_level, kept_gaps}
use Rattle.viewport.proofs.GapsOfHalves.{far_found, far_small, lesser_gap, near_gap, none_live}
use Rattle.viewport.proofs.QuartersAtSides.{known_halves, of_two_quarters, pair_kept, side_known}
use Rattle.viewport.proofs.gaps.+gap.Goals as goal

pub gap-returns-then-sq-eq-LEAF_LEVEL-clause-noted : goal.gap-returns-then-sq-eq-LEAF_LEVEL-clause-noted
gap-returns-then-sq-eq-LEAF_LEVEL-clause-noted g t c = kept_gaps (g.R.Reading.book c.args.book.now) (g.R.Reading.book c.cells_of.new.self) c.args.side c.args.gaps.now c.cells_of.ensures.adds.keeps c.requires.noted

pub gap-returns-clause-noted : goal.gap-returns-clause-noted
gap-returns-clause-noted g t c =
    let was = g.R.Reading.book c.args.book.now in
    let now = g.R.Reading.book c.quarters_gap-2.new.book in
    let keeps = c.in_ok-whole.ensures.adds.keeps in
    record {
      gap = true_of_kept (IsKnownGap now c.args.side) c.quarters_gap-2.new.gaps c.insert.new.self c.args.sq c.in_ok-whole.whole c.in_ok-whole.ensures.noted.gap
          (keeps.known c.args.sq c.requires.known.known, gap_later c.args.side was now c.args.sq c.in_ok-whole.whole keeps c.requires.known.known c.in_ok-whole.ensures.ok)
          c.in_ok-insert.ensures.updates;
    }

pub gap-returns-in_err-insert-clause-noted : goal.gap-returns-in_err-insert-clause-noted
gap-returns-in_err-insert-clause-noted g t c =
    let now = g.R.Reading.book c.quarters_gap-2.new.book in
    record { gap = true_of_same (IsKnownGap now c.args.side) c.quarters_gap-2.new.gaps c.insert.new.self c.in_ok-whole.ensures.noted.gap c.in_err-insert.ensures.err }

pub quarters_gap-half_gap-requires : goal.quarters_gap-half_gap-requires
quarters_gap-half_gap-requires g t c κs within =
    let was = g.R.Reading.book c.args.book.now in
    let read = g.R.Reading.book c.quarters_of-quarters.new.self in
    let known = side_known c.args.side read c.args.sq.level (was.cells c.args.sq) c.quarters_of-quarters.result c.side_first.result c.side_first.ensures c.quarters_of-quarters.ensures.value in
    let at_level = known.first.at_level in (
      search rules,
      (
        search rules,
        of_two_quarters read c.args.sq.level _ _ c.requires.high known.first known.second (kept_gaps was read c.args.side c.args.gaps.now c.quarters_of-quarters.ensures.adds.keeps c.requires.noted),
      ),
    )

pub quarters_gap-half_gap-requires-2 : goal.quarters_gap-half_gap-requires-2
quarters_gap-half_gap-requires-2 g t c κs within =
    let was = g.R.Reading.book c.args.book.now in
    let read = g.R.Reading.book c.quarters_of-quarters.new.self in
    let known = side_known c.args.side read c.args.sq.level (was.cells c.args.sq) c.quarters_of-quarters.result c.side_first.result c.side_first.ensures c.quarters_of-quarters.ensures.value in
    let keeps = c.in_ok-near.ensures.adds.keeps in
    let at_level = known.third.at_level in (
      search rules,
      (search rules, of_two_quarters _ c.args.sq.level _ _ c.requires.high (known_kept keeps known.third) (known_kept keeps known.fourth) c.in_ok-near.ensures.noted),
    )

pub quarters_gap-returns-then-is_some-clause-ok : goal.quarters_gap-returns-then-is_some-clause-ok
quarters_gap-returns-then-is_some-clause-ok g t c =
    let was = g.R.Reading.book c.args.book.now in
    let read = g.R.Reading.book c.quarters_of-quarters.new.self in
    let sq = c.args.sq in
    let h : ℕ = 2 ^ (sq.level - 1) in
    let quarters = c.quarters_of-quarters.result in let squares = c.side_first.result in
    let known = side_known c.args.side read sq.level (was.cells sq) quarters squares c.side_first.ensures c.quarters_of-quarters.ensures.value in
    let halves = known_halves c.args.side was read sq quarters squares (g.met.R.Reading.is_book c.quarters_of-quarters.new.self) c.quarters_of-quarters.ensures.adds.keeps c.requires.known c.requires.low c.quarters_of-quarters.ensures.value c.side_first.ensures in
    subst (λ n. IsGap c.args.side n (was.cells sq) c.in_ok-near.near) (sym (twice_half sq.level (omega arith)))
    (near_gap c.args.side h (was.cells sq) _ _ c.in_ok-near.near halves (sym c.is_some.ensures ∙ c.if-is_some.true) (gap_level c.args.side _ _ _ c.in_ok-near.near known.first.at_level c.in_ok-near.ensures.ok))

pub quarters_gap-farther-requires : goal.quarters_gap-farther-requires
quarters_gap-farther-requires g t c = λ x e.
    let was = g.R.Reading.book c.args.book.now in
    let read = g.R.Reading.book c.quarters_of-quarters.new.self in
    let one = g.R.Reading.book c.half_gap.new.book in
    let sq = c.args.sq in
    let h : ℕ = 2 ^ (sq.level - 1) in
    let quarters = c.quarters_of-quarters.result in let squares = c.side_first.result in
    let known = side_known c.args.side read sq.level (was.cells sq) quarters squares c.side_first.ensures c.quarters_of-quarters.ensures.value in
    let halves = known_halves c.args.side was read sq quarters squares (g.met.R.Reading.is_book c.quarters_of-quarters.new.self) c.quarters_of-quarters.ensures.adds.keeps c.requires.known c.requires.low c.quarters_of-quarters.ensures.value c.side_first.ensures in
    let small = far_small c.args.side h (was.cells sq) _ _ c.in_ok-far.far halves
    (gap_as c.args.side h _ _ c.in_ok-far.far (pair_kept read one _ _ c.in_ok-near.ensures.adds.keeps known.third.known known.fourth.known) (gap_level c.args.side _ _ _ c.in_ok-far.far known.third.at_level c.in_ok-far.ensures.ok)) x e in
    let side_is = c.half_side.ensures.value in let bound = c.half_side.ensures.bound in omega (arith, small, side_is, bound)

pub quarters_gap-returns-clause-ok : goal.quarters_gap-returns-clause-ok
quarters_gap-returns-clause-ok g t c =
    let was = g.R.Reading.book c.args.book.now in
    let read = g.R.Reading.book c.quarters_of-quarters.new.self in
    let one = g.R.Reading.book c.half_gap.new.book in
    let sq = c.args.sq in
    let h : ℕ = 2 ^ (sq.level - 1) in
    let quarters = c.quarters_of-quarters.result in let squares = c.side_first.result in
    let known = side_known c.args.side read sq.level (was.cells sq) quarters squares c.side_first.ensures c.quarters_of-quarters.ensures.value in
    let halves = known_halves c.args.side was read sq quarters squares (g.met.R.Reading.is_book c.quarters_of-quarters.new.self) c.quarters_of-quarters.ensures.adds.keeps c.requires.known c.requires.low c.quarters_of-quarters.ensures.value c.side_first.ensures in
    let none = none_live c.args.side h _ c.in_ok-near.near (sym c.is_some.ensures ∙ c.if-is_some.false) (gap_level c.args.side _ _ _ c.in_ok-near.near known.first.at_level c.in_ok-near.ensures.ok) in
    let far = gap_as c.args.side h _ _ c.in_ok-far.far (pair_kept read one _ _ c.in_ok-near.ensures.adds.keeps known.third.known known.fourth.known) (gap_level c.args.side _ _ _ c.in_ok-far.far known.third.at_level c.in_ok-far.ensures.ok) in
    subst (λ (o : Option ℕ). IsGap c.args.side (2 ^ sq.level) (was.cells sq) o) (sym c.farther.ensures)
    (subst (λ n. IsGap c.args.side (2 ^ sq.level) (was.cells sq) (option_map (λ x. x + n) c.in_ok-far.far)) (sym c.half_side.ensures.value)
    (subst (λ n. IsGap c.args.side n (was.cells sq) (option_map (λ x. x + h) c.in_ok-far.far)) (sym (twice_half sq.level (omega arith)))
    (far_found c.args.side h (was.cells sq) _ _ c.in_ok-far.far halves none far)))

pub quarters_gap-returns-clause-adds : goal.quarters_gap-returns-clause-adds
quarters_gap-returns-clause-adds g t c = adds_trans c.quarters_of-quarters.ensures.adds (adds_trans c.in_ok-near.ensures.adds c.in_ok-far.ensures.adds)

pub gap-returns-then-is_empty-clause-noted : goal.gap-returns-then-is_empty-clause-noted
gap-returns-then-is_empty-clause-noted g t c = c.requires.noted

pub gap-returns-then-is_empty-clause-adds : goal.gap-returns-then-is_empty-clause-adds
gap-returns-then-is_empty-clause-adds g t c = adds_none _

pub gap-returns-in-Some-clause-ok : goal.gap-returns-in-Some-clause-ok
gap-returns-in-Some-clause-ok g t c = (c.requires.noted.gap c.args.sq c.in-Some.known.now (sym c.in-Some.ensures.value)).1

pub gap-returns-in-Some-clause-noted : goal.gap-returns-in-Some-clause-noted
gap-returns-in-Some-clause-noted g t c = c.requires.noted

pub gap-returns-in-Some-clause-adds : goal.gap-returns-in-Some-clause-adds
gap-returns-in-Some-clause-adds g t c = adds_none _

pub gap-returns-in_err-whole-clause-noted : goal.gap-returns-in_err-whole-clause-noted
gap-returns-in_err-whole-clause-noted g t c = c.in_err-whole.ensures.noted

pub gap-returns-in_err-whole-clause-adds : goal.gap-returns-in_err-whole-clause-adds
gap-returns-in_err-whole-clause-adds g t c = c.in_err-whole.ensures.adds

pub gap-returns-in_err-insert-clause-adds : goal.gap-returns-in_err-insert-clause-adds
gap-returns-in_err-insert-clause-adds g t c = c.in_ok-whole.ensures.adds

pub gap-returns-clause-ok : goal.gap-returns-clause-ok
gap-returns-clause-ok g t c = c.in_ok-whole.ensures.ok

pub gap-returns-clause-adds : goal.gap-returns-clause-adds
gap-returns-clause-adds g t c = c.in_ok-whole.ensures.adds

pub half_gap-returns-in_err-first-clause-noted : goal.half_gap-returns-in_err-first-clause-noted
half_gap-returns-in_err-first-clause-noted g t c = c.in_err-first.ensures.noted

pub half_gap-returns-in_err-first-clause-adds : goal.half_gap-returns-in_err-first-clause-adds
half_gap-returns-in_err-first-clause-adds g t c = c.in_err-first.ensures.adds

pub half_gap-returns-in_err-second-clause-noted : goal.half_gap-returns-in_err-second-clause-noted
half_gap-returns-in_err-second-clause-noted g t c = c.in_err-second.ensures.noted

pub half_gap-returns-in_err-second-clause-adds : goal.half_gap-returns-in_err-second-clause-adds
half_gap-returns-in_err-second-clause-adds g t c = adds_trans c.in_ok-first.ensures.adds c.in_err-second.ensures.adds

pub half_gap-returns-clause-noted : goal.half_gap-returns-clause-noted
half_gap-returns-clause-noted g t c = c.in_ok-second.ensures.noted

pub half_gap-returns-clause-adds : goal.half_gap-returns-clause-adds
half_gap-returns-clause-adds g t c = adds_trans c.in_ok-first.ensures.adds c.in_ok-second.ensures.adds

pub quarters_gap-returns-then-is_some-clause-adds : goal.quarters_gap-returns-then-is_some-clause-adds
quarters_gap-returns-then-is_some-clause-adds g t c = adds_trans c.quarters_of-quarters.ensures.adds c.in_ok-near.ensures.adds

pub quarters_gap-returns-in_err-far-clause-adds : goal.quarters_gap-returns-in_err-far-clause-adds
quarters_gap-returns-in_err-far-clause-adds g t c = adds_trans c.quarters_of-quarters.ensures.adds (adds_trans c.in_ok-near.ensures.adds c.in_err-far.ensures.adds)

pub gap-cells_of-requires : goal.gap-cells_of-requires
gap-cells_of-requires g t c = subst (λ n. IsKnown (g.R.Reading.book c.args.book.now) n c.args.sq) c.if-sq-eq-LEAF_LEVEL.true c.requires.known

pub half_gap-returns-clause-ok : goal.half_gap-returns-clause-ok
half_gap-returns-clause-ok g t c =
    let was = g.R.Reading.book c.args.book.now in
    let one = c.args.first in let two = c.args.second in
    let b = c.in_ok-second.second in
    let second = gap_before c.args.side was _ two b c.in_ok-first.ensures.adds.keeps c.requires.second.known c.in_ok-second.ensures.ok in
    subst (λ (o : Option ℕ). IsGap c.args.side (2 ^ one.level) (either (was.cells one) (was.cells two)) o) (sym c.lesser_gap.ensures)
    (lesser_gap c.args.side (2 ^ one.level) _ _ c.in_ok-first.first b c.in_ok-first.ensures.ok (gap_level c.args.side _ _ (was.cells two) b c.requires.second.at_level second))

pub gap-returns-then-sq-lt-LOWEST_NOTED-clause-ok : goal.gap-returns-then-sq-lt-LOWEST_NOTED-clause-ok
gap-returns-then-sq-lt-LOWEST_NOTED-clause-ok g t c = c.quarters_gap.ensures.ok

pub gap-returns-then-sq-lt-LOWEST_NOTED-clause-noted : goal.gap-returns-then-sq-lt-LOWEST_NOTED-clause-noted
gap-returns-then-sq-lt-LOWEST_NOTED-clause-noted g t c = c.quarters_gap.ensures.noted

pub gap-returns-then-sq-lt-LOWEST_NOTED-clause-adds : goal.gap-returns-then-sq-lt-LOWEST_NOTED-clause-adds
gap-returns-then-sq-lt-LOWEST_NOTED-clause-adds g t c = c.quarters_gap.ensures.adds

pub gap-returns-then-sq-eq-LEAF_LEVEL-clause-adds : goal.gap-returns-then-sq-eq-LEAF_LEVEL-clause-adds
gap-returns-then-sq-eq-LEAF_LEVEL-clause-adds g t c = c.cells_of.ensures.adds

pub quarters_gap-returns-in_err-near-clause-noted : goal.quarters_gap-returns-in_err-near-clause-noted
quarters_gap-returns-in_err-near-clause-noted g t c = c.half_gap.ensures.noted

pub quarters_gap-returns-in_err-near-clause-adds : goal.quarters_gap-returns-in_err-near-clause-adds
quarters_gap-returns-in_err-near-clause-adds g t c = adds_trans c.quarters_of-quarters.ensures.adds c.half_gap.ensures.adds

pub quarters_gap-returns-then-is_some-clause-noted : goal.quarters_gap-returns-then-is_some-clause-noted
quarters_gap-returns-then-is_some-clause-noted g t c = c.half_gap.ensures.noted

pub quarters_gap-returns-in_err-far-clause-noted : goal.quarters_gap-returns-in_err-far-clause-noted
quarters_gap-returns-in_err-far-clause-noted g t c = c.half_gap-2.ensures.noted

pub quarters_gap-returns-clause-noted : goal.quarters_gap-returns-clause-noted
quarters_gap-returns-clause-noted g t c = c.half_gap-2.ensures.noted
