use Rattle.std.proofs.Common.{sym, subst, arith, rules}
use Rattle.squares.specs.Book.{nth, AreQuarters, IsKnown}
use Rattle.squares.proofs.Kept.{adds_none, adds_trans, keeps_trans, known_kept}
use Rattle.plane.specs.Plane.{Plane}
use Rattle.plane.proofs.Same.{plane_equal}
use Rattle.viewport.proofs.Counts.{counted_as, none_counted, four_counted, few}
use Rattle.squares.proofs.NotedValues.{true_of_kept, true_of_same}
use Rattle.viewport.proofs.Quarters.{of_quarter, quartered}
use Rattle.viewport.specs.Population.{IsKnownCount}
use Rattle.viewport.proofs.CountsLater.{count_before, count_later, kept_counts}
use Rattle.viewport.proofs.populations.+count.Goals as goal

pub count-returns-then-is_empty-clause-ok : goal.count-returns-then-is_empty-clause-ok
count-returns-then-is_empty-clause-ok g t c = none_counted (g.R.Reading.book c.args.from.now) c.args.sq (g.met.R.Reading.is_book c.args.from.now) (c.is_empty.ensures.0 c.if-is_empty.true)

pub count-returns-then-sq-eq-LEAF_LEVEL-clause-ok : goal.count-returns-then-sq-eq-LEAF_LEVEL-clause-ok
count-returns-then-sq-eq-LEAF_LEVEL-clause-ok g t c =
    counted_as (g.R.Reading.book c.args.from.now) c.args.sq 3 c.leaf_count.result _ c.if-sq-eq-LEAF_LEVEL.true c.cells_of.ensures.value.cells c.leaf_count.ensures.count c.leaf_count.ensures.most

pub count-returns-then-sq-eq-LEAF_LEVEL-clause-counted : goal.count-returns-then-sq-eq-LEAF_LEVEL-clause-counted
count-returns-then-sq-eq-LEAF_LEVEL-clause-counted g t c = kept_counts (g.R.Reading.book c.args.from.now) (g.R.Reading.book c.cells_of.new.self) c.args.counts.now c.cells_of.ensures.adds.keeps c.requires.counted

pub count-returns-in-Some-clause-ok : goal.count-returns-in-Some-clause-ok
count-returns-in-Some-clause-ok g t c = (c.requires.counted.count c.args.sq c.in-Some.known.now (sym c.in-Some.ensures.value)).1

pub count-returns-clause-counted : goal.count-returns-clause-counted
count-returns-clause-counted g t c =
    let was = g.R.Reading.book c.args.from.now in
    let now = g.R.Reading.book c.count_quarters-2.new.from in
    let keeps = c.in_ok-whole.ensures.adds.keeps in
    record {
      count = true_of_kept (IsKnownCount now) c.count_quarters-2.new.counts c.insert.new.self c.args.sq c.in_ok-whole.whole c.in_ok-whole.ensures.counted.count
          (keeps.known c.args.sq c.requires.known.known, count_later was now c.args.sq c.in_ok-whole.whole keeps c.requires.known.known c.in_ok-whole.ensures.ok) c.in_ok-insert.ensures.updates;
    }

pub count_quarters-count-requires : goal.count_quarters-count-requires
count_quarters-count-requires g t c κs within =
    let at_level = c.quarters_of.ensures.value.nw.known.at_level in (
      search rules,
      (
        search rules,
        of_quarter _ _ _ c.requires.high c.quarters_of.ensures.value.nw.known
            (kept_counts (g.R.Reading.book c.args.from.now) (g.R.Reading.book c.quarters_of.new.self) c.args.counts.now c.quarters_of.ensures.adds.keeps c.requires.counted),
      ),
    )

pub count_quarters-count-requires-2 : goal.count_quarters-count-requires-2
count_quarters-count-requires-2 g t c κs within =
    let at_level = c.quarters_of.ensures.value.ne.known.at_level in
    (search rules, (search rules, of_quarter _ _ _ c.requires.high (known_kept c.in_ok-count.ensures.adds.keeps c.quarters_of.ensures.value.ne.known) c.in_ok-count.ensures.counted))

pub count_quarters-count-requires-3 : goal.count_quarters-count-requires-3
count_quarters-count-requires-3 g t c κs within =
    let at_level = c.quarters_of.ensures.value.sw.known.at_level in
    (search rules, (search rules, of_quarter _ _ _ c.requires.high (known_kept c.in_ok-upper.ensures.adds.keeps (known_kept c.in_ok-count.ensures.adds.keeps c.quarters_of.ensures.value.sw.known)) c.in_ok-upper.ensures.counted))

pub count_quarters-count-requires-4 : goal.count_quarters-count-requires-4
count_quarters-count-requires-4 g t c κs within =
    let at_level = c.quarters_of.ensures.value.se.known.at_level in
    (search rules, (search rules, of_quarter _ _ _ c.requires.high (known_kept c.in_ok-count-2.ensures.adds.keeps (known_kept c.in_ok-upper.ensures.adds.keeps (known_kept c.in_ok-count.ensures.adds.keeps c.quarters_of.ensures.value.se.known))) c.in_ok-count-2.ensures.counted))

pub count_quarters-overflow_add-upper : goal.count_quarters-overflow_add-upper
count_quarters-overflow_add-upper g t c =
    let a = few _ (nth c.quarters_of.result 0) _ _ c.quarters_of.ensures.value.nw.known.at_level (omega arith) c.in_ok-count.ensures.ok in
    let b = few _ (nth c.quarters_of.result 1) _ _ c.quarters_of.ensures.value.ne.known.at_level (omega arith) c.in_ok-upper.ensures.ok in
    omega (arith, a, b)

pub count_quarters-overflow_add-lower : goal.count_quarters-overflow_add-lower
count_quarters-overflow_add-lower g t c =
    let a = few _ (nth c.quarters_of.result 2) _ _ c.quarters_of.ensures.value.sw.known.at_level (omega arith) c.in_ok-count-2.ensures.ok in
    let b = few _ (nth c.quarters_of.result 3) _ _ c.quarters_of.ensures.value.se.known.at_level (omega arith) c.in_ok-lower.ensures.ok in
    omega (arith, a, b)

pub count_quarters-overflow_add-result : goal.count_quarters-overflow_add-result
count_quarters-overflow_add-result g t c =
    let a = few _ (nth c.quarters_of.result 0) _ _ c.quarters_of.ensures.value.nw.known.at_level (omega arith) c.in_ok-count.ensures.ok in
    let b = few _ (nth c.quarters_of.result 1) _ _ c.quarters_of.ensures.value.ne.known.at_level (omega arith) c.in_ok-upper.ensures.ok in
    let d = few _ (nth c.quarters_of.result 2) _ _ c.quarters_of.ensures.value.sw.known.at_level (omega arith) c.in_ok-count-2.ensures.ok in
    let e = few _ (nth c.quarters_of.result 3) _ _ c.quarters_of.ensures.value.se.known.at_level (omega arith) c.in_ok-lower.ensures.ok in
    omega (arith, a, b, d, e)

pub count_quarters-returns-clause-ok : goal.count_quarters-returns-clause-ok
count_quarters-returns-clause-ok g t c =
    let was = g.R.Reading.book c.args.from.now in
    let read = g.R.Reading.book c.quarters_of.new.self in
    let one = g.R.Reading.book c.count.new.from in
    let two = g.R.Reading.book c.count-2.new.from in
    let three = g.R.Reading.book c.count-3.new.from in
    let value = c.quarters_of.ensures.value in
    let k0 = c.quarters_of.ensures.adds.keeps in
    let k1 = c.in_ok-count.ensures.adds.keeps in
    let k2 = keeps_trans k1 c.in_ok-upper.ensures.adds.keeps in
    let k3 = keeps_trans k2 c.in_ok-count-2.ensures.adds.keeps in
    let sq = c.args.sq in
    let same = plane_equal (read.cells sq) (was.cells sq) (k0.cells sq c.requires.known.known) in
    let parts = subst (λ (p : Plane). AreQuarters read sq.level p c.quarters_of.result) (sym same) value in
    count_before was read sq _ k0 c.requires.known.known
    (four_counted read sq (nth c.quarters_of.result 0) (nth c.quarters_of.result 1) (nth c.quarters_of.result 2) (nth c.quarters_of.result 3) _ _ _ _ (omega arith)
    (quartered read sq c.quarters_of.result (g.met.R.Reading.is_book c.quarters_of.new.self) (known_kept k0 c.requires.known) (omega arith) parts)
    value.nw.known.at_level value.ne.known.at_level value.sw.known.at_level value.se.known.at_level
    c.in_ok-count.ensures.ok
    (count_before read one (nth c.quarters_of.result 1) _ k1 value.ne.known.known c.in_ok-upper.ensures.ok)
    (count_before read two (nth c.quarters_of.result 2) _ k2 value.sw.known.known c.in_ok-count-2.ensures.ok)
    (count_before read three (nth c.quarters_of.result 3) _ k3 value.se.known.known c.in_ok-lower.ensures.ok))

pub count-returns-clause-ok : goal.count-returns-clause-ok
count-returns-clause-ok g t c = c.in_ok-whole.ensures.ok

pub count-returns-then-is_empty-clause-adds : goal.count-returns-then-is_empty-clause-adds
count-returns-then-is_empty-clause-adds g t c = adds_none _

pub count-returns-in-Some-clause-adds : goal.count-returns-in-Some-clause-adds
count-returns-in-Some-clause-adds g t c = adds_none _

pub count-returns-in_err-insert-clause-adds : goal.count-returns-in_err-insert-clause-adds
count-returns-in_err-insert-clause-adds g t c = c.in_ok-whole.ensures.adds

pub count-returns-clause-adds : goal.count-returns-clause-adds
count-returns-clause-adds g t c = c.in_ok-whole.ensures.adds

pub count_quarters-returns-in_err-count-clause-adds : goal.count_quarters-returns-in_err-count-clause-adds
count_quarters-returns-in_err-count-clause-adds g t c = adds_trans c.quarters_of.ensures.adds c.in_err-count.ensures.adds

pub count_quarters-returns-in_err-upper-clause-adds : goal.count_quarters-returns-in_err-upper-clause-adds
count_quarters-returns-in_err-upper-clause-adds g t c =
    adds_trans (adds_trans c.quarters_of.ensures.adds c.in_ok-count.ensures.adds) c.in_err-upper.ensures.adds

pub count_quarters-returns-in_err-count-2-clause-adds : goal.count_quarters-returns-in_err-count-2-clause-adds
count_quarters-returns-in_err-count-2-clause-adds g t c =
    let a1 = adds_trans c.quarters_of.ensures.adds c.in_ok-count.ensures.adds in
    adds_trans (adds_trans a1 c.in_ok-upper.ensures.adds) c.in_err-count-2.ensures.adds

pub count_quarters-returns-in_err-lower-clause-adds : goal.count_quarters-returns-in_err-lower-clause-adds
count_quarters-returns-in_err-lower-clause-adds g t c =
    let a1 = adds_trans c.quarters_of.ensures.adds c.in_ok-count.ensures.adds in
    let a2 = adds_trans a1 c.in_ok-upper.ensures.adds in
    adds_trans (adds_trans a2 c.in_ok-count-2.ensures.adds) c.in_err-lower.ensures.adds

pub count_quarters-returns-clause-adds : goal.count_quarters-returns-clause-adds
count_quarters-returns-clause-adds g t c =
    let a1 = adds_trans c.quarters_of.ensures.adds c.in_ok-count.ensures.adds in
    let a2 = adds_trans a1 c.in_ok-upper.ensures.adds in
    adds_trans (adds_trans a2 c.in_ok-count-2.ensures.adds) c.in_ok-lower.ensures.adds

pub count-cells_of-requires : goal.count-cells_of-requires
count-cells_of-requires g t c = subst (λ n. IsKnown (g.R.Reading.book c.args.from.now) n c.args.sq) c.if-sq-eq-LEAF_LEVEL.true c.requires.known

pub count-returns-in_err-insert-clause-counted : goal.count-returns-in_err-insert-clause-counted
count-returns-in_err-insert-clause-counted g t c =
    let now = g.R.Reading.book c.count_quarters-2.new.from in
    record { count = true_of_same (IsKnownCount now) c.count_quarters-2.new.counts c.insert.new.self c.in_ok-whole.ensures.counted.count c.in_err-insert.ensures.err }

pub count-returns-then-sq-lt-LOWEST_NOTED-clause-ok : goal.count-returns-then-sq-lt-LOWEST_NOTED-clause-ok
count-returns-then-sq-lt-LOWEST_NOTED-clause-ok g t c = c.count_quarters.ensures.ok

pub count-returns-then-sq-lt-LOWEST_NOTED-clause-counted : goal.count-returns-then-sq-lt-LOWEST_NOTED-clause-counted
count-returns-then-sq-lt-LOWEST_NOTED-clause-counted g t c = c.count_quarters.ensures.counted

pub count-returns-then-sq-lt-LOWEST_NOTED-clause-adds : goal.count-returns-then-sq-lt-LOWEST_NOTED-clause-adds
count-returns-then-sq-lt-LOWEST_NOTED-clause-adds g t c = c.count_quarters.ensures.adds

pub count-returns-then-sq-eq-LEAF_LEVEL-clause-adds : goal.count-returns-then-sq-eq-LEAF_LEVEL-clause-adds
count-returns-then-sq-eq-LEAF_LEVEL-clause-adds g t c = c.cells_of.ensures.adds

pub count-returns-then-is_empty-clause-counted : goal.count-returns-then-is_empty-clause-counted
count-returns-then-is_empty-clause-counted g t c = c.requires.counted

pub count-returns-in-Some-clause-counted : goal.count-returns-in-Some-clause-counted
count-returns-in-Some-clause-counted g t c = c.requires.counted

pub count-returns-in_err-whole-clause-counted : goal.count-returns-in_err-whole-clause-counted
count-returns-in_err-whole-clause-counted g t c = c.count_quarters-2.ensures.counted

pub count-returns-in_err-whole-clause-adds : goal.count-returns-in_err-whole-clause-adds
count-returns-in_err-whole-clause-adds g t c = c.count_quarters-2.ensures.adds

pub count_quarters-returns-in_err-count-clause-counted : goal.count_quarters-returns-in_err-count-clause-counted
count_quarters-returns-in_err-count-clause-counted g t c = c.count.ensures.counted

pub count_quarters-returns-in_err-upper-clause-counted : goal.count_quarters-returns-in_err-upper-clause-counted
count_quarters-returns-in_err-upper-clause-counted g t c = c.count-2.ensures.counted

pub count_quarters-returns-in_err-count-2-clause-counted : goal.count_quarters-returns-in_err-count-2-clause-counted
count_quarters-returns-in_err-count-2-clause-counted g t c = c.count-3.ensures.counted

pub count_quarters-returns-in_err-lower-clause-counted : goal.count_quarters-returns-in_err-lower-clause-counted
count_quarters-returns-in_err-lower-clause-counted g t c = c.count-4.ensures.counted

pub count_quarters-returns-clause-counted : goal.count_quarters-returns-clause-counted
count_quarters-returns-clause-counted g t c = c.count-4.ensures.counted
