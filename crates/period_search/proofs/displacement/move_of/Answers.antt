use Rattle.std.proofs.Common.{◌≡◌, ◌-ℤ◌, ◌∙◌, ap, w64, to_z, of_z, sym, arith}
use Rattle.std.proofs.lemmas.Int.{ints}
use Rattle.period_search.proofs.ReadNumbers.{difference_fits}
use Rattle.period_search.proofs.BoxDifferences.{bottom_plain, bottom_read, left_plain, left_read, moved_by_as, right_plain, right_read, top_plain, top_read}
use Rattle.period_search.proofs.MovedBoxes.{other_sides}
use Rattle.period_search.proofs.displacement.move_of.Goals.{else-to-from-via-then-to-from+else-to-from-2, else-to-from-via-else-to-from}
use Rattle.period_search.proofs.displacement.move_of.Goals as goal

pub overflow_sub-right : goal.overflow_sub-right
overflow_sub-right c =
    let from = c.args.from.now in let to = c.args.to.now in let a = c.requires.from.columns in let b = c.requires.to.columns in let a_order = a.order in let b_order = b.order in
    difference_fits from.left from.right to.left to.right from.left to.left a b (omega (arith, ints)) a_order (omega (arith, ints)) b_order

pub overflow_sub-down : goal.overflow_sub-down
overflow_sub-down c =
    let from = c.args.from.now in let to = c.args.to.now in let a = c.requires.from.rows in let b = c.requires.to.rows in let a_order = a.order in let b_order = b.order in
    difference_fits from.top from.bottom to.top to.bottom from.top to.top a b (omega (arith, ints)) a_order (omega (arith, ints)) b_order

pub overflow_sub-to : goal.overflow_sub-to
overflow_sub-to c =
    let from = c.args.from.now in let to = c.args.to.now in let a = c.requires.from.columns in let b = c.requires.to.columns in let a_order = a.order in let b_order = b.order in
    difference_fits from.left from.right to.left to.right from.right to.right a b a_order (omega (arith, ints)) b_order (omega (arith, ints))

pub overflow_sub-to-then-to-from : goal.overflow_sub-to-then-to-from
overflow_sub-to-then-to-from c =
    let from = c.args.from.now in let to = c.args.to.now in let a = c.requires.from.rows in let b = c.requires.to.rows in let a_order = a.order in let b_order = b.order in
    difference_fits from.top from.bottom to.top to.bottom from.bottom to.bottom a b a_order (omega (arith, ints)) b_order (omega (arith, ints))

pub returns-then-to-from-2-clause-some : goal.returns-then-to-from-2-clause-some
returns-then-to-from-2-clause-some c =
    let from = c.args.from.now in
    let to = c.args.to.now in
    let wide : to.right -ℤ from.right ≡ to.left -ℤ from.left = sym (right_read from to c.requires.from c.requires.to) ∙ ap (to_z w64) c.if-to-from.true ∙ left_read from to c.requires.from c.requires.to in
    let tall : to.bottom -ℤ from.bottom ≡ to.top -ℤ from.top = sym (bottom_read from to c.requires.from c.requires.to) ∙ ap (to_z w64) c.if-to-from-2.true ∙ top_read from to c.requires.from c.requires.to in
    moved_by_as from to _ _ (left_read from to c.requires.from c.requires.to) (top_read from to c.requires.from c.requires.to) wide tall

pub returns-else-to-from-clause-none : goal.returns-else-to-from-clause-none
returns-else-to-from-clause-none c =
    let from = c.args.from.now in
    let to = c.args.to.now in
    other_sides from to (λ wide tall.
    elim c.else-to-from.branch [
      | else-to-from-via-then-to-from+else-to-from-2 w ↦ w.if-to-from-2.false (ap (of_z w64) (bottom_plain from to c.requires.from c.requires.to ∙ tall ∙ sym (top_plain from to c.requires.from c.requires.to)))
      | else-to-from-via-else-to-from w ↦ w.if-to-from.false (ap (of_z w64) (right_plain from to c.requires.from c.requires.to ∙ wide ∙ sym (left_plain from to c.requires.from c.requires.to)))
    ])
