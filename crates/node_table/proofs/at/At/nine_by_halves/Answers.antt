use Rattle.squares.proofs.NineSquares.{nine_made}
use Rattle.node_table.specs.DesksAtWork.{book_here}
use Rattle.plane.proofs.SentErrors.{sent_on}
use Rattle.node_table.proofs.Refusing.{on_err}
use Rattle.node_table.proofs.RefusedNine.{no_first, no_second, no_third, no_fourth, no_upper, no_left, no_middle, no_right, no_lower}
use Rattle.node_table.proofs.TwoHalves.{half_kept, half_of, half_stays, joined_of}
use Rattle.node_table.proofs.Working.{book_kept, learns_trans}
use Rattle.node_table.proofs.NineByHalves.{are_parts, column_halves, left_halves, parts_kept, quarter_above, quarter_known, right_halves, first_beside, second_beside, third_beside, fourth_beside}
use Rattle.squares.specs.Book.{MayRefuse}
use Rattle.node_table.proofs.at.At.nine_by_halves.Goals as goal

pub half-requires-2 : goal.half-requires-2
half-requires-2 c = second_beside c.requires.level c.requires.known.high (parts_kept c.half.ensures.learns c.read_halves_of_quarters-parts.ensures.value)

pub half-requires-3 : goal.half-requires-3
half-requires-3 c = third_beside c.requires.level c.requires.known.high (parts_kept (learns_trans c.half.ensures.learns c.half-2.ensures.learns) c.read_halves_of_quarters-parts.ensures.value)

pub half-requires-4 : goal.half-requires-4
half-requires-4 c = fourth_beside c.requires.level c.requires.known.high (parts_kept (learns_trans c.half.ensures.learns (learns_trans c.half-2.ensures.learns c.half-3.ensures.learns)) c.read_halves_of_quarters-parts.ensures.value)

pub whole-requires : goal.whole-requires
whole-requires c =
    column_halves c.requires.level c.requires.known.high (parts_kept (learns_trans c.half.ensures.learns (learns_trans c.half-2.ensures.learns (learns_trans c.half-3.ensures.learns c.half-4.ensures.learns))) c.read_halves_of_quarters-parts.ensures.value)
    (half_kept (learns_trans c.half-2.ensures.learns (learns_trans c.half-3.ensures.learns c.half-4.ensures.learns)) (half_of c.read_halves_of_quarters-parts.ensures.value.nw.quarters.ne.known.at_level c.in_ok-first.ensures.ok))
    (half_kept (learns_trans c.half-3.ensures.learns c.half-4.ensures.learns) (half_of c.read_halves_of_quarters-parts.ensures.value.nw.quarters.se.known.at_level c.in_ok-second.ensures.ok))

pub whole-requires-2 : goal.whole-requires-2
whole-requires-2 c = left_halves c.requires.level c.requires.known.high (parts_kept (learns_trans c.half.ensures.learns (learns_trans c.half-2.ensures.learns (learns_trans c.half-3.ensures.learns (learns_trans c.half-4.ensures.learns c.whole.ensures.learns)))) c.read_halves_of_quarters-parts.ensures.value)

pub whole-requires-3 : goal.whole-requires-3
whole-requires-3 c =
    column_halves c.requires.level c.requires.known.high (parts_kept (learns_trans c.half.ensures.learns (learns_trans c.half-2.ensures.learns (learns_trans c.half-3.ensures.learns (learns_trans c.half-4.ensures.learns (learns_trans c.whole.ensures.learns c.whole-2.ensures.learns))))) c.read_halves_of_quarters-parts.ensures.value)
    (half_kept (learns_trans c.half-3.ensures.learns (learns_trans c.half-4.ensures.learns (learns_trans c.whole.ensures.learns c.whole-2.ensures.learns))) (half_of c.read_halves_of_quarters-parts.ensures.value.nw.quarters.se.known.at_level c.in_ok-second.ensures.ok))
    (half_kept (learns_trans c.half-4.ensures.learns (learns_trans c.whole.ensures.learns c.whole-2.ensures.learns)) (half_of c.read_halves_of_quarters-parts.ensures.value.sw.quarters.ne.known.at_level c.in_ok-third.ensures.ok))

pub whole-requires-4 : goal.whole-requires-4
whole-requires-4 c = right_halves c.requires.level c.requires.known.high (parts_kept (learns_trans c.half.ensures.learns (learns_trans c.half-2.ensures.learns (learns_trans c.half-3.ensures.learns (learns_trans c.half-4.ensures.learns (learns_trans c.whole.ensures.learns (learns_trans c.whole-2.ensures.learns c.whole-3.ensures.learns)))))) c.read_halves_of_quarters-parts.ensures.value)

pub whole-requires-5 : goal.whole-requires-5
whole-requires-5 c =
    column_halves c.requires.level c.requires.known.high (parts_kept (learns_trans c.half.ensures.learns (learns_trans c.half-2.ensures.learns (learns_trans c.half-3.ensures.learns (learns_trans c.half-4.ensures.learns (learns_trans c.whole.ensures.learns (learns_trans c.whole-2.ensures.learns (learns_trans c.whole-3.ensures.learns c.whole-4.ensures.learns))))))) c.read_halves_of_quarters-parts.ensures.value)
    (half_kept (learns_trans c.half-4.ensures.learns (learns_trans c.whole.ensures.learns (learns_trans c.whole-2.ensures.learns (learns_trans c.whole-3.ensures.learns c.whole-4.ensures.learns)))) (half_of c.read_halves_of_quarters-parts.ensures.value.sw.quarters.ne.known.at_level c.in_ok-third.ensures.ok))
    (half_kept (learns_trans c.whole.ensures.learns (learns_trans c.whole-2.ensures.learns (learns_trans c.whole-3.ensures.learns c.whole-4.ensures.learns))) (half_of c.read_halves_of_quarters-parts.ensures.value.sw.quarters.se.known.at_level c.in_ok-fourth.ensures.ok))

pub returns-in_err-second-clause-learns : goal.returns-in_err-second-clause-learns
returns-in_err-second-clause-learns c = learns_trans c.read_halves_of_quarters-parts.ensures.learns (learns_trans c.half.ensures.learns c.half-2.ensures.learns)

pub returns-in_err-third-clause-learns : goal.returns-in_err-third-clause-learns
returns-in_err-third-clause-learns c = learns_trans c.read_halves_of_quarters-parts.ensures.learns (learns_trans c.half.ensures.learns (learns_trans c.half-2.ensures.learns c.half-3.ensures.learns))

pub returns-in_err-fourth-clause-learns : goal.returns-in_err-fourth-clause-learns
returns-in_err-fourth-clause-learns c = learns_trans c.read_halves_of_quarters-parts.ensures.learns (learns_trans c.half.ensures.learns (learns_trans c.half-2.ensures.learns (learns_trans c.half-3.ensures.learns c.half-4.ensures.learns)))

pub returns-in_err-upper-clause-learns : goal.returns-in_err-upper-clause-learns
returns-in_err-upper-clause-learns c = learns_trans c.read_halves_of_quarters-parts.ensures.learns (learns_trans c.half.ensures.learns (learns_trans c.half-2.ensures.learns (learns_trans c.half-3.ensures.learns (learns_trans c.half-4.ensures.learns c.whole.ensures.learns))))

pub returns-in_err-left-clause-learns : goal.returns-in_err-left-clause-learns
returns-in_err-left-clause-learns c = learns_trans c.read_halves_of_quarters-parts.ensures.learns (learns_trans c.half.ensures.learns (learns_trans c.half-2.ensures.learns (learns_trans c.half-3.ensures.learns (learns_trans c.half-4.ensures.learns (learns_trans c.whole.ensures.learns c.whole-2.ensures.learns)))))

pub returns-in_err-middle-clause-learns : goal.returns-in_err-middle-clause-learns
returns-in_err-middle-clause-learns c = learns_trans c.read_halves_of_quarters-parts.ensures.learns (learns_trans c.half.ensures.learns (learns_trans c.half-2.ensures.learns (learns_trans c.half-3.ensures.learns (learns_trans c.half-4.ensures.learns (learns_trans c.whole.ensures.learns (learns_trans c.whole-2.ensures.learns c.whole-3.ensures.learns))))))

pub returns-in_err-right-clause-learns : goal.returns-in_err-right-clause-learns
returns-in_err-right-clause-learns c = learns_trans c.read_halves_of_quarters-parts.ensures.learns (learns_trans c.half.ensures.learns (learns_trans c.half-2.ensures.learns (learns_trans c.half-3.ensures.learns (learns_trans c.half-4.ensures.learns (learns_trans c.whole.ensures.learns (learns_trans c.whole-2.ensures.learns (learns_trans c.whole-3.ensures.learns c.whole-4.ensures.learns)))))))

pub returns-in_err-lower-clause-learns : goal.returns-in_err-lower-clause-learns
returns-in_err-lower-clause-learns c = learns_trans c.read_halves_of_quarters-parts.ensures.learns (learns_trans c.half.ensures.learns (learns_trans c.half-2.ensures.learns (learns_trans c.half-3.ensures.learns (learns_trans c.half-4.ensures.learns (learns_trans c.whole.ensures.learns (learns_trans c.whole-2.ensures.learns (learns_trans c.whole-3.ensures.learns (learns_trans c.whole-4.ensures.learns c.whole-5.ensures.learns))))))))

pub returns-clause-learns : goal.returns-clause-learns
returns-clause-learns c = learns_trans c.read_halves_of_quarters-parts.ensures.learns (learns_trans c.half.ensures.learns (learns_trans c.half-2.ensures.learns (learns_trans c.half-3.ensures.learns (learns_trans c.half-4.ensures.learns (learns_trans c.whole.ensures.learns (learns_trans c.whole-2.ensures.learns (learns_trans c.whole-3.ensures.learns (learns_trans c.whole-4.ensures.learns c.whole-5.ensures.learns))))))))

pub returns-clause-ok : goal.returns-clause-ok
returns-clause-ok c =
    let book = book_here in
    let first = c.in_ok-first.ensures.ok in let second = c.in_ok-second.ensures.ok in let third = c.in_ok-third.ensures.ok in let fourth = c.in_ok-fourth.ensures.ok in
    nine_made c.args.sq.level _ _ c.requires.level c.requires.known.high (book c.half-4.new.self) (book c.whole.new.self) (book c.whole-2.new.self) (book c.whole-3.new.self) (book c.whole-4.new.self) (book c.whole-5.new.self)
    c.in_ok-upper.upper c.in_ok-left.left c.in_ok-middle.middle c.in_ok-right.right c.in_ok-lower.lower (are_parts (parts_kept (learns_trans c.half.ensures.learns (learns_trans c.half-2.ensures.learns (learns_trans c.half-3.ensures.learns c.half-4.ensures.learns))) c.read_halves_of_quarters-parts.ensures.value))
    (book_kept c.whole.ensures.learns) (joined_of (book c.half-4.new.self) (book c.whole.new.self) c.in_ok-first.first c.in_ok-second.second _ first.left first.right second.left second.right c.in_ok-upper.ensures.ok)
    (book_kept c.whole-2.ensures.learns) c.in_ok-left.ensures.ok
    (book_kept c.whole-3.ensures.learns) (joined_of (book c.whole-2.new.self) (book c.whole-3.new.self) c.in_ok-second.second c.in_ok-third.third _ second.left second.right third.left third.right c.in_ok-middle.ensures.ok)
    (book_kept c.whole-4.ensures.learns) c.in_ok-right.ensures.ok
    (book_kept c.whole-5.ensures.learns) (joined_of (book c.whole-4.new.self) (book c.whole-5.new.self) c.in_ok-third.third c.in_ok-fourth.fourth _ third.left third.right fourth.left fourth.right c.in_ok-lower.ensures.ok)

pub returns-in_err-first-clause-full : goal.returns-in_err-first-clause-full
returns-in_err-first-clause-full c =
    on_err c.from_residual.result (no_first c.requires.level c.requires.known.high (parts_kept c.half.ensures.learns c.read_halves_of_quarters-parts.ensures.value) c.in_err-first.ensures.full)

pub returns-in_err-second-clause-full : goal.returns-in_err-second-clause-full
returns-in_err-second-clause-full c =
    on_err c.from_residual-in_err-second.result (no_second c.requires.level c.requires.known.high (parts_kept (learns_trans c.half.ensures.learns c.half-2.ensures.learns) c.read_halves_of_quarters-parts.ensures.value) c.in_err-second.ensures.full)

pub returns-in_err-third-clause-full : goal.returns-in_err-third-clause-full
returns-in_err-third-clause-full c =
    on_err c.from_residual-in_err-third.result (no_third c.requires.level c.requires.known.high (parts_kept (learns_trans c.half.ensures.learns (learns_trans c.half-2.ensures.learns c.half-3.ensures.learns)) c.read_halves_of_quarters-parts.ensures.value) c.in_err-third.ensures.full)

pub returns-in_err-fourth-clause-full : goal.returns-in_err-fourth-clause-full
returns-in_err-fourth-clause-full c =
    on_err c.from_residual-in_err-fourth.result (no_fourth c.requires.level c.requires.known.high (parts_kept (learns_trans c.half.ensures.learns (learns_trans c.half-2.ensures.learns (learns_trans c.half-3.ensures.learns c.half-4.ensures.learns))) c.read_halves_of_quarters-parts.ensures.value) c.in_err-fourth.ensures.full)

pub returns-in_err-upper-clause-full : goal.returns-in_err-upper-clause-full
returns-in_err-upper-clause-full c =
    on_err c.from_residual-in_err-upper.result (no_upper c.requires.level c.requires.known.high (parts_kept (learns_trans c.half.ensures.learns (learns_trans c.half-2.ensures.learns (learns_trans c.half-3.ensures.learns (learns_trans c.half-4.ensures.learns c.whole.ensures.learns)))) c.read_halves_of_quarters-parts.ensures.value)
    (half_stays (learns_trans c.half-2.ensures.learns (learns_trans c.half-3.ensures.learns (learns_trans c.half-4.ensures.learns c.whole.ensures.learns))) c.in_ok-first.ensures.ok)
    (half_stays (learns_trans c.half-3.ensures.learns (learns_trans c.half-4.ensures.learns c.whole.ensures.learns)) c.in_ok-second.ensures.ok)
    c.in_err-upper.ensures.full)

pub returns-in_err-left-clause-full : goal.returns-in_err-left-clause-full
returns-in_err-left-clause-full c =
    on_err c.from_residual-in_err-left.result (no_left c.requires.level c.requires.known.high (parts_kept (learns_trans c.half.ensures.learns (learns_trans c.half-2.ensures.learns (learns_trans c.half-3.ensures.learns (learns_trans c.half-4.ensures.learns (learns_trans c.whole.ensures.learns c.whole-2.ensures.learns))))) c.read_halves_of_quarters-parts.ensures.value) c.in_err-left.ensures.full)

pub returns-in_err-middle-clause-full : goal.returns-in_err-middle-clause-full
returns-in_err-middle-clause-full c =
    on_err c.from_residual-in_err-middle.result (no_middle c.requires.level c.requires.known.high (parts_kept (learns_trans c.half.ensures.learns (learns_trans c.half-2.ensures.learns (learns_trans c.half-3.ensures.learns (learns_trans c.half-4.ensures.learns (learns_trans c.whole.ensures.learns (learns_trans c.whole-2.ensures.learns c.whole-3.ensures.learns)))))) c.read_halves_of_quarters-parts.ensures.value)
    (half_stays (learns_trans c.half-3.ensures.learns (learns_trans c.half-4.ensures.learns (learns_trans c.whole.ensures.learns (learns_trans c.whole-2.ensures.learns c.whole-3.ensures.learns)))) c.in_ok-second.ensures.ok)
    (half_stays (learns_trans c.half-4.ensures.learns (learns_trans c.whole.ensures.learns (learns_trans c.whole-2.ensures.learns c.whole-3.ensures.learns))) c.in_ok-third.ensures.ok)
    c.in_err-middle.ensures.full)

pub returns-in_err-right-clause-full : goal.returns-in_err-right-clause-full
returns-in_err-right-clause-full c =
    on_err c.from_residual-in_err-right.result (no_right c.requires.level c.requires.known.high (parts_kept (learns_trans c.half.ensures.learns (learns_trans c.half-2.ensures.learns (learns_trans c.half-3.ensures.learns (learns_trans c.half-4.ensures.learns (learns_trans c.whole.ensures.learns (learns_trans c.whole-2.ensures.learns (learns_trans c.whole-3.ensures.learns c.whole-4.ensures.learns))))))) c.read_halves_of_quarters-parts.ensures.value) c.in_err-right.ensures.full)

pub returns-in_err-lower-clause-full : goal.returns-in_err-lower-clause-full
returns-in_err-lower-clause-full c =
    on_err c.from_residual-in_err-lower.result (no_lower c.requires.level c.requires.known.high (parts_kept (learns_trans c.half.ensures.learns (learns_trans c.half-2.ensures.learns (learns_trans c.half-3.ensures.learns (learns_trans c.half-4.ensures.learns (learns_trans c.whole.ensures.learns (learns_trans c.whole-2.ensures.learns (learns_trans c.whole-3.ensures.learns (learns_trans c.whole-4.ensures.learns c.whole-5.ensures.learns)))))))) c.read_halves_of_quarters-parts.ensures.value)
    (half_stays (learns_trans c.half-4.ensures.learns (learns_trans c.whole.ensures.learns (learns_trans c.whole-2.ensures.learns (learns_trans c.whole-3.ensures.learns (learns_trans c.whole-4.ensures.learns c.whole-5.ensures.learns))))) c.in_ok-third.ensures.ok)
    (half_stays (learns_trans c.whole.ensures.learns (learns_trans c.whole-2.ensures.learns (learns_trans c.whole-3.ensures.learns (learns_trans c.whole-4.ensures.learns c.whole-5.ensures.learns)))) c.in_ok-fourth.ensures.ok)
    c.in_err-lower.ensures.full)

pub prefetch_result-requires-clause-known : goal.prefetch_result-requires-clause-known
prefetch_result-requires-clause-known c = quarter_known _ c.read_halves_of_quarters-parts.ensures.value.quarters.nw.known

pub prefetch_result-requires-clause-level : goal.prefetch_result-requires-clause-level
prefetch_result-requires-clause-level c = quarter_above c.requires.level c.read_halves_of_quarters-parts.ensures.value.quarters.nw.known

pub prefetch_result-requires-2-clause-known : goal.prefetch_result-requires-2-clause-known
prefetch_result-requires-2-clause-known c = quarter_known _ c.read_halves_of_quarters-parts.ensures.value.quarters.ne.known

pub prefetch_result-requires-2-clause-level : goal.prefetch_result-requires-2-clause-level
prefetch_result-requires-2-clause-level c = quarter_above c.requires.level c.read_halves_of_quarters-parts.ensures.value.quarters.ne.known

pub prefetch_result-requires-3-clause-known : goal.prefetch_result-requires-3-clause-known
prefetch_result-requires-3-clause-known c = quarter_known _ c.read_halves_of_quarters-parts.ensures.value.quarters.sw.known

pub prefetch_result-requires-3-clause-level : goal.prefetch_result-requires-3-clause-level
prefetch_result-requires-3-clause-level c = quarter_above c.requires.level c.read_halves_of_quarters-parts.ensures.value.quarters.sw.known

pub prefetch_result-requires-4-clause-known : goal.prefetch_result-requires-4-clause-known
prefetch_result-requires-4-clause-known c = quarter_known _ c.read_halves_of_quarters-parts.ensures.value.quarters.se.known

pub prefetch_result-requires-4-clause-level : goal.prefetch_result-requires-4-clause-level
prefetch_result-requires-4-clause-level c = quarter_above c.requires.level c.read_halves_of_quarters-parts.ensures.value.quarters.se.known

pub half-requires : goal.half-requires
half-requires c = first_beside c.requires.level c.requires.known.high c.read_halves_of_quarters-parts.ensures.value

pub returns-in_err-first-clause-learns : goal.returns-in_err-first-clause-learns
returns-in_err-first-clause-learns c = learns_trans c.read_halves_of_quarters-parts.ensures.learns c.half.ensures.learns

pub returns-in_err-first-clause-refusal : goal.returns-in_err-first-clause-refusal
returns-in_err-first-clause-refusal c =
    sent_on (MayRefuse (book_here c.half.new.self)) c.from_residual.result c.in_err-first.field-0.0 c.from_residual.ensures.1 c.in_err-first.ensures.refusal

pub returns-in_err-second-clause-refusal : goal.returns-in_err-second-clause-refusal
returns-in_err-second-clause-refusal c =
    sent_on (MayRefuse (book_here c.half-2.new.self)) c.from_residual-in_err-second.result c.in_err-second.field-0.0 c.from_residual-in_err-second.ensures.1 c.in_err-second.ensures.refusal

pub returns-in_err-third-clause-refusal : goal.returns-in_err-third-clause-refusal
returns-in_err-third-clause-refusal c =
    sent_on (MayRefuse (book_here c.half-3.new.self)) c.from_residual-in_err-third.result c.in_err-third.field-0.0 c.from_residual-in_err-third.ensures.1 c.in_err-third.ensures.refusal

pub returns-in_err-fourth-clause-refusal : goal.returns-in_err-fourth-clause-refusal
returns-in_err-fourth-clause-refusal c =
    sent_on (MayRefuse (book_here c.half-4.new.self)) c.from_residual-in_err-fourth.result c.in_err-fourth.field-0.0 c.from_residual-in_err-fourth.ensures.1 c.in_err-fourth.ensures.refusal

pub returns-in_err-upper-clause-refusal : goal.returns-in_err-upper-clause-refusal
returns-in_err-upper-clause-refusal c =
    sent_on (MayRefuse (book_here c.whole.new.self)) c.from_residual-in_err-upper.result c.in_err-upper.field-0.0 c.from_residual-in_err-upper.ensures.1 c.in_err-upper.ensures.refusal

pub returns-in_err-left-clause-refusal : goal.returns-in_err-left-clause-refusal
returns-in_err-left-clause-refusal c =
    sent_on (MayRefuse (book_here c.whole-2.new.self)) c.from_residual-in_err-left.result c.in_err-left.field-0.0 c.from_residual-in_err-left.ensures.1 c.in_err-left.ensures.refusal

pub returns-in_err-middle-clause-refusal : goal.returns-in_err-middle-clause-refusal
returns-in_err-middle-clause-refusal c =
    sent_on (MayRefuse (book_here c.whole-3.new.self)) c.from_residual-in_err-middle.result c.in_err-middle.field-0.0 c.from_residual-in_err-middle.ensures.1 c.in_err-middle.ensures.refusal

pub returns-in_err-right-clause-refusal : goal.returns-in_err-right-clause-refusal
returns-in_err-right-clause-refusal c =
    sent_on (MayRefuse (book_here c.whole-4.new.self)) c.from_residual-in_err-right.result c.in_err-right.field-0.0 c.from_residual-in_err-right.ensures.1 c.in_err-right.ensures.refusal

pub returns-in_err-lower-clause-refusal : goal.returns-in_err-lower-clause-refusal
returns-in_err-lower-clause-refusal c =
    sent_on (MayRefuse (book_here c.whole-5.new.self)) c.from_residual-in_err-lower.result c.in_err-lower.field-0.0 c.from_residual-in_err-lower.ensures.1 c.in_err-lower.ensures.refusal
