use Rattle.std.proofs.Common.{◌≡◌, length, arith, rules}
use Rattle.node_table.proofs.OverlapsByHalves.{corner, corner_shown, no_corner, rows_kept}
use Rattle.plane.proofs.SentErrors.{sent_on}
use Rattle.node_table.proofs.Refusing.{on_err}
use Rattle.node_table.proofs.Working.{learns_none, learns_trans}
use Rattle.squares.specs.Book.{MayRefuse}
use Rattle.node_table.specs.DesksAtWork.{book_here}
use Rattle.node_table.proofs.at.At.overlaps_by_halves.Goals as goal

pub whole-requires : goal.whole-requires
whole-requires c =
    let long : length c.args.nine ≡ 9 = search rules in
    let rows = c.in_ok-rows.ensures.ok in
    corner c.args.nine long c.requires.level rows.known 0 (omega arith) rows.upper_left rows.middle_left

pub whole-requires-2 : goal.whole-requires-2
whole-requires-2 c =
    let long : length c.args.nine ≡ 9 = search rules in
    let rows = rows_kept c.whole.ensures.learns c.in_ok-rows.ensures.ok in
    corner c.args.nine long c.requires.level rows.known 1 (omega arith) rows.upper_right rows.middle_right

pub whole-requires-3 : goal.whole-requires-3
whole-requires-3 c =
    let long : length c.args.nine ≡ 9 = search rules in
    let rows = rows_kept (learns_trans c.whole.ensures.learns c.whole-2.ensures.learns) c.in_ok-rows.ensures.ok in
    corner c.args.nine long c.requires.level rows.known 3 (omega arith) rows.middle_left rows.lower_left

pub whole-requires-4 : goal.whole-requires-4
whole-requires-4 c =
    let long : length c.args.nine ≡ 9 = search rules in
    let rows = rows_kept (learns_trans c.whole.ensures.learns (learns_trans c.whole-2.ensures.learns c.whole-3.ensures.learns)) c.in_ok-rows.ensures.ok in
    corner c.args.nine long c.requires.level rows.known 4 (omega arith) rows.middle_right rows.lower_right

pub returns-in_err-nw-clause-learns : goal.returns-in_err-nw-clause-learns
returns-in_err-nw-clause-learns c = learns_trans c.halves_of_rows.ensures.learns c.whole.ensures.learns

pub returns-in_err-ne-clause-learns : goal.returns-in_err-ne-clause-learns
returns-in_err-ne-clause-learns c = learns_trans c.halves_of_rows.ensures.learns (learns_trans c.whole.ensures.learns c.whole-2.ensures.learns)

pub returns-in_err-sw-clause-learns : goal.returns-in_err-sw-clause-learns
returns-in_err-sw-clause-learns c = learns_trans c.halves_of_rows.ensures.learns (learns_trans c.whole.ensures.learns (learns_trans c.whole-2.ensures.learns c.whole-3.ensures.learns))

pub returns-in_err-se-clause-learns : goal.returns-in_err-se-clause-learns
returns-in_err-se-clause-learns c = learns_trans c.halves_of_rows.ensures.learns (learns_trans c.whole.ensures.learns (learns_trans c.whole-2.ensures.learns (learns_trans c.whole-3.ensures.learns c.whole-4.ensures.learns)))

pub returns-clause-learns : goal.returns-clause-learns
returns-clause-learns c = learns_trans c.halves_of_rows.ensures.learns (learns_trans c.whole.ensures.learns (learns_trans c.whole-2.ensures.learns (learns_trans c.whole-3.ensures.learns c.whole-4.ensures.learns)))

pub returns-clause-ok : goal.returns-clause-ok
returns-clause-ok c =
    let long : length c.args.nine ≡ 9 = search rules in
    let r0 = c.in_ok-rows.ensures.ok in
    let r1 = rows_kept c.whole.ensures.learns r0 in
    let r2 = rows_kept c.whole-2.ensures.learns r1 in
    let r3 = rows_kept c.whole-3.ensures.learns r2 in
    record {
      nw = corner_shown c.args.nine long r0.known 0 (omega arith) r0.upper_left r0.middle_left c.whole.ensures.learns (learns_trans c.whole-2.ensures.learns (learns_trans c.whole-3.ensures.learns c.whole-4.ensures.learns)) c.in_ok-nw.ensures.ok;
      ne = corner_shown c.args.nine long r1.known 1 (omega arith) r1.upper_right r1.middle_right c.whole-2.ensures.learns (learns_trans c.whole-3.ensures.learns c.whole-4.ensures.learns) c.in_ok-ne.ensures.ok;
      sw = corner_shown c.args.nine long r2.known 3 (omega arith) r2.middle_left r2.lower_left c.whole-3.ensures.learns c.whole-4.ensures.learns c.in_ok-sw.ensures.ok;
      se = corner_shown c.args.nine long r3.known 4 (omega arith) r3.middle_right r3.lower_right c.whole-4.ensures.learns (learns_none c.whole-4.new.self) c.in_ok-se.ensures.ok;
    }

pub returns-in_err-rows-clause-full : goal.returns-in_err-rows-clause-full
returns-in_err-rows-clause-full c = on_err c.from_residual.result c.in_err-rows.ensures.full

pub returns-in_err-nw-clause-full : goal.returns-in_err-nw-clause-full
returns-in_err-nw-clause-full c =
    let rows = rows_kept c.whole.ensures.learns c.in_ok-rows.ensures.ok in
    on_err c.from_residual-in_err-nw.result (no_corner c.whole.new.self c.args.nine 0 0 (omega arith) (omega arith) rows.upper_left rows.middle_left c.in_err-nw.ensures.full)

pub returns-in_err-ne-clause-full : goal.returns-in_err-ne-clause-full
returns-in_err-ne-clause-full c =
    let rows = rows_kept (learns_trans c.whole.ensures.learns c.whole-2.ensures.learns) c.in_ok-rows.ensures.ok in
    on_err c.from_residual-in_err-ne.result (no_corner c.whole-2.new.self c.args.nine 0 1 (omega arith) (omega arith) rows.upper_right rows.middle_right c.in_err-ne.ensures.full)

pub returns-in_err-sw-clause-full : goal.returns-in_err-sw-clause-full
returns-in_err-sw-clause-full c =
    let rows = rows_kept (learns_trans c.whole.ensures.learns (learns_trans c.whole-2.ensures.learns c.whole-3.ensures.learns)) c.in_ok-rows.ensures.ok in
    on_err c.from_residual-in_err-sw.result (no_corner c.whole-3.new.self c.args.nine 1 0 (omega arith) (omega arith) rows.middle_left rows.lower_left c.in_err-sw.ensures.full)

pub returns-in_err-se-clause-full : goal.returns-in_err-se-clause-full
returns-in_err-se-clause-full c =
    let rows = rows_kept (learns_trans c.whole.ensures.learns (learns_trans c.whole-2.ensures.learns (learns_trans c.whole-3.ensures.learns c.whole-4.ensures.learns))) c.in_ok-rows.ensures.ok in
    on_err c.from_residual-in_err-se.result (no_corner c.whole-4.new.self c.args.nine 1 1 (omega arith) (omega arith) rows.middle_right rows.lower_right c.in_err-se.ensures.full)

pub returns-in_err-rows-clause-refusal : goal.returns-in_err-rows-clause-refusal
returns-in_err-rows-clause-refusal c =
    sent_on (MayRefuse (book_here c.halves_of_rows.new.self)) c.from_residual.result c.in_err-rows.field-0.0 c.from_residual.ensures.1 c.in_err-rows.ensures.refusal

pub returns-in_err-nw-clause-refusal : goal.returns-in_err-nw-clause-refusal
returns-in_err-nw-clause-refusal c =
    sent_on (MayRefuse (book_here c.whole.new.self)) c.from_residual-in_err-nw.result c.in_err-nw.field-0.0 c.from_residual-in_err-nw.ensures.1 c.in_err-nw.ensures.refusal

pub returns-in_err-ne-clause-refusal : goal.returns-in_err-ne-clause-refusal
returns-in_err-ne-clause-refusal c =
    sent_on (MayRefuse (book_here c.whole-2.new.self)) c.from_residual-in_err-ne.result c.in_err-ne.field-0.0 c.from_residual-in_err-ne.ensures.1 c.in_err-ne.ensures.refusal

pub returns-in_err-sw-clause-refusal : goal.returns-in_err-sw-clause-refusal
returns-in_err-sw-clause-refusal c =
    sent_on (MayRefuse (book_here c.whole-3.new.self)) c.from_residual-in_err-sw.result c.in_err-sw.field-0.0 c.from_residual-in_err-sw.ensures.1 c.in_err-sw.ensures.refusal

pub returns-in_err-se-clause-refusal : goal.returns-in_err-se-clause-refusal
returns-in_err-se-clause-refusal c =
    sent_on (MayRefuse (book_here c.whole-4.new.self)) c.from_residual-in_err-se.result c.in_err-se.field-0.0 c.from_residual-in_err-se.ensures.1 c.in_err-se.ensures.refusal
