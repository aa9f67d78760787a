use Rattle.std.proofs.Common.{◌≡◌, length, arith, rules, ⊎_elim}
use Rattle.node_table.proofs.OverlapsByHalves.{all_kept, no_half_above, no_half_below, two_beside}
use Rattle.plane.proofs.SentErrors.{sent_on}
use Rattle.node_table.proofs.Refusing.{on_err}
use Rattle.node_table.proofs.TwoHalves.{half_stays}
use Rattle.node_table.proofs.Working.{book_kept, learns_trans}
use Rattle.squares.specs.Book.{MayRefuse}
use Rattle.node_table.specs.DesksAtWork.{book_here}
use Rattle.node_table.proofs.at.At.halves_of_rows.Goals as goal

pub halves_of_row-requires-clause-first : goal.halves_of_row-requires-clause-first
halves_of_row-requires-clause-first c =
    let long : length c.args.nine ≡ 9 = search rules in
    two_beside c.args.nine long c.requires.level c.requires.known 0 (omega arith)

pub halves_of_row-requires-clause-last : goal.halves_of_row-requires-clause-last
halves_of_row-requires-clause-last c =
    let long : length c.args.nine ≡ 9 = search rules in
    two_beside c.args.nine long c.requires.level c.requires.known 1 (omega arith)

pub halves_of_row-requires-2-clause-first : goal.halves_of_row-requires-2-clause-first
halves_of_row-requires-2-clause-first c =
    let long : length c.args.nine ≡ 9 = search rules in
    two_beside c.args.nine long c.requires.level (all_kept c.args.nine (book_kept c.halves_of_row.ensures.learns) c.requires.known) 3 (omega arith)

pub halves_of_row-requires-2-clause-last : goal.halves_of_row-requires-2-clause-last
halves_of_row-requires-2-clause-last c =
    let long : length c.args.nine ≡ 9 = search rules in
    two_beside c.args.nine long c.requires.level (all_kept c.args.nine (book_kept c.halves_of_row.ensures.learns) c.requires.known) 4 (omega arith)

pub halves_of_row-requires-3-clause-first : goal.halves_of_row-requires-3-clause-first
halves_of_row-requires-3-clause-first c =
    let long : length c.args.nine ≡ 9 = search rules in
    two_beside c.args.nine long c.requires.level (all_kept c.args.nine (book_kept (learns_trans c.halves_of_row.ensures.learns c.halves_of_row-2.ensures.learns)) c.requires.known) 6 (omega arith)

pub halves_of_row-requires-3-clause-last : goal.halves_of_row-requires-3-clause-last
halves_of_row-requires-3-clause-last c =
    let long : length c.args.nine ≡ 9 = search rules in
    two_beside c.args.nine long c.requires.level (all_kept c.args.nine (book_kept (learns_trans c.halves_of_row.ensures.learns c.halves_of_row-2.ensures.learns)) c.requires.known) 7 (omega arith)

pub returns-in_err-middle-clause-learns : goal.returns-in_err-middle-clause-learns
returns-in_err-middle-clause-learns c = learns_trans c.halves_of_row.ensures.learns c.halves_of_row-2.ensures.learns

pub returns-in_err-lower-clause-learns : goal.returns-in_err-lower-clause-learns
returns-in_err-lower-clause-learns c = learns_trans c.halves_of_row.ensures.learns (learns_trans c.halves_of_row-2.ensures.learns c.halves_of_row-3.ensures.learns)

pub returns-clause-learns : goal.returns-clause-learns
returns-clause-learns c = learns_trans c.halves_of_row.ensures.learns (learns_trans c.halves_of_row-2.ensures.learns c.halves_of_row-3.ensures.learns)

pub returns-clause-ok : goal.returns-clause-ok
returns-clause-ok c =
    let later = learns_trans c.halves_of_row-2.ensures.learns c.halves_of_row-3.ensures.learns in record {
      known = all_kept c.args.nine (book_kept (learns_trans c.halves_of_row.ensures.learns later)) c.requires.known;
      upper_left = half_stays later c.in_ok-upper.ensures.first;
      upper_right = half_stays later c.in_ok-upper.ensures.last;
      middle_left = half_stays c.halves_of_row-3.ensures.learns c.in_ok-middle.ensures.first;
      middle_right = half_stays c.halves_of_row-3.ensures.learns c.in_ok-middle.ensures.last;
      lower_left = c.in_ok-lower.ensures.first;
      lower_right = c.in_ok-lower.ensures.last;
    }

pub returns-in_err-upper-clause-full : goal.returns-in_err-upper-clause-full
returns-in_err-upper-clause-full c =
    on_err c.from_residual.result (⊎_elim (no_half_above c.halves_of_row.new.self c.args.nine 0 0 (omega arith) (omega arith)) (no_half_above c.halves_of_row.new.self c.args.nine 0 1 (omega arith) (omega arith)) c.in_err-upper.ensures.full)

pub returns-in_err-middle-clause-full : goal.returns-in_err-middle-clause-full
returns-in_err-middle-clause-full c =
    on_err c.from_residual-in_err-middle.result (⊎_elim (no_half_below c.halves_of_row-2.new.self c.args.nine 0 0 (omega arith) (omega arith)) (no_half_below c.halves_of_row-2.new.self c.args.nine 0 1 (omega arith) (omega arith)) c.in_err-middle.ensures.full)

pub returns-in_err-lower-clause-full : goal.returns-in_err-lower-clause-full
returns-in_err-lower-clause-full c =
    on_err c.from_residual-in_err-lower.result (⊎_elim (no_half_below c.halves_of_row-3.new.self c.args.nine 1 0 (omega arith) (omega arith)) (no_half_below c.halves_of_row-3.new.self c.args.nine 1 1 (omega arith) (omega arith)) c.in_err-lower.ensures.full)

pub returns-in_err-upper-clause-refusal : goal.returns-in_err-upper-clause-refusal
returns-in_err-upper-clause-refusal c =
    sent_on (MayRefuse (book_here c.halves_of_row.new.self)) c.from_residual.result c.in_err-upper.field-0.0 c.from_residual.ensures.1 c.in_err-upper.ensures.refusal

pub returns-in_err-middle-clause-refusal : goal.returns-in_err-middle-clause-refusal
returns-in_err-middle-clause-refusal c =
    sent_on (MayRefuse (book_here c.halves_of_row-2.new.self)) c.from_residual-in_err-middle.result c.in_err-middle.field-0.0 c.from_residual-in_err-middle.ensures.1 c.in_err-middle.ensures.refusal

pub returns-in_err-lower-clause-refusal : goal.returns-in_err-lower-clause-refusal
returns-in_err-lower-clause-refusal c =
    sent_on (MayRefuse (book_here c.halves_of_row-3.new.self)) c.from_residual-in_err-lower.result c.in_err-lower.field-0.0 c.from_residual-in_err-lower.ensures.1 c.in_err-lower.ensures.refusal
