use Rattle.std.proofs.Common.{rules}
use Rattle.rle_reader.specs.State.{motion_fault}
use Rattle.rle_reader.proofs.MotionLemmas.{handed_on}
use Rattle.rle_reader.proofs.cursor.Cursor.after.Goals as goal
use Rattle.rle_reader.proofs.cursor.Cursor.after.Goals.{in-Row+in_ok-advance-in-Row, in-Dead+in_ok-advance-in-Dead, in-Live-2+in_ok-advance-in-Live-2+in_ok-more_live-in-Live-2}

pub returns-clause-ok : goal.returns-clause-ok
unfolding motion_fault
returns-clause-ok c =
    let cursor = c.args.self in
    let left = handed_on cursor.left cursor.left_in_reach in
    let column = handed_on cursor.column cursor.column_in_reach in
    let row = handed_on cursor.row cursor.row_in_reach in
    elim c.match-run.branch [
      | in-Row+in_ok-advance-in-Row w ↦
          let next = handed_on w.in_ok-advance-in-Row.field-0 w.in_ok-advance-in-Row.ensures.ok.2 in search rules
      | in-Dead+in_ok-advance-in-Dead w ↦
          let next = handed_on w.in_ok-advance-in-Dead.field-0 w.in_ok-advance-in-Dead.ensures.ok.2 in search rules
      | in-Live-2+in_ok-advance-in-Live-2+in_ok-more_live-in-Live-2 w ↦
          let next = handed_on w.in_ok-advance-in-Live-2.field-0 w.in_ok-advance-in-Live-2.ensures.ok.2 in search rules
    ]
