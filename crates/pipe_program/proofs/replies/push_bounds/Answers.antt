use Rattle.std.proofs.Common.{w64, arith}
use Rattle.std.proofs.lemmas.Int.{to_z-of_z}
use Rattle.plane.specs.declared.cell.Bounds.{Bounds}
use Rattle.pipe_program.proofs.ReplyWords.{four_words}
use Rattle.pipe_program.proofs.replies.push_bounds.Goals as goal

pub returns-clause-text : goal.returns-clause-text
returns-clause-text c =
    let box : Bounds = c.args.bounds.now in
    four_words c.args.line.now c.push_pair.new.line c.push_pair-2.new.line box.left box.top box.right box.bottom _ _ _ _
    (to_z-of_z w64 box.left (omega arith)) (to_z-of_z w64 box.top (omega arith)) (to_z-of_z w64 box.right (omega arith)) (to_z-of_z w64 box.bottom (omega arith))
    c.push_pair.ensures.text c.push_pair-2.ensures.text
