use Rattle.std.proofs.Common.{◌≡◌, ◌-◌, length}
use Rattle.text_lines.specs.Comments.{comments_of}
use Rattle.text_lines.specs.Lines.{lines_from}
use Rattle.text_lines.proofs.comments.next_comment.Given as goal

abbrev pub invariant-loop-line : goal.invariant-loop-line
invariant-loop-line l =
    comments_of (lines_from l.lines.source.now l.lines.at) ≡ comments_of (lines_from l.fn.lines.source.now l.fn.lines.at)

abbrev pub decreases-loop-line : goal.decreases-loop-line
decreases-loop-line l = length l.lines.source.now - l.lines.at
