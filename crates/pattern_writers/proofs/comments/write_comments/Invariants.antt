use Rattle.std.proofs.Common.{◌≡◌, ℕ, List, ◌++◌}
use Rattle.pattern_writers.specs.Output.{AppendsBuffered}
use Rattle.pattern_writers.specs.RleText.{comment_lines}
use Rattle.pattern_writers.proofs.comments.write_comments.Given as goal

abbrev pub invariant-loop-comment : goal.invariant-loop-comment
invariant-loop-comment g l =
    (g.V.Sink.failure_count l.file ≡ g.V.Sink.failure_count l.fn.file)
    × ((out : List ℕ) × AppendsBuffered (g.V.Sink.taken l.fn.file) l.fn.block.items (g.V.Sink.taken l.file) l.block.items out
    × (comment_lines l.initial.comment-iterator ≡ out ++ comment_lines l.comment-iterator))
