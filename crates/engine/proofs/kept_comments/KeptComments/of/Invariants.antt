use Rattle.std.proofs.Common.{◌≡◌, ◌++◌}
use Rattle.engine.proofs.KeptComments.{ended_comments}
use Rattle.engine.proofs.kept_comments.KeptComments.of.Given as goal

abbrev pub invariant-loop-comment : goal.invariant-loop-comment
invariant-loop-comment l = ended_comments l.initial.comment-iterator ≡ l.text.items ++ ended_comments l.comment-iterator
