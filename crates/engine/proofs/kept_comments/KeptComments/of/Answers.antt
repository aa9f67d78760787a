use Rattle.std.proofs.Common.{◌≡◌, ◌++◌, ◌∙◌, ap, sym, append-nil}
use Rattle.text_lines.specs.Comments.{comments_of}
use Rattle.text_lines.specs.Lines.{lines_from}
use Rattle.engine.proofs.KeptComments.{ended_comments, ended_comments_kept}
use Rattle.engine.proofs.kept_comments.KeptComments.of.Goals as goal

pub returns : goal.returns
returns c =
    let text = c.loop-comment.text.items in
    let given = sym (ap ended_comments c.into_iter-comment-iterator.ensures.into_iter_gives) in
    let whole : ended_comments c.args.comments ≡ text =
    given ∙ c.loop-comment.invariant ∙ ap (λ rest. text ++ ended_comments rest) c.in-None.ensures.steps.0 ∙ append-nil text in
    ap (λ t. comments_of (lines_from t 0)) (sym whole) ∙ ended_comments_kept c.args.comments c.requires
