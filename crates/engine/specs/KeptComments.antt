-- The kept comments of a pattern file, owned.
use Rattle.std.specs.Prelude.{ℕ, List}
use Rattle.text_lines.specs.Comments.{comments_of}
use Rattle.text_lines.specs.Lines.{lines_from}
use Rattle.engine.specs.declared.kept_comments.KeptComments.{KeptComments}

-- the comments: the kept ones among the lines of the text
abbrev pub comments_in : KeptComments → List (List ℕ)
comments_in kept = comments_of (lines_from kept.text.items 0)
