use Rattle.std.proofs.Common.{◌∙◌}
use Rattle.text_lines.specs.Lines.{is_line_feed}
use Rattle.text_lines.proofs.LineLemmas.{first_byte}
use Rattle.text_lines.proofs.lines.line_length.Goals as goal

pub returns-clause-value : goal.returns-clause-value
returns-clause-value c =
    c.unwrap_or.ensures ∙ first_byte is_line_feed c.args.text.now c.memchr.result c.memchr.ensures
