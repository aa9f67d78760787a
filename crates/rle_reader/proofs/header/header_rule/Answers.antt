use Rattle.std.proofs.Common.{sym, ◌∙◌}
use Rattle.rle_reader.proofs.HeaderLemmas.{header_rule-no_comma}
use Rattle.rle_reader.proofs.header.header_rule.Goals as goal

pub returns-in_default : goal.returns-in_default
returns-in_default c =
    header_rule-no_comma c.args.line.now (sym c.begins_as_header.ensures ∙ c.if-not-begins_as_header.false) c.in_default.ensures
