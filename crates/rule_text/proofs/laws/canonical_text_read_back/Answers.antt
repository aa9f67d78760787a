use Rattle.rule_text.proofs.Canonical.{reads-canonical_text}
use Rattle.rule_text.proofs.laws.canonical_text_read_back.Goals as goal

pub returns : goal.returns
returns c = reads-canonical_text
