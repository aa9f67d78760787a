use Rattle.table_core.proofs.Everything.{good_words_can_be_known}
use Rattle.table_core.proofs.laws.good_words_can_be_known.Goals as goal

pub returns : goal.returns
returns c = good_words_can_be_known
