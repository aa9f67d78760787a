use Rattle.rle_reader.proofs.CutLemmas.{items_of-cut, items_of-only}
use Rattle.rle_reader.proofs.laws.one_cut.Goals as goal

pub returns-clause-cut : goal.returns-clause-cut
returns-clause-cut c = items_of-cut

pub returns-clause-only : goal.returns-clause-only
returns-clause-only c = items_of-only
