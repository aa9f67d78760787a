use Rattle.macrocell_reader.proofs.MeaningLemmas.{judged-placed}
use Rattle.macrocell_reader.proofs.laws.faults_have_places.Goals as goal

pub returns : goal.returns
returns c = λ text fault is. judged-placed text fault is
