use Rattle.rle_reader.proofs.SliceLemmas.{items_stand}
use Rattle.rle_reader.proofs.laws.items_are_slices.Goals as goal

pub returns : goal.returns
returns c = λ text meaning is. items_stand text meaning is
