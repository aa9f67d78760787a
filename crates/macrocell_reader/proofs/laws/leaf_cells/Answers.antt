use Rattle.macrocell_reader.proofs.LeafBits.{leaf_bit}
use Rattle.macrocell_reader.proofs.laws.leaf_cells.Goals as goal

pub returns : goal.returns
returns c = λ line bits is x y left top. leaf_bit line bits is x y left
