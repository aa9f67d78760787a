use Rattle.std.proofs.Common.{refl}
use Rattle.pattern_files.proofs.nodes.quarters.Goals as goal

pub returns : goal.returns
returns c = rw (c.numbered_square.ensures, c.numbered_square-2.ensures, c.numbered_square-3.ensures, c.numbered_square-4.ensures) refl
