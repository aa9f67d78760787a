use Rattle.text_lines.proofs.SliceLemmas.{all_lines_stand}
use Rattle.text_lines.proofs.laws.lines_are_slices.Goals as goal

pub returns : goal.returns
returns c = λ text. all_lines_stand text
