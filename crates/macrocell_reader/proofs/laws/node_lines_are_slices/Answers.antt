use Rattle.std.proofs.Common.{map, subst}
use Rattle.text_lines.specs.Lines.{StandIn}
use Rattle.macrocell_reader.specs.Meaning.{Meaning}
use Rattle.macrocell_reader.specs.Nodes.{line_of}
use Rattle.macrocell_reader.proofs.MeaningLemmas.{judged-read}
use Rattle.macrocell_reader.proofs.SliceLemmas.{body_nodes_stand}
use Rattle.macrocell_reader.proofs.laws.node_lines_are_slices.Goals as goal

pub returns : goal.returns
returns c = λ text meaning is.
    subst (λ (m : Meaning). StandIn text 0 (map line_of m.nodes)) (judged-read text meaning is).1 (body_nodes_stand text)
