use Rattle.std.proofs.Common.{[], map, subst}
use Rattle.macrocell_reader.specs.Meaning.{Meaning, body_of}
use Rattle.macrocell_reader.specs.NodeFaults.{StandInOrder}
use Rattle.macrocell_reader.proofs.MeaningLemmas.{judged-read}
use Rattle.macrocell_reader.proofs.OrderLemmas.{in_order}
use Rattle.macrocell_reader.proofs.RangeLemmas.{root_range}
use Rattle.macrocell_reader.proofs.laws.accepted_in_range.Goals as goal

pub returns-clause-nodes : goal.returns-clause-nodes
returns-clause-nodes c = λ text meaning is.
    let read = judged-read text meaning is in
    subst (λ (m : Meaning). StandInOrder [] (map (λ line. line.node) m.nodes)) read.1 (in_order [] (body_of text) read.0)

pub returns-clause-cells : goal.returns-clause-cells
returns-clause-cells c = λ text meaning is x y live.
    let read = judged-read text meaning is in
    root_range (map (λ line. line.node) meaning.nodes) x y
    (subst (λ (m : Meaning). StandInOrder [] (map (λ line. line.node) m.nodes)) read.1 (in_order [] (body_of text) read.0)) live
