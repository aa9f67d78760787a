use Rattle.std.proofs.Common.{◌∙◌, ap, subst, map, []}
use Rattle.text_lines.specs.Lines.{lines_from}
use Rattle.macrocell_reader.specs.Meaning.{Meaning}
use Rattle.macrocell_reader.specs.NodeFaults.{StandInOrder}
use Rattle.macrocell_reader.proofs.OrderLemmas.{in_order, nodes_kept-accepted}
use Rattle.macrocell_reader.proofs.mc_file.McFile.lines.Goals as goal

pub returns-clause-in_order : goal.returns-clause-in_order
returns-clause-in_order c =
    subst (λ (m : Meaning). StandInOrder [] (map (λ line. line.node) m.nodes)) c.self.view_is
    (in_order [] (lines_from c.self.inside.body.source.now c.self.inside.body.at) c.self.invariant)

pub returns-clause-value : goal.returns-clause-value
returns-clause-value c =
    c.new.ensures
    ∙ nodes_kept-accepted (lines_from c.self.inside.body.source.now c.self.inside.body.at) c.self.invariant
    ∙ ap (λ (m : Meaning). m.nodes) c.self.view_is
