use Rattle.std.proofs.Common.{◌∙◌, sym}
use Rattle.macrocell_reader.proofs.MeaningLemmas.{no_node_line}
use Rattle.macrocell_reader.proofs.mc_file.add_level.Goals as goal

pub returns-else-is_node_line-clause-accepted : goal.returns-else-is_node_line-clause-accepted
returns-else-is_node_line-clause-accepted c =
    no_node_line c.args.levels.now.items c.args.line.text.now (sym c.is_node_line.ensures ∙ c.if-is_node_line.false)
