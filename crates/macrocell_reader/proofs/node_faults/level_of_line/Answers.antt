use Rattle.macrocell_reader.specs.Nodes.{node_of}
use Rattle.macrocell_reader.proofs.NodeLemmas.{fault_read, accepted_read, level_read}
use Rattle.macrocell_reader.proofs.node_faults.level_of_line.Goals as goal

pub returns-clause-fault : goal.returns-clause-fault
returns-clause-fault c =
    fault_read c.args.levels.now (node_of c.args.line.now) c.node_of.result c.level_among.result c.node_of.ensures c.level_among.ensures.fault

pub returns-clause-accepted : goal.returns-clause-accepted
returns-clause-accepted c =
    accepted_read c.args.levels.now (node_of c.args.line.now) c.node_of.result c.level_among.result c.node_of.ensures c.level_among.ensures.accepted

pub returns-clause-level : goal.returns-clause-level
returns-clause-level c =
    level_read c.args.levels.now (node_of c.args.line.now) c.node_of.result c.level_among.result c.node_of.ensures c.level_among.ensures.accepted c.level_among.ensures.level
