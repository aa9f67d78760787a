use Rattle.node_table.proofs.OneTable.{at_work}
use Rattle.node_table.proofs.at.At.split_off.Goals as goal

pub returns-clause-own : goal.returns-clause-own
returns-clause-own c = at_work c.args.self.now.expansions c.args.self.now.table.now c.args.self.now.desk c.split_off.new.self c.split_off.ensures.same

pub returns-clause-other : goal.returns-clause-other
returns-clause-other c = at_work c.args.self.now.expansions c.args.self.now.table.now c.args.self.now.desk c.split_off.result c.split_off.ensures.same_other
