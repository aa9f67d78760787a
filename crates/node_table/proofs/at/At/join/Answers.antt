use Rattle.std.proofs.Common.{subst}
use Rattle.squares.specs.Book.{Keeps}
use Rattle.node_table.specs.Desks.{work_at}
use Rattle.node_table.proofs.OneTable.{keeps_at_work, same_place}
use Rattle.node_table.proofs.at.At.join.Goals as goal

pub join-requires-clause-other : goal.join-requires-clause-other
join-requires-clause-other c = (same_place c.args.self.now c.args.other c.requires).0

pub returns-clause-own : goal.returns-clause-own
returns-clause-own c = keeps_at_work c.args.self.now.expansions c.args.self.now.table.now c.args.self.now.desk c.join.new.self c.join.ensures.first

pub returns-clause-other : goal.returns-clause-other
returns-clause-other c =
    let at = c.args.self.now in
    let kept = keeps_at_work at.expansions at.table.now c.args.other.desk c.join.new.self c.join.ensures.second in
    subst (λ b. Keeps b (work_at at.expansions at.table.now c.join.new.self)) (same_place at c.args.other c.requires).1 kept
