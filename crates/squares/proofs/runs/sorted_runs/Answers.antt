use Rattle.squares.proofs.RunOrder.{sorted_order}
use Rattle.squares.proofs.runs.sorted_runs.Goals as goal

pub returns-clause-order : goal.returns-clause-order
returns-clause-order c = sorted_order c.sort.new.self.items c.in_ok-sort.ensures.sorted
