use Rattle.std.proofs.Common.{subst, sym}
use Rattle.table_core.specs.Knowledge.{Grows}
use Rattle.table_core.proofs.Knowing.{grows_trans}
use Rattle.node_table.specs.Refusals.{known_by}
use Rattle.worker_split.proofs.working.come_back.Goals as goal

pub returns-clause-brings : goal.returns-clause-brings
returns-clause-brings c = record {
  book = _;
  keeps_own = c.join.ensures.own;
  keeps_work = c.join.ensures.other;
  leaves = record { back = c.leave-desk.result; returns = c.leave-desk.ensures.desk; same = c.count.ensures.desk; expansions = c.count.ensures.expansions };
}

pub returns-clause-knows : goal.returns-clause-knows
returns-clause-knows c = grows_trans _ _ _ c.join.ensures.grows.0.grows (subst (Grows (known_by c.join.new.self.desk)) (sym c.count.ensures.desk.same_known) c.leave-desk.ensures.grows)
