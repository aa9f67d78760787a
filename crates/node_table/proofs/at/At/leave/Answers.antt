use Rattle.node_table.proofs.Leaving.{returned}
use Rattle.node_table.proofs.at.At.leave.Goals as goal

pub returns-clause-desk : goal.returns-clause-desk
returns-clause-desk c = record {
  returns = λ table first keeps.
      let r = returned c.args.self.expansions c.args.self.table.now table first c.args.self.desk c.args.self.of_table keeps in
      (record { same_table = r.0.same_table; same_key = r.0.same_key }, r.1, r.2);
}
