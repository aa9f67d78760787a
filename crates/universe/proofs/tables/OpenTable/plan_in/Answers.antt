use Rattle.std.proofs.Common.{◌^◌, rules, subst, arith}
use Rattle.std.specs.Prelude.{IfOk}
use Rattle.std.proofs.lemmas.Result.{IfOk-at_ok}
use Rattle.node_sweep.specs.Blank.{AreBlank}
use Rattle.table_core.specs.declared.key.Key.{Key}
use Rattle.universe.proofs.tables.OpenTable.plan_in.Goals as goal

pub returns-clause-is : goal.returns-clause-is
returns-clause-is g c =
    let made : IfOk c.join-blank.result.0 (AreBlank c.key.result.now (2 ^ c.args.shape.bits)) = search rules in
    let own = IfOk-at_ok _ c.in_ok-blank-2.was made in
    record {
      blank = subst (λ (k : Key). AreBlank k (2 ^ c.args.shape.bits) c.in_ok-blank-2.blank) c.key.ensures own;
      within = omega arith;
    }
