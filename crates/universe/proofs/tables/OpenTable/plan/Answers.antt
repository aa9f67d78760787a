use Rattle.std.proofs.Common.{◌^◌, subst, arith}
use Rattle.node_sweep.specs.Blank.{AreBlank}
use Rattle.table_core.specs.declared.key.Key.{Key}
use Rattle.universe.proofs.tables.OpenTable.plan.Goals as goal

pub returns : goal.returns
returns g c = record {
  blank = subst (λ (k : Key). AreBlank k (2 ^ c.args.shape.bits) c.in_ok-blank.blank) c.key-3.ensures c.in_ok-blank.ensures;
  within = omega arith;
}
