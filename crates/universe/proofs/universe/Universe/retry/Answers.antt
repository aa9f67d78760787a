use Rattle.std.proofs.Common.{◌^◌, ap, subst, arith, pow_mono}
use Rattle.table_core.specs.declared.key.Key.{Key}
use Rattle.table_growth.specs.Retries.{IsWithinLimit}
use Rattle.universe.proofs.universe.Universe.retry.Goals as goal

pub step_swept-requires-clause-shape : goal.step_swept-requires-clause-shape
step_swept-requires-clause-shape g c κs within =
    let own = ap (λ (k : Key). 2 ^ k.shape.bits) c.key.ensures in
    let all = c.args.self.within in
    omega (arith, own, all)

pub step_enlarged-requires-clause-shape : goal.step_enlarged-requires-clause-shape
step_enlarged-requires-clause-shape g c κs within =
    let below = subst (IsWithinLimit c.args.self.others.limit) c.in-Enlarged.is c.requires.within in
    pow_mono {i = c.in-Enlarged.shape.bits} {j = c.args.self.others.limit.bits} below

pub step_swept-requires-in-Restarted-clause-shape : goal.step_swept-requires-in-Restarted-clause-shape
step_swept-requires-in-Restarted-clause-shape g c κs within =
    let below = subst (IsWithinLimit c.args.self.others.limit) c.in-Restarted.is c.requires.within in
    pow_mono {i = c.in-Restarted.shape.bits} {j = c.args.self.others.limit.bits} below
