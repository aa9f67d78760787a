use Rattle.std.proofs.Common.{◌≡◌, arith, subst}
use Rattle.hashlife_step.proofs.Planned.{IsPlanned, planned_all, planned_more, planned_same}
use Rattle.hashlife_step.proofs.steps.plan.Goals as goal
use Rattle.hashlife_step.proofs.steps.plan.Goals.{then-generations-exponent-eq1, else-generations-exponent-eq1}

pub loop-exponent-preserved : goal.loop-exponent-preserved
loop-exponent-preserved c = elim c.if-generations-exponent-eq1.branch [
  | then-generations-exponent-eq1 w ↦
      simp (w.exponents-is, w.push.ensures.items) (planned_more c.args.generations c.loop-exponent.exponent c.loop-exponent.exponents.items w.if-generations-exponent-eq1.true c.loop-exponent.invariant)
  | else-generations-exponent-eq1 w ↦
      simp w.exponents-is (planned_same c.args.generations c.loop-exponent.exponent c.loop-exponent.exponents.items w.if-generations-exponent-eq1.false c.loop-exponent.invariant)
]

pub returns-clause-sum : goal.returns-clause-sum
returns-clause-sum c =
    let all : c.loop-exponent.exponent ≡ 64 = omega arith in
    planned_all c.args.generations c.loop-exponent.exponents.items c.ranges.generations.fits
    (subst (λ n. IsPlanned c.args.generations n c.loop-exponent.exponents.items) all c.loop-exponent.invariant)
