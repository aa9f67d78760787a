use Rattle.std.proofs.Common.{ℤ, rules, subst, w64}
use Rattle.std.proofs.lemmas.Int.{to_z-of_z}
use Rattle.period_search.proofs.MovedRuns.{AreMovedBefore, all_moved, one_more, to_all}
use Rattle.period_search.proofs.runs.are_moved.Goals as goal

pub returns : goal.returns
returns c =
    let moved = subst (λ (right : ℤ). AreMovedBefore right c.args.runs.now c.args.others.now c.loop-i.i) (to_z-of_z w64 c.args.right c.ranges.right) c.loop-i.invariant in (
      λ _. all_moved c.args.right c.args.runs.now c.args.others.now c.if-runs-others.false (to_all c.args.right c.args.runs.now c.args.others.now c.loop-i.i c.loop-i-test.false moved),
      λ _. search rules,
    )

pub loop-i-preserved : goal.loop-i-preserved
loop-i-preserved c = one_more _ c.args.runs.now c.args.others.now c.loop-i.i c.loop-i.invariant (c.is_moved.ensures.0 c.if-not-is_moved.false)
