use Rattle.std.proofs.Common.{inl, inr}
use Rattle.leaf_kernels.proofs.Choices.{all_or_none}
use Rattle.leaf_kernels.proofs.rows.everywhere.Goals as goal
use Rattle.leaf_kernels.proofs.rows.everywhere.Goals.{then-live, else-live}

pub returns : goal.returns
returns c =
    all_or_none c.if-live.result c.args.live (elim c.if-live.branch [
      | then-live w ↦ inl (w.if-live.true, w.result-is)
      | else-live w ↦ inr (w.if-live.false, w.result-is)
    ])
