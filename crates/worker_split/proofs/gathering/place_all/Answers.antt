use Rattle.std.proofs.Common.{◌∙◌, refl}
use Rattle.std.proofs.lemmas.List.{length-set}
use Rattle.worker_split.proofs.Places.{placed}
use Rattle.worker_split.proofs.gathering.place_all.Goals as goal

pub loop-k-init : goal.loop-k-init
loop-k-init c = (refl, λ jobs book are fit. fit)

pub loop-k-preserved : goal.loop-k-preserved
loop-k-preserved c = (
  length-set _ _ _ ∙ c.loop-k.invariant.0,
  λ jobs book are fit. placed jobs book c.loop-k.places _ _ (are.each c.loop-k.k _ c.loop-k-test.true) (c.loop-k.invariant.1 jobs book are fit),
)
