use Rattle.squares.specs.Book.{IsKnown}
use Rattle.squares.proofs.Kept.{keeps_trans, known_kept}
use Rattle.worked_tables.proofs.Lists.{pushed}
use Rattle.worked_tables.proofs.tests.rounds.jobs_of_leaves.all_of_leaves.Goals as goal

pub returns-in_err-push-clause-keeps : goal.returns-in_err-push-clause-keeps
returns-in_err-push-clause-keeps g c = keeps_trans c.loop-k.invariant.0 c.join_leaves.ensures.adds.keeps

pub loop-k-preserved : goal.loop-k-preserved
loop-k-preserved g c = (
  keeps_trans c.loop-k.invariant.0 c.join_leaves.ensures.adds.keeps,
  pushed (IsKnown (g.S.Squares.book c.join_leaves.new.book) 4) _ _ _ _ c.push.ensures.items (λ k d less. known_kept c.join_leaves.ensures.adds.keeps (c.loop-k.invariant.1 k d less)) c.in_ok-sq.ensures.ok.known,
)
