use Rattle.std.specs.Map.Iter.{deref}
use Rattle.std.proofs.lemmas.Map.Iter.{rest_more}
use Rattle.plane.specs.Generation.{HasRoom}
use Rattle.plane.proofs.Around.{HasAround-kept}
use Rattle.plane.proofs.Turns.{one_done, holds_of_item, holds_of_done}
use Rattle.plane.proofs.SentErrors.{sent_on}
use Rattle.plane.proofs.cell_set.CellSet.candidates.Goals as goal

pub insert_around-requires : goal.insert_around-requires
insert_around-requires c = holds_of_item HasRoom _ _ _ _ _ c.loop-cell.invariant.listed
    (rest_more deref _ _ _ _ c.in-Some.is c.next.ensures.steps) c.requires

pub loop-cell-preserved : goal.loop-cell-preserved
loop-cell-preserved c = record {
  listed = one_done _ _ _ _ _ c.loop-cell.invariant.listed (rest_more deref _ _ _ _ c.in-Some.is c.next.ensures.steps);
  around = holds_of_done _ _ _ _ (λ cell has. HasAround-kept _ cell _ _ c.in_ok-insert_around.ensures.kept has) c.loop-cell.invariant.around c.in_ok-insert_around.ensures.around;
}

pub returns-in_err-insert_around-clause-memory : goal.returns-in_err-insert_around-clause-memory
returns-in_err-insert_around-clause-memory c = sent_on _ c.from_residual.result c.in_err-insert_around.field-0.0 c.from_residual.ensures.1 c.in_err-insert_around.ensures.memory
