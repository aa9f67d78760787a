use Rattle.plane.specs.Listing.{reading_order}
use Rattle.plane.specs.Range.{IsInRange}
use Rattle.plane.proofs.Listings.{plane_of-one_more, AllByRecursion-insert_key}
use Rattle.plane.proofs.SentErrors.{sent_on}
use Rattle.plane.specs.declared.refusal.Refusal.TheVariants.{NoMemory}
use Rattle.std.proofs.Common.{refl}
use Rattle.plane.proofs.cell_set.CellSet.insert.Goals as goal

pub invariant_of-self-2 : goal.invariant_of-self-2
invariant_of-self-2 c = record {
  rising = c.in_ok-insert.ensures.ordered;
  in_range = rw c.in_ok-insert.ensures.keys (AllByRecursion-insert_key IsInRange reading_order _ _ c.requires c.self.invariant.in_range);
}

pub returns-clause-ok : goal.returns-clause-ok
returns-clause-ok c = rw (← c.self.view_is) (record {
  rising = c.in_ok-insert.ensures.ordered;
  live = plane_of-one_more _ _ _ c.in_ok-insert.ensures.updates.0;
})

pub returns-in_err-insert-clause-memory : goal.returns-in_err-insert-clause-memory
returns-in_err-insert-clause-memory c = sent_on _ c.from_residual.result NoMemory c.from_residual.ensures.1 refl
