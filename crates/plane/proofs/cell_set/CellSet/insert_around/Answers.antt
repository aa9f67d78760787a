use Rattle.std.proofs.Common.{◌≡◌, ◌-ℤ◌, true, take}
use Rattle.std.proofs.lemmas.List.{take_all}
use Rattle.std.proofs.lemmas.List.Elements.{All-more, All-weaker}
use Rattle.plane.specs.declared.cell.Cell.{Cell}
use Rattle.rule_text.specs.declared.neighbourhood.Offset.{Offset}
use Rattle.rule_text.specs.Neighbourhood.{step, stay}
use Rattle.plane.specs.Plane.{Plane}
use Rattle.plane.specs.Listing.{plane_of}
use Rattle.plane.proofs.Listings.{IsKept-inserted, has_inserted}
use Rattle.plane.proofs.SentErrors.{sent_on}
use Rattle.plane.proofs.cell_set.CellSet.insert_around.Goals as goal

-- the cell that the offset leads from is live
abbrev IsLiveBefore : Cell → Plane → Offset → Type 0
IsLiveBefore cell plane offset = plane (cell.x -ℤ offset.right) (cell.y -ℤ offset.down) ≡ true

abbrev no_step : Offset
no_step = step stay stay

pub loop-offset-preserved : goal.loop-offset-preserved
loop-offset-preserved c =
    let listing = c.in_ok-insert-2.ensures.ok in
    let keeps = IsKept-inserted _ _ _ listing in
    let here = rw c.with_neighbour.ensures at (has_inserted _ _ _ listing) in
    record {
      kept = λ x y live. keeps x y (c.loop-offset.invariant.kept x y live);
      itself = keeps _ _ c.loop-offset.invariant.itself;
      around = All-more (IsLiveBefore c.args.cell (plane_of c.insert-in-loop-offset.new.self)) c.offsets-offset-items.result.now c.loop-offset.offset-index no_step
          c.loop-offset-test.true
          (All-weaker (IsLiveBefore c.args.cell (plane_of c.loop-offset.self)) (IsLiveBefore c.args.cell (plane_of c.insert-in-loop-offset.new.self))
          (λ offset live. keeps (c.args.cell.x -ℤ offset.right) (c.args.cell.y -ℤ offset.down) live)
          (take c.loop-offset.offset-index c.offsets-offset-items.result.now) c.loop-offset.invariant.around)
          here;
    }

pub returns-clause-around : goal.returns-clause-around
returns-clause-around c = record {
  itself = c.loop-offset.invariant.itself;
  around = rw (← c.offsets-offset-items.ensures.offsets) (rw (take_all c.loop-offset.offset-index c.offsets-offset-items.result.now c.loop-offset-test.false) at c.loop-offset.invariant.around);
}

pub returns-in_err-insert-clause-memory : goal.returns-in_err-insert-clause-memory
returns-in_err-insert-clause-memory c = sent_on _ c.from_residual.result c.in_err-insert.field-0.0 c.from_residual.ensures.1 c.in_err-insert.ensures.memory
