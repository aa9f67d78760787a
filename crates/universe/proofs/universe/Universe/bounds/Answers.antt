use Rattle.std.proofs.Common.{refl, subst}
use Rattle.std.specs.Prelude.{IfOk}
use Rattle.node_table.proofs.AtWork.{centred_same}
use Rattle.plane.specs.Centred.{centred}
use Rattle.plane.specs.Plane.{Plane}
use Rattle.squares.specs.declared.sq.Sq.{Sq}
use Rattle.squares.proofs.Kept.{known_kept}
use Rattle.viewport.specs.BoundingBox.{HasBounds}
use Rattle.universe.proofs.SecondDesks.{keeps_same}
use Rattle.universe.proofs.universe.Universe.bounds.Goals as goal

pub bounds_at-requires-clause-known : goal.bounds_at-requires-clause-known
bounds_at-requires-clause-known c = c.reader.ensures.reads.known c.args.self.now.root c.args.self.now.known

pub invariant_of-self : goal.invariant_of-self
invariant_of-self c =
    let universe = c.args.self.now in
    record { known = known_kept (keeps_same c.reader.ensures.same) universe.known; level = universe.level; within = universe.within }

pub returns-clause-ok : goal.returns-clause-ok
returns-clause-ok c =
    let root = c.args.self.now.root in
    subst (λ (cells : Sq → Plane). IfOk c.bounds_at.result (HasBounds (centred root.level (cells root))))
    c.reader.ensures.reads.cells c.bounds_at.ensures.ok

pub returns-clause-same : goal.returns-clause-same
returns-clause-same c =
    let root = c.args.self.now.root in
    let kept = keeps_same c.reader.ensures.same in
    record { cells = centred_same root.level _ _ (kept.cells root c.args.self.now.known.known); rule = kept.rule; limit = refl }
