use Rattle.std.proofs.Common.{◌≡◌, ◌^◌, ap, subst, arith, refl}
use Rattle.std.specs.Prelude.{Err, IfNone, IsTrue, Option}
use Rattle.plane.specs.declared.refusal.Refusal.TheVariants.{NodesFull}
use Rattle.squares.specs.Roots.{IsRootOf}
use Rattle.squares.specs.declared.sq.Sq.{Sq}
use Rattle.table_core.specs.declared.key.Key.{Key}
use Rattle.universe.specs.Cells.{next_cells}
use Rattle.universe.specs.Tables.{known_at}
use Rattle.universe.proofs.Copying.{no_room}
use Rattle.universe.proofs.Halves.{found_ok}
use Rattle.universe.proofs.Staying.{cells_stay, key_stays, known_stays, not_stepped, stepped}
use Rattle.universe.proofs.universe.Universe.step_here.Goals as goal

pub returns-in-Some-clause-ok : goal.returns-in-Some-clause-ok
returns-in-Some-clause-ok g c =
    let is_root = found_ok (IsRootOf (known_at c.step-made.new.self) (next_cells c.args.self.here c.args.self.root)) c.step-made.result c.in_ok-root.ensures.some c.in-Some.is c.step-made.ensures.ok in
    stepped {old = c.args.self} c.step-made.ensures.stays is_root.cells refl

pub returns-in-None-clause-ok : goal.returns-in-None-clause-ok
returns-in-None-clause-ok g c =
    let stays = c.step-made.ensures.stays in
    not_stepped {old = c.args.self} stays (cells_stay c.args.self.root stays c.args.self.known) refl

pub invariant_of-result-in-None : goal.invariant_of-result-in-None
invariant_of-result-in-None g c =
    let stays = c.step-made.ensures.stays in
    let pairs = ap (λ (k : Key). 2 ^ k.shape.bits) (key_stays stays) in
    let within = c.args.self.within in
    record { known = known_stays c.args.self.root stays c.args.self.known; level = c.args.self.level; within = omega (arith, pairs, within) }

pub returns-in-None-clause-full : goal.returns-in-None-clause-full
returns-in-None-clause-full g c =
    let made = c.step-made in
    let full = subst (λ (o : Option Sq). IfNone o (made.result ≡ Err NodesFull)) c.in-None.is c.in_ok-root.ensures.none in
    (made.ensures.stays, no_room (IsTrue (known_at made.new.self).is_full) made.result full made.ensures.refusal)
