use Rattle.std.proofs.Common.{◌≡◌, ℕ, subst}
use Rattle.std.specs.Prelude.{Err, IfNone, Option}
use Rattle.plane.specs.declared.refusal.Refusal.TheVariants.{NodesFull}
use Rattle.squares.specs.declared.sq.Sq.{Sq}
use Rattle.node_table.specs.declared.still.Still.{Still}
use Rattle.node_sweep.specs.CopiedStills.{HasNoRoomFor}
use Rattle.universe.specs.Cells.{root_of, still_of}
use Rattle.universe.proofs.Copying.{no_room}
use Rattle.universe.proofs.rooted_still.RootedStill.sweep.Goals as goal

pub returns-in-None-clause-full : goal.returns-in-None-clause-full
returns-in-None-clause-full c =
    let full = subst (λ (o : Option (Still × Sq)). IfNone o (c.sweep-made.result ≡ Err NodesFull)) c.in-None.is c.in_ok-still.ensures.none in
    subst (λ (n : ℕ). HasNoRoomFor (still_of c.args.self.now) (root_of c.args.self.now) n) c.slot_count.ensures (no_room (HasNoRoomFor (still_of c.args.self.now) (root_of c.args.self.now) c.slot_count.result) c.sweep-made.result full c.sweep-made.ensures.refusal)
