use Rattle.std.proofs.Common.{◌∙◌, ap, arith}
use Rattle.table_core.specs.declared.key.Key.{Key}
use Rattle.universe.proofs.Onward.{result_again}
use Rattle.universe.proofs.Staying.{same_square}
use Rattle.universe.proofs.universe.Universe.move_to_fresh.Goals as goal

pub returns-then-not-make_room_beside : goal.returns-then-not-make_room_beside
returns-then-not-make_room_beside g c = let made = c.make_room_beside.ensures in same_square made.here made.root made.limit

pub move_to-requires-clause-rule : goal.move_to-requires-clause-rule
move_to-requires-clause-rule g c κs within = c.in_ok-table.ensures.under.1 ∙ ap (λ (k : Key). k.rule) c.key.ensures

pub move_to-requires-clause-room : goal.move_to-requires-clause-room
move_to-requires-clause-room g c κs within =
    let room = c.make_room_beside.ensures.room c.if-not-make_room_beside.false in
    let size = c.in_ok-table.ensures.size in
    omega (arith, room, size)

pub returns : goal.returns
returns g c =
    let made = c.make_room_beside.ensures in
    result_again {first = c.args.self} _ c.args.exponent c.move_to.result c.move_to.ensures (same_square made.here made.root made.limit) c.in_ok-table.ensures.under.0
