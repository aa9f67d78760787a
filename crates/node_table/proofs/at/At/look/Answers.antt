use Rattle.std.proofs.Common.{◌∙◌}
use Rattle.table_core.specs.declared.machine.Event.TheVariants.{Look}
use Rattle.node_table.proofs.Steps.{meets_at, sound_after}
use Rattle.node_table.proofs.at.At.look.Goals as goal

pub load-requires : goal.load-requires
load-requires c =
    let at = c.args.self.now in
    (at.of_table.same_table, c.requires, meets_at at.table.now at.desk (Look 0 c.args.index) at.of_table tt)

pub invariant_of-desk : goal.invariant_of-desk
invariant_of-desk c =
    let at = c.args.self.now in
    let met = c.load.ensures.2 at.table.now.key at.of_table.same_key in
    record {
      free = met.slots ∙ at.desk.free;
      sound = sound_after at.table.now.key (Look 0 c.args.index) at.desk.seat.me c.load.new.seat.me _ at.of_table.same_key at.desk.sound met;
    }

pub invariant_of-self : goal.invariant_of-self
invariant_of-self c =
    let at = c.args.self.now in
    let met = c.load.ensures.2 at.table.now.key at.of_table.same_key in
    record { of_table = record { same_table = c.load.ensures.0 ∙ at.of_table.same_table; same_key = met.same_key ∙ at.of_table.same_key } }

pub returns-clause-met : goal.returns-clause-met
returns-clause-met c = c.load.ensures.2 c.args.self.now.table.now.key c.args.self.now.of_table.same_key
