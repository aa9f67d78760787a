use Rattle.std.proofs.Common.{◌∙◌}
use Rattle.table_core.specs.declared.machine.Event.TheVariants.{Claim}
use Rattle.node_table.proofs.Steps.{meets_at, sound_after}
use Rattle.node_table.proofs.at.At.claim.Goals as goal

pub compare_exchange-requires : goal.compare_exchange-requires
compare_exchange-requires c =
    let at = c.args.self.now in
    (at.of_table.same_table, c.requires.range, meets_at at.table.now at.desk (Claim 0 c.args.index c.args.word) at.of_table c.requires.lawful)

pub invariant_of-desk : goal.invariant_of-desk
invariant_of-desk c =
    let at = c.args.self.now in
    let met = c.compare_exchange.ensures.2 at.table.now.key at.of_table.same_key in
    record {
      free = met.slots ∙ at.desk.free;
      sound = sound_after at.table.now.key (Claim 0 c.args.index c.args.word) at.desk.seat.me c.compare_exchange.new.seat.me _ at.of_table.same_key at.desk.sound met;
    }

pub invariant_of-self : goal.invariant_of-self
invariant_of-self c =
    let at = c.args.self.now in
    let met = c.compare_exchange.ensures.2 at.table.now.key at.of_table.same_key in
    record { of_table = record { same_table = c.compare_exchange.ensures.0 ∙ at.of_table.same_table; same_key = met.same_key ∙ at.of_table.same_key } }

pub returns-clause-met : goal.returns-clause-met
returns-clause-met c = c.compare_exchange.ensures.2 c.args.self.now.table.now.key c.args.self.now.of_table.same_key
