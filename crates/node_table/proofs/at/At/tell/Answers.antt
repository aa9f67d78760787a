use Rattle.std.proofs.Common.{ℕ, ◌+◌, ◌^◌, ◌∙◌, ap, cond, eqb, sym, subst}
use prog.Atomic.{either}
use Rattle.atomic_table.specs.Table.{Allows}
use Rattle.table_core.specs.declared.machine.Event.TheVariants.{Tell}
use Rattle.table_core.specs.Lawful.{IsLawful}
use Rattle.table_core.specs.Layout.{second_part}
use Rattle.node_table.specs.Rule.{IsSoundState, Met, HasMet}
use Rattle.node_table.proofs.Steps.{meets_at, sound_after}
use Rattle.node_table.proofs.at.At.tell.Goals as goal

pub compare_exchange-requires : goal.compare_exchange-requires
compare_exchange-requires c =
    let at = c.args.self.now in
    let t = at.table.now in
    let desk = at.desk in
    let word = c.result_word-word.result in
    let number = c.result_word-word.ensures.number in
    let whole = ap (λ (n : ℕ). 2 ^ 32 + n) number ∙ sym c.result_word-word.ensures.word in
    let lawful = subst (λ (n : ℕ). IsLawful t.key desk.seat.me.0.known (Tell 0 c.args.index n)) (sym number) c.requires.lawful in (
      at.of_table.same_table,
      c.requires.range,
      subst (λ (w : ℕ). Allows (IsSoundState {S = Unit {0}} t.table.shared.key) t.table.shared.table_id.slots desk.seat.id desk.seat.me c.args.index (λ n. either (eqb n 0) w n) (HasMet (Tell 0 c.args.index (second_part word)) desk.seat.me)) whole
          (meets_at t desk (Tell 0 c.args.index (second_part word)) at.of_table lawful),
    )

pub invariant_of-desk : goal.invariant_of-desk
invariant_of-desk c =
    let at = c.args.self.now in
    let met = c.compare_exchange.ensures.2 at.table.now.key at.of_table.same_key in
    record {
      free = met.slots ∙ at.desk.free;
      sound = sound_after at.table.now.key (Tell 0 c.args.index (second_part c.result_word-word.result)) at.desk.seat.me c.compare_exchange.new.seat.me _ at.of_table.same_key at.desk.sound met;
    }

pub invariant_of-self : goal.invariant_of-self
invariant_of-self c =
    let at = c.args.self.now in
    let met = c.compare_exchange.ensures.2 at.table.now.key at.of_table.same_key in
    record { of_table = record { same_table = c.compare_exchange.ensures.0 ∙ at.of_table.same_table; same_key = met.same_key ∙ at.of_table.same_key } }

pub returns-clause-met : goal.returns-clause-met
returns-clause-met c =
    let at = c.args.self.now in
    subst (λ (n : ℕ). Met {S = Unit {0}} at.table.now.key (Tell 0 c.args.index n) at.desk.seat.me (cond (eqb c.compare_exchange.result 0) (2 ^ 32 + n) c.compare_exchange.result) c.compare_exchange.new.seat.me)
    c.result_word-word.ensures.number (c.compare_exchange.ensures.2 at.table.now.key at.of_table.same_key)
