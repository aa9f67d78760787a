use Rattle.std.proofs.Common.{◌∙◌, ap, sym, subst, Some}
use Rattle.atomic_table.specs.Table.{Me}
use Rattle.table_core.specs.declared.key.Key.{Key}
use Rattle.table_core.specs.declared.machine.Event.TheVariants.{Look}
use Rattle.table_core.specs.Knowledge.{Grows}
use Rattle.node_table.specs.declared.desk_view.DeskView.{DeskView}
use Rattle.node_table.specs.Desks.{store_of}
use Rattle.node_table.proofs.Joining.{first_known, second_known, first_kept, second_kept}
use Rattle.node_table.proofs.Steps.{coherent_of, meets, joins, sound_by, some_words}
use Rattle.node_table.proofs.desk.Desk.join.Goals as goal

pub join_seat-requires : goal.join_seat-requires
join_seat-requires c =
    let t = c.args.table.now in (
      c.requires.own.same_table,
      c.requires.other.same_table,
      c.args.other.free,
      some_words t.key.shape.bits t.table.shared.table_id.words t.long,
      joins t.table.shared.key c.args.self.now.seat.id c.args.other.seat.id c.args.self.now.seat.me.0 c.args.other.seat.me.0,
    )

pub load-self-requires : goal.load-self-requires
load-self-requires c =
    let t = c.args.table.now in
    let seat = c.join_seat.new.seat in (
      c.join_seat.ensures.0 ∙ c.requires.own.same_table,
      some_words t.key.shape.bits t.table.shared.table_id.words t.long,
      meets t.table.shared.key t.table.shared.table_id.slots seat.id seat.me (Look 0 0)
          (ap (λ me. me.0.key) c.join_seat.ensures.2 ∙ c.requires.own.same_key ∙ ap (λ (k : Key). Some k) (sym t.same_key)) tt,
    )

pub invariant_of-self : goal.invariant_of-self
invariant_of-self c =
    let key = c.args.table.now.key in
    let present = ap (λ me. me.0.key) c.join_seat.ensures.2 ∙ c.requires.own.same_key in
    let met = c.load-self.ensures.2 key present in
    record {
      free = met.slots ∙ ap (λ me. me.1) c.join_seat.ensures.2 ∙ c.args.self.now.free;
      sound = sound_by key c.load-self.new.seat.me.0 ((c.args.self.now.sound key c.requires.own.same_key).book (store_of c.args.table.now)).rule met.words (met.same_key ∙ present);
    }

pub returns-clause-table : goal.returns-clause-table
returns-clause-table c =
    let present = ap (λ me. me.0.key) c.join_seat.ensures.2 ∙ c.requires.own.same_key in
    let met = c.load-self.ensures.2 c.args.table.now.key present in
    record { same_table = c.load-self.ensures.0 ∙ c.join_seat.ensures.0 ∙ c.requires.own.same_table; same_key = met.same_key ∙ present }

pub returns-clause-first : goal.returns-clause-first
returns-clause-first c =
    let t = c.args.table.now in
    let after = c.load-self.new.seat.me.0.known in
    let met = c.load-self.ensures.2 t.key (ap (λ me. me.0.key) c.join_seat.ensures.2 ∙ c.requires.own.same_key) in
    first_kept c.args.self.now.seat.me.0.known c.args.other.seat.me.0.known after
    (subst (λ (me : Me (Unit {0}) DeskView). Grows me.0.known after) c.join_seat.ensures.2 met.grows) (store_of t) t.key ∣ coherent_of t.key after met.words ∣₁

pub returns-clause-second : goal.returns-clause-second
returns-clause-second c =
    let t = c.args.table.now in
    let after = c.load-self.new.seat.me.0.known in
    let met = c.load-self.ensures.2 t.key (ap (λ me. me.0.key) c.join_seat.ensures.2 ∙ c.requires.own.same_key) in
    second_kept c.args.self.now.seat.me.0.known c.args.other.seat.me.0.known after
    (subst (λ (me : Me (Unit {0}) DeskView). Grows me.0.known after) c.join_seat.ensures.2 met.grows) (store_of t) t.key ∣ coherent_of t.key after met.words ∣₁

pub returns-clause-grows : goal.returns-clause-grows
returns-clause-grows c =
    let t = c.args.table.now in
    let one = c.args.self.now.seat.me.0.known in
    let two = c.args.other.seat.me.0.known in
    let after = c.load-self.new.seat.me.0.known in
    let met = c.load-self.ensures.2 t.key (ap (λ me. me.0.key) c.join_seat.ensures.2 ∙ c.requires.own.same_key) in
    let grows = subst (λ (me : Me (Unit {0}) DeskView). Grows me.0.known after) c.join_seat.ensures.2 met.grows in
    (first_known one two after grows, second_known one two after grows)
