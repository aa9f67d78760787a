use Rattle.std.proofs.Common.{◌∙◌, ap, sym, subst}
use Rattle.node_table.specs.declared.desk_view.DeskView.{DeskView}
use Rattle.node_table.specs.Books.{IsSound}
use Rattle.node_table.proofs.Steps.{splits, some_words}
use Rattle.node_table.proofs.desk.Desk.split_off.Goals as goal

pub split_seat-seat-requires : goal.split_seat-seat-requires
split_seat-seat-requires c =
    let t = c.args.table.now in
    (c.requires.same_table, some_words t.key.shape.bits t.table.shared.table_id.words t.long, splits t.table.shared.key c.args.self.now.seat.id c.args.self.now.seat.me.0)

pub invariant_of-self : goal.invariant_of-self
invariant_of-self c = record {
  free = ap (λ me. me.1) c.split_seat-seat.ensures.2 ∙ c.args.self.now.free;
  sound = subst (λ (view : DeskView). IsSound view) (sym (ap (λ me. me.0) c.split_seat-seat.ensures.2)) c.args.self.now.sound;
}

pub invariant_of-result : goal.invariant_of-result
invariant_of-result c = record {
  free = ap (λ me. me.1) c.split_seat-seat.ensures.4;
  sound = subst (λ (view : DeskView). IsSound view) (sym (ap (λ me. me.0) c.split_seat-seat.ensures.4)) c.args.self.now.sound;
}
