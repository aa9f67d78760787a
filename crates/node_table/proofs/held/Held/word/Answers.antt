use Rattle.std.proofs.Common.{◌≡◌, ◌∙◌, ap, sym}
use Rattle.std.specs.Prelude.{slice_index}
use Rattle.std.specs.Slots.{slots_items}
use Rattle.node_table.specs.Held.{items_in}
use Rattle.node_table.proofs.Openings.{get_is}
use Rattle.node_table.proofs.held.Held.word.Goals as goal

pub returns-in-Table : goal.returns-in-Table
returns-in-Table c =
    let items : slots_items c.in-Table.closed.words ≡ c.args.self.now = ap items_in (sym c.in-Table.is) ∙ c.self.view_is in
    sym (get_is (slots_items c.in-Table.closed.words) c.args.index c.word.result c.word.ensures) ∙ ap (λ words. slice_index words c.args.index) items
