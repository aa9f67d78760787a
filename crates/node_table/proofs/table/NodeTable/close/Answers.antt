use Rattle.std.proofs.Common.{ℕ, sym, subst, refl, List}
use Rattle.std.specs.Prelude.{slice_index}
use Rattle.std.specs.Slots.{slots_items}
use Rattle.table_core.specs.declared.key.Key.{Key}
use Rattle.table_core.specs.Good.{AreGoodWords}
use Rattle.table_core.specs.Knowledge.{IsTrueOf}
use Rattle.node_table.specs.Desks.{store_of}
use Rattle.node_table.proofs.Closing.{says_all}
use Rattle.node_table.proofs.WordBooks.{words_book}
use Rattle.node_table.proofs.Openings.{closed_good, closed_true}
use Rattle.node_table.proofs.table.NodeTable.close.Goals as goal

pub invariant_of-result : goal.invariant_of-result
invariant_of-result c =
    let t = c.args.self in
    let closed = slots_items c.close_with.result.words in
    let words = c.of_table-words.result in
    let good = closed_good t.table.shared.key c.args.desk.seat.id c.args.desk.seat.me.0 closed _ c.close_with.ensures.values.2 in
    let now : AreGoodWords t.key words = subst (λ (ws : List ℕ). AreGoodWords t.key ws) (sym c.of_table-words.ensures) (subst (λ (k : Key). AreGoodWords k closed) t.same_key good) in
    record { good = now; is_book = words_book t.key words now ((c.args.desk.sound t.key c.requires.same_key).book (store_of t)).rule }

pub returns : goal.returns
returns c =
    let t = c.args.self in
    let closed = slots_items c.close_with.result.words in
    let words = c.of_table-words.result in
    let known = c.args.desk.seat.me.0.known in
    let is_true = closed_true t.table.shared.key c.args.desk.seat.id c.args.desk.seat.me.0 closed _ c.close_with.ensures.values.2 in
    let now = subst (λ (ws : List ℕ). IsTrueOf t.key.shape.bits (slice_index ws) known) (sym c.of_table-words.ensures) (subst (λ (k : Key). IsTrueOf k.shape.bits (slice_index closed) known) t.same_key is_true) in
    let good = closed_good t.table.shared.key c.args.desk.seat.id c.args.desk.seat.me.0 closed _ c.close_with.ensures.values.2 in
    let good_now = subst (λ (ws : List ℕ). AreGoodWords t.key ws) (sym c.of_table-words.ensures) (subst (λ (k : Key). AreGoodWords k closed) t.same_key good) in
    record { same_key = refl; known = now; says = says_all (store_of t) t.key words good_now known now }
