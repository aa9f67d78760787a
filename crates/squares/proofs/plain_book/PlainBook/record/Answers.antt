use Rattle.std.proofs.Common.{◌≡◌, ◌-◌, true, Some, arith, rules, sym, ◌∙◌, ap, refl}
use Rattle.std.specs.Prelude.{Option, None, is_some}
use Rattle.std.proofs.lemmas.Bool.{false≢true}
use Rattle.std.proofs.lemmas.Option.{slice_get_within}
use Rattle.squares.specs.declared.node.PlainNode.{PlainNode}
use Rattle.squares.specs.declared.node.Record.{Record}
use Rattle.squares.specs.Nodes.{nodes_of}
use Rattle.squares.proofs.NodeLists.{not_zero}
use Rattle.squares.proofs.Places.{read_there}
use Rattle.squares.proofs.RecordLists.{record_there}
use Rattle.squares.proofs.plain_book.PlainBook.record.Goals as goal

some_node : (o : Option PlainNode) → is_some o ≡ true → (node : PlainNode) × (o ≡ Some node)
some_node None e = absurd (false≢true e)
some_node (Some node) e = (node, refl)

pub returns-clause-node : goal.returns-clause-node
returns-clause-node c =
    let t = some_node _ c.requires in
    let k = record_there c.args.self.now.records.items c.args.num.0 t.0 t.1 in
    let same = read_there c.args.self.now.records.items (c.args.num.0 - 1) k.0 c.index.result.now k.1 c.index.ensures in
    t.1 ∙ ap (λ x. Some x) (sym k.2) ∙ ap (λ (r : Record). Some r.node) (sym same)

pub index-requires : goal.index-requires
index-requires c =
    let items = c.args.self.now.records.items in
    let t = some_node _ c.requires in
    let k = record_there items c.args.num.0 t.0 t.1 in
    let within = slice_get_within items (c.args.num.0 - 1) k.0 k.1 in
    search (rules, within)

pub overflow_sub-num : goal.overflow_sub-num
overflow_sub-num c =
    let t = some_node _ c.requires in
    let some = not_zero (nodes_of c.args.self.now.records.items) c.args.num.0 t.0 t.1 in
    omega arith

pub returns-clause-record : goal.returns-clause-record
returns-clause-record c =
    let items = c.args.self.now.records.items in
    let t = some_node _ c.requires in
    let k = record_there items c.args.num.0 t.0 t.1 in
    k.1 ∙ ap (λ (r : Record). Some r) (sym (read_there items (c.args.num.0 - 1) k.0 c.index.result.now k.1 c.index.ensures))
