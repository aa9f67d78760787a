use Rattle.std.proofs.Common.{◌∙◌, ap, Some, arith, ◌≡◌}
use Rattle.squares.specs.Nodes.{nodes_of, level_of}
use Rattle.squares.specs.declared.node.PlainNode.TheVariants.{Inner}
use Rattle.squares.proofs.NodeLists.{level_at}
use Rattle.squares.proofs.plain_book.PlainBookLook.bits.Goals as goal

pub unreachable-requires : goal.unreachable-requires
unreachable-requires c =
    let at = c.args.self.now in
    let q = c.in-Inner.field-0 in
    let there = c.record.ensures.node ∙ ap (λ x. Some x) c.in-Inner.is in
    let low = (at.good.inner c.args.sq.num.0 q there).low in
    let level : level_of (Inner q) ≡ c.args.sq.level = level_at (nodes_of at.records.items) c.args.sq.level c.args.sq.num.0 (Inner q) c.requires.known there in
    let is = c.requires.at_level in
    omega arith
