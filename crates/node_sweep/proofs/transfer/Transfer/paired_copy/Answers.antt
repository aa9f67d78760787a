use Rattle.std.proofs.Common.{◌<◌, ◌^◌, arith}
use Rattle.node_sweep.specs.Transfers.{old_bits}
use Rattle.node_sweep.proofs.SideBySide.{first_inside, second_inside}
use Rattle.node_sweep.proofs.transfer.Transfer.paired_copy.Goals as goal

pub bounds-copies-first : goal.bounds-copies-first
bounds-copies-first c =
    let count = c.slot_count.ensures in
    let before = c.if-slot-slot_count.false in
    let less : c.args.slot < 2 ^ old_bits c.args.self.now = omega arith in
    first_inside c.args.self.now c.args.copies.now c.args.slot c.index.result c.word-word.result c.parts-first.result.0 c.requires less c.index.ensures.index c.word-word.ensures c.if-word-eq0.false c.parts-first.ensures.first

pub bounds-copies-second : goal.bounds-copies-second
bounds-copies-second c =
    let count = c.slot_count.ensures in
    let before = c.if-slot-slot_count.false in
    let less : c.args.slot < 2 ^ old_bits c.args.self.now = omega arith in
    second_inside c.args.self.now c.args.copies.now c.args.slot c.index.result c.word-word.result c.parts-first.result.1 c.requires less c.index.ensures.index c.word-word.ensures c.if-word-eq0.false c.parts-first.ensures.second
