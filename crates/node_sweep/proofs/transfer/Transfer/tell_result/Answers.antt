use Rattle.std.proofs.Common.{ap}
use Rattle.std.specs.Prelude.{slice_set}
use Rattle.node_sweep.specs.Transfers.{old_table, wants}
use Rattle.node_sweep.proofs.Futures.{copied_slot}
use Rattle.node_sweep.proofs.Telling.{nothing_told, told_copied, word_told}
use Rattle.node_sweep.proofs.transfer.Transfer.tell_result.Goals as goal

pub returns-then-word-eq0 : goal.returns-then-word-eq0
returns-then-word-eq0 c =
    let transfer = c.args.self.now in
    nothing_told transfer.old.key.now transfer.to transfer.old.words.now (wants transfer) c.args.copies.now c.args.words.now transfer.old.good.good transfer.same_rule transfer.same_exponent c.args.slot c.requires.kept
    c.args.pair c.args.word c.requires.at c.requires.word c.if-word-eq0.true

pub result_index-requires : goal.result_index-requires
result_index-requires c =
    let transfer = c.args.self.now in
    copied_slot transfer.old.key.now transfer.to transfer.old.words.now (wants transfer) c.args.copies.now c.args.words.now transfer.old.good.good transfer.same_rule transfer.same_exponent c.args.slot c.requires.kept
    c.args.pair c.requires.pair (told_copied (old_table transfer) c.args.copies.now c.args.pair c.args.word c.requires.word c.if-word-eq0.false)

pub returns : goal.returns
returns c =
    let transfer = c.args.self.now in
    word_told transfer.old.key.now transfer.to transfer.old.words.now (wants transfer) c.args.copies.now c.args.words.now transfer.old.good.good transfer.same_rule transfer.same_exponent c.args.slot c.requires.kept
    c.args.pair c.args.word c.requires.at c.requires.word _ c.requires.pair c.if-word-eq0.false
    (ap (λ i. slice_set c.args.words.now i c.args.word) c.result_index.ensures.index)
