use Rattle.std.proofs.Common.{◌≡◌, ◌+◌, ◌-◌, ◌*◌, ◌^◌, ◌∙◌, List, ℕ, sym, subst, arith}
use Rattle.std.proofs.lemmas.List.{with_items_is}
use Rattle.table_core.proofs.Ways.{whole}
use Rattle.node_sweep.specs.Transfers.{AreResultsKept, old_bits, wants}
use Rattle.node_sweep.proofs.Futures.{keeping_start}
use Rattle.node_sweep.proofs.transfer.Transfer.with_results.Goals as goal

pub loop-block-init : goal.loop-block-init
loop-block-init c =
    let transfer = c.args.self.now in
    keeping_start transfer.old.key.now transfer.to transfer.old.words.now (wants transfer) c.args.fresh.words.items c.args.fresh.copies.items transfer.old.good.good c.requires.copying

pub kept_results-requires-clause-inside : goal.kept_results-requires-clause-inside
kept_results-requires-clause-inside c =
    let count : c.slot_count-count.result ≡ 2 ^ old_bits c.args.self.now = c.slot_count-count.ensures in
    let less = c.loop-block-test.true in
    omega arith

pub tell_results-requires-clause-inside : goal.tell_results-requires-clause-inside
tell_results-requires-clause-inside c =
    let count : c.slot_count-count.result ≡ 2 ^ old_bits c.args.self.now = c.slot_count-count.ensures in
    let less = c.loop-block-test.true in
    omega arith

pub loop-block-preserved : goal.loop-block-preserved
loop-block-preserved c =
    let transfer = c.args.self.now in
    let block = c.loop-block.block in
    let next : 64 * block + 64 ≡ 64 * (block + 1) = omega arith in
    let told = subst (AreResultsKept transfer c.as_slice-in-loop-block.result.now c.tell_results.new.words) next c.tell_results.ensures in
    let in_copies = subst (λ (cs : List ℕ). AreResultsKept transfer cs c.tell_results.new.words (64 * (block + 1))) c.as_slice-in-loop-block.ensures.value told in
    subst (λ (ws : List ℕ). AreResultsKept transfer c.args.fresh.copies.items ws (64 * (block + 1)))
    (sym (with_items_is c.loop-block.words c.tell_results.new.words (c.tell_results.auto.words ∙ c.as_mut_slice.ensures.len))) in_copies

pub returns-clause-kept : goal.returns-clause-kept
returns-clause-kept c =
    let bits = old_bits c.args.self.now in
    let count : c.slot_count-count.result ≡ 2 ^ bits = c.slot_count-count.ensures in
    let far = c.loop-block-test.false in
    let near = c.loop-block.auto.block-end in
    let range = c.args.self.now.old.key.now.shape.range.0 in
    let shards = whole bits (bits - 8) (omega arith) in
    let all : 64 * c.loop-block.block ≡ 2 ^ bits = omega arith in
    subst (AreResultsKept c.args.self.now c.args.fresh.copies.items c.loop-block.words.items) all c.loop-block.invariant
