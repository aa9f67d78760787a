use Rattle.std.proofs.Common.{◌≡◌, ◌≢◌, ◌⊎◌, ◌∙◌, sym, arith, inl, inr}
use Rattle.std.specs.Prelude.{slice_index}
use Rattle.node_sweep.specs.Transfers.{old_table}
use Rattle.node_sweep.proofs.Futures.{result_at}
use Rattle.node_sweep.proofs.Telling.{gone_word, no_copy_word, no_result_word, told_word}
use Rattle.node_sweep.proofs.transfer.Transfer.kept_result.Goals.{else-number-eq0-via-then-number-eq0+else-future-ne0, else-number-eq0-via-else-number-eq0}
use Rattle.node_sweep.proofs.transfer.Transfer.kept_result.Goals as goal

pub returns-then-copies-pair-eq0 : goal.returns-then-copies-pair-eq0
returns-then-copies-pair-eq0 c = no_copy_word (old_table c.args.self.now) c.args.copies.now c.args.pair c.if-copies-pair-eq0.true

pub returns-then-result-eq0 : goal.returns-then-result-eq0
returns-then-result-eq0 c = no_result_word (old_table c.args.self.now) c.args.copies.now c.args.pair (sym c.result_beside-result.ensures ∙ c.if-result-eq0.true)

pub bounds-copies-future : goal.bounds-copies-future
bounds-copies-future c =
    let r = result_at c.args.self.now.old.key.now c.args.self.now.old.words.now c.args.pair c.result_beside-result.result c.parts-future.result.1 c.args.self.now.old.good.good c.requires.pair
    c.result_beside-result.ensures c.if-result-eq0.false c.parts-future.ensures.second in
    let below = r.below in
    let long = c.requires.long in
    omega arith

pub returns-then-future-ne0 : goal.returns-then-future-ne0
returns-then-future-ne0 c =
    let r = result_at c.args.self.now.old.key.now c.args.self.now.old.words.now c.args.pair c.result_beside-result.result c.parts-future.result.1 c.args.self.now.old.good.good c.requires.pair
    c.result_beside-result.ensures c.if-result-eq0.false c.parts-future.ensures.second in
    gone_word (old_table c.args.self.now) c.args.copies.now c.args.pair c.parts-future.result.1 r.told c.if-future-ne0.true c.if-number-eq0.true

pub returns : goal.returns
returns c =
    let r = result_at c.args.self.now.old.key.now c.args.self.now.old.words.now c.args.pair c.result_beside-result.result c.parts-future.result.1 c.args.self.now.old.good.good c.requires.pair
    c.result_beside-result.ensures c.if-result-eq0.false c.parts-future.ensures.second in
    let number = slice_index c.args.copies.now c.parts-future.result.1 in
    let there : (c.parts-future.result.1 ≡ 0) ⊎ (number ≢ 0) = elim c.else-number-eq0.branch [
      | else-number-eq0-via-then-number-eq0+else-future-ne0 w ↦ inl w.if-future-ne0.false
      | else-number-eq0-via-else-number-eq0 w ↦ inr w.if-number-eq0.false
    ] in
    told_word (old_table c.args.self.now) c.args.copies.now c.args.pair c.parts-future.result.1 c.result_word.result c.if-copies-pair-eq0.false r.told there c.result_word.ensures.word
