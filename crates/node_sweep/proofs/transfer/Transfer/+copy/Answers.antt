use Rattle.std.proofs.Common.{◌≡◌, ◌≤◌, ◌+◌, ◌∙◌, ap, sym, subst, arith}
use Rattle.std.proofs.lemmas.List.{get_or_default}
use Rattle.std.proofs.lemmas.Result.{IfOk-from_err}
use Rattle.table_core.specs.declared.shape.Kind.TheVariants.{Pair}
use Rattle.table_core.specs.Layout.{start, first_part, second_part}
use Rattle.node_sweep.specs.Table.{IsBlockIn}
use Rattle.node_sweep.specs.Copies.{IsCopy}
use Rattle.node_sweep.specs.Transfers.{SaysNoRoom, fresh_table, fresh_words, old_table}
use Rattle.node_sweep.proofs.SameBlocks.{copy_later, block_parts}
use Rattle.node_sweep.proofs.Futures.{block_below}
use Rattle.node_sweep.proofs.Places.{sought_start}
use Rattle.node_sweep.proofs.Recursing.{IsPairOf, copy_as, leaf_below, as_pair, higher, first_low, second_low, first_wanted, second_wanted}
use Rattle.plane.proofs.SentErrors.{sent_on}
use Rattle.node_sweep.proofs.SideBySide.{keeps_on}
use Rattle.node_sweep.proofs.Underway.{already_noted, block_inside, empty_noted}
use Rattle.node_sweep.proofs.transfer.Transfer.+copy.Goals as goal

pub returns-then-number-eq0-clause-ok : goal.returns-then-number-eq0-clause-ok
returns-then-number-eq0-clause-ok t c = empty_noted c.args.self.now c.args.fresh.now c.requires.underway c.args.number c.if-number-eq0.true

pub returns-then-done-ne0-clause-ok : goal.returns-then-done-ne0-clause-ok
returns-then-done-ne0-clause-ok t c =
    let fresh = c.args.fresh.now in
    let inside = block_inside c.args.self.now fresh c.requires.underway c.args.height c.args.number c.requires.block in
    already_noted c.args.self.now fresh c.requires.underway c.args.number c.index-done.result.now c.if-number-eq0.false c.if-done-ne0.true
    (c.index-done.ensures ∙ get_or_default fresh.copies.items c.args.number c.index-done.result.now 0 inside)

pub note-requires-clause-word : goal.note-requires-clause-word
note-requires-clause-word t c =
    let first : c.index.result ≡ start c.args.self.now.old.key.now.shape.bits Pair + 0 = c.index.ensures.index in
    let low = c.if-number-index.true in (
      leaf_below (old_table c.args.self.now) c.requires.block.0 c.args.number c.if-number-eq0.false (omega arith) c.requires.block.2,
      c.word-word.ensures,
    )

pub copy-requires : goal.copy-requires
copy-requires t c =
    let old = old_table c.args.self.now in
    let n = c.args.number in
    let start_is : c.index.result ≡ start old.bits Pair + 0 = c.index.ensures.index in
    let not_low = c.if-number-index.false in
    let high : start old.bits Pair ≤ n = omega arith in
    let some = c.if-number-eq0.false in
    let first = c.parts-first.ensures.first ∙ ap first_part c.word-word.ensures in
    let above = higher old c.args.height n some high c.requires.block in (
      omega arith,
      (
        c.requires.underway,
        (
          first_low old c.args.height n some high c.requires.block c.parts-first.result.0 first,
          first_wanted old c.args.height n some high c.requires.block c.args.self.now.plan c.args.self.now.root c.parts-first.result.0 first c.requires.wanted,
        ),
      ),
    )

pub copy-requires-2 : goal.copy-requires-2
copy-requires-2 t c =
    let old = old_table c.args.self.now in
    let n = c.args.number in
    let start_is : c.index.result ≡ start old.bits Pair + 0 = c.index.ensures.index in
    let not_low = c.if-number-index.false in
    let high : start old.bits Pair ≤ n = omega arith in
    let some = c.if-number-eq0.false in
    let second = c.parts-first.ensures.second ∙ ap second_part c.word-word.ensures in
    let above = higher old c.args.height n some high c.requires.block in (
      omega arith,
      (
        c.copy.ensures.underway,
        (
          second_low old c.args.height n some high c.requires.block c.parts-first.result.1 second,
          second_wanted old c.args.height n some high c.requires.block c.args.self.now.plan c.args.self.now.root c.parts-first.result.1 second c.requires.wanted,
        ),
      ),
    )

pub note-requires-2-clause-word : goal.note-requires-2-clause-word
note-requires-2-clause-word t c =
    let old = old_table c.args.self.now in
    let between = fresh_table c.args.self.now c.copy.new.fresh in
    let new = fresh_table c.args.self.now c.copy-2.new.fresh in
    let n = c.args.number in
    let start_is : c.index.result ≡ start old.bits Pair + 0 = c.index.ensures.index in
    let not_low = c.if-number-index.false in
    let first = c.parts-first.ensures.first ∙ ap first_part c.word-word.ensures in
    let second = c.parts-first.ensures.second ∙ ap second_part c.word-word.ensures in
    let p : IsPairOf old c.args.height n = as_pair old c.args.height n c.if-number-eq0.false (omega arith) c.requires.block in
    let both = block_parts old p.rank n c.if-number-eq0.false p.pair in
    let one : IsCopy old between p.rank c.parts-first.result.0 c.in_ok-first.first =
    c.in_ok-first.ensures.ok.made.at_rank p.rank (subst (IsBlockIn old p.rank) (sym first) both.0) in
    let two : IsCopy old new p.rank c.parts-first.result.1 c.in_ok-second.second =
    c.in_ok-second.ensures.ok.made.at_rank p.rank (subst (IsBlockIn old p.rank) (sym second) both.1) in (
      p.rank,
      p.pair,
      copy_as old new p.rank c.parts-first.result.0 (first_part (old.words n)) c.in_ok-first.first (first_part c.pair_word-word.result) first (sym c.pair_word-word.ensures.first)
          (copy_later old between (fresh_words c.copy-2.new.fresh) p.rank c.parts-first.result.0 c.in_ok-first.first c.copy-2.ensures.keeps one),
      copy_as old new p.rank c.parts-first.result.1 (second_part (old.words n)) c.in_ok-second.second (second_part c.pair_word-word.result) second (sym c.pair_word-word.ensures.second)
          two,
    )

pub word-word-requires : goal.word-word-requires
word-word-requires t c =
    let below = block_below (old_table c.args.self.now) c.requires.block.0 c.args.number c.requires.block.2 in
    let long = c.args.self.now.old.good.long in
    omega arith

pub note-requires-clause-tried : goal.note-requires-clause-tried
note-requires-clause-tried t c = sought_start _ _ _

pub note-requires-2-clause-tried : goal.note-requires-2-clause-tried
note-requires-2-clause-tried t c = sought_start _ _ _

pub returns-in_err-first-clause-ok : goal.returns-in_err-first-clause-ok
returns-in_err-first-clause-ok t c = IfOk-from_err c.from_residual.result _ c.from_residual.ensures.0

pub returns-in_err-first-clause-full : goal.returns-in_err-first-clause-full
returns-in_err-first-clause-full t c = sent_on (SaysNoRoom c.args.self.now) c.from_residual.result c.in_err-first.field-0.0 c.from_residual.ensures.1 c.in_err-first.ensures.full

pub returns-in_err-second-clause-keeps : goal.returns-in_err-second-clause-keeps
returns-in_err-second-clause-keeps t c = keeps_on (fresh_words c.args.fresh.now) (fresh_words c.copy.new.fresh) (fresh_words c.copy-2.new.fresh) c.copy.ensures.keeps c.copy-2.ensures.keeps

pub returns-in_err-second-clause-ok : goal.returns-in_err-second-clause-ok
returns-in_err-second-clause-ok t c = IfOk-from_err c.from_residual-in_err-second.result _ c.from_residual-in_err-second.ensures.0

pub returns-in_err-second-clause-full : goal.returns-in_err-second-clause-full
returns-in_err-second-clause-full t c =
    sent_on (SaysNoRoom c.args.self.now) c.from_residual-in_err-second.result c.in_err-second.field-0.0 c.from_residual-in_err-second.ensures.1 c.in_err-second.ensures.full

pub returns-clause-keeps : goal.returns-clause-keeps
returns-clause-keeps t c =
    let before = fresh_words c.args.fresh.now in
    let between = fresh_words c.copy-2.new.fresh in
    keeps_on before between (fresh_words c.note-2.new.fresh)
    (keeps_on before (fresh_words c.copy.new.fresh) between c.copy.ensures.keeps c.copy-2.ensures.keeps) c.note-2.ensures.keeps
