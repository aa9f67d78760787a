use Rattle.std.proofs.Common.{List, ℕ, length, sym, subst}
use Rattle.node_sweep.specs.Blocks.{ArePairedCopies}
use Rattle.table_core.specs.Good.{AreGoodWords}
use Rattle.node_sweep.proofs.SideBySide.{words_needed}
use Rattle.node_sweep.proofs.transfer.Transfer.copy_block.Goals as goal

pub look_ahead-requires-clause-good : goal.look_ahead-requires-clause-good
look_ahead-requires-clause-good c = subst (λ (ws : List ℕ). AreGoodWords c.args.self.now.to ws) (sym c.as_slice-2.ensures.value) c.requires.underway.copying.good

pub place_words-requires-clause-needed : goal.place_words-requires-clause-needed
place_words-requires-clause-needed c =
    let paired = subst (λ (cs : List ℕ). ArePairedCopies c.args.self.now cs c.args.slots.now c.paired_copies.new.words (length c.args.slots.now)) c.as_slice.ensures.value c.paired_copies.ensures in
    words_needed c.args.self.now c.args.fresh.now c.requires.underway c.args.slots.now c.paired_copies.new.words paired
