use Rattle.std.proofs.Common.{subst, sym}
use Rattle.std.specs.Prelude.{slice_index}
use Rattle.table_core.specs.declared.shape.Kind.TheVariants.{Pair}
use Rattle.table_core.specs.Good.{KeepsWords}
use Rattle.node_sweep.specs.Blocks.{pair_at}
use Rattle.node_sweep.specs.Transfers.{IsUnderway, IsWordNeeded, fresh_table, fresh_words, old_table}
use Rattle.node_sweep.specs.declared.transfer.Fresh.{Fresh}
use Rattle.node_sweep.proofs.SideBySide.{keeps_on, needed_later}
use Rattle.node_sweep.proofs.transfer.Transfer.place_words.Goals.{then-words-i-ne0+in_ok-note, else-words-i-ne0}
use Rattle.node_sweep.proofs.transfer.Transfer.place_words.Goals as goal

pub note-requires-clause-word : goal.note-requires-clause-word
note-requires-clause-word c =
    let transfer = c.args.self.now in
    let i = c.loop-i.i in
    subst (λ n. IsWordNeeded transfer c.loop-i.fresh.words.items Pair n (slice_index c.args.words.now i)) (sym c.index-pair.ensures.index)
    (needed_later (old_table transfer) (fresh_table transfer c.args.fresh.now) (fresh_words c.loop-i.fresh) Pair (pair_at transfer (slice_index c.args.slots.now i)) _
    c.loop-i.invariant.keeps (c.requires.needed.needed i c.loop-i-test.true c.if-words-i-ne0.true))

pub loop-i-preserved : goal.loop-i-preserved
loop-i-preserved c =
    let transfer = c.args.self.now in
    let before = fresh_words c.args.fresh.now in
    let h = c.loop-i.invariant in
    elim c.if-words-i-ne0.branch [
      | then-words-i-ne0+in_ok-note w ↦ record {
        underway = subst (IsUnderway transfer) (sym w.fresh-is) w.note.ensures.underway;
        keeps = subst (λ (f : Fresh). KeepsWords before (fresh_words f)) (sym w.fresh-is) (keeps_on before (fresh_words c.loop-i.fresh) (fresh_words w.note.new.fresh) h.keeps w.note.ensures.keeps);
      }
      | else-words-i-ne0 w ↦ record {
        underway = subst (IsUnderway transfer) (sym w.fresh-is) h.underway;
        keeps = subst (λ (f : Fresh). KeepsWords before (fresh_words f)) (sym w.fresh-is) h.keeps;
      }
    ]
