-- Pairs copied side by side.
use Rattle.std.proofs.Common.{◌≡◌, ◌≢◌, ℕ, suc, ◌+◌, ◌^◌, ◌<◌, ◌⊎◌, List, length, sym, ◌∙◌, ap, subst, arith, refl, ⊎_elim}
use Rattle.std.specs.Prelude.{slice_index, slice_set}
use Rattle.std.proofs.lemmas.List.{get_or-set_same, get_or-set_other}
use Rattle.table_core.specs.declared.key.Key.{Key}
use Rattle.table_core.specs.declared.shape.Kind.{Kind}
use Rattle.table_core.specs.declared.shape.Kind.TheVariants.{Leaf, Pair}
use Rattle.table_core.specs.Layout.{IsSlot, start, way, first_part, second_part}
use Rattle.table_core.specs.Blocks.{Words}
use Rattle.table_core.specs.Good.{KeepsWords}
use Rattle.table_core.proofs.Comparisons.{same_or_other}
use Rattle.table_core.proofs.Ways.{not_head}
use Rattle.node_sweep.specs.Table.{IsBlockIn, Table, table_by}
use Rattle.node_sweep.specs.Blocks.{AreFirstFound, ArePairedCopies, AreWordsNeeded, IsPairedCopy, IsWordOfCopies, pair_at, pair_word_at}
use Rattle.node_sweep.specs.Copies.{IsCopy, IsWordOf, has_note}
use Rattle.node_sweep.specs.Placing.{AreTried, IsSought}
use Rattle.node_sweep.specs.Transfers.{fresh_table, new_bits, number_count, old_bits, old_table, old_words, IsCopyNoted, IsUnderway}
use Rattle.node_sweep.specs.declared.transfer.Fresh.{Fresh}
use Rattle.node_sweep.specs.declared.transfer.Transfer.{Transfer}
use Rattle.node_sweep.proofs.Futures.{block_below}
use Rattle.node_sweep.proofs.SameBlocks.{block_parts, copy_later, with_words}
use Rattle.node_sweep.proofs.Underway.{already_noted, empty_noted}

-- words that keep others keep what those keep
pub keeps_on : (one two three : Words) → KeepsWords one two → KeepsWords two three → KeepsWords one three
keeps_on one two three h k = record { kept = λ i some. k.kept i (λ z. some (sym (h.kept i some) ∙ z)) ∙ h.kept i some }

-- a pair that stands at a slot is a block, and so are its parts
record IsPairBlock (transfer : Transfer) (slot : ℕ) : Type 0 where
  rank : ℕ
  block : IsBlockIn (old_table transfer) (suc rank) (pair_at transfer slot)
  first : IsBlockIn (old_table transfer) rank (first_part (pair_word_at transfer slot))
  second : IsBlockIn (old_table transfer) rank (second_part (pair_word_at transfer slot))

pair_block : (transfer : Transfer) (slot : ℕ) → IsSlot (old_bits transfer) Pair (pair_at transfer slot) → pair_word_at transfer slot ≢ 0 → IsPairBlock transfer slot
pair_block transfer slot is there =
    let number = pair_at transfer slot in
    let t = transfer.old.good.good.blocks number is there in
    let both = block_parts (old_table transfer) t.0 number (not_head (old_bits transfer) Pair number is) t.2 in
    record { rank = t.0; block = t.2; first = both.0; second = both.1 }

-- the slots of the old words are those below their number
pub slot_there : (transfer : Transfer) (slot : ℕ) → slot < 2 ^ old_bits transfer → IsSlot (old_bits transfer) Pair (pair_at transfer slot)
slot_there transfer slot less = record { from = omega arith; below = omega arith }

-- and the parts of a pair that is read there are numbers of theirs
module _ (transfer : Transfer) (copies : List ℕ) (slot pair word part : ℕ) (long : length copies ≡ number_count transfer) (less : slot < 2 ^ old_bits transfer)
    (at : pair ≡ pair_at transfer slot) (read : word ≡ old_words transfer pair) (some : word ≢ 0) where
  word_at : word ≡ pair_word_at transfer slot
  word_at = read ∙ ap (old_words transfer) at

  block_read : IsPairBlock transfer slot
  block_read = pair_block transfer slot (slot_there transfer slot less) (subst (λ w. w ≢ 0) word_at some)

  pub first_inside : part ≡ first_part word → part < length copies
  first_inside is =
      let b = block_read in
      let below = block_below (old_table transfer) b.rank part (subst (IsBlockIn (old_table transfer) b.rank) (sym (is ∙ ap first_part word_at)) b.first) in
      omega arith

  pub second_inside : part ≡ second_part word → part < length copies
  second_inside is =
      let b = block_read in
      let below = block_below (old_table transfer) b.rank part (subst (IsBlockIn (old_table transfer) b.rank) (sym (is ∙ ap second_part word_at)) b.second) in
      omega arith

-- one more word
pub paired_on : (transfer : Transfer) (copies slots words : List ℕ) (i word : ℕ) → ArePairedCopies transfer copies slots words i → i < length words →
    IsPairedCopy transfer copies (slice_index slots i) word → ArePairedCopies transfer copies slots (slice_set words i word) (i + 1)
paired_on transfer copies slots words i word h inside is = record {
  each = λ k less. ⊎_elim
      (λ e. subst (λ m. IsPairedCopy transfer copies (slice_index slots m) (slice_index (slice_set words i word) m)) (sym e)
      (subst (IsPairedCopy transfer copies (slice_index slots i)) (sym (get_or-set_same words i word 0 inside)) is))
      (λ apart. subst (IsPairedCopy transfer copies (slice_index slots k)) (sym (get_or-set_other words i k word 0 apart)) (h.each k (omega arith)))
      (same_or_other k i);
}

pub found_on : (transfer : Transfer) (new words found : List ℕ) (i there : ℕ) → AreFirstFound transfer new words found i → i < length found →
    there ≡ slice_index new (way (new_bits transfer) Pair (slice_index words i) 0) → AreFirstFound transfer new words (slice_set found i there) (i + 1)
found_on transfer new words found i there h inside is = record {
  there = λ k less. ⊎_elim
      (λ e. subst (λ m. slice_index (slice_set found i there) m ≡ slice_index new (way (new_bits transfer) Pair (slice_index words m) 0)) (sym e) (get_or-set_same found i there 0 inside ∙ is))
      (λ apart. get_or-set_other found i k there 0 apart ∙ h.there k (omega arith))
      (same_or_other k i);
}

-- the word that a copy needs stays the same, while no nonzero word changes
pub needed_later : (old new : Table) (later : Words) (kind : Kind) (number word : ℕ) → KeepsWords new.words later → IsWordOf old new kind number word → IsWordOf old (with_words new later) kind number word
needed_later old new later Leaf number word keeps h = h
needed_later old new later Pair number word keeps h = (h.0, h.1, copy_later old new later h.0 _ _ keeps h.2, copy_later old new later h.0 _ _ keeps h.3)

-- places that were tried are not free later
pub sought_tried : (key : Key) (before now : List ℕ) (kind : Kind) (word found places : ℕ) → KeepsWords (slice_index before) (slice_index now) → found ≡ slice_index before (way key.shape.bits kind word 0) →
    AreTried found word places → IsSought (table_by key now) kind word places
sought_tried key before now kind word found places keeps is t = ⊎_elim
    (λ none. record { before = λ place less. absurd (omega arith) })
    (λ one. record {
      before = λ place less.
          let here : place ≡ 0 = let many = one.0 in omega arith in
          let stays : slice_index now (way key.shape.bits kind word 0) ≡ found = keeps.kept (way key.shape.bits kind word 0) (λ z. one.1 (is ∙ z)) ∙ sym is in
          subst (λ p. (slice_index now (way key.shape.bits kind word p) ≢ 0) × (slice_index now (way key.shape.bits kind word p) ≢ word)) (sym here)
          ((λ z. one.1 (sym stays ∙ z)), (λ z. one.2 (sym stays ∙ z)));
    })
    t.tried

module _ (transfer : Transfer) (fresh : Fresh) (underway : IsUnderway transfer fresh) where
  -- the copy that is noted for a block, if any must be
  pub noted_copy : (rank number : ℕ) → IsBlockIn (old_table transfer) rank number → (number ≡ 0) ⊎ (slice_index fresh.copies.items number ≢ 0) →
      IsCopy (old_table transfer) (fresh_table transfer fresh) rank number (slice_index fresh.copies.items number)
  noted_copy rank number b there = ⊎_elim
      (λ z. let n : IsCopyNoted transfer fresh number 0 = empty_noted transfer fresh underway number z in
      subst (IsCopy (old_table transfer) (fresh_table transfer fresh) rank number) (sym n.noted) (n.made.at_rank rank b))
      (λ has. let some : number ≢ 0 = λ z. let n : IsCopyNoted transfer fresh number 0 = empty_noted transfer fresh underway number z in has n.noted in
      let n : IsCopyNoted transfer fresh number (slice_index fresh.copies.items number) = already_noted transfer fresh underway number (slice_index fresh.copies.items number) some has refl in
      n.made.at_rank rank b)
      there

  -- the words of paired copies are those that copies need
  pub words_needed : (slots words : List ℕ) → ArePairedCopies transfer fresh.copies.items slots words (length slots) → AreWordsNeeded transfer fresh.words.items slots words
  words_needed slots words paired = record {
    needed = λ i less some.
        let slot = slice_index slots i in
        let p : IsWordOfCopies transfer fresh.copies.items slot (slice_index words i) = paired.each i less some in
        let b = pair_block transfer slot p.pair p.there in
        let one = noted_copy b.rank (first_part (pair_word_at transfer slot)) b.first p.first_copied in
        let two = noted_copy b.rank (second_part (pair_word_at transfer slot)) b.second p.second_copied in (
          b.rank,
          b.block,
          subst (IsCopy (old_table transfer) (fresh_table transfer fresh) b.rank (first_part (pair_word_at transfer slot))) (sym p.first) one,
          subst (IsCopy (old_table transfer) (fresh_table transfer fresh) b.rank (second_part (pair_word_at transfer slot))) (sym p.second) two,
        );
  }
