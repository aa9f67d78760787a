-- Steps of a copy that is under way.
use Rattle.std.proofs.Common.{◌≡◌, ◌≢◌, ◌⊎◌, ℕ, ◌+◌, ◌<◌, List, length, sym, ◌∙◌, ap, subst, arith, inl, inr, ⊎_elim}
use Rattle.std.specs.Prelude.{slice_index, slice_set}
use Rattle.std.proofs.lemmas.List.{get_or-set_same}
use Rattle.table_core.specs.declared.shape.Kind.{Kind}
use Rattle.table_core.specs.Blocks.{Words}
use Rattle.table_core.specs.Good.{KeepsWords}
use Rattle.table_core.proofs.Comparisons.{same_or_other}
use Rattle.table_core.proofs.Lists.{length_set}
use Rattle.table_core.proofs.Ways.{not_head}
use Rattle.node_sweep.specs.Table.{IsBlockIn}
use Rattle.node_sweep.specs.Copies.{HasFullWay, IsCopy, IsLowBlock, IsWantedCopy}
use Rattle.node_sweep.specs.Copying.{IsCopying}
use Rattle.node_sweep.specs.Placing.{IsPlaced}
use Rattle.node_sweep.specs.Transfers.{fresh_table, fresh_words, new_bits, old_table, wants, HasNoRoomLeft, IsCopyNoted, IsUnderway, IsWordNeeded}
use Rattle.node_sweep.specs.declared.transfer.Fresh.{Fresh}
use Rattle.node_sweep.specs.declared.transfer.Transfer.{Transfer}
use Rattle.node_sweep.proofs.Futures.{block_below}
use Rattle.node_sweep.proofs.Notes.{copying_still, copy_made, number_inside, number_slot}
use Rattle.node_sweep.proofs.Recursing.{copy_of_all, empty_copy_of}
use Rattle.node_sweep.proofs.SameBlocks.{copy_none}
use Rattle.node_sweep.proofs.Swept.{zero_noted}

module _ (transfer : Transfer) (fresh : Fresh) (underway : IsUnderway transfer fresh) where
  -- the empty square is its own copy
  pub empty_noted : (number : ℕ) → number ≡ 0 → IsCopyNoted transfer fresh number 0
  empty_noted number empty = record {
    made = empty_copy_of (old_table transfer) (fresh_table transfer fresh) number empty;
    noted = ap (slice_index fresh.copies.items) empty
        ∙ zero_noted transfer.old.key.now transfer.to transfer.old.words.now (wants transfer) fresh.words.items fresh.copies.items transfer.old.good.good underway.copying;
  }

  -- each block has a note
  pub block_inside : (height number : ℕ) → IsLowBlock (old_table transfer) height number → number < length fresh.copies.items
  block_inside height number block =
      let below = block_below (old_table transfer) block.0 number block.2 in
      let long = underway.long in
      omega arith

  -- what stands there is its copy
  pub already_noted : (number copy : ℕ) → number ≢ 0 → copy ≢ 0 → copy ≡ slice_index fresh.copies.items number →
      IsCopyNoted transfer fresh number copy
  already_noted number copy some there is = record {
    made = copy_of_all (old_table transfer) (fresh_table transfer fresh) (wants transfer) number copy some
        (subst (IsWantedCopy (old_table transfer) (fresh_table transfer fresh) (wants transfer) number) (sym is)
        (underway.copying.copied number (λ z. there (is ∙ z))));
    noted = sym is;
  }

  -- the copy of a number that isn't 0 isn't 0
  pub copy_some : (number copy rank : ℕ) → IsCopyNoted transfer fresh number copy → IsBlockIn (old_table transfer) rank number → number ≢ 0 →
      slice_index fresh.copies.items number ≢ 0
  copy_some number copy rank noted block some z =
      some (copy_none transfer.old.key.now transfer.to transfer.old.words.now fresh.words.items transfer.old.good.good underway.copying.good.good rank number copy (noted.made.at_rank rank block) (sym noted.noted ∙ z))

  pub copy_there : (number copy rank : ℕ) → IsCopyNoted transfer fresh number copy → IsBlockIn (old_table transfer) rank number →
      (number ≡ 0) ⊎ (slice_index fresh.copies.items number ≢ 0)
  copy_there number copy rank noted block = ⊎_elim (λ z. inl z) (λ some. inr (copy_some number copy rank noted block some)) (same_or_other number 0)

  -- it stays so where neither list changes
  pub underway_as : (now : Fresh) → now.words.items ≡ fresh.words.items → now.copies.items ≡ fresh.copies.items → IsUnderway transfer now
  underway_as now words copies = record {
    copying = subst (λ cs. IsCopying (old_table transfer) transfer.to (wants transfer) now.words.items cs) (sym copies)
        (subst (λ ws. IsCopying (old_table transfer) transfer.to (wants transfer) ws fresh.copies.items) (sym words) underway.copying);
    long = ap (λ (cs : List ℕ). length cs) copies ∙ underway.long;
  }

  -- there is no room left where a word's way is full
  pub no_room : (kind : Kind) (number word : ℕ) → number ≢ 0 → wants transfer number → IsWordNeeded transfer fresh.words.items kind number word →
      HasFullWay (fresh_table transfer fresh) kind word → HasNoRoomLeft transfer
  no_room kind number word some wanted needed full = record {
    words = fresh.words.items;
    good = underway.copying.good;
    copies = λ other i slot there.
        let n = underway.copying.each other i slot there in (
          n.0,
          subst (IsWantedCopy (old_table transfer) (fresh_table transfer fresh) (wants transfer) n.0) n.1
              (underway.copying.copied n.0 (λ z. not_head (new_bits transfer) other i slot (sym n.1 ∙ z))),
        );
    number = number;
    is_wanted = wanted;
    kind = kind;
    slot = number_slot transfer.old.key.now transfer.to transfer.old.words.now (wants transfer) fresh.words.items transfer.old.good.good underway.copying.good kind number word some needed;
    word = word;
    needed = needed;
    full = full;
  }

  -- a word is placed, and its index noted
  module _ (now : Fresh) (kind : Kind) (number word index : ℕ) (some : number ≢ 0) (wanted : wants transfer number) (needed : IsWordNeeded transfer fresh.words.items kind number word)
      (before after : List ℕ) (placed_between : IsPlaced transfer.to before after kind word index) (was : before ≡ fresh.words.items) (became : now.words.items ≡ after)
      (is : now.copies.items ≡ slice_set fresh.copies.items number index) where
    placed : IsPlaced transfer.to fresh.words.items now.words.items kind word index
    placed = subst (λ (ws : List ℕ). IsPlaced transfer.to fresh.words.items ws kind word index) (sym became) (subst (λ (ws : List ℕ). IsPlaced transfer.to ws after kind word index) was placed_between)

    inside : number < length fresh.copies.items
    inside =
        let below = number_inside transfer.old.key.now transfer.to transfer.old.words.now (wants transfer) fresh.words.items transfer.old.good.good underway.copying.good kind number word some needed in
        let long = underway.long in
        omega arith

    pub still_underway : IsUnderway transfer now
    still_underway = record {
      copying = copying_still transfer.old.key.now transfer.to transfer.old.words.now (wants transfer) fresh.words.items transfer.old.good.good underway.copying.good fresh.copies.items underway.copying
          kind number word index now.words.items now.copies.items some inside wanted needed placed is;
      long = ap (λ (cs : List ℕ). length cs) is ∙ length_set fresh.copies.items number index ∙ underway.long;
    }

    pub now_noted : IsCopyNoted transfer now number index
    now_noted = record {
      made = copy_of_all (old_table transfer) (fresh_table transfer now) (wants transfer) number index some
          (copy_made transfer.old.key.now transfer.to transfer.old.words.now (wants transfer) fresh.words.items transfer.old.good.good underway.copying.good fresh.copies.items underway.copying
          kind number word index now.words.items now.copies.items some inside wanted needed placed is);
      noted = ap (λ (cs : List ℕ). slice_index cs number) is ∙ get_or-set_same fresh.copies.items number index 0 inside;
    }
