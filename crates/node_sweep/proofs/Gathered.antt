-- What is wanted is copied, and its results.
use Rattle.std.proofs.Common.{◌≡◌, ◌≢◌, ℕ, ◌+◌, ◌-◌, ◌^◌, ◌⊎◌, List, sym, ◌∙◌, ap, subst, arith, inl, inr, ⊎_elim}
use Rattle.std.specs.Prelude.{slice_index}
use Rattle.table_core.specs.declared.key.Key.{Key}
use Rattle.table_core.specs.declared.shape.Kind.{Kind}
use Rattle.table_core.specs.declared.shape.Kind.TheVariants.{Pair}
use Rattle.table_core.specs.Layout.{IsSlot, result_of}
use Rattle.table_core.specs.Blocks.{square_rank}
use Rattle.table_core.specs.Good.{TellsFuture, IsFutureOf, IsGood}
use Rattle.table_core.proofs.Comparisons.{same_or_other}
use Rattle.table_core.proofs.Ways.{not_head}
use Rattle.node_sweep.specs.Table.{IsBlockIn, Table, table_by}
use Rattle.node_sweep.specs.Copies.{IsCopy, IsCopyOf, IsSomeBlock, IsWantedCopy, has_note}
use Rattle.node_sweep.specs.Keeping.{IsCopiedResult, IsKeeping}
use Rattle.node_sweep.specs.Reaching.{Reaches}
use Rattle.node_sweep.specs.WantedCopies.{CopiesWanted, IsResultCopiedOrGone}
use Rattle.node_sweep.proofs.Futures.{copy_at, no_copy_of_zero}
use Rattle.node_sweep.proofs.SameBlocks.{HasTwin, block_some, copy_none, empty_copy, same_copy, same_original, twin_of}
use Rattle.node_sweep.proofs.Swept.{kind_of_block}

-- the result of a pair is a block
pub result_block : (key : Key) (words : List ℕ) (pair future : ℕ) → IsGood key (slice_index words) → IsSlot key.shape.bits Pair pair → slice_index words (result_of key.shape.bits pair) ≡ 2 ^ 32 + future →
    IsSomeBlock (table_by key words) future
result_block key words pair future good slot told =
    let t : TellsFuture key (slice_index words) pair = good.results pair slot (λ z. omega arith) in
    let f : IsFutureOf key (slice_index words) pair t.0 = t.2 in
    let is = t.1 in
    let same : t.0 ≡ future = omega arith in
    (square_rank (f.level - 1), subst (IsBlockIn (table_by key words) (square_rank (f.level - 1))) same f.shown.stands)

-- the copy of a number without a copy is 0
uncopied : (copies : List ℕ) (number original copy : ℕ) → slice_index copies number ≡ copy → number ≡ original → slice_index copies original ≡ 0 → copy ≡ 0
uncopied copies number original copy is same none = sym is ∙ ap (slice_index copies) same ∙ none

module _ (from to : Key) (old : List ℕ) (wanted : ℕ → Type 0) (copies new : List ℕ) (good : IsGood from (slice_index old)) (same_rule : to.rule ≡ from.rule) (same_exponent : to.exponent ≡ from.exponent)
    (done : ℕ) (h : IsKeeping (table_by from old) to wanted copies new done) where
  -- whatever a number with a copy reaches has a copy
  pub reached_copied : (rank end n : ℕ) → IsBlockIn (table_by from old) rank end → (end ≡ 0) ⊎ (slice_index copies end ≢ 0) → Reaches (table_by from old) end n → n ≢ 0 → slice_index copies n ≢ 0
  reached_copied rank end n block there reached some =
      let top : IsCopy (table_by from old) (table_by to new) rank end (slice_index copies end) =
      copy_at from to old wanted copies new good same_rule same_exponent done h rank end block there in
      let t : HasTwin from to old new good h.good.good (slice_index copies end) n = twin_of from to old new good h.good.good rank end (slice_index copies end) n top reached in
      let nonzero : t.twin ≢ 0 = λ z. some (copy_none from to old new good h.good.good t.rank n t.twin t.is z) in
      let k = kind_of_block (table_by to new) t.rank t.twin nonzero t.is.now in
      let m = h.each k.0 t.twin k.1 (block_some (table_by to new) t.rank t.twin nonzero t.is.now) in
      let c : IsWantedCopy (table_by from old) (table_by to new) wanted m.0 (slice_index copies m.0) = h.copied m.0 (λ z. nonzero (sym m.1 ∙ z)) in
      let same : m.0 ≡ n = same_original from to old new good h.good.good c.rank t.rank m.0 n t.twin
      (subst (IsCopy (table_by from old) (table_by to new) c.rank m.0) m.1 c.shown) t.is nonzero in
      λ z. nonzero (uncopied copies m.0 n t.twin m.1 same z)

module _ (from to : Key) (old : List ℕ) (wanted : ℕ → Type 0) (copies new : List ℕ) (good : IsGood from (slice_index old)) (same_rule : to.rule ≡ from.rule) (same_exponent : to.exponent ≡ from.exponent)
    (h : IsKeeping (table_by from old) to wanted copies new (2 ^ from.shape.bits)) where
  -- each leaf and pair is a copy of what is wanted
  pub wanted_copy : (kind : Kind) (i : ℕ) → IsSlot to.shape.bits kind i → slice_index new i ≢ 0 → (n : ℕ) × IsWantedCopy (table_by from old) (table_by to new) wanted n i
  wanted_copy kind i slot some =
      let t = h.each kind i slot some in
      (t.0, subst (IsWantedCopy (table_by from old) (table_by to new) wanted t.0) t.1 (h.copied t.0 (λ z. not_head to.shape.bits kind i slot (sym t.1 ∙ z))))

  some_copy : (n : ℕ) → (n ≡ 0) ⊎ (slice_index copies n ≢ 0) → (rank : ℕ) × IsCopy (table_by from old) (table_by to new) rank n (slice_index copies n)
  some_copy n has = ⊎_elim
      (λ z. (
        0,
        subst (λ k. IsCopy (table_by from old) (table_by to new) 0 k (slice_index copies k)) (sym z)
            (subst (IsCopy (table_by from old) (table_by to new) 0 0) (sym (no_copy_of_zero from to old wanted copies new good same_rule same_exponent (2 ^ from.shape.bits) h)) (empty_copy (table_by from old) (table_by to new) 0)),
      ))
      (λ some. let c : IsWantedCopy (table_by from old) (table_by to new) wanted n (slice_index copies n) = h.copied n some in (c.rank, c.shown))
      has

  -- the copy of a number is one at whatever rank
  pub copy_noted : (n i : ℕ) → (n ≡ 0) ⊎ (slice_index copies n ≢ 0) → slice_index copies n ≡ i → IsCopyOf (table_by from old) (table_by to new) n i
  copy_noted n i there at = record {
    at_rank = λ rank b. subst (IsCopy (table_by from old) (table_by to new) rank n) at
        (copy_at from to old wanted copies new good same_rule same_exponent (2 ^ from.shape.bits) h rank n b there);
  }

  -- where each block that is wanted has a copy
  module _ (all : (rank n : ℕ) → IsBlockIn (table_by from old) rank n → wanted n → n ≢ 0 → slice_index copies n ≢ 0) where
    there : (rank n : ℕ) → IsBlockIn (table_by from old) rank n → wanted n → (n ≡ 0) ⊎ (slice_index copies n ≢ 0)
    there rank n b is = ⊎_elim (λ z. inl z) (λ some. inr (all rank n b is some)) (same_or_other n 0)

    kept_or_gone : (pair : ℕ) → IsSlot from.shape.bits Pair pair → slice_index copies pair ≢ 0 →
        IsResultCopiedOrGone (table_by from old) (table_by to new) wanted pair (slice_index copies pair)
    kept_or_gone pair slot some = ⊎_elim
        (λ t. let r : IsCopiedResult (table_by from old) copies pair t.0 = t.1 in let c = some_copy t.0 r.there in inl (record {
          future = t.0;
          may = record { told = r.told; there = ⊎_elim (λ z. inl z) (λ has. inr (h.copied t.0 has).is_wanted) r.there };
          number = slice_index copies t.0;
          told = t.2;
          rank = c.0;
          shown = c.1;
        }))
        (λ t. inr (
          (λ future may. t.0 future (record {
            told = may.told;
            there = ⊎_elim (λ z. inl z) (λ is. let b = result_block from old pair future good slot may.told in there b.0 future b.1 is) may.there;
          })),
          t.1,
        ))
        (h.results pair slot (let below = slot.below in omega arith) some)

    result_of_copy : (pair rank i : ℕ) → IsSlot from.shape.bits Pair pair → wanted pair → IsCopy (table_by from old) (table_by to new) rank pair i →
        IsResultCopiedOrGone (table_by from old) (table_by to new) wanted pair i
    result_of_copy pair rank i slot is_wanted is =
        let nonzero : pair ≢ 0 = not_head from.shape.bits Pair pair slot in
        let some : slice_index copies pair ≢ 0 = all rank pair is.was is_wanted nonzero in
        let c : IsWantedCopy (table_by from old) (table_by to new) wanted pair (slice_index copies pair) = h.copied pair some in
        let same : slice_index copies pair ≡ i = same_copy from to old new good h.good.good c.rank rank pair (slice_index copies pair) i c.shown is nonzero in
        subst (IsResultCopiedOrGone (table_by from old) (table_by to new) wanted pair) same (kept_or_gone pair slot some)

    pub all_copied : CopiesWanted (table_by from old) to wanted new
    all_copied = record {
      good = h.good;
      copies = λ rank n b is. (slice_index copies n, copy_at from to old wanted copies new good same_rule same_exponent (2 ^ from.shape.bits) h rank n b (there rank n b is));
      originals = wanted_copy;
      results = result_of_copy;
      no_others = h.vacant;
    }

-- the numbers that have copies, for what is wanted
pub noted_keeping : (old : Table) (to : Key) (wanted : ℕ → Type 0) (copies new : List ℕ) (done : ℕ) → IsKeeping old to wanted copies new done → IsKeeping old to (has_note copies) copies new done
noted_keeping old to wanted copies new done h = record {
  good = h.good;
  copied = λ n some. let c : IsWantedCopy old (table_by to new) wanted n (slice_index copies n) = h.copied n some in record { is_wanted = inr some; rank = c.rank; shown = c.shown };
  each = h.each;
  results = h.results;
  rest = h.rest;
  vacant = h.vacant;
}

-- a number other than 0 for which something is noted
pub note_there : (notes : List ℕ) (n : ℕ) → has_note notes n → n ≢ 0 → slice_index notes n ≢ 0
note_there notes n has some = ⊎_elim (λ z. absurd (some z)) (λ there. there) has
