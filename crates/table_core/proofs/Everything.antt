-- A desk may know all that good words say.
use Rattle.std.proofs.Common.{◌≡◌, ◌≢◌, ℕ, zero, suc, ◌<◌, ◌⊎◌, [], ◌∷◌, ◌++◌, sym, ◌∙◌, ap, subst, arith, refl, inl, inr, ⊎_elim}
use Rattle.std.specs.Prelude.{Contains, List, slice_index}
use Rattle.std.proofs.lemmas.List.Elements.{Contains-append_left, Contains-append_right}
use Rattle.plane.specs.Listing.{plane_of}
use Rattle.plane.proofs.Same.{same_sym, same_of}
use Rattle.table_core.specs.declared.key.Key.{Key}
use Rattle.table_core.specs.declared.knowledge.KnownBlock.{KnownBlock}
use Rattle.table_core.specs.declared.knowledge.KnownResult.{KnownResult}
use Rattle.table_core.specs.declared.knowledge.Knowledge.{Knowledge}
use Rattle.table_core.specs.declared.shape.Kind.TheVariants.{Leaf, Pair}
use Rattle.table_core.specs.Layout.{IsSlot, size, result_of}
use Rattle.table_core.specs.Blocks.{Words, IsBlock, cells_of, square_rank, ShowsBlock}
use Rattle.table_core.specs.Good.{IsGood, AreGoodWords}
use Rattle.table_core.specs.Knowledge.{HasSeen, KnowsBlock, IsTrueResult, KnowsSquareOf, IsTrueOf, Grows, with_result, nothing}
use Rattle.table_core.specs.Laws.{GoodWordsCanBeKnown, KnowsAll}
use Rattle.table_core.proofs.Ways.{slot_below}
use Rattle.table_core.proofs.Blocks.{one_rank, empty_cells, cells_inside}
use Rattle.table_core.proofs.Comparisons.{same_or_other}
use Rattle.table_core.proofs.Lists.{all_append, contains_here}
use Rattle.table_core.proofs.Results.{with_result_keeps, with_result_all, with_result_once, with_result_has, same_result}
use Rattle.table_core.proofs.Knowing.{nothing_true, squares_more, grows_refl, grows_trans, knows_grown}
use Rattle.table_core.proofs.Teaching.{block_entry, entry_same, lists_first, lists_more, slot_or_not}

leaf_block : (bits : ℕ) (words : Words) (i : ℕ) → IsSlot bits Leaf i → words i ≢ 0 → IsBlock bits words 0 i
leaf_block bits words zero slot some = tt
leaf_block bits words (suc i) slot some = (slot, some)

block_slot : (bits : ℕ) (words : Words) (rank i : ℕ) → i ≢ 0 → IsBlock bits words rank i → (words i ≢ 0) × (IsSlot bits Leaf i ⊎ IsSlot bits Pair i)
block_slot bits words rank zero other h = absurd (other refl)
block_slot bits words zero (suc i) other h = (h.1, inl h.0)
block_slot bits words (suc rank) (suc i) other h = (h.1, inr h.0)

-- a number other than 0 is a block of one rank, or none
block_or_not : (key : Key) (words : Words) → IsGood key words → (i : ℕ) → i ≢ 0 →
    ((rank : ℕ) × IsBlock key.shape.bits words rank i) ⊎ ((rank : ℕ) → IsBlock key.shape.bits words rank i → ⊥)
block_or_not key words good i other = ⊎_elim (λ z. inr (λ rank b. (block_slot key.shape.bits words rank i other b).0 z))
    (λ some. ⊎_elim (λ s. inl (0, leaf_block key.shape.bits words i s some))
    (λ gone. ⊎_elim (λ s. let t = good.blocks i s some in inl (suc t.0, t.2)) (λ none. inr (λ rank b. ⊎_elim gone none (block_slot key.shape.bits words rank i other b).1)) (slot_or_not key.shape.bits Pair i))
    (slot_or_not key.shape.bits Leaf i)) (same_or_other (words i) 0)

-- some knowledge that is true, no less than before, and has one thing more
record Also (bits : ℕ) (words : Words) (known : Knowledge) (thing : Knowledge → Type 0) : Type 0 where
  later : Knowledge
  true_of : IsTrueOf bits words later
  grows : Grows known later
  has : thing later

nothing_more : (bits : ℕ) (words : Words) (known : Knowledge) (thing : Knowledge → Type 0) → IsTrueOf bits words known → thing known →
    Also bits words known thing
nothing_more bits words known thing h t = record { later = known; true_of = h; grows = grows_refl known; has = t }

abbrev with_block : Knowledge → KnownBlock → Knowledge
with_block known entry = record { words = known.words; blocks = known.blocks ++ entry ∷ []; results = known.results; learned = known.learned }

abbrev result_entry : ℕ → ℕ → ℕ → KnownResult
result_entry level square future = record { level = level; square = square; future = future }

abbrev with_told : Knowledge → KnownResult → Knowledge
with_told known result = record { words = known.words; blocks = known.blocks; results = with_result known.results result; learned = known.learned }

module _ (key : Key) (words : Words) (good : IsGood key words) where
  Sees : ℕ → Knowledge → Type 0
  Sees n known = words n ≢ 0 → HasSeen known n (words n)

  Shown : ℕ → Knowledge → Type 0
  Shown n known = (rank : ℕ) → IsBlock key.shape.bits words rank n → KnowsBlock known rank n (cells_of words rank n)

  Told : ℕ → Knowledge → Type 0
  Told n known = (result : KnownResult) → result.square ≡ n → IsTrueResult key.shape.bits words result → Contains known.results result

  see : (n : ℕ) (known : Knowledge) → IsTrueOf key.shape.bits words known → Also key.shape.bits words known (Sees n)
  unfolding Sees
  see n known h = ⊎_elim (λ z. nothing_more key.shape.bits words known (Sees n) h (λ some. absurd (some z)))
      (λ some. record {
        later = record { words = (n, words n) ∷ known.words; blocks = known.blocks; results = known.results; learned = known.learned };
        true_of = record { seen = ((refl, some), h.seen); blocks = h.blocks; results = h.results; squares = h.squares; once = h.once };
        grows = record { words = λ entry t. Contains-append_right ((n, words n) ∷ []) known.words entry t; blocks = λ entry t. t; results = λ result t. t; learned = omega arith };
        has = λ again. contains_here (n, words n) known.words;
      }) (same_or_other (words n) 0)

  show_one : (n rank : ℕ) (known : Knowledge) → IsTrueOf key.shape.bits words known → n ≢ 0 → IsBlock key.shape.bits words rank n → Also key.shape.bits words known (Shown n)
  unfolding Shown
  show_one n rank known h some block =
      let more = λ (e : KnownBlock) (t : Contains known.blocks e). Contains-append_left known.blocks (block_entry words rank n ∷ []) e t in
      let shows : ShowsBlock key.shape.bits words rank n (plane_of (block_entry words rank n).live) =
      record { stands = block; cells = same_sym (entry_same n rank (cells_of words rank n) (cells_inside words rank n)) } in
      let first = lists_first n rank (cells_of words rank n) (cells_inside words rank n) [] in
      let now : KnowsBlock (with_block known (block_entry words rank n)) rank n (cells_of words rank n) =
      inr (lists_more (block_entry words rank n ∷ []) (known.blocks ++ block_entry words rank n ∷ []) rank n (cells_of words rank n)
      (λ x t. Contains-append_right known.blocks (block_entry words rank n ∷ []) x t) first) in
      record {
        later = with_block known (block_entry words rank n);
        true_of = record {
          seen = h.seen;
          blocks = all_append _ known.blocks (block_entry words rank n ∷ []) h.blocks (shows, tt);
          results = h.results;
          squares = squares_more known (with_block known (block_entry words rank n)) known.results more h.squares;
          once = h.once;
        };
        grows = record { words = λ e t. t; blocks = more; results = λ result t. t; learned = omega arith };
        has = λ other b.
            let e : rank ≡ other = one_rank key.shape.bits words rank other n block b some in
            subst (λ r. KnowsBlock (with_block known (block_entry words rank n)) r n (cells_of words r n)) e now;
      }

  show : (n : ℕ) (known : Knowledge) → IsTrueOf key.shape.bits words known → Also key.shape.bits words known (Shown n)
  unfolding Shown
  show n known h = ⊎_elim
      (λ z. nothing_more key.shape.bits words known (Shown n) h (λ rank b. inl (z, same_sym (same_of _ _ (ap (cells_of words rank) z ∙ empty_cells words rank)))))
      (λ some. ⊎_elim (λ t. show_one n t.0 known h some t.1) (λ gone. nothing_more key.shape.bits words known (Shown n) h (λ rank b. absurd (gone rank b))) (block_or_not key words good n some))
      (same_or_other n 0)

  not_told : (n : ℕ) (known : Knowledge) → words (result_of key.shape.bits n) ≡ 0 → Told n known
  unfolding Told
  not_told n known z result e true_result = absurd (let here = true_result.told in let there : words (result_of key.shape.bits result.square) ≡ 0 = ap (λ i. words (result_of key.shape.bits i)) e ∙ z in omega arith)

  tell_one : (n level number : ℕ) (known : Knowledge) → IsTrueOf key.shape.bits words known → Shown n known →
      IsTrueResult key.shape.bits words (result_entry level n number) → Also key.shape.bits words known (Told n)
  unfolding Shown Told
  tell_one n level number known h shown true_result = record {
    later = with_told known (result_entry level n number);
    true_of = record {
      seen = h.seen;
      blocks = h.blocks;
      results = with_result_all (IsTrueResult key.shape.bits words) known.results (result_entry level n number) h.results true_result;
      squares = with_result_all (KnowsSquareOf known) known.results (result_entry level n number) h.squares
          (cells_of words (square_rank level) n, shown (square_rank level) true_result.square);
      once = with_result_once known.results (result_entry level n number) h.once;
    };
    grows = record { words = λ e t. t; blocks = λ e t. t; results = λ r s. with_result_keeps known.results (result_entry level n number) r s; learned = omega arith };
    has = λ other e true_other.
        let same : result_entry level n number ≡ other = same_result key.shape.bits words (result_entry level n number) other true_result true_other (sym e) in
        subst (Contains (with_result known.results (result_entry level n number))) same (with_result_has key.shape.bits words known.results (result_entry level n number) h.results true_result);
  }

  told : (n : ℕ) (known : Knowledge) → IsTrueOf key.shape.bits words known → Shown n known → Also key.shape.bits words known (Told n)
  unfolding Told
  told n known h shown = ⊎_elim
      (λ slot. ⊎_elim (λ z. nothing_more key.shape.bits words known (Told n) h (not_told n known z)) (λ some. let t = good.results n slot some in tell_one n t.2.level t.0 known h shown (record { above = t.2.above; slot = slot; square = t.2.square; told = t.1 }))
      (same_or_other (words (result_of key.shape.bits n)) 0))
      (λ gone. nothing_more key.shape.bits words known (Told n) h (λ result e t. absurd (gone (subst (IsSlot key.shape.bits Pair) e t.slot))))
      (slot_or_not key.shape.bits Pair n)

  -- all that the words say of numbers below n
  record KnowsBelow (n : ℕ) (known : Knowledge) : Type 0 where
    true_of : IsTrueOf key.shape.bits words known
    seen : (i : ℕ) → i < n → words i ≢ 0 → HasSeen known i (words i)
    blocks : (rank i : ℕ) → i < n → IsBlock key.shape.bits words rank i → KnowsBlock known rank i (cells_of words rank i)
    results : (result : KnownResult) → result.square < n → IsTrueResult key.shape.bits words result → Contains known.results result

  knows_below : (n : ℕ) → (known : Knowledge) × KnowsBelow n known
  unfolding Sees Shown Told
  knows_below zero = (nothing, record { true_of = nothing_true key.shape.bits words; seen = λ i less. absurd (omega arith); blocks = λ rank i less. absurd (omega arith); results = λ result less. absurd (omega arith) })
  knows_below (suc n) =
      let t = knows_below n in
      let before : KnowsBelow n t.0 = t.1 in
      let a : Also key.shape.bits words t.0 (Sees n) = see n t.0 before.true_of in
      let b : Also key.shape.bits words a.later (Shown n) = show n a.later a.true_of in
      let c : Also key.shape.bits words b.later (Told n) = told n b.later b.true_of b.has in
      let after_a : Grows a.later c.later = grows_trans a.later b.later c.later b.grows c.grows in
      let all : Grows t.0 c.later = grows_trans t.0 a.later c.later a.grows after_a in (
        c.later,
        record {
          true_of = c.true_of;
          seen = λ i less some. ⊎_elim
              (λ e. after_a.words (i, words i) (subst (λ j. HasSeen a.later j (words j)) (sym e) (a.has (λ z. some (ap words e ∙ z)))))
              (λ other. all.words (i, words i) (before.seen i (omega arith) some)) (same_or_other i n);
          blocks = λ rank i less block. ⊎_elim
              (λ e. subst (λ j. KnowsBlock c.later rank j (cells_of words rank j)) (sym e) (knows_grown b.later c.later rank n (cells_of words rank n) c.grows (b.has rank (subst (IsBlock key.shape.bits words rank) e block))))
              (λ other. knows_grown t.0 c.later rank i (cells_of words rank i) all (before.blocks rank i (omega arith) block)) (same_or_other i n);
          results = λ result less true_result. ⊎_elim
              (λ e. c.has result e true_result)
              (λ other. all.results result (before.results result (omega arith) true_result)) (same_or_other result.square n);
        },
      )

  block_below : (rank i : ℕ) → IsBlock key.shape.bits words rank i → i < size key.shape.bits
  block_below rank i b = ⊎_elim (λ z. omega arith)
      (λ some. ⊎_elim (slot_below key.shape.bits Leaf i) (slot_below key.shape.bits Pair i) (block_slot key.shape.bits words rank i some b).1) (same_or_other i 0)

pub good_words_can_be_known : GoodWordsCanBeKnown
good_words_can_be_known key words good =
    let t = knows_below key words good (size key.shape.bits) in
    let k : KnowsBelow key words good (size key.shape.bits) t.0 = t.1 in (
      t.0,
      record {
        true_of = k.true_of;
        seen = k.seen;
        blocks = λ rank i b. k.blocks rank i (block_below key words good rank i b) b;
        results = λ result h. k.results result (slot_below key.shape.bits Pair result.square h.slot) h;
      },
    )

-- all that good words say
pub all_of : (key : Key) (words : List ℕ) → AreGoodWords key words → Knowledge
all_of key words good = (good_words_can_be_known key (slice_index words) good.good).0

pub all_known : (key : Key) (words : List ℕ) (good : AreGoodWords key words) → KnowsAll key.shape.bits (slice_index words) (all_of key words good)
unfolding all_of
all_known key words good = (good_words_can_be_known key (slice_index words) good.good).1
