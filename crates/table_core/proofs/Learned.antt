-- What an event teaches is true, and no less is known after it.
use Rattle.std.proofs.Common.{◌≡◌, ◌≢◌, ℕ, suc, ◌+◌, ◌-◌, ◌^◌, ◌<◌, Bool, true, false, cond, [], ◌∷◌, sym, ◌∙◌, ap, subst, arith, refl, inl, inr, ⊎_elim}
use Rattle.std.specs.Prelude.{Any, Contains}
use Rattle.std.proofs.lemmas.List.Elements.{Contains-append_left, Contains-append_right}
use Rattle.plane.specs.Plane.{Plane}
use Rattle.plane.specs.Square.{bits_plane, future}
use Rattle.plane.specs.Listing.{plane_of}
use Rattle.plane.proofs.Same.{same_sym}
use Rattle.table_core.specs.declared.key.Key.{Key}
use Rattle.table_core.specs.declared.knowledge.KnownBlock.{KnownBlock}
use Rattle.table_core.specs.declared.knowledge.KnownResult.{KnownResult}
use Rattle.table_core.specs.declared.knowledge.Knowledge.{Knowledge}
use Rattle.table_core.specs.declared.machine.Event.{Event}
use Rattle.table_core.specs.declared.machine.Event.TheVariants.{Look, Claim, Ask, Tell}
use Rattle.table_core.specs.declared.shape.Kind.TheVariants.{Pair}
use Rattle.table_core.specs.Layout.{IsSlot, result_of, first_part, second_part}
use Rattle.table_core.specs.Blocks.{Words, square_rank, IsBlock, ShowsBlock, paired}
use Rattle.table_core.specs.Good.{IsGood}
use Rattle.table_core.specs.Events.{index_of}
use Rattle.table_core.specs.Knowledge.{Says, KnowsBlock, IsTrueOf, IsTrueResult, KnowsSquareOf, KnowsWord, Grows, has_result}
use Rattle.table_core.specs.Lawful.{MayAsk, IsLawful}
use Rattle.table_core.specs.Learning.{KnowsWhole, Follows, as_leaf, as_pair, as_first_part, as_second_part, with_word, LearnsWord, with_future, LearnsFuture, MeetsWord, MeetsResult, LearnsFrom}
use Rattle.table_core.proofs.Comparisons.{same_or_other}
use Rattle.table_core.proofs.Lists.{all_contains, all_weaker, all_append, contains_here}
use Rattle.table_core.proofs.Results.{found_result, with_result_keeps, with_result_all, with_result_once}
use Rattle.table_core.proofs.Knowing.{shown_as, seen_true, block_true, squares_more, knows_more, grows_refl}
use Rattle.table_core.proofs.Showing.{leaf_shows, pair_shows, parts_show, result_shows}

word_grows : (key : Key) (known : Knowledge) (index word : ℕ) (after : Knowledge) → LearnsWord key known index word after → Grows known after
word_grows key known index word after l = subst (Grows known) (sym l.is) (record {
  words = λ entry h. Contains-append_right ((index, word) ∷ []) known.words entry h;
  blocks = λ entry h. Contains-append_left known.blocks l.more entry h;
  results = λ result h. h;
  learned = omega arith;
})

future_grows : (key : Key) (known : Knowledge) (count index word : ℕ) (after : Knowledge) → LearnsFuture key known count index word after →
    Grows known after
future_grows key known count index word after l = subst (Grows known) (sym l.is) (record {
  words = λ entry h. h;
  blocks = λ entry h. Contains-append_left known.blocks _ entry h;
  results = λ result h. with_result_keeps known.results l.result result h;
  learned = omega arith;
})

module _ (key : Key) (words : Words) (known : Knowledge) (index word : ℕ) (good : IsGood key words) (h : IsTrueOf key.shape.bits words known) (there : words index ≡ word) where
  at_word : (rank : ℕ) (one : Plane) (part_of : ℕ → ℕ) → ShowsBlock key.shape.bits words rank (part_of word) one →
      ShowsBlock key.shape.bits words rank (part_of (words index)) one
  at_word rank one part_of s = subst (λ w. ShowsBlock key.shape.bits words rank (part_of w) one) (sym there) s

  said : (entry : KnownBlock) (rank n : ℕ) (plane : Plane) → Says entry rank n plane → ShowsBlock key.shape.bits words rank n plane →
      ShowsBlock key.shape.bits words entry.rank entry.number (plane_of entry.live)
  said entry rank n plane says shown = shown_as key.shape.bits words rank entry.rank n entry.number plane (plane_of entry.live) (sym says.at_rank) (sym says.of_number) (same_sym says.cells) shown

  both_parts : (r : ℕ) (one two : Plane) → KnowsWhole known r index one two →
      ShowsBlock key.shape.bits words r (first_part (words index)) one × ShowsBlock key.shape.bits words r (second_part (words index)) two
  both_parts r one two knows = parts_show key.shape.bits words r index one two knows.some knows.first_inside knows.second_inside (block_true key.shape.bits words known (suc r) index (paired r one two) h knows.whole)

  -- what follows is shown
  follows_true : word ≢ 0 → (entry : KnownBlock) → Follows key known index word entry →
      ShowsBlock key.shape.bits words entry.rank entry.number (plane_of entry.live)
  follows_true some entry (as_leaf slot says) = said entry 0 index (bits_plane word) says
      (subst (λ w. ShowsBlock key.shape.bits words 0 index (bits_plane w)) there (leaf_shows key.shape.bits words index slot (λ z. some (sym there ∙ z))))
  follows_true some entry (as_pair r one two slot knows says) = said entry (suc r) index (paired r one two) says
      (pair_shows key.shape.bits words r index one two slot (λ z. some (sym there ∙ z))
      (at_word r one first_part (block_true key.shape.bits words known r (first_part word) one h knows.first))
      (at_word r two second_part (block_true key.shape.bits words known r (second_part word) two h knows.second)))
  follows_true some entry (as_first_part r one two knows says) = said entry r (first_part word) one says
      (subst (λ w. ShowsBlock key.shape.bits words r (first_part w) one) there (both_parts r one two knows).0)
  follows_true some entry (as_second_part r one two knows says) = said entry r (second_part word) two says
      (subst (λ w. ShowsBlock key.shape.bits words r (second_part w) two) there (both_parts r one two knows).1)

  word_true : word ≢ 0 → (after : Knowledge) → LearnsWord key known index word after → IsTrueOf key.shape.bits words after
  word_true some after l = subst (IsTrueOf key.shape.bits words) (sym l.is) (record {
    seen = ((there, some), h.seen);
    blocks = all_append _ known.blocks l.more h.blocks (all_weaker _ (λ (entry : KnownBlock). ShowsBlock key.shape.bits words entry.rank entry.number (plane_of entry.live)) (follows_true some) l.more l.follow);
    results = h.results;
    squares = squares_more known (with_word known index word l.more) known.results (λ entry t. Contains-append_left known.blocks l.more entry t) h.squares;
    once = h.once;
  })

  module _ (of : MayAsk key.shape.bits known index) (count : ℕ) (after : Knowledge) (l : LearnsFuture key known count index word after) where
    same_square : of.square ≡ l.result.square
    same_square = let e : of.square + 2 ^ key.shape.bits ≡ l.result.square + 2 ^ key.shape.bits = sym of.beside ∙ l.beside in omega arith

    same_level : of.level ≡ l.result.level
    same_level = (l.shows of).0

    here : words (result_of key.shape.bits of.square) ≡ 2 ^ 32 + l.result.future
    here = ap words (sym of.beside) ∙ there ∙ l.told

    square_shown : ShowsBlock key.shape.bits words (square_rank of.level) of.square of.plane
    square_shown = block_true key.shape.bits words known (square_rank of.level) of.square of.plane h of.shown

    future_shown : ShowsBlock key.shape.bits words (square_rank (l.result.level - 1)) l.result.future (plane_of l.live)
    future_shown = shown_as key.shape.bits words (square_rank (of.level - 1)) (square_rank (l.result.level - 1)) l.result.future l.result.future (future key.rule key.exponent of.level of.plane) (plane_of l.live)
        (ap (λ n. square_rank (n - 1)) same_level) refl (same_sym (l.shows of).1) (result_shows key words of.square of.level l.result.future of.plane good of.slot of.above square_shown here)

    true_result : IsTrueResult key.shape.bits words l.result
    true_result = record {
      above = subst (λ n. 3 < n) same_level of.above;
      slot = subst (IsSlot key.shape.bits Pair) same_square of.slot;
      square = subst (λ n. IsBlock key.shape.bits words (square_rank n) l.result.square) same_level (subst (IsBlock key.shape.bits words (square_rank of.level)) same_square square_shown.stands);
      told = subst (λ n. words (result_of key.shape.bits n) ≡ 2 ^ 32 + l.result.future) same_square here;
    }

    square_known : KnowsSquareOf known l.result
    square_known = (of.plane, subst (λ n. KnowsBlock known (square_rank n) l.result.square of.plane) same_level (subst (λ n. KnowsBlock known (square_rank of.level) n of.plane) same_square of.shown))

    future_true : IsTrueOf key.shape.bits words after
    future_true =
        let entry : KnownBlock = record { number = l.result.future; rank = square_rank (l.result.level - 1); live = l.live } in
        let more = λ (e : KnownBlock) (t : Contains known.blocks e). Contains-append_left known.blocks (record { number = l.result.future; rank = square_rank (l.result.level - 1); live = l.live } ∷ []) e t in
        let later = with_future known count l.result l.live in
        subst (IsTrueOf key.shape.bits words) (sym l.is) (record {
          seen = h.seen;
          blocks = all_append _ known.blocks (record { number = l.result.future; rank = square_rank (l.result.level - 1); live = l.live } ∷ []) h.blocks (future_shown, tt);
          results = with_result_all (IsTrueResult key.shape.bits words) known.results l.result h.results true_result;
          squares = with_result_all (KnowsSquareOf (with_future known count l.result l.live)) known.results l.result
              (squares_more known (with_future known count l.result l.live) known.results more h.squares)
              (square_known.0, knows_more known (with_future known count l.result l.live) (square_rank l.result.level) l.result.square square_known.0 more square_known.1);
          once = with_result_once known.results l.result h.once;
        })

  met_word : (after : Knowledge) → MeetsWord key known index word after → IsTrueOf key.shape.bits words after
  met_word after m = ⊎_elim (λ z. subst (IsTrueOf key.shape.bits words) (sym (m.none z)) h) (λ some. word_true some after (m.some some)) (same_or_other word 0)

  met_result : MayAsk key.shape.bits known index → (count : ℕ) (after : Knowledge) → MeetsResult key known count index word after →
      IsTrueOf key.shape.bits words after
  met_result of count after m = ⊎_elim (λ z. subst (IsTrueOf key.shape.bits words) (sym (m.none z)) h) (λ some. future_true of count after (m.some some)) (same_or_other word 0)

-- what is known after a lawful event is true
pub learns_true : (key : Key) (words : Words) (known : Knowledge) (event : Event) (word : ℕ) (after : Knowledge) → IsGood key words →
    IsTrueOf key.shape.bits words known → IsLawful key known event → words (index_of event) ≡ word → LearnsFrom key event known word after →
    IsTrueOf key.shape.bits words after
learns_true key words known (Look desk index) word after good h lawful there learns = met_word key words known index word good h there after learns
learns_true key words known (Claim desk index claimed) word after good h lawful there learns = met_word key words known index word good h there after learns
learns_true key words known (Ask desk index) word after good h lawful there learns = met_result key words known index word good h there lawful 1 after learns
learns_true key words known (Tell desk index number) word after good h lawful there learns = met_result key words known index word good h there lawful.of 0 after learns

met_word_grows : (key : Key) (known : Knowledge) (index word : ℕ) (after : Knowledge) → MeetsWord key known index word after → Grows known after
met_word_grows key known index word after m = ⊎_elim (λ z. subst (Grows known) (sym (m.none z)) (grows_refl known)) (λ some. word_grows key known index word after (m.some some)) (same_or_other word 0)

met_result_grows : (key : Key) (known : Knowledge) (count index word : ℕ) (after : Knowledge) → MeetsResult key known count index word after →
    Grows known after
met_result_grows key known count index word after m = ⊎_elim (λ z. subst (Grows known) (sym (m.none z)) (grows_refl known)) (λ some. future_grows key known count index word after (m.some some)) (same_or_other word 0)

-- and no less than before
pub learns_grows : (key : Key) (known : Knowledge) (event : Event) (word : ℕ) (after : Knowledge) → LearnsFrom key event known word after →
    Grows known after
learns_grows key known (Look desk index) word after learns = met_word_grows key known index word after learns
learns_grows key known (Claim desk index claimed) word after learns = met_word_grows key known index word after learns
learns_grows key known (Ask desk index) word after learns = met_result_grows key known 1 index word after learns
learns_grows key known (Tell desk index number) word after learns = met_result_grows key known 0 index word after learns

-- what is known of a word that is not 0 is that it stands there
met_word_known : (key : Key) (known : Knowledge) (index word : ℕ) (after : Knowledge) → word ≢ 0 → MeetsWord key known index word after → KnowsWord key.shape.bits after index word
met_word_known key known index word after some m =
    let l : LearnsWord key known index word after = m.some some in
    subst (λ (k : Knowledge). KnowsWord key.shape.bits k index word) (sym l.is) (inl (contains_here (index, word) known.words))

result_known : (key : Key) (known : Knowledge) (count index word : ℕ) (after : Knowledge) → MeetsResult key known count index word after → (l : LearnsFuture key known count index word after) →
    (had : Bool) → has_result known.results l.result.square ≡ had →
    Any (λ (r : KnownResult). (index ≡ result_of key.shape.bits r.square) × (word ≡ 2 ^ 32 + r.future)) (cond had known.results (l.result ∷ known.results))
result_known key known count index word after m l true e =
    let t = found_result known.results l.result.square e in
    let beside : index ≡ result_of key.shape.bits t.0.square = l.beside ∙ ap (result_of key.shape.bits) (sym t.2) in
    let has = t.1 in (has.0, t.0, has.1, has.2, (beside, m.agrees t.0 t.1 beside))
result_known key known count index word after m l false e = (0, l.result, omega arith, refl, (l.beside, l.told))

met_result_known : (key : Key) (known : Knowledge) (count index word : ℕ) (after : Knowledge) → word ≢ 0 → MeetsResult key known count index word after →
    KnowsWord key.shape.bits after index word
met_result_known key known count index word after some m =
    let l : LearnsFuture key known count index word after = m.some some in
    subst (λ (k : Knowledge). KnowsWord key.shape.bits k index word) (sym l.is) (inr (result_known key known count index word after m l (has_result known.results l.result.square) refl))

pub learns_word : (key : Key) (known : Knowledge) (event : Event) (word : ℕ) (after : Knowledge) → word ≢ 0 → LearnsFrom key event known word after →
    KnowsWord key.shape.bits after (index_of event) word
learns_word key known (Look desk index) word after some learns = met_word_known key known index word after some learns
learns_word key known (Claim desk index claimed) word after some learns = met_word_known key known index word after some learns
learns_word key known (Ask desk index) word after some learns = met_result_known key known 1 index word after some learns
learns_word key known (Tell desk index number) word after some learns = met_result_known key known 0 index word after some learns

-- a known word stands there
pub known_word : (bits : ℕ) (words : Words) (known : Knowledge) (index word : ℕ) → IsTrueOf bits words known → KnowsWord bits known index word →
    words index ≡ word
known_word bits words known index word h = ⊎_elim
    (λ seen. (seen_true bits words known index word h seen).0)
    (λ t. let r = all_contains (IsTrueResult bits words) known.results t.1 h.results (t.0, t.2, t.3) in ap words t.4.0 ∙ r.told ∙ sym t.4.1)

-- a known word stays known
pub word_grown : (bits : ℕ) (old new : Knowledge) (index word : ℕ) → Grows old new → KnowsWord bits old index word → KnowsWord bits new index word
word_grown bits old new index word grows = ⊎_elim
    (λ seen. inl (grows.words (index, word) seen))
    (λ t. let there = grows.results t.1 (t.0, t.2, t.3) in inr (there.0, t.1, there.1, there.2, t.4))
