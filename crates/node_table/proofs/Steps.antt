-- Each lawful event of a desk keeps the rule, and tells the desk what it learned.
use Rattle.std.proofs.Common.{◌≡◌, ◌≢◌, ℕ, zero, suc, ◌<◌, List, [], ◌∷◌, sym, ◌∙◌, ap, subst, arith, refl, ⊎_elim}
use Rattle.std.specs.Prelude.{Some, slice_get, slice_index, slice_set}
use Rattle.std.proofs.lemmas.List.{get_or-set_other}
use Rattle.std.specs.List.{AllByRecursion}
use mathlib.Core.Option as core
use lib.ListN.{get_elem?}
use Rattle.atomic_table.specs.Table.{Me, Allows, Splits, Joins, keeps}
use Rattle.atomic_table.proofs.Lists.{at_set}
use Rattle.plane.specs.Square.{empty}
use Rattle.plane.proofs.Same.{same_trans, same_of}
use Rattle.table_core.specs.declared.key.Key.{Key}
use Rattle.table_core.specs.declared.knowledge.Knowledge.{Knowledge}
use Rattle.table_core.specs.declared.machine.Event.{Event}
use Rattle.table_core.specs.Blocks.{Words, IsBlock, cells_of}
use Rattle.rule_text.specs.CountRule.{IsRule}
use Rattle.squares.specs.Book.{own_store}
use Rattle.table_core.specs.Layout.{size}
use Rattle.table_core.specs.Good.{IsGood, KeepsWords}
use Rattle.table_core.specs.Knowledge.{IsTrueOf, KnowsWord, Grows, united}
use Rattle.table_core.specs.Events.{index_of, word_after, words_after}
use Rattle.table_core.specs.Lawful.{IsLawful}
use Rattle.table_core.proofs.Blocks.{empty_cells}
use Rattle.table_core.proofs.Comparisons.{same_or_other}
use Rattle.table_core.proofs.Consistency.{every_truth_is_consistent}
use Rattle.table_core.proofs.Knowing.{true_later, block_true, united_true, united_first, united_second, nothing_true, grows_refl}
use Rattle.table_core.proofs.Learned.{learns_word, word_grown}
use Rattle.table_core.proofs.Lists.{all_set, all_append, all_weaker, any_of_get, get_of_any, any_before, get_set_same, get_set_other}
use Rattle.table_core.proofs.Stepping.{DeskStep, desk_steps, word_there}
use Rattle.node_table.specs.declared.desk.Desk.{Desk}
use Rattle.node_table.specs.declared.still.Still.{Still}
use Rattle.node_table.specs.declared.table.NodeTable.{NodeTable}
use Rattle.node_table.specs.declared.desk_view.DeskView.{DeskView}
use Rattle.node_table.specs.Books.{IsCoherent, IsSound, IsSoundFor, IsTrueOfGoodWords}
use Rattle.node_table.specs.Desks.{IsDeskOf}
use Rattle.node_table.specs.Rule.{IsTrueView, IsKnownToSome, IsSoundState, with_known, Met, HasMet, merged, spent}
use Rattle.node_table.proofs.Books.{is_book}

pub all_at : {X : Type 0} (P : X → Type 0) (xs : List X) (i : ℕ) (a : X) → AllByRecursion P xs → get_elem? xs i ≡ core.some a → P a
all_at P [] i a all e = let no : ⊥ = cc in absurd no
all_at P (x ∷ xs) zero a all e = let same : x ≡ a = cc in subst P same all.0
all_at P (x ∷ xs) (suc i) a all e = all_at P xs i a all.1 e

view_later : (key : Key) (old new : List ℕ) (view : DeskView) → KeepsWords (slice_index old) (slice_index new) → IsTrueView key old view → IsTrueView key new view
view_later key old new view keeps_all h = record { tied = h.tied; known = true_later key.shape.bits (slice_index old) (slice_index new) view.known keeps_all h.known }

-- what is true of good words is coherent
pub is_coherent : (key : Key) (words : Words) (known : Knowledge) → IsGood key words → IsTrueOf key.shape.bits words known → IsCoherent key.shape.bits known
is_coherent key words known good h = record {
  consistent = every_truth_is_consistent key words known good h;
  zero = λ rank plane knows. same_trans (same_of empty (cells_of words rank 0) (sym (empty_cells words rank))) (block_true key.shape.bits words known rank 0 plane h knows).cells;
}

pub coherent_of : (key : Key) (known : Knowledge) → IsTrueOfGoodWords key known → IsCoherent key.shape.bits known
coherent_of key known t = is_coherent key (slice_index t.words) known t.good.good t.true_of

-- and sound
sound_for : (key : Key) (known : Knowledge) → IsRule key.rule → IsTrueOfGoodWords key known → IsSoundFor key known
sound_for key known rule t = record {
  book = λ store. is_book store key known rule (coherent_of key known t);
  coherent = ∣ coherent_of key known t ∣₁;
  words = ∣ t ∣₁;
}

block_some : (bits : ℕ) (words : Words) (rank n : ℕ) → n ≢ 0 → IsBlock bits words rank n → words n ≢ 0
block_some bits words zero zero some b = absurd (some refl)
block_some bits words zero (suc i) some b = b.1
block_some bits words (suc rank) zero some b = absurd (some refl)
block_some bits words (suc rank) (suc i) some b = b.1

pub place_of : {X : Type 0} (xs : List X) (i : ℕ) (a : X) → get_elem? xs i ≡ core.some a → slice_get xs i ≡ Some a
place_of [] i a e = let no : ⊥ = cc in absurd no
place_of (x ∷ xs) zero a e = let same : x ≡ a = cc in ap (λ y. Some y) same
place_of (x ∷ xs) (suc i) a e = place_of xs i a e

same_view : (a b : DeskView) → Some a ≡ Some b → a ≡ b
same_view a b e = cc

-- which words desks know, while one of them learns more
module _ (key : Key) (index word : ℕ) (views : List DeskView) (id : ℕ) (v : DeskView) (at : slice_get views id ≡ Some v) where
  abbrev knows : DeskView → Type 0
  knows view = KnowsWord key.shape.bits view.known index word

  set_known : (w : DeskView) → knows w → IsKnownToSome key (slice_set views id w) index word
  set_known w k = any_of_get knows (slice_set views id w) id w (get_set_same views id v w at) k

  pub still_known : (w : DeskView) → Grows v.known w.known → IsKnownToSome key views index word → IsKnownToSome key (slice_set views id w) index word
  still_known w grows any =
      let t = get_of_any knows views any in
      ⊎_elim
      (λ e. set_known w (word_grown key.shape.bits v.known w.known index word grows (subst knows (same_view t.1 v (sym t.2 ∙ ap (slice_get views) e ∙ at)) t.3)))
      (λ other. any_of_get knows (slice_set views id w) t.0 t.1 (get_set_other views t.0 id w other ∙ t.2) t.3)
      (same_or_other t.0 id)

  -- and while what another one knew becomes its own
  pub joined_known : (other : ℕ) (u : DeskView) → other ≢ id → slice_get views other ≡ Some u → IsKnownToSome key views index word →
      IsKnownToSome key (slice_set (slice_set views id (merged v u)) other spent) index word
  joined_known other u apart there any =
      let t = get_of_any knows views any in
      let place : slice_get (slice_set (slice_set views id (merged v u)) other spent) id ≡ Some (merged v u) =
      get_set_other (slice_set views id (merged v u)) id other spent (λ e. apart (sym e)) ∙ get_set_same views id v (merged v u) at in
      let here : knows (merged v u) → IsKnownToSome key (slice_set (slice_set views id (merged v u)) other spent) index word =
      λ k. any_of_get knows (slice_set (slice_set views id (merged v u)) other spent) id (merged v u) place k in
      ⊎_elim
      (λ e. here (word_grown key.shape.bits u.known (united v.known u.known) index word (united_second v.known u.known) (subst knows (same_view t.1 u (sym t.2 ∙ ap (slice_get views) e ∙ there)) t.3)))
      (λ not. ⊎_elim
      (λ e. here (word_grown key.shape.bits v.known (united v.known u.known) index word (united_first v.known u.known) (subst knows (same_view t.1 v (sym t.2 ∙ ap (slice_get views) e ∙ at)) t.3)))
      (λ third. any_of_get knows (slice_set (slice_set views id (merged v u)) other spent) t.0 t.1
      (get_set_other (slice_set views id (merged v u)) t.0 other spent not ∙ get_set_other views t.0 id (merged v u) third ∙ t.2) t.3)
      (same_or_other t.0 id))
      (same_or_other t.0 other)

-- each word is known to some desk after a step, where the one that made it has learned what stands
-- there
known_after : (key : Key) (words : List ℕ) (views : List DeskView) (id index word : ℕ) (v w : DeskView) → slice_get views id ≡ Some v → Grows v.known w.known →
    (slice_index (slice_set words index word) index ≢ 0 → KnowsWord key.shape.bits w.known index (slice_index (slice_set words index word) index)) →
    ((i : ℕ) → slice_index words i ≢ 0 → IsKnownToSome key views i (slice_index words i)) →
    (i : ℕ) → slice_index (slice_set words index word) i ≢ 0 → IsKnownToSome key (slice_set views id w) i (slice_index (slice_set words index word) i)
known_after key words views id index word v w at grows here known i some = ⊎_elim
    (λ e. subst (λ j. IsKnownToSome key (slice_set views id w) j (slice_index (slice_set words index word) j)) (sym e)
    (set_known key index (slice_index (slice_set words index word) index) views id v at w (here (λ z. some (ap (slice_index (slice_set words index word)) e ∙ z)))))
    (λ other.
    let same : slice_index (slice_set words index word) i ≡ slice_index words i = get_or-set_other words index i word 0 other in
    subst (IsKnownToSome key (slice_set views id w) i) (sym same) (still_known key i (slice_index words i) views id v at w grows (known i (λ z. some (same ∙ z)))))
    (same_or_other i index)

-- each lawful event of a seat keeps the rule, and the seat has met it
pub meets : {S : Type 0} (still : Still) (slots id : ℕ) (me : Me S DeskView) (event : Event) → me.0.key ≡ Some still.key → IsLawful still.key me.0.known event →
    Allows (IsSoundState {S = S} still) slots id me (index_of event) (word_after event) (HasMet event me)
meets {S} still slots id me event present lawful s h n at fits =
    let key = still.key in
    let was : IsTrueView still.key s.words me.0 = all_at _ s.views id me.0 h.views at in
    let d : DeskStep still.key s.words me.0.known event = desk_steps still.key s.words me.0.known event h.words was.known lawful in
    let later : IsTrueOf still.key.shape.bits (slice_index (words_after event s.words)) me.0.known =
    true_later still.key.shape.bits (slice_index s.words) (slice_index (words_after event s.words)) me.0.known d.stays.keeps was.known in
    let there : slice_index (words_after event s.words) (index_of event) ≡ word_after event (slice_index s.words (index_of event)) =
    word_there still.key s.words me.0.known h.words was.known event lawful in
    let met : Met {S = S} still.key event me (word_after event (slice_index s.words (index_of event))) (with_known me.0 d.after, me.1) = record {
      same_key = refl;
      slots = refl;
      learns = d.learns;
      grows = d.grows;
      words = record { words = words_after event s.words; good = d.stays.words; true_of = d.true_of };
      stands = λ rank plane some knows z. block_some still.key.shape.bits (slice_index (words_after event s.words)) rank (index_of event) some
          (block_true still.key.shape.bits (slice_index (words_after event s.words)) me.0.known rank (index_of event) plane later knows).stands (there ∙ z);
    } in (
      with_known me.0 d.after,
      keeps,
      tt,
      record {
        words = d.stays.words;
        views = all_set _ s.views id (with_known me.0 d.after)
            (all_weaker _ _ (λ view t. view_later still.key s.words (words_after event s.words) view d.stays.keeps t) s.views h.views)
            (record { tied = was.tied; known = d.true_of });
        known = known_after still.key s.words s.views id (index_of event) (word_after event (slice_index s.words (index_of event))) me.0 (with_known me.0 d.after) (place_of s.views id me.0 at) d.grows
            (λ some. subst (λ w. KnowsWord still.key.shape.bits d.after (index_of event) w) (sym there) (learns_word still.key me.0.known event (word_after event (slice_index s.words (index_of event))) d.after (λ z. some (there ∙ z)) d.learns)) h.known;
      },
      λ k e. subst (λ (a : Key). Met {S = S} a event me (word_after event (slice_index s.words (index_of event))) (with_known me.0 d.after, me.1)) (some_key still.key k (sym present ∙ e)) met,
    )
  where
    some_key : (a b : Key) → Some a ≡ Some b → a ≡ b
    some_key a b e = cc

-- and so does each of a desk at its table
pub meets_at : (table : NodeTable) (desk : Desk) (event : Event) → IsDeskOf table desk → IsLawful table.key desk.seat.me.0.known event →
    Allows (IsSoundState {S = Unit {0}} table.table.shared.key) table.table.shared.table_id.slots desk.seat.id desk.seat.me (index_of event) (word_after event) (HasMet event desk.seat.me)
meets_at table desk event d lawful =
    meets table.table.shared.key table.table.shared.table_id.slots desk.seat.id desk.seat.me event (d.same_key ∙ ap (λ (k : Key). Some k) (sym table.same_key))
    (subst (λ (k : Key). IsLawful k desk.seat.me.0.known event) (sym table.same_key) lawful)

same_key : (a b : Key) → Some a ≡ Some b → a ≡ b
same_key a b e = cc

-- what a desk knows after an event is sound again
pub sound_after : {S : Type 0} (key : Key) (event : Event) (before after : Me S DeskView) (word : ℕ) → before.0.key ≡ Some key → IsSound before.0 →
    Met key event before word after → IsSound after.0
sound_after {S} key event before after word present sound met k e =
    subst (λ (a : Key). IsSoundFor a after.0.known) (same_key key k (sym present ∙ sym met.same_key ∙ e)) (sound_for key after.0.known ((sound key present).book own_store).rule met.words)

pub splits : {S : Type 0} (still : Still) (id : ℕ) (v : DeskView) → Splits (IsSoundState {S = S} still) id v v v
splits still id v s h at =
    let one = all_at _ s.views id v h.views at in
    record {
      words = h.words;
      views = all_append _ (slice_set s.views id v) (v ∷ []) (all_set _ s.views id v h.views one) (one, tt);
      known = λ i some. any_before _ (slice_set s.views id v) (v ∷ []) (still_known still.key i (slice_index s.words i) s.views id v (place_of s.views id v at) v (grows_refl v.known) (h.known i some));
    }

pub joins : {S : Type 0} (still : Still) (id other : ℕ) (v w : DeskView) → Joins (IsSoundState {S = S} still) id v other w (merged v w) spent
joins still id other v w s h at apart at_other =
    let first : IsTrueView still.key s.words v = all_at _ s.views id v h.views at in
    let whose = ⊎_elim {C = get_elem? s.views other ≡ core.some w} (λ t. absurd (apart t.0)) (λ t. t.1) (at_set s.views id other (merged v w) w at_other) in
    let second : IsTrueView still.key s.words w = all_at _ s.views other w h.views whose in
    let both : IsTrueView still.key s.words (merged v w) = record { tied = first.tied; known = united_true still.key.shape.bits (slice_index s.words) v.known w.known first.known second.known } in
    record {
      words = h.words;
      views = all_set _ (slice_set s.views id (merged v w)) other spent (all_set _ s.views id (merged v w) h.views both)
          (record { tied = tt; known = nothing_true still.key.shape.bits (slice_index s.words) });
      known = λ i some. joined_known still.key i (slice_index s.words i) s.views id v (place_of s.views id v at) other w apart (place_of s.views other w whose) (h.known i some);
    }

pub sound_by : (key : Key) (view : DeskView) → IsRule key.rule → IsTrueOfGoodWords key view.known → view.key ≡ Some key → IsSound view
sound_by key view rule words present k e =
    subst (λ (a : Key). IsSoundFor a view.known) (same_key key k (sym present ∙ e)) (sound_for key view.known rule words)

pub some_words : (bits words : ℕ) → words ≡ size bits → 0 < words
some_words bits words e = omega arith
