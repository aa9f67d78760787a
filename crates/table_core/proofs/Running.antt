-- Every run keeps the words good, and what desks know true and no less.
use Rattle.std.proofs.Common.{◌≡◌, ℕ, cond, List, [], ◌∷◌, sym, ◌∙◌, ap, subst, refl, ⊎_elim}
use Rattle.std.specs.Prelude.{slice_get, slice_index, slice_set, Some}
use Rattle.std.specs.List.{AllByRecursion}
use Rattle.std.proofs.lemmas.Bool.{eq-eqb, ne_eqb}
use Rattle.std.proofs.lemmas.List.{get_or-set_other}
use Rattle.table_core.specs.declared.key.Key.{Key}
use Rattle.table_core.specs.declared.knowledge.Knowledge.{Knowledge}
use Rattle.table_core.specs.declared.machine.Event.{Event}
use Rattle.table_core.specs.Blocks.{Words}
use Rattle.table_core.specs.Good.{AreGoodWords, KeepsWords}
use Rattle.table_core.specs.Events.{desk_of, index_of}
use Rattle.table_core.specs.Knowledge.{IsTrueOf, KnowsWord, Grows, united, nothing}
use Rattle.table_core.specs.EveryRun.{Table, Action, happens, splits, joins, Happens, Splits, Joins, Acts, Runs, IsSoundTable, NewWordsAreKnown, heir_at, heir, EveryRun}
use Rattle.table_core.proofs.Comparisons.{same_or_other}
use Rattle.table_core.proofs.Lists.{all_set, all_get, all_append, all_weaker, any_of_get, get_of_any, get_set_same, get_set_other, get_append}
use Rattle.table_core.proofs.Knowing.{true_later, united_true, united_first, united_second, nothing_true, grows_refl, grows_trans, desks_agree}
use Rattle.table_core.proofs.Stepping.{StaysGood, event_good}
use Rattle.table_core.proofs.Learned.{learns_true, learns_grows, learns_word, word_grown}

keeps_trans : (a b c : Words) → KeepsWords a b → KeepsWords b c → KeepsWords a c
keeps_trans a b c h k = record { kept = λ i some. let one = h.kept i some in k.kept i (λ z. some (sym one ∙ z)) ∙ one }

-- what some actions keep, where `to` names the desk that knows afterwards what a desk knew
record Keeps (key : Key) (to : ℕ → ℕ) (old new : Table) : Type 0 where
  holds : IsSoundTable key new
  words : KeepsWords (slice_index old.words) (slice_index new.words)
  knowledge : (desk : ℕ) (known : Knowledge) → slice_get old.desks desk ≡ Some known →
      (later : Knowledge) × (slice_get new.desks (to desk) ≡ Some later) × Grows known later
  new_words : NewWordsAreKnown key.shape.bits old new

same_known : (a b : Knowledge) → Some a ≡ Some b → a ≡ b
same_known a b e = cc

-- where no word changes, none is new
no_new_words : (bits : ℕ) (old new : Table) → new.words ≡ old.words → NewWordsAreKnown bits old new
no_new_words bits old new same i none some = absurd (some (ap (λ ws. slice_index ws i) same ∙ none))

-- the words stay as they are
as_before : (key : Key) (old new : Table) → IsSoundTable key old → new.words ≡ old.words →
    AllByRecursion (IsTrueOf key.shape.bits (slice_index old.words)) new.desks →
    IsSoundTable key new × KeepsWords (slice_index old.words) (slice_index new.words)
as_before key old new h same desks = (
  record {
    words = subst (AreGoodWords key) (sym same) h.words;
    desks = subst (λ ws. AllByRecursion (IsTrueOf key.shape.bits (slice_index ws)) new.desks) (sym same) desks;
  },
  record { kept = λ i some j. slice_index (same j) i },
)

happens_keeps : (key : Key) (old new : Table) (event : Event) → IsSoundTable key old → Happens key old event new → Keeps key (λ desk. desk) old new
happens_keeps key old new event h a =
    let before : IsTrueOf key.shape.bits (slice_index old.words) a.known = all_get _ old.desks (desk_of event) a.known h.desks a.desk in
    let stays : StaysGood key old.words new.words = subst (StaysGood key old.words) (sym a.words) (event_good key old.words a.known h.words before event a.lawful) in
    let later : IsTrueOf key.shape.bits (slice_index new.words) a.known = true_later key.shape.bits (slice_index old.words) (slice_index new.words) a.known stays.keeps before in
    let learned : IsTrueOf key.shape.bits (slice_index new.words) a.after =
    learns_true key (slice_index new.words) a.known event (slice_index new.words (index_of event)) a.after stays.words.good later a.lawful refl a.learns in
    record {
      holds = record {
        words = stays.words;
        desks = subst (AllByRecursion (IsTrueOf key.shape.bits (slice_index new.words))) (sym a.desks)
            (all_set _ old.desks (desk_of event) a.after (all_weaker _ _ (λ known was. true_later key.shape.bits (slice_index old.words) (slice_index new.words) known stays.keeps was) old.desks h.desks) learned);
      };
      words = stays.keeps;
      knowledge = λ desk known is. ⊎_elim
          (λ e. (
            a.after,
            ap (λ ds. slice_get ds desk) a.desks ∙ subst (λ d. slice_get (slice_set old.desks (desk_of event) a.after) d ≡ Some a.after) (sym e) (get_set_same old.desks (desk_of event) a.known a.after a.desk),
            subst (λ k. Grows k a.after) (same_known a.known known (sym a.desk ∙ ap (slice_get old.desks) (sym e) ∙ is)) (learns_grows key a.known event (slice_index new.words (index_of event)) a.after a.learns),
          ))
          (λ other. (known, ap (λ ds. slice_get ds desk) a.desks ∙ get_set_other old.desks desk (desk_of event) a.after other ∙ is, grows_refl known))
          (same_or_other desk (desk_of event));
      new_words = λ i none some. ⊎_elim
          (λ e. any_of_get (λ known. KnowsWord key.shape.bits known i (slice_index new.words i)) new.desks (desk_of event) a.after
          (ap (λ ds. slice_get ds (desk_of event)) a.desks ∙ get_set_same old.desks (desk_of event) a.known a.after a.desk)
          (subst (λ j. KnowsWord key.shape.bits a.after j (slice_index new.words j)) (sym e) (learns_word key a.known event (slice_index new.words (index_of event)) a.after (λ z. some (ap (slice_index new.words) e ∙ z)) a.learns)))
          (λ other. absurd (some (ap (λ ws. slice_index ws i) a.words ∙ get_or-set_other old.words (index_of event) i _ 0 other ∙ none)))
          (same_or_other i (index_of event));
    }

splits_keeps : (key : Key) (old new : Table) (split : ℕ) → IsSoundTable key old → Splits old split new → Keeps key (λ desk. desk) old new
splits_keeps key old new split h a =
    let t = as_before key old new h a.words (subst (AllByRecursion (IsTrueOf key.shape.bits (slice_index old.words))) (sym a.desks)
    (all_append _ old.desks (a.known ∷ []) h.desks (all_get _ old.desks split a.known h.desks a.is, tt))) in
    record {
      holds = t.0;
      words = t.1;
      knowledge = λ desk known is. (known, ap (λ ds. slice_get ds desk) a.desks ∙ get_append old.desks (a.known ∷ []) desk known is, grows_refl known);
      new_words = no_new_words key.shape.bits old new a.words;
    }

joins_keeps : (key : Key) (old new : Table) (into joined : ℕ) → IsSoundTable key old → Joins old into joined new →
    Keeps key (heir_at (joins into joined)) old new
joins_keeps key old new into joined h a =
    let one = all_get _ old.desks into a.known h.desks a.is in
    let two = all_get _ old.desks joined a.also h.desks a.other in
    let both = united_true key.shape.bits (slice_index old.words) a.known a.also one two in
    let t = as_before key old new h a.words (subst (AllByRecursion (IsTrueOf key.shape.bits (slice_index old.words))) (sym a.desks)
    (all_set _ (slice_set old.desks into (united a.known a.also)) joined nothing (all_set _ old.desks into (united a.known a.also) h.desks both) (nothing_true key.shape.bits (slice_index old.words)))) in
    let there : slice_get new.desks into ≡ Some (united a.known a.also) =
    ap (λ ds. slice_get ds into) a.desks ∙ get_set_other (slice_set old.desks into (united a.known a.also)) into joined nothing a.apart ∙ get_set_same old.desks into a.known (united a.known a.also) a.is in
    record {
      holds = t.0;
      words = t.1;
      knowledge = λ desk known is. ⊎_elim
          (λ e. subst (λ d. (later : Knowledge) × (slice_get new.desks d ≡ Some later) × Grows known later) (sym (ap (λ b. cond b into desk) (eq-eqb desk joined e))) (
            united a.known a.also,
            there,
            subst (λ k. Grows k (united a.known a.also)) (same_known a.also known (sym a.other ∙ ap (slice_get old.desks) (sym e) ∙ is)) (united_second a.known a.also),
          ))
          (λ other. subst (λ d. (later : Knowledge) × (slice_get new.desks d ≡ Some later) × Grows known later) (sym (ap (λ b. cond b into desk) (ne_eqb desk joined other))) (⊎_elim
          (λ e. (
            united a.known a.also,
            ap (slice_get new.desks) e ∙ there,
            subst (λ k. Grows k (united a.known a.also)) (same_known a.known known (sym a.is ∙ ap (slice_get old.desks) (sym e) ∙ is)) (united_first a.known a.also),
          ))
          (λ third. (
            known,
            ap (λ ds. slice_get ds desk) a.desks ∙ get_set_other (slice_set old.desks into (united a.known a.also)) desk joined nothing other ∙ get_set_other old.desks desk into (united a.known a.also) third ∙ is,
            grows_refl known,
          ))
          (same_or_other desk into)))
          (same_or_other desk joined);
      new_words = no_new_words key.shape.bits old new a.words;
    }

acts_keeps : (key : Key) (old new : Table) (action : Action) → IsSoundTable key old → Acts key old action new → Keeps key (heir_at action) old new
acts_keeps key old new (happens event) h a = happens_keeps key old new event h a
acts_keeps key old new (splits desk) h a = splits_keeps key old new desk h a
acts_keeps key old new (joins into desk) h a = joins_keeps key old new into desk h a

runs_keep : (key : Key) (old new : Table) (actions : List Action) → IsSoundTable key old → Runs key old actions new → Keeps key (heir actions) old new
runs_keep key old new [] h e = subst (Keeps key (λ desk. desk) old) (sym e) (record { holds = h; words = record { kept = λ i some. refl }; knowledge = λ desk known is. (known, is, grows_refl known); new_words = no_new_words key.shape.bits old old refl })
runs_keep key old new (action ∷ actions) h (between, act, rest) =
    let one : Keeps key (heir_at action) old between = acts_keeps key old between action h act in
    let two : Keeps key (heir actions) between new = runs_keep key between new actions one.holds rest in
    record {
      holds = two.holds;
      words = keeps_trans (slice_index old.words) (slice_index between.words) (slice_index new.words) one.words two.words;
      knowledge = λ desk known is.
          let a = one.knowledge desk known is in
          let b = two.knowledge (heir_at action desk) a.0 a.1 in
          (b.0, b.1, grows_trans known a.0 b.0 a.2 b.2);
      new_words = λ i none some. ⊎_elim
          (λ z. two.new_words i z some)
          (λ stood.
          let t = get_of_any (λ known. KnowsWord key.shape.bits known i (slice_index between.words i)) between.desks (one.new_words i none stood) in
          let b = two.knowledge t.0 t.1 t.2 in
          any_of_get (λ known. KnowsWord key.shape.bits known i (slice_index new.words i)) new.desks (heir actions t.0) b.0 b.1
          (subst (KnowsWord key.shape.bits b.0 i) (sym (two.words.kept i stood)) (word_grown key.shape.bits t.1 b.0 i (slice_index between.words i) b.2 t.3)))
          (same_or_other (slice_index between.words i) 0);
    }

pub every_run : EveryRun
every_run key old new actions h run =
    let t = runs_keep key old new actions h run in
    record {
      holds = t.holds;
      words = t.words;
      knowledge = t.knowledge;
      new_words = t.new_words;
      one_number = λ a b one two at also rank n m plane knows too.
          desks_agree key (slice_index new.words) one two rank n m plane t.holds.words.good (all_get _ new.desks a one t.holds.desks at) (all_get _ new.desks b two t.holds.desks also) knows too;
    }
