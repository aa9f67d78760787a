-- One step of a desk: the words stay good, and it learns what is true.
use Rattle.std.proofs.Common.{◌≡◌, ℕ, ◌+◌, ◌^◌, ◌<◌, Bool, true, false, cond, List, length, sym, ◌∙◌, ap, subst, arith, refl}
use Rattle.std.specs.Prelude.{◌==◌, slice_index, slice_set}
use Rattle.std.proofs.lemmas.Bool.{eqb-true}
use Rattle.std.proofs.lemmas.List.{set-get_or, get_or-set_same, get_or-set_other}
use Rattle.table_core.specs.declared.key.Key.{Key}
use Rattle.table_core.specs.declared.knowledge.Knowledge.{Knowledge}
use Rattle.table_core.specs.declared.machine.Event.{Event}
use Rattle.table_core.specs.declared.machine.Event.TheVariants.{Look, Claim, Ask, Tell}
use Rattle.table_core.specs.Layout.{IsSlot}
use Rattle.table_core.specs.Good.{AreGoodWords, KeepsWords}
use Rattle.table_core.specs.Events.{index_of, word_after, words_after}
use Rattle.table_core.specs.Knowledge.{IsTrueOf, IsConsistent, Grows}
use Rattle.table_core.specs.Lawful.{MayClaim, MayTell, IsLawful}
use Rattle.table_core.specs.Learning.{LearnsFrom}
use Rattle.table_core.specs.Laws.{Teaches}
use Rattle.table_core.proofs.Ways.{slot_below}
use Rattle.table_core.proofs.Claims.{Fills, fills_keeps, slot_of, claim_good, tell_good}
use Rattle.table_core.proofs.Lists.{length_set}
use Rattle.table_core.proofs.Knowing.{true_later}
use Rattle.table_core.proofs.Showing.{claim_may, tell_is}
use Rattle.table_core.proofs.Consistency.{every_truth_is_consistent}
use Rattle.table_core.proofs.Teaching.{every_event_teaches}

fills_list : (words : List ℕ) (i word : ℕ) → i < length words → slice_index words i ≡ 0 →
    Fills (slice_index words) (slice_index (slice_set words i word)) i word
fills_list words i word below free = record {
  free = free;
  now = get_or-set_same words i word 0 below;
  others = λ j other. get_or-set_other words i j word 0 other;
}

-- good words that keep all that stood before
pub record StaysGood (key : Key) (old new : List ℕ) : Type 0 where
  pub words : AreGoodWords key new
  pub keeps : KeepsWords (slice_index old) (slice_index new)

same_words : (key : Key) (old new : List ℕ) → AreGoodWords key old → new ≡ old → StaysGood key old new
same_words key old new h e = subst (StaysGood key old) (sym e) (record { words = h; keeps = record { kept = λ i some. refl } })

module _ (key : Key) (words : List ℕ) (known : Knowledge) (h : AreGoodWords key words) (knows : IsTrueOf key.shape.bits (slice_index words) known) where
  claimed : (i word : ℕ) → MayClaim key.shape.bits known i word → (b : Bool) → (slice_index words i == 0) ≡ b →
      StaysGood key words (slice_set words i (cond b word (slice_index words i)))
  claimed i word lawful false e = same_words key words _ h (set-get_or words i 0)
  claimed i word lawful true e =
      let may = claim_may key.shape.bits (slice_index words) known i word knows lawful in
      let slot : IsSlot key.shape.bits lawful.kind i = slot_of key.shape.bits (slice_index words) lawful.kind i word key.shape.range.0 (let r = key.shape.range.1 in omega arith) may in
      let long = h.long in
      let fills = fills_list words i word (let k = slot_below key.shape.bits lawful.kind i slot in omega arith) (eqb-true (slice_index words i) 0 e) in
      record {
        words = record {
          long = length_set words i word ∙ h.long;
          good = claim_good key (slice_index words) (slice_index (slice_set words i word)) lawful.kind i word slot h.good may fills;
        };
        keeps = fills_keeps (slice_index words) (slice_index (slice_set words i word)) i word fills;
      }

  told : (i n : ℕ) → MayTell key known i n → (b : Bool) → (slice_index words i == 0) ≡ b →
      StaysGood key words (slice_set words i (cond b (2 ^ 32 + n) (slice_index words i)))
  told i n lawful false e = same_words key words _ h (set-get_or words i 0)
  told i n lawful true e =
      let q = lawful.of in
      let k = q.slot.below in
      let here = q.beside in
      let long = h.long in
      let fills = fills_list words i (2 ^ 32 + n) (omega arith) (eqb-true (slice_index words i) 0 e) in
      record {
        words = record {
          long = length_set words i (2 ^ 32 + n) ∙ h.long;
          good = tell_good key (slice_index words) (slice_index (slice_set words i (2 ^ 32 + n))) q.square n q.slot h.good lawful.low (tell_is key (slice_index words) known i n knows lawful)
              (subst (λ j. Fills (slice_index words) (slice_index (slice_set words i (2 ^ 32 + n))) j (2 ^ 32 + n)) here fills);
        };
        keeps = fills_keeps (slice_index words) (slice_index (slice_set words i (2 ^ 32 + n))) i (2 ^ 32 + n) fills;
      }

  -- a lawful event keeps the words good
  pub event_good : (event : Event) → IsLawful key known event → StaysGood key words (words_after event words)
  event_good (Look desk i) lawful = same_words key words _ h (set-get_or words i 0)
  event_good (Claim desk i word) lawful = claimed i word lawful (slice_index words i == 0) refl
  event_good (Ask desk i) lawful = same_words key words _ h (set-get_or words i 0)
  event_good (Tell desk i n) lawful = told i n lawful (slice_index words i == 0) refl

  -- the word that is said to be there after it is there
  pub word_there : (event : Event) → IsLawful key known event →
      slice_index (words_after event words) (index_of event) ≡ word_after event (slice_index words (index_of event))
  word_there (Look desk i) lawful = ap (λ xs. slice_index xs i) (set-get_or words i 0)
  word_there (Ask desk i) lawful = ap (λ xs. slice_index xs i) (set-get_or words i 0)
  word_there (Claim desk i word) lawful =
      let may = claim_may key.shape.bits (slice_index words) known i word knows lawful in
      let slot : IsSlot key.shape.bits lawful.kind i = slot_of key.shape.bits (slice_index words) lawful.kind i word key.shape.range.0 (let r = key.shape.range.1 in omega arith) may in
      let long = h.long in
      get_or-set_same words i _ 0 (let k = slot_below key.shape.bits lawful.kind i slot in omega arith)
  word_there (Tell desk i n) lawful =
      let k = lawful.of.slot.below in let here = lawful.of.beside in let long = h.long in get_or-set_same words i _ 0 (omega arith)

-- all that a running table needs of one step of a desk: the words stay good, and there is what the
-- desk knows afterwards, which is true, agrees with itself, and is no less than before
pub record DeskStep (key : Key) (words : List ℕ) (known : Knowledge) (event : Event) : Type 0 where
  pub stays : StaysGood key words (words_after event words)
  pub after : Knowledge
  pub learns : LearnsFrom key event known (word_after event (slice_index words (index_of event))) after
  pub true_of : IsTrueOf key.shape.bits (slice_index (words_after event words)) after
  pub consistent : IsConsistent key.shape.bits after
  pub grows : Grows known after

pub desk_steps : (key : Key) (words : List ℕ) (known : Knowledge) (event : Event) → AreGoodWords key words →
    IsTrueOf key.shape.bits (slice_index words) known → IsLawful key known event → DeskStep key words known event
desk_steps key words known event h knows lawful =
    let stays : StaysGood key words (words_after event words) = event_good key words known h knows event lawful in
    let later : IsTrueOf key.shape.bits (slice_index (words_after event words)) known = true_later key.shape.bits (slice_index words) (slice_index (words_after event words)) known stays.keeps knows in
    let teaches : Teaches key (slice_index (words_after event words)) known event (word_after event (slice_index words (index_of event))) =
    every_event_teaches key (slice_index (words_after event words)) known event (word_after event (slice_index words (index_of event))) stays.words.good later lawful (word_there key words known h knows event lawful) in
    let t = teaches.some in
    record {
      stays = stays;
      after = t.0;
      learns = t.1;
      true_of = teaches.true_of t.0 t.1;
      consistent = every_truth_is_consistent key (slice_index (words_after event words)) t.0 stays.words.good (teaches.true_of t.0 t.1);
      grows = teaches.grows t.0 t.1;
    }
