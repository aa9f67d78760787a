-- Words that are opened under another head, while their results are gone through.
use Rattle.std.proofs.Common.{◌≡◌, ◌≢◌, ℕ, zero, suc, ◌+◌, ◌-◌, ◌^◌, ◌<◌, ◌≤◌, ◌⊎◌, min, Bool, true, false, List, length, sym, ◌∙◌, ap, subst, arith, refl, inl, inr, ⊎_elim}
use Rattle.std.specs.Prelude.{IsTrue, slice_index, slice_set}
use Rattle.std.proofs.lemmas.Bool.{false≢true, cases_lt}
use Rattle.std.proofs.lemmas.List.{get_or-set_same, get_or-set_other}
use Rattle.table_core.specs.declared.key.Key.{Key}
use Rattle.table_core.specs.declared.shape.Kind.{Kind}
use Rattle.table_core.specs.declared.shape.Kind.TheVariants.{Pair}
use Rattle.table_core.specs.Layout.{IsSlot, start, size, result_of}
use Rattle.table_core.specs.Blocks.{IsBlock, square_rank}
use Rattle.table_core.specs.Good.{head}
use Rattle.table_core.specs.Opening.{KeepsResult, StaysOrGoes, Reopens}
use Rattle.table_core.proofs.Blocks.{one_rank}
use Rattle.table_core.proofs.Comparisons.{same_or_other}
use Rattle.table_core.proofs.Lists.{length_set}
use Rattle.table_core.proofs.Ways.{not_head, not_result}
use Rattle.node_table.specs.declared.still.Still.{Still}
use Rattle.rule_text.specs.CountRule.{CountRule}
use Rattle.table_core.specs.Laws.{KnowsAll}
use Rattle.table_core.proofs.Reopenings.{every_reopening}
use Rattle.node_table.specs.declared.desk.Desk.{Desk}
use Rattle.node_table.specs.declared.table.NodeTable.{NodeTable}
use Rattle.node_table.specs.Openings.{Opens, StartsFrom}
use Rattle.node_table.specs.Stills.{words_of, IsReopened, KeepsAtRank}

-- the results of so many pairs were gone through
pub record IsThrough (was : Still) (key : Key) (new : List ℕ) (done : ℕ) : Type 0 where
  pub long : length new ≡ size was.key.shape.bits
  pub names : slice_index new 0 ≡ head key
  pub fits : (i : ℕ) → slice_index new i < 2 ^ 64
  pub slots : (kind : Kind) (i : ℕ) → IsSlot was.key.shape.bits kind i → slice_index new i ≡ words_of was i
  pub results : (i level : ℕ) → IsSlot was.key.shape.bits Pair i → i < start was.key.shape.bits Pair + done → 3 < level →
      IsBlock was.key.shape.bits (words_of was) (square_rank level) i → StaysOrGoes was.key key (words_of was) (slice_index new) i level
  pub vacant : (i : ℕ) → IsSlot was.key.shape.bits Pair i → words_of was (result_of was.key.shape.bits i) ≡ 0 → slice_index new (result_of was.key.shape.bits i) ≡ 0
  pub rest : (i : ℕ) → IsSlot was.key.shape.bits Pair i → start was.key.shape.bits Pair + done ≤ i →
      slice_index new (result_of was.key.shape.bits i) ≡ words_of was (result_of was.key.shape.bits i)

pub rules_decided : (was : Still) (key : Key) (one_rule : Bool) → (IsTrue one_rule → was.key.rule ≡ key.rule) × (was.key.rule ≡ key.rule → IsTrue one_rule) → (was.key.rule ≡ key.rule) ⊎ (was.key.rule ≢ key.rule)
rules_decided was key true t = inl (t.0 refl)
rules_decided was key false t = inr (λ e. false≢true (t.1 e))

result_some : (bits i : ℕ) → IsSlot bits Pair i → result_of bits i ≢ 0
result_some bits i slot e = not_head bits Pair i slot (omega arith)

module _ (was : Still) (key : Key) where
  bits : ℕ
  bits = was.key.shape.bits

  low_level : (i level : ℕ) → IsSlot was.key.shape.bits Pair i → 3 < level → IsBlock was.key.shape.bits (words_of was) (square_rank level) i → words_of was i ≢ 0 → level ≤ 65
  low_level i level slot above block some =
      let t = was.good.good.blocks i slot some in
      let e : square_rank level ≡ suc t.0 = one_rank was.key.shape.bits (words_of was) (square_rank level) (suc t.0) i block t.2 (not_head was.key.shape.bits Pair i slot) in
      let less = t.1 in omega arith

  some_word : (rank i : ℕ) → i ≢ 0 → IsBlock was.key.shape.bits (words_of was) rank i → words_of was i ≢ 0
  some_word zero zero other b = absurd (other refl)
  some_word zero (suc i) other b = b.1
  some_word (suc rank) zero other b = absurd (other refl)
  some_word (suc rank) (suc i) other b = b.1

  tells : (i level : ℕ) (stays : Bool) → IsSlot was.key.shape.bits Pair i → KeepsAtRank was key i stays → 3 < level →
      IsBlock was.key.shape.bits (words_of was) (square_rank level) i → (IsTrue stays → KeepsResult was.key key level) × (KeepsResult was.key key level → IsTrue stays)
  tells i level stays slot k above block =
      let other = not_head was.key.shape.bits Pair i slot in
      let t = k.is level above other (low_level i level slot above block (some_word (square_rank level) i other block)) block in (t.0, t.1)

  keeps_or_not : (level : ℕ) → (was.key.rule ≡ key.rule) ⊎ (was.key.rule ≢ key.rule) → KeepsResult was.key key level ⊎ (¬ KeepsResult was.key key level)
  keeps_or_not level decided = ⊎_elim
      (λ e. ⊎_elim
      (λ one. inl (e, inl one))
      (λ two. ⊎_elim
      (λ less. inr (λ k. ⊎_elim (λ one. two one) (λ low. absurd (omega arith)) k.1))
      (λ most. inl (e, inr most))
      (cases_lt (min was.key.exponent key.exponent) (level - 2)))
      (same_or_other was.key.exponent key.exponent))
      (λ n. inr (λ k. n k.0))
      decided

  module _ (new : List ℕ) (done pair : ℕ) (h : IsThrough was key new done) (at : pair ≡ start was.key.shape.bits Pair + done) (slot : IsSlot was.key.shape.bits Pair pair) where
    -- a result stays
    pub through_kept : KeepsAtRank was key pair true → IsThrough was key new (done + 1)
    through_kept k = record {
      long = h.long;
      names = h.names;
      fits = h.fits;
      slots = h.slots;
      results = λ i level s below above block. ⊎_elim
          (λ e. inl ((tells i level true s (subst (λ n. KeepsAtRank was key n true) (sym e) k) above block).0 refl, h.rest i s (omega arith)))
          (λ n. h.results i level s (omega arith) above block)
          (same_or_other i pair);
      vacant = h.vacant;
      rest = λ i s far. h.rest i s (omega arith);
    }

    -- there is none
    pub through_none : (was.key.rule ≡ key.rule) ⊎ (was.key.rule ≢ key.rule) → slice_index new (result_of was.key.shape.bits pair) ≡ 0 → IsThrough was key new (done + 1)
    through_none decided none = record {
      long = h.long;
      names = h.names;
      fits = h.fits;
      slots = h.slots;
      results = λ i level s below above block. ⊎_elim
          (λ e. let here : slice_index new (result_of was.key.shape.bits i) ≡ 0 = ap (λ n. slice_index new (result_of was.key.shape.bits n)) e ∙ none in
          ⊎_elim (λ keeps. inl (keeps, h.rest i s (omega arith))) (λ not. inr (not, here)) (keeps_or_not level decided))
          (λ n. h.results i level s (omega arith) above block)
          (same_or_other i pair);
      vacant = h.vacant;
      rest = λ i s far. h.rest i s (omega arith);
    }

    -- a result goes
    pub through_gone : (later : List ℕ) → later ≡ slice_set new (result_of was.key.shape.bits pair) 0 → length later ≡ size was.key.shape.bits → KeepsAtRank was key pair false → IsThrough was key later (done + 1)
    through_gone later is size_is k =
        let long = h.long in
        let below = slot.below in
        let inside : result_of was.key.shape.bits pair < length new = omega arith in
        let here : slice_index later (result_of was.key.shape.bits pair) ≡ 0 = ap (λ xs. slice_index xs (result_of was.key.shape.bits pair)) is ∙ get_or-set_same new (result_of was.key.shape.bits pair) 0 0 inside in
        let other = λ (i : ℕ) (n : i ≢ result_of was.key.shape.bits pair). ap (λ xs. slice_index xs i) is ∙ get_or-set_other new (result_of was.key.shape.bits pair) i 0 0 n in
        record {
          long = size_is;
          names = other 0 (λ e. result_some was.key.shape.bits pair slot (sym e)) ∙ h.names;
          fits = λ i. ⊎_elim (λ e. subst (λ w. w < 2 ^ 64) (sym (ap (slice_index later) e ∙ here)) (omega arith)) (λ n. subst (λ w. w < 2 ^ 64) (sym (other i n)) (h.fits i)) (same_or_other i (result_of was.key.shape.bits pair));
          slots = λ kind i s. other i (not_result was.key.shape.bits kind i pair s slot) ∙ h.slots kind i s;
          results = λ i level s less above block. ⊎_elim
              (λ e. inr (
                (λ keeps. false≢true ((tells i level false s (subst (λ n. KeepsAtRank was key n false) (sym e) k) above block).1 keeps)),
                ap (λ n. slice_index later (result_of was.key.shape.bits n)) e ∙ here,
              ))
              (λ n.
              let same : slice_index later (result_of was.key.shape.bits i) ≡ slice_index new (result_of was.key.shape.bits i) = other (result_of was.key.shape.bits i) (λ e. n (omega arith)) in
              ⊎_elim (λ t. inl (t.0, same ∙ t.1)) (λ t. inr (t.0, same ∙ t.1)) (h.results i level s (omega arith) above block))
              (same_or_other i pair);
          vacant = λ i s z. ⊎_elim (λ e. ap (slice_index later) e ∙ here) (λ n. other (result_of was.key.shape.bits i) n ∙ h.vacant i s z) (same_or_other (result_of was.key.shape.bits i) (result_of was.key.shape.bits pair));
          rest = λ i s far. other (result_of was.key.shape.bits i) (λ e. let same : i ≡ pair = omega arith in omega arith) ∙ h.rest i s (omega arith);
        }

  -- under one rule and exponent all results stay
  -- the words with another head, before any result was gone through
  pub through_start : (new : List ℕ) (name : ℕ) → new ≡ slice_set was.words 0 name → name ≡ head key → name < 2 ^ 64 → IsThrough was key new 0
  through_start new name is names low =
      let items : List ℕ = was.words in
      let size_is = was.good.long in
      let inside : 0 < length items = omega arith in
      let other : (i : ℕ) → i ≢ 0 → slice_index new i ≡ words_of was i =
      λ i apart. ap (λ (ws : List ℕ). slice_index ws i) is ∙ get_or-set_other items 0 i name 0 apart in
      let first : slice_index new 0 ≡ name = ap (λ (ws : List ℕ). slice_index ws 0) is ∙ get_or-set_same items 0 name 0 inside in
      record {
        long = ap (λ (ws : List ℕ). length ws) is ∙ length_set items 0 name ∙ size_is;
        names = first ∙ names;
        fits = λ i. ⊎_elim
            (λ e. subst (λ n. n < 2 ^ 64) (sym (ap (slice_index new) e ∙ first)) low)
            (λ apart. subst (λ n. n < 2 ^ 64) (sym (other i apart)) (was.good.good.fits i))
            (same_or_other i 0);
        slots = λ kind i slot. other i (not_head was.key.shape.bits kind i slot);
        results = λ i level slot less above block. let from = slot.from in absurd (omega arith);
        vacant = λ i slot none. other (result_of was.key.shape.bits i) (result_some was.key.shape.bits i slot) ∙ none;
        rest = λ i slot from. other (result_of was.key.shape.bits i) (result_some was.key.shape.bits i slot);
      }

  pub through_same : (new : List ℕ) → was.key.rule ≡ key.rule → was.key.exponent ≡ key.exponent → key.shape ≡ was.key.shape → IsThrough was key new 0 → Reopens was.key key (words_of was) (slice_index new)
  through_same new rules exponents shape h = record {
    shape = shape;
    names = h.names;
    fits = h.fits;
    slots = h.slots;
    results = λ i level s above block. inl ((rules, inl exponents), h.rest i s (let from = s.from in omega arith));
    vacant = h.vacant;
  }

  pub through_all : (new : List ℕ) (done : ℕ) → 2 ^ was.key.shape.bits ≤ done → key.shape ≡ was.key.shape → IsThrough was key new done → Reopens was.key key (words_of was) (slice_index new)
  through_all new done many shape h = record {
    shape = shape;
    names = h.names;
    fits = h.fits;
    slots = h.slots;
    results = λ i level s above block. h.results i level s (let below = s.below in omega arith) above block;
    vacant = h.vacant;
  }

-- a table that begins with words that were reopened under this head
pub opens_from : (was now : Still) (rule : CountRule) (exponent : ℕ) (table : NodeTable) (desk : Desk) →
    IsReopened was (record { shape = was.key.shape; rule = rule; exponent = exponent }) now → StartsFrom now table desk → Opens was rule exponent table desk
opens_from was now rule exponent table desk is starts =
    let key : table.key ≡ record { shape = was.key.shape; rule = rule; exponent = exponent } = starts.key ∙ is.same_key in
    let reopens : Reopens was.key table.key (words_of was) (words_of now) = subst (λ (k : Key). Reopens was.key k (words_of was) (words_of now)) (sym key) is.reopens in
    record {
      of_table = starts.of_table;
      key = key;
      words = now.words;
      reopens = reopens;
      opening = every_reopening was.key table.key (words_of was) (words_of now) was.good.good reopens;
      begins = starts.begins;
      known = subst (λ (k : Key). KnowsAll k.shape.bits (words_of now) desk.seat.me.0.known) (sym starts.key) starts.known;
      no_expansions = starts.no_expansions;
    }
