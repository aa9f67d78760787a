-- Results, read and told block by block.
use Rattle.std.proofs.Common.{◌≡◌, ◌≢◌, ℕ, ◌+◌, ◌^◌, ◌<◌, ◌⊎◌, List, length, sym, ◌∙◌, ap, subst, arith, refl, inl, inr, ⊎_elim}
use Rattle.std.specs.Prelude.{slice_index, slice_set}
use Rattle.std.proofs.lemmas.List.{get_or-set_same, get_or-set_other}
use Rattle.table_core.specs.declared.key.Key.{Key}
use Rattle.table_core.specs.declared.shape.Kind.TheVariants.{Pair}
use Rattle.table_core.specs.Layout.{IsSlot, start, result_of}
use Rattle.table_core.specs.Good.{TellsFuture, IsFutureOf, IsGood}
use Rattle.table_core.proofs.Comparisons.{same_or_other}
use Rattle.node_sweep.specs.Table.{Table, table_by, word_beside}
use Rattle.node_sweep.specs.Keeping.{AreResultWords, IsCopiedResult, IsKeeping, IsResultWord}
use Rattle.node_sweep.proofs.Futures.{gone_on, told_on}

-- there is no word where the pair has no copy or no result, or that has none
pub no_copy_word : (old : Table) (copies : List ℕ) (pair : ℕ) → slice_index copies pair ≡ 0 → IsResultWord old copies pair 0
no_copy_word old copies pair z = inl (refl, λ some number c. absurd (some z))

pub no_result_word : (old : Table) (copies : List ℕ) (pair : ℕ) → word_beside old pair ≡ 0 → IsResultWord old copies pair 0
no_result_word old copies pair z = inl (refl, λ some number c. let told = c.told in absurd (omega arith))

pub gone_word : (old : Table) (copies : List ℕ) (pair number : ℕ) → word_beside old pair ≡ 2 ^ 32 + number → number ≢ 0 → slice_index copies number ≡ 0 → IsResultWord old copies pair 0
gone_word old copies pair number told some z = inl (
  refl,
  λ has other c.
      let also = c.told in let e : other ≡ number = omega arith in
      ⊎_elim (λ t. some (sym e ∙ t)) (λ t. t (ap (slice_index copies) e ∙ z)) c.there,
)

pub told_word : (old : Table) (copies : List ℕ) (pair number word : ℕ) → slice_index copies pair ≢ 0 → word_beside old pair ≡ 2 ^ 32 + number → (number ≡ 0) ⊎ (slice_index copies number ≢ 0) →
    word ≡ 2 ^ 32 + slice_index copies number → IsResultWord old copies pair word
told_word old copies pair number word some told there e = inr (some, (number, (record { told = told; there = there }, e)))

-- one more word
pub words_on : (old : Table) (copies told : List ℕ) (from i pair word : ℕ) → AreResultWords old copies told from i → i < length told → pair ≡ start old.bits Pair + (from + i) →
    IsResultWord old copies pair word → AreResultWords old copies (slice_set told i word) from (i + 1)
words_on old copies told from i pair word h inside at is = record {
  each = λ k less. ⊎_elim
      (λ e. subst (λ m. IsResultWord old copies (start old.bits Pair + (from + m)) (slice_index (slice_set told i word) m)) (sym e)
      (subst (IsResultWord old copies (start old.bits Pair + (from + i))) (sym (get_or-set_same told i word 0 inside)) (subst (λ n. IsResultWord old copies n word) at is)))
      (λ apart. subst (IsResultWord old copies (start old.bits Pair + (from + k))) (sym (get_or-set_other told i k word 0 apart)) (h.each k (omega arith)))
      (same_or_other k i);
}

-- a word that isn't 0 is that of a pair with a copy
pub told_copied : (old : Table) (copies : List ℕ) (pair word : ℕ) → IsResultWord old copies pair word → word ≢ 0 → slice_index copies pair ≢ 0
told_copied old copies pair word is some = ⊎_elim (λ t. absurd (some t.0)) (λ t. t.0) is

module _ (from to : Key) (old : List ℕ) (wanted : ℕ → Type 0) (copies new : List ℕ) (good : IsGood from (slice_index old)) (same_rule : to.rule ≡ from.rule) (same_exponent : to.exponent ≡ from.exponent)
    (done : ℕ) (h : IsKeeping (table_by from old) to wanted copies new done) (pair word : ℕ) (at : pair ≡ start from.shape.bits Pair + done) (is : IsResultWord (table_by from old) copies pair word) where
  pub nothing_told : word ≡ 0 → IsKeeping (table_by from old) to wanted copies new (done + 1)
  nothing_told z = ⊎_elim
      (λ t. gone_on from to old wanted copies new good same_rule same_exponent done h pair at t.1)
      (λ t. let e = t.1.1.1 in absurd (omega arith))
      is

  pub word_told : (later : List ℕ) → IsSlot from.shape.bits Pair pair → word ≢ 0 → later ≡ slice_set new (result_of to.shape.bits (slice_index copies pair)) word → IsKeeping (table_by from old) to wanted copies later (done + 1)
  word_told later slot some set = ⊎_elim
      (λ t. absurd (some t.0))
      (λ t.
      let number = t.1.0 in
      let r : IsCopiedResult (table_by from old) copies pair number = t.1.1.0 in
      let f : TellsFuture from (slice_index old) pair = good.results pair slot (λ z. let told = r.told in omega arith) in
      let one = f.1 in
      let two = r.told in
      let same : f.0 ≡ number = omega arith in
      told_on from to old wanted copies new good same_rule same_exponent done h pair number later slot at t.0 (subst (IsFutureOf from (slice_index old) pair) same f.2) r.told r.there
      (set ∙ ap (slice_set new (result_of to.shape.bits (slice_index copies pair))) t.1.1.1))
      is
