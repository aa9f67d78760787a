-- What a desk knows, and what its book was told, are one.
use Rattle.std.proofs.Common.{◌≡◌, ℕ, ◌≤◌, ◌++◌, List, map, subst, ⊎_elim}
use Rattle.std.specs.Prelude.{Contains}
use Rattle.std.proofs.lemmas.List.Elements.{Contains-append_left, Contains-append_right, Contains-append_cases}
use Rattle.squares.specs.Facts.{Fact}
use Rattle.table_core.specs.declared.knowledge.KnownBlock.{KnownBlock}
use Rattle.table_core.specs.declared.knowledge.KnownResult.{KnownResult}
use Rattle.table_core.specs.declared.knowledge.Knowledge.{Knowledge}
use Rattle.table_core.specs.Knowledge.{Grows}
use Rattle.node_table.specs.Books.{facts_of, fact_of_word, fact_of_block, fact_of_result}
use Rattle.node_table.proofs.Mapped.{mapped_from, mapped_to}

-- a list of three lists has what one of them has
in_three : {X : Type 0} (P : X → Type 0) (one two three : List X) (x : X) → (Contains one x → P x) → (Contains two x → P x) → (Contains three x → P x) →
    Contains (one ++ (two ++ three)) x → P x
in_three P one two three x a b c h = ⊎_elim a (λ more. ⊎_elim b c (Contains-append_cases two three x more)) (Contains-append_cases one (two ++ three) x h)

same_entry : (a b : ℕ × ℕ) → fact_of_word a ≡ fact_of_word b → a ≡ b
same_entry a b e =
    let index : a.0 ≡ b.0 = cc in
    let word : a.1 ≡ b.1 = cc in
    λ i. (index i, word i)

same_block : (a b : KnownBlock) → fact_of_block a ≡ fact_of_block b → a ≡ b
same_block a b e =
    let rank : a.rank ≡ b.rank = cc in
    let number : a.number ≡ b.number = cc in
    let live : a.live ≡ b.live = cc in
    λ i. record { number = number i; rank = rank i; live = live i }

same_result : (a b : KnownResult) → fact_of_result a ≡ fact_of_result b → a ≡ b
same_result a b e =
    let level : a.level ≡ b.level = cc in
    let square : a.square ≡ b.square = cc in
    let future : a.future ≡ b.future = cc in
    λ i. record { level = level i; square = square i; future = future i }

module _ (known : Knowledge) where
  abbrev words : List Fact
  words = map fact_of_word known.words

  abbrev blocks : List Fact
  blocks = map fact_of_block known.blocks

  abbrev results : List Fact
  results = map fact_of_result known.results

  told_word : (entry : ℕ × ℕ) → Contains known.words entry → Contains (facts_of known) (fact_of_word entry)
  unfolding facts_of
  told_word entry h = Contains-append_left words (blocks ++ results) _ (mapped_to fact_of_word known.words entry h)

  told_block : (entry : KnownBlock) → Contains known.blocks entry → Contains (facts_of known) (fact_of_block entry)
  unfolding facts_of
  told_block entry h = Contains-append_right words (blocks ++ results) _ (Contains-append_left blocks results _ (mapped_to fact_of_block known.blocks entry h))

  told_result : (entry : KnownResult) → Contains known.results entry → Contains (facts_of known) (fact_of_result entry)
  unfolding facts_of
  told_result entry h = Contains-append_right words (blocks ++ results) _ (Contains-append_right blocks results _ (mapped_to fact_of_result known.results entry h))

  word_told : (entry : ℕ × ℕ) → Contains (facts_of known) (fact_of_word entry) → Contains known.words entry
  unfolding facts_of
  word_told entry = in_three (λ _. Contains known.words entry) words blocks results _
      (λ h. let t = mapped_from fact_of_word known.words _ h in subst (Contains known.words) (same_entry t.0 entry t.2) t.1)
      (λ h. let t = mapped_from fact_of_block known.blocks _ h in absurd cc)
      (λ h. let t = mapped_from fact_of_result known.results _ h in absurd cc)

  block_told : (block : KnownBlock) → Contains (facts_of known) (fact_of_block block) → Contains known.blocks block
  unfolding facts_of
  block_told block = in_three (λ _. Contains known.blocks block) words blocks results _
      (λ h. let t = mapped_from fact_of_word known.words _ h in absurd cc)
      (λ h. let t = mapped_from fact_of_block known.blocks _ h in subst (Contains known.blocks) (same_block t.0 block t.2) t.1)
      (λ h. let t = mapped_from fact_of_result known.results _ h in absurd cc)

  result_told : (result : KnownResult) → Contains (facts_of known) (fact_of_result result) → Contains known.results result
  unfolding facts_of
  result_told result = in_three (λ _. Contains known.results result) words blocks results _
      (λ h. let t = mapped_from fact_of_word known.words _ h in absurd cc)
      (λ h. let t = mapped_from fact_of_block known.blocks _ h in absurd cc)
      (λ h. let t = mapped_from fact_of_result known.results _ h in subst (Contains known.results) (same_result t.0 result t.2) t.1)

-- what was told is told while a desk learns
pub facts_grow : (old new : Knowledge) → Grows old new → (fact : Fact) → Contains (facts_of old) fact → Contains (facts_of new) fact
unfolding facts_of
facts_grow old new grows fact = in_three (Contains (facts_of new)) (words old) (blocks old) (results old) fact
    (λ h. let t = mapped_from fact_of_word old.words fact h in subst (Contains (facts_of new)) t.2 (told_word new t.0 (grows.words t.0 t.1)))
    (λ h. let t = mapped_from fact_of_block old.blocks fact h in subst (Contains (facts_of new)) t.2 (told_block new t.0 (grows.blocks t.0 t.1)))
    (λ h. let t = mapped_from fact_of_result old.results fact h in subst (Contains (facts_of new)) t.2 (told_result new t.0 (grows.results t.0 t.1)))

-- where all that was told is told, all that was known still is
pub told_grows : (old new : Knowledge) → old.learned ≤ new.learned → ((fact : Fact) → Contains (facts_of old) fact → Contains (facts_of new) fact) → Grows old new
told_grows old new learned facts = record {
  words = λ entry h. word_told new entry (facts _ (told_word old entry h));
  blocks = λ block h. block_told new block (facts _ (told_block old block h));
  results = λ result h. result_told new result (facts _ (told_result old result h));
  learned = learned;
}
