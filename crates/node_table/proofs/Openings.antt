-- Opening a table, and closing it.
use Rattle.std.proofs.Common.{◌≡◌, ℕ, zero, suc, ◌+◌, ◌<◌, List, [], ◌∷◌, length, sym, ◌∙◌, ap, ◌≢◌, subst, arith, refl, inl, ⊎_elim}
use Rattle.std.specs.Prelude.{◌↔◌, Any, slice_index, slice_index_or, slice_set}
use Rattle.std.proofs.lemmas.List.{same_lists, get_or-set_same, get_or-set_other}
use Rattle.table_core.proofs.Comparisons.{same_or_other}
use mathlib.Core.Option as core
use lib.ListN.{get_elem?}
use Rattle.atomic_table.specs.Table.{Final, Seen, opening}
use Rattle.rule_text.specs.CountRule.{IsRule}
use Rattle.table_core.specs.Good.{AreGoodWords}
use Rattle.table_core.specs.Layout.{size}
use Rattle.table_core.specs.Knowledge.{IsTrueOf, KnowsWord}
use Rattle.table_core.proofs.Knowing.{seen_true}
use Rattle.table_core.proofs.Learned.{known_word}
use Rattle.table_core.specs.Laws.{KnowsAll}
use Rattle.node_table.specs.declared.still.Still.{Still}
use Rattle.node_table.specs.declared.desk_view.DeskView.{DeskView}
use Rattle.node_table.specs.Books.{IsSound, IsTrueOfGoodWords}
use Rattle.node_table.specs.Rule.{IsSoundState, IsTrueView, opened}
use Rattle.node_table.specs.Stills.{words_of}
use Rattle.table_core.proofs.Everything.{all_of, all_known}
use Rattle.node_table.proofs.Steps.{all_at, sound_by}

all_true : (still : Still) → IsTrueOfGoodWords still.key (all_of still.key still.words still.good)
all_true still = record { words = still.words; good = still.good; true_of = (all_known still.key still.words still.good).true_of }

pub opened_sound : (still : Still) → IsRule still.key.rule → IsSound (opened still)
opened_sound still rule = sound_by still.key (opened still) rule (all_true still) refl

any_default : {X : Type 0} (xs : List X) (k : ℕ) (d e : X) → k < length xs → slice_index_or xs k d ≡ slice_index_or xs k e
any_default [] k d e less = absurd (omega arith)
any_default (x ∷ xs) zero d e less = refl
any_default (x ∷ xs) (suc k) d e less = any_default xs k d e (omega arith)

-- words that were copied one by one
pub copied : (xs ys : List ℕ) (n : ℕ) → length xs ≡ n → length ys ≡ n → ((i : ℕ) → i < n → slice_index xs i ≡ slice_index ys i) → xs ≡ ys
copied xs ys n long also each = same_lists xs ys (long ∙ sym also)
    (λ k d less. any_default xs k d 0 less ∙ each k (omega arith) ∙ any_default ys k 0 d (omega arith))

pub get_is : (xs : List ℕ) (i n : ℕ) → get_elem? xs i ≡ core.some n → slice_index xs i ≡ n
get_is [] i n e = let no : ⊥ = cc in absurd no
get_is (x ∷ xs) zero n e = let same : x ≡ n = cc in same
get_is (x ∷ xs) (suc i) n e = get_is xs i n e

-- the words at the end are good, and what the closing desk knew is true of them
module _ {S : Type 0} (still : Still) (id : ℕ) (view : DeskView) (words : List ℕ) (slots : List S) (final : Final (Seen (IsSoundState {S = S} still) id view) words slots) where
  pub closed_good : AreGoodWords still.key words
  closed_good = subst (AreGoodWords still.key) final.2 final.1.0.words

  pub closed_true : IsTrueOf still.key.shape.bits (slice_index words) view.known
  closed_true = subst (λ (ws : List ℕ). IsTrueOf still.key.shape.bits (slice_index ws) view.known) final.2
      (all_at (IsTrueView still.key final.0.words) final.0.views id view final.1.0.views final.1.1).known

pub copied_on : (xs ys : List ℕ) (n v : ℕ) → n < length xs → ((i : ℕ) → i < n → slice_index xs i ≡ slice_index ys i) → slice_index ys n ≡ v →
    (i : ℕ) → i < n + 1 → slice_index (slice_set xs n v) i ≡ slice_index ys i
copied_on xs ys n v inside each is i less = ⊎_elim
    (λ e. ap (slice_index (slice_set xs n v)) e ∙ get_or-set_same xs n v 0 inside ∙ sym is ∙ ap (slice_index ys) (sym e))
    (λ other. get_or-set_other xs n i v 0 other ∙ each i (omega arith))
    (same_or_other i n)

index_below : (xs : List ℕ) (i n : ℕ) → length xs ≡ n → slice_index xs i ≢ 0 → i < n
index_below [] i n e some = absurd (some refl)
index_below (x ∷ xs) zero n e some = omega arith
index_below (x ∷ xs) (suc i) n e some = let less = index_below xs i (length xs) refl some in omega arith

only : {X : Type 0} (P : X → Type 0) (x : X) → Any P (x ∷ []) → P x
only P x t = go t.0 t.1 t.2 t.3 t.4
  where
    go : (k : ℕ) (y : _) → k < length (x ∷ []) → slice_index_or (x ∷ []) k y ≡ y → P y → P x
    go zero y less e p = subst P (sym e) p
    go (suc k) y less e p = absurd (omega arith)

-- the rule holds of the words of a table that is opened
pub opening_holds : {S : Type 0} (still : Still) (words : List ℕ) → words ≡ still.words → IsSoundState {S = S} still (opening words [] (opened still))
opening_holds {S} still words e = subst (λ (ws : List ℕ). IsSoundState {S = S} still (opening ws [] (opened still))) (sym e)
    (record {
      words = still.good;
      views = (record { tied = refl; known = (all_known still.key still.words still.good).true_of }, tt);
      known = λ i some. (0, opened still, omega arith, refl, inl ((all_known still.key still.words still.good).seen i (index_below still.words i (size still.key.shape.bits) still.good.long some) some));
    })

-- where the first desk is the only one, no other words stand there
no_other_words : {S : Type 0} (still : Still) (begun : List ℕ) → IsSoundState {S = S} still (opening begun [] (opened still)) → begun ≡ still.words
no_other_words still begun h =
    let all : KnowsAll still.key.shape.bits (words_of still) (all_of still.key still.words still.good) = all_known still.key still.words still.good in
    let of_begun : IsTrueOf still.key.shape.bits (slice_index begun) (all_of still.key still.words still.good) = h.views.0.known in
    copied begun still.words (size still.key.shape.bits) h.words.long still.good.long (λ i less. ⊎_elim
    (λ none. ⊎_elim
    (λ also. none ∙ sym also)
    (λ some. (seen_true still.key.shape.bits (slice_index begun) (all_of still.key still.words still.good) i (words_of still i) of_begun (all.seen i less some)).0)
    (same_or_other (words_of still i) 0))
    (λ some. let t = h.known i some in sym (known_word still.key.shape.bits (words_of still) (all_of still.key still.words still.good) i (slice_index begun i) all.true_of (only (λ view. KnowsWord still.key.shape.bits view.known i (slice_index begun i)) (opened still) t)))
    (same_or_other (slice_index begun i) 0))

pub begins_with : {S : Type 0} (still : Still) (begun : List ℕ) → IsSoundState {S = S} still (opening begun [] (opened still)) ↔ (begun ≡ still.words)
begins_with still begun = (no_other_words still begun, opening_holds still begun)
