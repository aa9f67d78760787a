-- The text of a leaf from its bits, eight at a time.
use Rattle.std.proofs.Common.{◌≡◌, ℕ, zero, suc, ◌+◌, ◌*◌, ◌/◌, ◌%◌, ◌^◌, ◌<◌, ◌≤◌, Bool, true, false, not, cond, List, [], ◌∷◌, ◌++◌, length, map, flat_map, codes, refl, sym, ◌∙◌, ap, arith, ◌≢◌, append_assoc, append-nil, length-append}
use Rattle.std.specs.Prelude.{◌==◌}
use Rattle.std.specs.Int.{bit_at}
use Rattle.std.proofs.Math.Nat.{pow-suc}
use Rattle.std.proofs.lemmas.Bool.{false≢true}
use Rattle.std.proofs.lemmas.Bool.Decides.{Decides-eqb}
use Rattle.std.proofs.lemmas.Nat.Bits.{bit_at_lowest, bit_at-suc, bit_at_cat_low}
use Rattle.plane.specs.Square.{bits_plane}
use Rattle.squares.proofs.NumberMaps.{by_cases}
use Rattle.pattern_writers.specs.LeafText.{bits_text, cell_byte, eight, is_nothing, leaf_text, low_bits, onto_rest, row_text, without_end}

-- ---- up to the last live cell

onto_some : {A : Type 0} (test : A → Bool) (first : A) (rest : List A) → test first ≡ false → onto_rest test first rest ≡ first ∷ rest
onto_some test first [] is = ap (λ t. cond t [] (first ∷ [])) is
onto_some test first (next ∷ rest) is = refl

onto_more : {A : Type 0} (test : A → Bool) (first next : A) (others rest : List A) → rest ≡ next ∷ others → onto_rest test first rest ≡ first ∷ rest
onto_more test first next others rest is = ap (onto_rest test first) is ∙ ap (λ l. first ∷ l) (sym is)

even_none : (n : ℕ) → (n % 2 == 1) ≡ false → n / 2 ≡ 0 → n ≡ 0
even_none n even none =
    let differs : n % 2 ≢ 1 = λ odd. false≢true (sym even ∙ (Decides-eqb (n % 2) 1).1 odd) in omega arith

half_low : (count n : ℕ) → n < 2 ^ suc count → n / 2 < 2 ^ count
half_low count n low = let e = pow-suc 2 count in omega (arith, e)

-- bits of a number that is not 0 don't end at once
some_bits : (count n : ℕ) → (n ≡ 0 → ⊥) → n < 2 ^ count → (first : Bool) × (rest : List Bool) × (without_end not (low_bits count n) ≡ first ∷ rest)
unfolding low_bits without_end
some_bits zero n some low = absurd (some (omega arith))
some_bits (suc count) n some low =
    elim (n % 2 == 1) as (λ t. (n % 2 == 1) ≡ t → (first : Bool) × (rest : List Bool) × (onto_rest not t (without_end not (low_bits count (n / 2))) ≡ first ∷ rest)) [
      | true ↦ λ _. (true, without_end not (low_bits count (n / 2)), onto_some not true _ refl)
      | false ↦ λ even.
          let later = some_bits count (n / 2) (λ none. some (even_none n even none)) (half_low count n low) in
          (false, later.0 ∷ later.1, ap (onto_rest not false) later.2)
    ] refl

-- the first of some bits, and the others
pub first_bit : (count n : ℕ) → (n ≡ 0 → ⊥) → n < 2 ^ suc count → bits_text (suc count) n ≡ cell_byte (n % 2 == 1) ∷ bits_text count (n / 2)
unfolding low_bits without_end
first_bit count n some low =
    let rest : List Bool = without_end not (low_bits count (n / 2)) in
    elim (n % 2 == 1) as (λ t. (n % 2 == 1) ≡ t → map cell_byte (onto_rest not t rest) ≡ cell_byte t ∷ map cell_byte rest) [
      | true ↦ λ _. ap (map cell_byte) (onto_some not true rest refl)
      | false ↦ λ even.
          let later = some_bits count (n / 2) (λ none. some (even_none n even none)) (half_low count n low) in
          ap (map cell_byte) (onto_more not false later.0 later.1 rest later.2)
    ] refl

none_live : (count : ℕ) → without_end not (low_bits count 0) ≡ []
unfolding low_bits without_end
none_live zero = refl
none_live (suc count) = ap (onto_rest not false) (none_live count)

-- no bit of 0 is live
pub no_bits : (count : ℕ) → bits_text count 0 ≡ []
no_bits count = ap (map cell_byte) (none_live count)

-- ---- rows

-- the texts of so many rows of 8 bits
pub row_texts : ℕ → ℕ → List (List ℕ)
row_texts zero word = []
row_texts (suc more) word = bits_text 8 (word % 256) ∷ row_texts more (word / 256)

abbrev pub ended : List ℕ → List ℕ
ended row = row ++ codes "$"

-- those up to the last with a live cell, each with its end
abbrev pub rows_text : ℕ → ℕ → List ℕ
rows_text count word = flat_map ended (without_end is_nothing (row_texts count word))

live_row : (row : ℕ) → (row ≡ 0 → ⊥) → row < 256 → is_nothing (bits_text 8 row) ≡ false
live_row row some low = ap is_nothing (first_bit 7 row some low)

row_low : (count word : ℕ) → word < 256 ^ suc count → word / 256 < 256 ^ count
row_low count word low = let e = pow-suc 256 count in omega (arith, e)

none_of_row : (word : ℕ) → word % 256 ≡ 0 → word / 256 ≡ 0 → word ≡ 0
none_of_row word e f = omega arith

some_rows : (count word : ℕ) → (word ≡ 0 → ⊥) → word < 256 ^ count → (first : List ℕ) × (rest : List (List ℕ)) × (without_end is_nothing (row_texts count word) ≡ first ∷ rest)
unfolding row_texts without_end
some_rows zero word some low = absurd (some (omega arith))
some_rows (suc count) word some low =
    by_cases (word % 256 == 0)
    (λ none.
    let none_here = (Decides-eqb (word % 256) 0).0 none in
    let later = some_rows count (word / 256) (λ no_later. some (none_of_row word none_here no_later)) (row_low count word low) in
    (bits_text 8 (word % 256), later.0 ∷ later.1, ap (onto_rest is_nothing (bits_text 8 (word % 256))) later.2))
    (λ live.
    let live_here : word % 256 ≡ 0 → ⊥ = λ none. false≢true (sym live ∙ (Decides-eqb (word % 256) 0).1 none) in
    (bits_text 8 (word % 256), without_end is_nothing (row_texts count (word / 256)), onto_some is_nothing (bits_text 8 (word % 256)) _ (live_row (word % 256) live_here (omega arith))))

-- the first of some rows, and the others
pub first_row : (count word : ℕ) → (word ≡ 0 → ⊥) → word < 256 ^ suc count → rows_text (suc count) word ≡ ended (bits_text 8 (word % 256)) ++ rows_text count (word / 256)
unfolding row_texts without_end
first_row count word some low =
    let row : List ℕ = bits_text 8 (word % 256) in
    let rest : List (List ℕ) = without_end is_nothing (row_texts count (word / 256)) in
    ap (flat_map ended)
    (by_cases (word % 256 == 0)
    (λ none.
    let none_here = (Decides-eqb (word % 256) 0).0 none in
    let later = some_rows count (word / 256) (λ no_later. some (none_of_row word none_here no_later)) (row_low count word low) in
    onto_more is_nothing row later.0 later.1 rest later.2)
    (λ live.
    let live_here : word % 256 ≡ 0 → ⊥ = λ none. false≢true (sym live ∙ (Decides-eqb (word % 256) 0).1 none) in
    onto_some is_nothing row rest (live_row (word % 256) live_here (omega arith))))

empty_rows : (count : ℕ) → without_end is_nothing (row_texts count 0) ≡ []
unfolding row_texts without_end
empty_rows zero = refl
empty_rows (suc count) = ap (λ row. onto_rest is_nothing row (without_end is_nothing (row_texts count 0))) (no_bits 8) ∙ ap (onto_rest is_nothing []) (empty_rows count)

-- no row of 0 has a live cell
pub no_rows : (count : ℕ) → rows_text count 0 ≡ []
no_rows count = ap (flat_map ended) (empty_rows count)

-- ---- the rows of a leaf

-- so many bits from a place on
bits_at : ℕ → ℕ → ℕ → List Bool
bits_at zero place word = []
bits_at (suc more) place word = (bit_at word place == 1) ∷ bits_at more (suc place) word

bits_further : (count place word : ℕ) → bits_at count (suc place) word ≡ bits_at count place (word / 2)
unfolding bits_at
bits_further zero place word = refl
bits_further (suc more) place word =
    ap (λ b. (b == 1) ∷ bits_at more (suc (suc place)) word) (bit_at-suc word place) ∙ ap (λ l. (bit_at (word / 2) place == 1) ∷ l) (bits_further more (suc place) word)

low_are : (count word : ℕ) → low_bits count word ≡ bits_at count 0 word
unfolding low_bits bits_at
low_are zero word = refl
low_are (suc more) word =
    ap (λ b. (b == 1) ∷ low_bits more (word / 2)) (sym (bit_at_lowest word)) ∙ ap (λ l. (bit_at word 0 == 1) ∷ l) (low_are more (word / 2) ∙ sym (bits_further more 0 word))

eighth : (word : ℕ) → word / 2 / 2 / 2 / 2 / 2 / 2 / 2 / 2 ≡ word / 256
eighth word =
    let a : word / 2 / 2 / 2 / 2 ≡ word / 16 = omega arith in
    let b : word / 16 / 2 / 2 / 2 / 2 ≡ word / 256 = omega arith in
    ap (λ n. n / 2 / 2 / 2 / 2) a ∙ b

row_further : (count place word : ℕ) → bits_at count (place + 8) word ≡ bits_at count place (word / 256)
row_further count place word =
    let e : place + 8 ≡ suc (suc (suc (suc (suc (suc (suc (suc place))))))) = omega arith in
    ap (λ n. bits_at count n word) e
    ∙ bits_further count _ word ∙ bits_further count _ (word / 2) ∙ bits_further count _ (word / 2 / 2) ∙ bits_further count _ (word / 2 / 2 / 2)
    ∙ bits_further count _ (word / 2 / 2 / 2 / 2) ∙ bits_further count _ (word / 2 / 2 / 2 / 2 / 2) ∙ bits_further count _ (word / 2 / 2 / 2 / 2 / 2 / 2)
    ∙ bits_further count place (word / 2 / 2 / 2 / 2 / 2 / 2 / 2)
    ∙ ap (bits_at count place) (eighth word)

bit_low : (word place : ℕ) → place < 8 → bit_at (word % 256) place ≡ bit_at word place
bit_low word place low =
    let e : word / 256 * 2 ^ 8 + word % 256 ≡ word = omega arith in
    sym (bit_at_cat_low (word / 256) 8 (word % 256) place low) ∙ ap (λ n. bit_at n place) e

bits_low : (count place word : ℕ) → place + count ≤ 8 → bits_at count place (word % 256) ≡ bits_at count place word
unfolding bits_at
bits_low zero place word low = refl
bits_low (suc more) place word low =
    ap (λ b. (b == 1) ∷ bits_at more (suc place) (word % 256)) (bit_low word place (omega arith)) ∙ ap (λ l. (bit_at word place == 1) ∷ l) (bits_low more (suc place) word (omega arith))

abbrev row_at : ℕ → ℕ → List ℕ
row_at place word = map cell_byte (without_end not (bits_at 8 place word))

rows_at : ℕ → ℕ → ℕ → List (List ℕ)
rows_at zero place word = []
rows_at (suc more) place word = row_at place word ∷ rows_at more (place + 8) word

rows_further : (count place word : ℕ) → rows_at count (place + 8) word ≡ rows_at count place (word / 256)
unfolding rows_at
rows_further zero place word = refl
rows_further (suc more) place word =
    ap (λ b. map cell_byte (without_end not b) ∷ rows_at more (place + 8 + 8) word) (row_further 8 place word)
    ∙ ap (λ l. row_at place (word / 256) ∷ l) (rows_further more (place + 8) word)

rows_are : (count word : ℕ) → row_texts count word ≡ rows_at count 0 word
unfolding row_texts rows_at
rows_are zero word = refl
rows_are (suc more) word =
    ap (λ b. map cell_byte (without_end not b) ∷ row_texts more (word / 256)) (low_are 8 (word % 256) ∙ bits_low 8 0 word (omega arith))
    ∙ ap (λ l. row_at 0 word ∷ l) (rows_are more (word / 256) ∙ sym (rows_further more 0 word))

-- the eight rows are those of the leaf
leaf_rows : (word : ℕ) → rows_at 8 0 word ≡ map (row_text (bits_plane word)) eight
unfolding rows_at bits_at
leaf_rows word = refl

-- the text of the rows of bits is that of the leaf
pub leaf_of_bits : (word : ℕ) → rows_text 8 word ≡ leaf_text (bits_plane word)
leaf_of_bits word = ap (λ l. flat_map ended (without_end is_nothing l)) (rows_are 8 word ∙ leaf_rows word)

-- ---- steps of the loops

-- one more cell of a row
pub cell_more : (count cells row : ℕ) (old new : List ℕ) → (cells ≡ 0 → ⊥) → cells < 2 ^ count → length old + count ≤ 8 → old ++ bits_text count cells ≡ bits_text 8 row →
    new ≡ old ++ cell_byte (cells % 2 == 1) ∷ [] → (next : ℕ) × (cells / 2 < 2 ^ next) × (length new + next ≤ 8) × (new ++ bits_text next (cells / 2) ≡ bits_text 8 row)
cell_more zero cells row old new some low short same grown = absurd (some (omega arith))
cell_more (suc count) cells row old new some low short same grown =
    let size = ap length grown ∙ length-append old (cell_byte (cells % 2 == 1) ∷ []) in (
      count,
      half_low count cells low,
      omega (arith, size),
      ap (λ l. l ++ bits_text count (cells / 2)) grown ∙ append_assoc old (cell_byte (cells % 2 == 1) ∷ []) (bits_text count (cells / 2)) ∙ ap (λ l. old ++ l) (sym (first_bit count cells some low)) ∙ same,
    )

-- one more row of a leaf
pub row_more : (count rows word : ℕ) (old new : List ℕ) → (rows ≡ 0 → ⊥) → rows < 256 ^ count → length old + 9 * count ≤ 72 → old ++ rows_text count rows ≡ rows_text 8 word →
    length (bits_text 8 (rows % 256)) ≤ 8 → new ≡ old ++ ended (bits_text 8 (rows % 256)) → (next : ℕ) × (rows / 256 < 256 ^ next) × (length new + 9 * next ≤ 72) × (new ++ rows_text next (rows / 256) ≡ rows_text 8 word)
row_more zero rows word old new some low short same narrow grown = absurd (some (omega arith))
row_more (suc count) rows word old new some low short same narrow grown =
    let size = ap length grown ∙ length-append old (ended (bits_text 8 (rows % 256))) in
    let end = length-append (bits_text 8 (rows % 256)) (codes "$") in (
      count,
      row_low count rows low,
      omega (arith, size, end),
      ap (λ l. l ++ rows_text count (rows / 256)) grown ∙ append_assoc old (ended (bits_text 8 (rows % 256))) (rows_text count (rows / 256)) ∙ ap (λ l. old ++ l) (sym (first_row count rows some low)) ∙ same,
    )

-- the last cell, and the last row
pub cells_end : (count row : ℕ) (text : List ℕ) → text ++ bits_text count 0 ≡ bits_text 8 row → text ≡ bits_text 8 row
cells_end count row text same = sym (append-nil text) ∙ ap (λ l. text ++ l) (sym (no_bits count)) ∙ same

pub rows_end : (count word : ℕ) (text : List ℕ) → text ++ rows_text count 0 ≡ rows_text 8 word → text ≡ leaf_text (bits_plane word)
rows_end count word text same = sym (append-nil text) ∙ ap (λ l. text ++ l) (sym (no_rows count)) ∙ same ∙ leaf_of_bits word
