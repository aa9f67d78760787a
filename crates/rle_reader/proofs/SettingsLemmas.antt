-- The words of a line, one after the other.
use Rattle.std.proofs.Common.{◌≡◌, ℕ, Bool, true, false, cond, ◌&&◌, ◌||◌, List, [], ◌∷◌, map, Option, None, Some, Result, Ok, Err, refl, ap, sym, ◌∙◌, fold, arith, ℤ, pos, negsuc, min, take, drop, length, ◌<◌, ◌+◌, ◌-◌, nat_le}
use Rattle.std.proofs.lemmas.List.{take_rest}
use Rattle.std.specs.List.{filter_map, slice_split, list_any, position, position_or_len, before_first, after_first, onto_first}
use Rattle.std.specs.Option.{option_map}
use Rattle.std.specs.Result.{result_ok, result_err}
use Rattle.plane.specs.declared.refusal.Refusal.{Refusal}
use Rattle.rle_reader.specs.Settings.{after_readings, after_word, lower, unless_refused}
use Rattle.rle_reader.specs.Words.{cell_at, generation_at, is_coordinate, position_of, word_of, words}
use Rattle.text_lines.specs.Bytes.{is_byte, is_blank}
use Rattle.rle_reader.specs.Numbers.{clamped, integer_of}
use Rattle.text_lines.specs.Numbers.{capped, number_of}
use Rattle.plane.specs.declared.refusal.Refusal.TheVariants.{OutOfRange, BadGen, BadHeader}
use Rattle.plane.specs.declared.cell.Cell.{Cell}
use Rattle.std.proofs.lemmas.Bool.Decides.{nat_tests}
use Rattle.std.proofs.lemmas.Int.{ints}
use Rattle.std.proofs.lemmas.List.Splits.{slice_split_first}
use Rattle.rle_reader.proofs.SplitLemmas.{list_any-position, position-none, position-some, after_first-none}
use Rattle.rle_reader.specs.declared.settings.Settings.{Settings}
use Rattle.rle_reader.specs.declared.settings.Word.{Word}

-- the settings after these readings too, where this is the lowest refusal so far
unfoldable pub reading_on : Settings → Option Refusal → List (Result Word Refusal) → Result Settings Refusal
reading_on settings lowest_refusal readings =
    unless_refused (fold lower lowest_refusal (filter_map result_err readings)) (fold after_word settings (filter_map result_ok readings))

pub reading_on-start : (settings : Settings) (readings : List (Result Word Refusal)) → reading_on settings None readings ≡ after_readings settings readings
unfolding reading_on after_readings
reading_on-start settings readings = refl

pub reading_on-ok : (settings : Settings) (lowest_refusal : Option Refusal) (word : Word) (readings : List (Result Word Refusal)) → reading_on settings lowest_refusal (Ok word ∷ readings) ≡ reading_on (after_word settings word) lowest_refusal readings
unfolding reading_on
reading_on-ok settings lowest_refusal word readings = refl

pub reading_on-err : (settings : Settings) (lowest_refusal : Option Refusal) (refusal : Refusal) (readings : List (Result Word Refusal)) → reading_on settings lowest_refusal (Err refusal ∷ readings) ≡ reading_on settings (lower lowest_refusal refusal) readings
unfolding reading_on
reading_on-err settings lowest_refusal refusal readings = refl

pub reading_on-end : (settings : Settings) (lowest_refusal : Option Refusal) → reading_on settings lowest_refusal [] ≡ unless_refused lowest_refusal settings
unfolding reading_on
reading_on-end settings lowest_refusal = refl

onto_only : (first : ℕ) (rest : List ℕ) (parts : List (List ℕ)) → parts ≡ rest ∷ [] → onto_first first parts ≡ (first ∷ rest) ∷ []
onto_only first rest parts is = ap (onto_first first) is

split_none_step : (b any : Bool) (first : ℕ) (rest : List ℕ) (parts : List (List ℕ)) → (b || any) ≡ false → (any ≡ false → parts ≡ rest ∷ []) → cond b ([] ∷ parts) (onto_first first parts) ≡ (first ∷ rest) ∷ []
split_none_step true any first rest parts none is = cc
split_none_step false any first rest parts none is = onto_only first rest parts (is none)

-- where none passes, the text is the one part
pub slice_split-none : (test : ℕ → Bool) (text : List ℕ) → list_any test text ≡ false → slice_split test text ≡ text ∷ []
slice_split-none test [] none = refl
slice_split-none test (first ∷ rest) none =
    split_none_step (test first) (list_any test rest) first rest (slice_split test rest) none (slice_split-none test rest)

-- the first word, and the words after it
pub words-some : (text : List ℕ) (at : ℕ) → position is_blank text ≡ Some at → words text ≡ take at text ∷ words (take (length text - (at + 1)) (drop (at + 1) text))
words-some text at found =
    let h = position-some is_blank text at found in
    let below : position_or_len is_blank text < length text = grind (arith, nat_tests, list_any-position is_blank text, h.0) in
    slice_split_first is_blank text 0 below
    ∙ ap (λ n. take n text ∷ slice_split is_blank (drop (n + 1) text)) h.1
    ∙ ap (λ t. take at text ∷ words t) (sym (take_rest text (at + 1)))

pub words-none : (text : List ℕ) → position is_blank text ≡ None → words text ≡ text ∷ []
words-none text none = slice_split-none is_blank text (position-none is_blank text none)

clamped_pos : (number : ℕ) → (is_coordinate (pos (min number 9223372036854775807)) ≡ is_coordinate (pos number)) × (is_coordinate (pos number) ≡ true → pos (min number 9223372036854775807) ≡ pos number)
clamped_pos number = (grind (arith, ints, nat_tests), λ h. ap pos (grind (arith, ints, nat_tests)))

-- clamping a number changes nothing of a coordinate
pub clamped_coordinate : (number : ℤ) → (is_coordinate (clamped number) ≡ is_coordinate number) × (is_coordinate number ≡ true → clamped number ≡ number)
clamped_coordinate (pos number) = clamped_pos number
clamped_coordinate (negsuc number) =
    (grind (arith, ints, nat_tests), λ h. ap negsuc (grind (arith, ints, nat_tests)))

pub both_true : (a b : Bool) → (a && b) ≡ true → (a ≡ true) × (b ≡ true)
both_true true b h = (refl, h)
both_true false b h = cc

cell_if : Bool → ℤ → ℤ → Result Cell Refusal
cell_if true x y = Ok (record { y = y; x = x })
cell_if false x y = Err OutOfRange

cell_if-same : (b : Bool) (u v x y : ℤ) → (b ≡ true → (u ≡ x) × (v ≡ y)) → cell_if b u v ≡ cell_if b x y
unfolding cell_if
cell_if-same true u v x y same = let h = same refl in ap (λ w. Ok (record { y = v; x = w })) h.0 ∙ ap (λ w. Ok (record { y = w; x = x })) h.1
cell_if-same false u v x y same = refl

cell_at-some : (x y : ℤ) → cell_at (Some x) (Some y) ≡ cell_if (is_coordinate x && is_coordinate y) x y
unfolding cell_at cell_if
cell_at-some x y = elim (is_coordinate x && is_coordinate y) as (λ b. cond {A = Result Cell Refusal} b (Ok (record { y = y; x = x })) (Err OutOfRange) ≡ cell_if b x y) [ true ↦ refl | false ↦ refl ]

pub cell_at-clamped : (x y : Option ℤ) → cell_at (option_map clamped x) (option_map clamped y) ≡ cell_at x y
unfolding cell_at
cell_at-clamped None y = refl
cell_at-clamped (Some x) None = refl
cell_at-clamped (Some x) (Some y) =
    let hx = clamped_coordinate x in
    let hy = clamped_coordinate y in
    cell_at-some (clamped x) (clamped y)
    ∙ ap (λ b. cell_if (b && is_coordinate (clamped y)) (clamped x) (clamped y)) hx.0
    ∙ ap (λ b. cell_if (is_coordinate x && b) (clamped x) (clamped y)) hy.0
    ∙ cell_if-same (is_coordinate x && is_coordinate y) (clamped x) (clamped y) x y
    (λ both. let h = both_true (is_coordinate x) (is_coordinate y) both in (hx.1 h.0, hy.1 h.1))
    ∙ sym (cell_at-some x y)

generation_if : (b : Bool) (m n : ℕ) → (b ≡ true → m ≡ n) → cond {A = Result ℕ Refusal} b (Ok m) (Err BadGen) ≡ cond b (Ok n) (Err BadGen)
generation_if true m n same = ap Ok (same refl)
generation_if false m n same = refl

pub generation_at-capped : (number : Option ℕ) → generation_at (option_map capped number) ≡ generation_at number
unfolding generation_at
generation_at-capped None = refl
generation_at-capped (Some number) =
    let same : nat_le (capped number) 9223372036854775808 ≡ nat_le number 9223372036854775808 = grind (arith, nat_tests) in
    ap (λ b. cond {A = Result ℕ Refusal} b (Ok (capped number)) (Err BadGen)) same
    ∙ generation_if (nat_le number 9223372036854775808) (capped number) number (λ h. grind (arith, nat_tests))

pub position_of-parts : (text front back : List ℕ) (x y : Option ℤ) → front ≡ before_first (is_byte 44) text → back ≡ after_first (is_byte 44) text → x ≡ option_map clamped (integer_of front) → y ≡ option_map clamped (integer_of back) → cell_at x y ≡ position_of text
unfolding position_of
position_of-parts text front back x y front_is back_is x_is y_is =
    ap (λ o. cell_at o y) x_is ∙ ap (cell_at (option_map clamped (integer_of front))) y_is
    ∙ cell_at-clamped (integer_of front) (integer_of back)
    ∙ ap (λ t. cell_at (integer_of t) (integer_of back)) front_is
    ∙ ap (λ t. cell_at (integer_of (before_first (is_byte 44) text)) (integer_of t)) back_is

cell_at-none : (x : Option ℤ) → Err BadHeader ≡ cell_at x None
unfolding cell_at
cell_at-none None = refl
cell_at-none (Some x) = refl

integer_of-nil : integer_of [] ≡ None
unfolding integer_of number_of
integer_of-nil = refl

pub position_of-none : (text : List ℕ) → list_any (is_byte 44) text ≡ false → Err BadHeader ≡ position_of text
unfolding position_of
position_of-none text none =
    cell_at-none (integer_of (before_first (is_byte 44) text))
    ∙ ap (cell_at (integer_of (before_first (is_byte 44) text))) (sym (ap integer_of (after_first-none (is_byte 44) text none) ∙ integer_of-nil))

-- a loop over words: one word more
pub reading_on-word : (settings next : Settings) (lowest_refusal : Option Refusal) (text word : List ℕ) (others : List (List ℕ)) (said : Word) → words text ≡ word ∷ others → Ok said ≡ word_of word → next ≡ after_word settings said → reading_on next lowest_refusal (map word_of others) ≡ reading_on settings lowest_refusal (map word_of (words text))
reading_on-word settings next lowest_refusal text word others said text_is word_is next_is =
    ap (λ s. reading_on s lowest_refusal (map word_of others)) next_is
    ∙ sym (reading_on-ok settings lowest_refusal said (map word_of others))
    ∙ ap (λ r. reading_on settings lowest_refusal (r ∷ map word_of others)) word_is
    ∙ ap (λ ws. reading_on settings lowest_refusal (map word_of ws)) (sym text_is)

pub reading_on-refused : (settings : Settings) (lowest_refusal next : Option Refusal) (text word : List ℕ) (others : List (List ℕ)) (refusal : Refusal) → words text ≡ word ∷ others → Err refusal ≡ word_of word → next ≡ lower lowest_refusal refusal → reading_on settings next (map word_of others) ≡ reading_on settings lowest_refusal (map word_of (words text))
reading_on-refused settings lowest_refusal next text word others refusal text_is word_is next_is =
    ap (λ s. reading_on settings s (map word_of others)) next_is
    ∙ sym (reading_on-err settings lowest_refusal refusal (map word_of others))
    ∙ ap (λ r. reading_on settings lowest_refusal (r ∷ map word_of others)) word_is
    ∙ ap (λ ws. reading_on settings lowest_refusal (map word_of ws)) (sym text_is)
