-- A position that is read lies in the range.
use Rattle.std.proofs.Common.{◌≡◌, ℕ, Bool, true, false, cond, List, [], ◌∷◌, map, fold, Option, None, Some, Result, Ok, Err, IfOk, refl, arith, ℤ, pos, neg_ℤ, int_le, int_lt, ◌&&◌, drop, codes, length, subst, sym}
use Rattle.std.specs.List.{AllByRecursion, filter_map, before_first, after_first}
use Rattle.std.specs.Result.{result_ok, result_err, result_map_both}
use Rattle.std.proofs.lemmas.Int.{ints}
use Rattle.plane.specs.Range.{IsCoordinate, IsInRange}
use Rattle.plane.specs.declared.cell.Cell.{Cell}
use Rattle.plane.specs.declared.fault.Fault.{Fault}
use Rattle.plane.specs.Limits.{coordinate_limit}
use Rattle.plane.specs.declared.refusal.Refusal.{Refusal}
use Rattle.plane.specs.declared.refusal.Refusal.TheVariants.{OutOfRange}
use Rattle.rle_reader.specs.Words.{cell_at, generation_at, is_coordinate, position_of, word_of, words}
use Rattle.text_lines.specs.Bytes.{begins_with, is_byte}
use Rattle.text_lines.specs.Faults.{at_place, ◌>>=◌}
use Rattle.rle_reader.specs.Header.{header_rule}
use Rattle.text_lines.specs.Lines.{Line, lines_from}
use Rattle.rle_reader.specs.Numbers.{integer_of}
use Rattle.text_lines.specs.Numbers.{number_of}
use Rattle.rle_reader.specs.Preamble.{PreambleMeaning, preamble_of, after_lines, with_header, before_header, from_header}
use Rattle.text_lines.specs.Comments.{comments_of}
use Rattle.rle_reader.specs.Settings.{nothing_said, after_word, after_readings, after_line, unless_refused, lowest}
use Rattle.text_lines.specs.Comments.{is_settings_line}
use Rattle.rle_reader.specs.Seen.{preamble_meaning}
use Rattle.rle_reader.specs.declared.preamble.Preamble.{Preamble}
use Rattle.rle_reader.specs.declared.settings.Settings.{Settings}
use Rattle.rle_reader.specs.declared.settings.Word.{Word}
use Rattle.rle_reader.specs.declared.settings.Word.TheVariants.{Pos, Gen, Other}
use Rattle.rle_reader.proofs.SettingsLemmas.{both_true}

coordinate : (number : ℤ) → is_coordinate number ≡ true → IsCoordinate number
coordinate number is =
    let h = both_true (int_le (neg_ℤ coordinate_limit) number) (int_lt number coordinate_limit) is in record { low = grind (arith, ints, h.0); high = grind (arith, ints, h.1) }

cell_if-in_range : (b : Bool) (x y : ℤ) → (is_coordinate x && is_coordinate y) ≡ b → IfOk (cond {A = Result Cell Refusal} b (Ok (record { y = y; x = x })) (Err OutOfRange)) IsInRange
cell_if-in_range true x y both =
    let h = both_true (is_coordinate x) (is_coordinate y) both in record { x = coordinate x h.0; y = coordinate y h.1 }
cell_if-in_range false x y other = tt

cell_at-in_range : (x y : Option ℤ) → IfOk (cell_at x y) IsInRange
unfolding cell_at
cell_at-in_range None y = tt
cell_at-in_range (Some x) None = tt
cell_at-in_range (Some x) (Some y) = cell_if-in_range (is_coordinate x && is_coordinate y) x y refl

position-in_range : (text : List ℕ) → IfOk (position_of text) IsInRange
unfolding position_of
position-in_range text = cell_at-in_range (integer_of (before_first (is_byte 44) text)) (integer_of (after_first (is_byte 44) text))

-- a position that the word gives is in the range
abbrev GivesCellInRange : Word → Type 0
GivesCellInRange (Pos cell) = IsInRange cell
GivesCellInRange (Gen generation) = Unit {0}
GivesCellInRange Other = Unit {0}

position_word : (found : Result Cell Refusal) → IfOk found IsInRange → IfOk (result_map_both (λ cell. Pos cell) (λ (refusal : Refusal). refusal) found) GivesCellInRange
position_word (Ok cell) range = range
position_word (Err refusal) range = tt

generation_word : (found : Result ℕ Refusal) → IfOk (result_map_both (λ number. Gen number) (λ (refusal : Refusal). refusal) found) GivesCellInRange
generation_word (Ok number) = tt
generation_word (Err refusal) = tt

if_in_range : (b : Bool) (one other : Result Word Refusal) → IfOk one GivesCellInRange → IfOk other GivesCellInRange → IfOk (cond b one other) GivesCellInRange
if_in_range true one other one_is other_is = one_is
if_in_range false one other one_is other_is = other_is

-- a word gives no position outside the range
word-in_range : (text : List ℕ) → IfOk (word_of text) GivesCellInRange
unfolding word_of
word-in_range text =
    let position : Result Word Refusal = result_map_both (λ cell. Pos cell) (λ refusal. refusal) (position_of (drop 4 text)) in
    let generation : Result Word Refusal = result_map_both (λ number. Gen number) (λ refusal. refusal) (generation_at (number_of (drop 4 text))) in
    let is_generation = begins_with (codes "Gen=") text in
    if_in_range (begins_with (codes "Pos=") text) position (cond is_generation generation (Ok Other))
    (position_word (position_of (drop 4 text)) (position-in_range (drop 4 text)))
    (if_in_range is_generation generation (Ok Other) (generation_word (generation_at (number_of (drop 4 text)))) (tt {0}))

after_word-in_range : (settings : Settings) (word : Word) → IsInRange settings.pos → GivesCellInRange word → IsInRange (after_word settings word).pos
after_word-in_range settings (Pos cell) range gives = gives
after_word-in_range settings (Gen number) range gives = range
after_word-in_range settings Other range gives = range

read_words : (settings : Settings) (all : List (Result Word Refusal)) → AllByRecursion (λ reading. IfOk reading GivesCellInRange) all → IsInRange settings.pos → IsInRange (fold after_word settings (filter_map result_ok all)).pos
read_words settings [] each range = range
read_words settings (Ok word ∷ rest) each range = read_words (after_word settings word) rest each.1 (after_word-in_range settings word range each.0)
read_words settings (Err refusal ∷ rest) each range = read_words settings rest each.1 range

each_word : (texts : List (List ℕ)) → AllByRecursion (λ reading. IfOk reading GivesCellInRange) (map word_of texts)
each_word [] = tt
each_word (text ∷ texts) = (word-in_range text, each_word texts)

unless_refused-in_range : (refused : Option Refusal) (settings : Settings) → IsInRange settings.pos → IfOk (unless_refused refused settings) (λ (next : Settings). IsInRange next.pos)
unless_refused-in_range None settings range = range
unless_refused-in_range (Some refusal) settings range = tt

readings-in_range : (settings : Settings) (texts : List (List ℕ)) → IsInRange settings.pos → IfOk (after_readings settings (map word_of texts)) (λ (next : Settings). IsInRange next.pos)
unfolding after_readings
readings-in_range settings texts range =
    unless_refused-in_range (lowest (filter_map result_err (map word_of texts))) _ (read_words settings (map word_of texts) (each_word texts) range)

after_line-if : (b : Bool) (settings : Settings) (text : List ℕ) → IsInRange settings.pos → IfOk (cond b (after_readings settings (map word_of (words text))) (Ok settings)) (λ (next : Settings). IsInRange next.pos)
after_line-if true settings text range = readings-in_range settings (words text) range
after_line-if false settings text range = range

after_line-in_range : (settings : Settings) (text : List ℕ) → IsInRange settings.pos → IfOk (after_line settings text) (λ (next : Settings). IsInRange next.pos)
unfolding after_line
after_line-in_range settings text range = after_line-if (is_settings_line text) settings text range

-- a step after one that keeps to the range
next_step : {B : Type 0} (place : ℕ) (found : Result Settings Refusal) (next : Settings → Result B Fault) (Good : B → Type 0) →
    IfOk found (λ (settings : Settings). IsInRange settings.pos) → ((settings : Settings) → IsInRange settings.pos → IfOk (next settings) Good) → IfOk (at_place place found >>= next) Good
next_step place (Ok settings) next Good range more = more settings range
next_step place (Err refusal) next Good range more = tt

after_lines-in_range : (settings : Settings) (all : List Line) → IsInRange settings.pos → IfOk (after_lines settings all) (λ (next : Settings). IsInRange next.pos)
unfolding after_lines
after_lines-in_range settings [] range = range
after_lines-in_range settings (line ∷ rest) range =
    next_step line.place (after_line settings line.text) (λ next. after_lines next rest) (λ (next : Settings). IsInRange next.pos)
    (after_line-in_range settings line.text range) (λ next next_range. after_lines-in_range next rest next_range)

with_rule : (place : ℕ) (found : Result (Option (List ℕ)) Refusal) (told : Option (List ℕ) → PreambleMeaning) → ((rule : Option (List ℕ)) → IsInRange (told rule).settings.pos) →
    IfOk (at_place place found >>= λ rule. Ok (told rule)) (λ (o : PreambleMeaning). IsInRange o.settings.pos)
with_rule place (Ok rule) told range = range rule
with_rule place (Err refusal) told range = tt

with_header-in_range : (end : ℕ) (comments : List (List ℕ)) (settings : Settings) (all : List Line) → IsInRange settings.pos → IfOk (with_header end comments settings all) (λ (o : PreambleMeaning). IsInRange o.settings.pos)
unfolding with_header
with_header-in_range end comments settings [] range = tt
with_header-in_range end comments settings (header ∷ body) range =
    with_rule header.place (header_rule header.text) (λ rule. record { settings = settings; comments = comments; header = header.place; rule = rule; body = body }) (λ rule. range)

then_header : (found : Result Settings Fault) (next : Settings → Result PreambleMeaning Fault) → IfOk found (λ (settings : Settings). IsInRange settings.pos) →
    ((settings : Settings) → IsInRange settings.pos → IfOk (next settings) (λ (o : PreambleMeaning). IsInRange o.settings.pos)) → IfOk (found >>= next) (λ (o : PreambleMeaning). IsInRange o.settings.pos)
then_header (Ok settings) next range more = more settings range
then_header (Err fault) next range more = tt

start-in_range : IsInRange nothing_said.pos
start-in_range = record { x = coordinate (pos 0) refl; y = coordinate (pos 0) refl }

-- the position of an preamble lies in the range
pub preamble_of-in_range : (end : ℕ) (all : List Line) → IfOk (preamble_of end all) (λ (o : PreambleMeaning). IsInRange o.settings.pos)
unfolding preamble_of
preamble_of-in_range end all =
    then_header (after_lines nothing_said (before_header all)) (λ settings. with_header end (comments_of (before_header all)) settings (from_header all))
    (after_lines-in_range nothing_said (before_header all) start-in_range)
    (λ settings range. with_header-in_range end (comments_of (before_header all)) settings (from_header all) range)

-- so does the position that was read
pub read-in_range : (source : List ℕ) (preamble : Preamble) → Ok (preamble_meaning source preamble) ≡ preamble_of (length source) (lines_from source 0) → IsInRange preamble.settings.pos
read-in_range source preamble is =
    subst (λ found. IfOk found (λ (o : PreambleMeaning). IsInRange o.settings.pos)) (sym is) (preamble_of-in_range (length source) (lines_from source 0))
