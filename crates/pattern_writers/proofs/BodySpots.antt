-- The bytes of a body that count.
use Rattle.std.proofs.Common.{◌≡◌, ℕ, ◌+◌, ◌<◌, ◌^◌, ◌==◌, Bool, true, false, not, cond, if◌then◌else◌, List, [], ◌∷◌, ◌++◌, length, map, filter, codes, decimal, nat_le, refl, ap, sym, ◌∙◌, arith, flat_map}
use Rattle.std.specs.Char.{is_ascii_digit}
use Rattle.std.specs.List.{AllByRecursion, list_all, onto_first}
use Rattle.std.proofs.lemmas.Bool.Decides.{nat_tests}
use Rattle.std.proofs.lemmas.List.{map-append}
use Rattle.plane.proofs.Cuts.{and_left, and_right}
use Rattle.plane.proofs.Elements.{AllByRecursion-append, AllByRecursion-weaker}
use Rattle.text_lines.specs.Bytes.{ended_parts}
use Rattle.text_lines.specs.Comments.{is_comment}
use Rattle.text_lines.specs.Lines.{is_line_feed, lines, placed_lines, raw_lines, without_return}
use Rattle.rle_reader.specs.Body.{significant, is_skipped, located_bytes, stripped, stripped_line}
use Rattle.rle_reader.specs.declared.body.LocatedByte.{LocatedByte}
use Rattle.rle_reader.specs.declared.item.Tag.{Tag}
use Rattle.rle_reader.specs.declared.item.Tag.TheVariants.{Dead, Live, Row}
use Rattle.pattern_writers.specs.Items.{item_text, tag_text}
use Rattle.pattern_writers.specs.Layout.{body_text, laid_out}
use Rattle.pattern_writers.specs.declared.rle_text.items.Item.{Item}
use Rattle.pattern_writers.proofs.BodyReading.{HasShortCount, body_text-joined, count_text, items_text, joined_lines}
use Rattle.pattern_writers.proofs.TextLines.{IsPlain, plain_kept}
use Rattle.pattern_writers.proofs.Decimals.{decimal_is}

-- ---- the bytes of bytes

abbrev pub bytes_of : List LocatedByte → List ℕ
bytes_of located_bytes = map (λ (located : LocatedByte). located.byte) located_bytes

-- the bytes of a text that count
abbrev wanted : List ℕ → List ℕ
wanted text = filter (λ byte. not (is_skipped byte)) text

one_more : (b : Bool) (located : LocatedByte) (more : List LocatedByte) (bytes : List ℕ) → bytes_of more ≡ bytes →
    bytes_of (cond b (located ∷ more) more) ≡ cond b (located.byte ∷ bytes) bytes
one_more true located more bytes is = ap (λ l. located.byte ∷ l) is
one_more false located more bytes is = is

counting_bytes : (place : ℕ) (text : List ℕ) → bytes_of (significant (located_bytes place text)) ≡ wanted text
unfolding located_bytes
counting_bytes place [] = refl
counting_bytes place (first ∷ rest) =
    one_more (not (is_skipped first)) (record { place = place; byte = first }) (significant (located_bytes (place + 1) rest)) (wanted rest) (counting_bytes (place + 1) rest)

-- a byte of an item: it counts, and begins no comment
record IsItemByte (byte : ℕ) : Type 0 where
  counts : is_skipped byte ≡ false
  begins : (byte == 35) ≡ false
  plain : IsPlain byte

abbrev AreItemBytes : List ℕ → Type 0
AreItemBytes text = AllByRecursion IsItemByte text

no_comment : (text : List ℕ) → AreItemBytes text → is_comment text ≡ false
no_comment [] all = refl
no_comment (first ∷ rest) all = all.0.begins

kept_line : (text : List ℕ) → AreItemBytes text → without_return text ≡ text
kept_line text all = plain_kept text (AllByRecursion-weaker IsItemByte IsPlain (λ byte one. one.plain) text all)

line_bytes : (place : ℕ) (text : List ℕ) → AreItemBytes text → bytes_of (stripped_line (record { place = place; text = without_return text })) ≡ wanted text
unfolding stripped_line
line_bytes place text all =
    ap (λ t. bytes_of (cond (is_comment t) [] (significant (located_bytes place t)))) (kept_line text all)
    ∙ ap (λ b. bytes_of (cond b [] (significant (located_bytes place text)))) (no_comment text all) ∙ counting_bytes place text

struck_bytes : (place : ℕ) (texts : List (List ℕ)) → AllByRecursion AreItemBytes texts → bytes_of (stripped (placed_lines place texts)) ≡ flat_map wanted texts
unfolding placed_lines
struck_bytes place [] all = refl
struck_bytes place (text ∷ texts) all =
    let line : List LocatedByte = stripped_line (record { place = place; text = without_return text }) in
    let more : List LocatedByte = stripped (placed_lines (place + length text + 1) texts) in
    map-append (λ (located : LocatedByte). located.byte) line more
    ∙ ap (λ l. l ++ bytes_of more) (line_bytes place text all.0)
    ∙ ap (λ l. wanted text ++ l) (struck_bytes (place + length text + 1) texts all.1)

-- ---- the lines of a text

first_wanted : (b : Bool) (first : ℕ) (rest more : List ℕ) → cond b (first ∷ rest) rest ++ more ≡ cond b (first ∷ (rest ++ more)) (rest ++ more)
first_wanted true first rest more = refl
first_wanted false first rest more = refl

onto_wanted : (first : ℕ) (parts : List (List ℕ)) → flat_map wanted (onto_first first parts) ≡ cond (not (is_skipped first)) (first ∷ flat_map wanted parts) (flat_map wanted parts)
onto_wanted first [] = first_wanted (not (is_skipped first)) first [] []
onto_wanted first (part ∷ parts) = first_wanted (not (is_skipped first)) first (wanted part) (flat_map wanted parts)

cut_wanted : (text : List ℕ) → flat_map wanted (raw_lines text) ≡ wanted text
unfolding ended_parts
cut_wanted [] = refl
cut_wanted (first ∷ rest) =
    elim (is_line_feed first) as (λ b. is_line_feed first ≡ b →
    flat_map wanted (cond b ([] ∷ raw_lines rest) (onto_first first (raw_lines rest))) ≡ cond (not (is_skipped first)) (first ∷ wanted rest) (wanted rest)) [
      | true ↦ λ feed.
          let skipped : not (is_skipped first) ≡ false = grind (arith, nat_tests) in
          cut_wanted rest ∙ ap (λ b. cond b (first ∷ wanted rest) (wanted rest)) (sym skipped)
      | false ↦ λ _. onto_wanted first (raw_lines rest) ∙ ap (λ l. cond (not (is_skipped first)) (first ∷ l) l) (cut_wanted rest)
    ] refl

-- an LF, or a byte of an item
abbrev IsBodyByte : ℕ → Type 0
IsBodyByte byte = (byte == 10) ≡ false → IsItemByte byte

onto_bytes : (first : ℕ) (parts : List (List ℕ)) → IsItemByte first → AllByRecursion AreItemBytes parts → AllByRecursion AreItemBytes (onto_first first parts)
onto_bytes first [] one all = ((one, tt), tt)
onto_bytes first (part ∷ parts) one all = ((one, all.0), all.1)

cut_bytes : (text : List ℕ) → AllByRecursion IsBodyByte text → AllByRecursion AreItemBytes (raw_lines text)
unfolding ended_parts
cut_bytes [] all = tt
cut_bytes (first ∷ rest) all =
    elim (is_line_feed first) as (λ b. is_line_feed first ≡ b → AllByRecursion AreItemBytes (cond b ([] ∷ raw_lines rest) (onto_first first (raw_lines rest)))) [
      | true ↦ λ _. (tt, cut_bytes rest all.1)
      | false ↦ λ other. onto_bytes first (raw_lines rest) (all.0 other) (cut_bytes rest all.1)
    ] refl

-- ---- the bytes of a body

counts_or_ends : (byte : ℕ) → IsBodyByte byte → not (is_skipped byte) ≡ not (byte == 10)
counts_or_ends byte is =
    elim (byte == 10) as (λ b. (byte == 10) ≡ b → not (is_skipped byte) ≡ not b) [
      | true ↦ λ feed. grind (arith, nat_tests)
      | false ↦ λ other. let one = is other in ap not one.counts
    ] refl

same_wanted : (text : List ℕ) → AllByRecursion IsBodyByte text → wanted text ≡ joined_lines text
same_wanted [] all = refl
same_wanted (first ∷ rest) all =
    ap (λ b. cond b (first ∷ wanted rest) (wanted rest)) (counts_or_ends first all.0) ∙ ap (λ l. cond (not (first == 10)) (first ∷ l) l) (same_wanted rest all.1)

digit_byte : (byte : ℕ) → is_ascii_digit byte ≡ true → IsItemByte byte
digit_byte byte is = record { counts = grind (arith, nat_tests); begins = grind (arith, nat_tests); plain = grind (arith, nat_tests) }

digit_bytes : (digits : List ℕ) → list_all is_ascii_digit digits ≡ true → AllByRecursion IsBodyByte digits
digit_bytes [] is = tt
digit_bytes (digit ∷ digits) is = (
  λ _. digit_byte digit (and_left (is_ascii_digit digit) (list_all is_ascii_digit digits) is),
  digit_bytes digits (and_right (is_ascii_digit digit) (list_all is_ascii_digit digits) is),
)

count_bytes : (count : ℕ) → count < 2 ^ 64 → AllByRecursion IsBodyByte (count_text count)
count_bytes count small =
    elim (count == 1) as (λ b. AllByRecursion IsBodyByte (if b then [] else decimal count)) [
      | true ↦ tt
      | false ↦ digit_bytes (decimal count) (decimal_is count small).digits_all
    ]

tag_bytes : (tag : Tag) → AllByRecursion IsBodyByte (tag_text tag)
tag_bytes Dead = (λ _. record { counts = refl; begins = refl; plain = omega arith }, tt)
tag_bytes Live = (λ _. record { counts = refl; begins = refl; plain = omega arith }, tt)
tag_bytes Row = (λ _. record { counts = refl; begins = refl; plain = omega arith }, tt)

item_bytes : (item : Item) → HasShortCount item → AllByRecursion IsBodyByte (item_text item)
item_bytes item small = AllByRecursion-append IsBodyByte (count_text item.count) (tag_text item.tag) (count_bytes item.count small) (tag_bytes item.tag)

piece_bytes : (items : List Item) → AllByRecursion HasShortCount items → AllByRecursion (AllByRecursion IsBodyByte) (map item_text items ++ codes "!" ∷ [])
piece_bytes [] small = ((λ _. record { counts = refl; begins = refl; plain = omega arith }, tt), tt)
piece_bytes (item ∷ items) small = (item_bytes item small.0, piece_bytes items small.1)

end_bytes : AllByRecursion IsBodyByte (codes "\n")
end_bytes = (λ feed. cc, tt)

laid_out_bytes : (line : List ℕ) (pieces : List (List ℕ)) → AllByRecursion IsBodyByte line → AllByRecursion (AllByRecursion IsBodyByte) pieces → AllByRecursion IsBodyByte (laid_out line pieces)
laid_out_bytes line [] one all = AllByRecursion-append IsBodyByte line (codes "\n") one end_bytes
laid_out_bytes line (piece ∷ pieces) one all =
    elim (nat_le (length line + length piece) 70) as (λ b. AllByRecursion IsBodyByte (if b then laid_out (line ++ piece) pieces else (line ++ codes "\n" ++ laid_out piece pieces))) [
      | true ↦ laid_out_bytes (line ++ piece) pieces (AllByRecursion-append IsBodyByte line piece one all.0) all.1
      | false ↦ AllByRecursion-append IsBodyByte (line ++ codes "\n") (laid_out piece pieces) (AllByRecursion-append IsBodyByte line (codes "\n") one end_bytes) (laid_out_bytes piece pieces all.0 all.1)
    ]

-- the bytes of a body that count are the texts of its items and the `!`
pub body_bytes : (place : ℕ) (items : List Item) → AllByRecursion HasShortCount items → bytes_of (stripped (lines place (body_text items))) ≡ items_text items
body_bytes place items small =
    let all : AllByRecursion IsBodyByte (body_text items) = laid_out_bytes [] (map item_text items ++ codes "!" ∷ []) tt (piece_bytes items small) in
    struck_bytes place (raw_lines (body_text items)) (cut_bytes (body_text items) all)
    ∙ cut_wanted (body_text items) ∙ same_wanted (body_text items) all ∙ body_text-joined items small
