-- The items of a text are slices of it.
use Rattle.std.proofs.Common.{◌≡◌, ℕ, zero, suc, ◌<◌, ◌≤◌, ◌+◌, ◌-◌, ◌==◌, ◌&&◌, Bool, true, false, cond, min, List, [], ◌∷◌, ◌++◌, length, map, take, drop, get_or, Option, Some, None, Result, Ok, Err, refl, ap, sym, ◌∙◌, subst, arith, ◌⊎◌, inl, inr, append_assoc, slice_range}
use Rattle.std.specs.Char.{is_ascii_digit}
use Rattle.std.specs.List.{AllByRecursion, flat_map, position_or_len, prefix_len}
use Rattle.std.specs.Result.{ok_prefix}
use Rattle.std.proofs.lemmas.Bool.{cases_lt, eqb-true}
use Rattle.std.proofs.lemmas.List.{get_or-drop, get_or-take, length-drop, length-take-le}
use Rattle.std.proofs.lemmas.List.Sums.{prefix_len-le-length}
use Rattle.plane.specs.declared.fault.Fault.{Fault}
use Rattle.plane.specs.declared.refusal.Refusal.{Refusal}
use Rattle.plane.specs.declared.refusal.Refusal.TheVariants.{BadCount}
use Rattle.text_lines.specs.Faults.{unless}
use Rattle.text_lines.specs.Lines.{is_line_feed, lines_from, without_return}
use Rattle.text_lines.proofs.LineLemmas.{lines_at-first, lines_at-nil}
use Rattle.rle_reader.specs.Body.{is_skipped, stripped, stripped_from}
use Rattle.rle_reader.specs.Items.{Item, ItemSlice, IsItem, item_slice_between, item_slice_from, items_of, count_of, place_of, run_of, tag_of}
use Rattle.rle_reader.specs.Meaning.{Meaning, judged, meaning_of, body_fault}
use Rattle.rle_reader.specs.Preamble.{PreambleMeaning, may_stand, preamble_of}
use Rattle.rle_reader.specs.Slices.{AreSlices, IsSlice}
use Rattle.rle_reader.specs.declared.body.LocatedByte.{LocatedByte}
use Rattle.rle_reader.specs.declared.item.Tag.{Tag}
use Rattle.rle_reader.proofs.BodyLemmas.{stripped_from-end, stripped_from-byte, stripped_from-skipped, stripped_from-comment}
use Rattle.rle_reader.proofs.CutLemmas.{items_of-cut}
use Rattle.rle_reader.proofs.HeaderPlace.{header_and_body}
use Rattle.rle_reader.proofs.ItemLemmas.{AreDigits}
use Rattle.rle_reader.proofs.MeaningLemmas.{judged_with, judged-is}

-- ---- the bytes of a body

-- these bytes stand in the source at their places, which rise from this one on
abbrev StandAt : List ℕ → ℕ → List LocatedByte → Type 0
StandAt source from [] = Unit {0}
StandAt source from (first ∷ rest) =
    (from ≤ first.place) × (first.place < length source) × (get_or source first.place 0 ≡ first.byte) × StandAt source (first.place + 1) rest

earlier : (source : List ℕ) (from less : ℕ) (bytes : List LocatedByte) → less ≤ from → StandAt source from bytes → StandAt source less bytes
earlier source from less [] low all = tt
earlier source from less (first ∷ rest) low all = let own = all.0 in (omega arith, all.1, all.2, all.3)

module _ (source : List ℕ) where
  next_stand : (fuel at : ℕ) (begins : Bool) → at < length source → length source ≤ at + suc fuel → (hash skipped : Bool) →
      (begins && get_or source at 0 == 35) ≡ hash → is_skipped (get_or source at 0) ≡ skipped →
      ((next : ℕ) (b : Bool) → length source ≤ next + fuel → StandAt source next (stripped_from source next b)) → StandAt source at (stripped_from source at begins)
  next_stand fuel at true within short true skipped hash is later =
      let n = position_or_len is_line_feed (drop at source) in
      let step = min (n + 1) (length (drop at source)) in
      let fits : n ≤ length (drop at source) = prefix_len-le-length _ (drop at source) in
      let size = length-drop at source in
      subst (StandAt source at) (sym (stripped_from-comment source at within n step (eqb-true (get_or source at 0) 35 hash) refl fits refl))
      (earlier source (at + step) at (stripped_from source (at + step) true) (omega arith) (later (at + step) true (omega (arith, size))))
  next_stand fuel at false within short true skipped hash is later = cc
  next_stand fuel at begins within short false true hash is later =
      let ends = get_or source at 0 == 10 in
      subst (StandAt source at) (sym (stripped_from-skipped source at within begins hash is))
      (earlier source (at + 1) at (stripped_from source (at + 1) ends) (omega arith) (later (at + 1) ends (omega arith)))
  next_stand fuel at begins within short false false hash is later =
      subst (StandAt source at) (sym (stripped_from-byte source at within begins hash is))
      (omega arith, within, refl, later (at + 1) (get_or source at 0 == 10) (omega arith))

  by_place : (fuel at : ℕ) (begins : Bool) → length source ≤ at + suc fuel → (at < length source) ⊎ (length source ≤ at) →
      ((next : ℕ) (b : Bool) → length source ≤ next + fuel → StandAt source next (stripped_from source next b)) → StandAt source at (stripped_from source at begins)
  by_place fuel at begins short (inl within) later =
      next_stand fuel at begins within short (begins && get_or source at 0 == 35) (is_skipped (get_or source at 0)) refl refl later
  by_place fuel at begins short (inr past) later = subst (StandAt source at) (sym (stripped_from-end source at begins past)) tt

  bytes_stand : (fuel at : ℕ) (begins : Bool) → length source ≤ at + fuel → StandAt source at (stripped_from source at begins)
  bytes_stand zero at begins short = subst (StandAt source at) (sym (stripped_from-end source at begins (omega arith))) tt
  bytes_stand (suc fuel) at begins short =
      by_place fuel at begins short (cases_lt at (length source)) (λ next b less. bytes_stand fuel next b less)

-- ---- one item

-- where an item of these digits and this tag stands, from this place on
record IsPlaced (source : List ℕ) (from : ℕ) (digits : List LocatedByte) (tag : LocatedByte) (more : List LocatedByte) : Type 0 where
  low : from ≤ place_of digits tag
  below : place_of digits tag ≤ tag.place
  within : tag.place < length source
  byte : get_or source tag.place 0 ≡ tag.byte
  first : (place_of digits tag ≡ tag.place) ⊎ (is_ascii_digit (get_or source (place_of digits tag) 0) ≡ true)
  later : StandAt source (tag.place + 1) more

item_placed : (source : List ℕ) (from : ℕ) (digits : List LocatedByte) (tag : LocatedByte) (more : List LocatedByte) → AreDigits digits → StandAt source from (digits ++ tag ∷ more) → IsPlaced source from digits tag more
item_placed source from [] tag more each stand = record {
  low = stand.0;
  below = omega arith;
  within = stand.1;
  byte = stand.2;
  first = inl refl;
  later = stand.3;
}
item_placed source from (digit ∷ digits) tag more each stand =
    let rest = item_placed source (digit.place + 1) digits tag more each.1 stand.3 in
    let low = rest.low in
    let below = rest.below in
    record {
      low = stand.0;
      below = omega arith;
      within = rest.within;
      byte = rest.byte;
      first = inr (ap is_ascii_digit stand.2 ∙ each.0);
      later = rest.later;
    }

slice_if : (b : Bool) (made item : ItemSlice) → cond {A = Result ItemSlice Refusal} b (Err BadCount) (Ok made) ≡ Ok item → made ≡ item
slice_if true made item is = cc
slice_if false made item is = cc

-- the slice from a place to a tag
module _ (source : List ℕ) (place tag : ℕ) (below : place ≤ tag) (within : tag < length source) where
  abbrev bytes : List ℕ
  bytes = slice_range source place (tag + 1)

  size : length bytes ≡ tag + 1 - place
  size = length-take-le (tag + 1 - place) (drop place source) (omega (arith, length-drop place source))

  byte_at : (index : ℕ) → index < tag + 1 - place → get_or bytes index 0 ≡ get_or source (place + index) 0
  byte_at index low = get_or-take (tag + 1 - place) (drop place source) index 0 low ∙ get_or-drop place source index 0

  ends : place + length bytes ≡ tag + 1
  ends = omega (arith, size)

  is_slice : (count : ℕ) (value : Tag) → tag_of (get_or source tag 0) ≡ Ok value → (place ≡ tag) ⊎ (is_ascii_digit (get_or source place 0) ≡ true) →
      IsSlice source (record { text = bytes; place = place; count = count; tag = value })
  is_slice count value reading first = record {
    slice = ap (slice_range source place) ends;
    first = by_first first;
    last =
        let last_place : length bytes - 1 ≡ tag - place = omega (arith, size) in
        let place_is : place + (tag - place) ≡ tag = omega arith in
        ap (λ n. tag_of (get_or bytes n 0)) last_place
        ∙ ap tag_of (byte_at (tag - place) (omega arith) ∙ ap (λ n. get_or source n 0) place_is) ∙ reading;
  }
    where
      by_first : (place ≡ tag) ⊎ (is_ascii_digit (get_or source place 0) ≡ true) → (length bytes ≡ 1) ⊎ (is_ascii_digit (get_or bytes 0 0) ≡ true)
      by_first (inl alone) = inl (omega (arith, size, alone))
      by_first (inr digit) =
          let place_is : place + 0 ≡ place = omega arith in
          inr (ap is_ascii_digit (byte_at 0 (omega arith) ∙ ap (λ n. get_or source n 0) place_is) ∙ digit)

-- the item stands as a slice from this place on, and ends with this one
abbrev EndsAt : List ℕ → ℕ → ℕ → ItemSlice → Type 0
EndsAt source from end item = (from ≤ item.place) × (item.place + length item.text ≡ end) × IsSlice source item

module _ (source : List ℕ) (from : ℕ) (digits : List LocatedByte) (tag : LocatedByte) (more : List LocatedByte) (placed : IsPlaced source from digits tag more) where
  slice_read : (count : ℕ) (reading : Result Tag Refusal) (item : ItemSlice) → tag_of tag.byte ≡ reading →
      item_slice_between source (place_of digits tag) count (tag.place + 1) reading ≡ Ok item → EndsAt source from (tag.place + 1) item
  slice_read count (Err refusal) item reading is = cc
  slice_read count (Ok value) item reading is =
      let place = place_of digits tag in
      let made : ItemSlice = record { text = slice_range source place (tag.place + 1); place = place; count = count; tag = value } in
      subst (EndsAt source from (tag.place + 1)) (slice_if (count == 0) made item is) (
        placed.low,
        ends source place tag.place placed.below placed.within,
        is_slice source place tag.place placed.below placed.within count value (ap tag_of placed.byte ∙ reading) placed.first,
      )

  slice_of : (item : ItemSlice) → run_of source (record { digits = digits; tag = tag }) ≡ Ok item → EndsAt source from (tag.place + 1) item
  unfolding item_slice_from
  slice_of item is = slice_read (count_of digits) (tag_of tag.byte) item refl is

-- ---- all items

first_slice : (source : List ℕ) (from end : ℕ) (found : Result ItemSlice Refusal) (rest : List (Result ItemSlice Refusal)) → ((item : ItemSlice) → found ≡ Ok item → EndsAt source from end item) →
    AreSlices source end (ok_prefix rest) → AreSlices source from (ok_prefix (found ∷ rest))
first_slice source from end (Ok item) rest is later =
    let own = is item refl in (own.0, own.2, subst (λ place. AreSlices source place (ok_prefix rest)) (sym own.1) later)
first_slice source from end (Err refusal) rest is later = tt

slices : (source : List ℕ) (from : ℕ) (items : List Item) (after : List LocatedByte) → AllByRecursion IsItem items →
    StandAt source from (flat_map (λ (item : Item). item.digits ++ item.tag ∷ []) items ++ after) → AreSlices source from (ok_prefix (map (run_of source) items))
slices source from [] after each stand = tt
slices source from (item ∷ items) after each stand =
    let pieces = flat_map (λ (i : Item). i.digits ++ i.tag ∷ []) items in
    let whole : (item.digits ++ item.tag ∷ []) ++ pieces ++ after ≡ item.digits ++ item.tag ∷ (pieces ++ after) =
    append_assoc (item.digits ++ item.tag ∷ []) pieces after ∙ append_assoc item.digits (item.tag ∷ []) (pieces ++ after) in
    let placed = item_placed source from item.digits item.tag (pieces ++ after) each.0.digits (subst (StandAt source from) whole stand) in
    first_slice source from (item.tag.place + 1) (run_of source item) (map (run_of source) items)
    (λ found is. slice_of source from item.digits item.tag (pieces ++ after) placed found is)
    (slices source (item.tag.place + 1) items after each.1 placed.later)

body_slices : (source : List ℕ) (from : ℕ) (body : List LocatedByte) → StandAt source from body → AreSlices source from (ok_prefix (map (run_of source) (items_of body).items))
body_slices source from body stand =
    let cut = items_of-cut body in
    let found = items_of body in
    let pieces = flat_map (λ (i : Item). i.digits ++ i.tag ∷ []) found.items in
    slices source from found.items (found.left_over ++ cut.whole.0) cut.each
    (subst (StandAt source from) (cut.whole.2 ∙ append_assoc pieces found.left_over cut.whole.0) stand)

-- ---- a text

lines_step : (count : ℕ) (source : List ℕ) (at : ℕ) → (0 < length (drop at source)) ⊎ (length (drop at source) ≤ 0) →
    ((next : ℕ) → (place : ℕ) × (drop count (lines_from source next) ≡ lines_from source place)) → (place : ℕ) × (drop (suc count) (lines_from source at) ≡ lines_from source place)
lines_step count source at (inl some) later =
    let rest = drop at source in
    let n = position_or_len is_line_feed rest in
    let step = min (n + 1) (length rest) in
    let within : n ≤ length rest = prefix_len-le-length _ rest in
    let next = later (at + step) in
    (next.0, ap (drop (suc count)) (lines_at-first source rest (without_return (take n rest)) at n step refl some refl within refl refl) ∙ next.1)
lines_step count source at (inr none) later =
    let nil : lines_from source at ≡ [] = lines_at-nil source (drop at source) at refl (omega arith) in
    (at, ap (drop (suc count)) nil ∙ sym nil)

-- the lines behind so many lines of a source are those from some place on
lines_behind : (count : ℕ) (source : List ℕ) (at : ℕ) → (place : ℕ) × (drop count (lines_from source at) ≡ lines_from source place)
lines_behind zero source at = (at, refl)
lines_behind (suc count) source at = lines_step count source at (cases_lt 0 (length (drop at source))) (λ next. lines_behind count source next)

-- the lines of the body are those of the text from some place on
body_lines : (source : List ℕ) (told : PreambleMeaning) → Ok told ≡ preamble_of (length source) (lines_from source 0) → (place : ℕ) × (told.body ≡ lines_from source place)
body_lines source told is =
    let found = header_and_body source told is in
    let from = lines_behind (prefix_len may_stand (lines_from source 0)) source 0 in
    let body = lines_behind 1 source from.0 in
    (body.0, sym found.4 ∙ ap (drop 1) (sym found.2 ∙ from.1) ∙ body.1)

preamble_slices : (source : List ℕ) (told : PreambleMeaning) → Ok told ≡ preamble_of (length source) (lines_from source 0) → AreSlices source 0 (meaning_of source told).runs
unfolding meaning_of stripped_from
preamble_slices source told is =
    let body = body_lines source told is in
    subst (λ lines. AreSlices source 0 (ok_prefix (map (run_of source) (items_of (stripped lines)).items))) (sym body.1)
    (body_slices source 0 (stripped (lines_from source body.0))
    (earlier source body.0 0 (stripped (lines_from source body.0)) (omega arith) (bytes_stand source (length source) body.0 true (omega arith))))

meaning_is : (fault : Option Fault) (value meaning : Meaning) → unless fault value ≡ Ok meaning → value ≡ meaning
meaning_is None value meaning is = cc
meaning_is (Some fault) value meaning is = cc

accepted_slices : (text : List ℕ) (meaning : Meaning) (found : Result PreambleMeaning Fault) → found ≡ preamble_of (length text) (lines_from text 0) → judged_with text found ≡ Ok meaning → AreSlices text 0 meaning.runs
unfolding judged_with
accepted_slices text meaning (Ok told) read is =
    subst (λ (m : Meaning). AreSlices text 0 m.runs) (meaning_is (body_fault told.settings.pos (items_of (stripped told.body))) (meaning_of text told) meaning is)
    (preamble_slices text told read)
accepted_slices text meaning (Err fault) read is = cc

pub items_stand : (text : List ℕ) (meaning : Meaning) → judged text ≡ Ok meaning → AreSlices text 0 meaning.runs
items_stand text meaning is =
    accepted_slices text meaning (preamble_of (length text) (lines_from text 0)) refl (sym (judged-is text) ∙ is)
