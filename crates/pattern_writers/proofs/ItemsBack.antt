-- Items that were written, read back from the bytes of a body that count.
use Rattle.std.proofs.Common.{◌≡◌, ℕ, ◌+◌, ◌<◌, ◌^◌, ◌==◌, ◌&&◌, ◌||◌, Bool, true, false, cond, if◌then◌else◌, List, [], ◌∷◌, ◌++◌, length, map, drop, decimal, None, Ok, Err, refl, ap, sym, subst, ◌∙◌, arith, ℤ, pos, ◌+ℤ◌, int_le, int_lt, slice_range}
use Rattle.std.specs.Char.{is_ascii_digit}
use Rattle.std.specs.List.{AllByRecursion, list_all, list_any}
use Rattle.std.specs.Option.{option_map, option_or}
use Rattle.std.specs.Ordering.{int_eq}
use Rattle.std.specs.Result.{ok_prefix}
use Rattle.std.proofs.lemmas.Bool.Decides.{nat_tests}
use Rattle.std.proofs.lemmas.List.Folds.{list_any-append}
use Rattle.plane.specs.declared.refusal.Refusal.TheVariants.{BadCount, OutOfRange, TooManyCells}
use Rattle.plane.specs.Listing.{is_at}
use Rattle.plane.proofs.Cells.{at}
use Rattle.plane.proofs.Cuts.{and_left, and_right}
use Rattle.text_lines.specs.Faults.{fault_at}
use Rattle.text_lines.specs.Numbers.{decimal_value}
use Rattle.rle_reader.specs.declared.body.LocatedByte.{LocatedByte}
use Rattle.rle_reader.specs.Items.{Items, count_of, item_slice_between, item_slice_from, is_digit, is_end, items_of, place_of, run_of, tag_of, with_digit, with_tag}
use Rattle.rle_reader.specs.Meaning.{covers, first_fault_from, is_covered, item_fault, state_after}
use Rattle.rle_reader.specs.State.{State, after_item, faults_of, first_fault, leaves_range, passes_cells, when}
use Rattle.rle_reader.specs.declared.item.Tag.{Tag}
use Rattle.rle_reader.specs.declared.item.Tag.TheVariants.{Dead, Live, Row}
use Rattle.pattern_writers.specs.declared.rle_text.items.Item.{Item}
use Rattle.pattern_writers.proofs.BodyReading.{HasShortCount, count_text, item_text-flat, items_text, tag_byte}
use Rattle.pattern_writers.proofs.BodySpots.{bytes_of}
use Rattle.pattern_writers.proofs.ItemReading.{cells_of, item_cells, past}
use Rattle.pattern_writers.proofs.MaximalRuns.{in_span}
use Rattle.pattern_writers.proofs.Decimals.{decimal_is}
use Rattle.rle_reader.specs.Items as reader

-- ---- the first item of bytes

digit_first : (digit : LocatedByte) (rest : List LocatedByte) → is_digit digit ≡ true → items_of (digit ∷ rest) ≡ with_digit digit (items_of rest)
unfolding items_of
digit_first digit rest is = rw is refl

end_first : (stop : LocatedByte) (rest : List LocatedByte) → is_digit stop ≡ false → is_end stop ≡ true → items_of (stop ∷ rest) ≡ record { items = []; left_over = [] }
unfolding items_of
end_first stop rest no_digit ends = rw (no_digit, ends) refl

tag_first : (tag : LocatedByte) (rest : List LocatedByte) → is_digit tag ≡ false → is_end tag ≡ false → items_of (tag ∷ rest) ≡ with_tag tag (items_of rest)
unfolding items_of
tag_first tag rest no_digit no_end = rw (no_digit, no_end) refl

item_first : (digits : List LocatedByte) (tag : LocatedByte) (rest : List LocatedByte) → list_all is_ascii_digit (bytes_of digits) ≡ true → is_digit tag ≡ false → is_end tag ≡ false →
    items_of (digits ++ tag ∷ rest) ≡ record { items = record { digits = digits; tag = tag } ∷ (items_of rest).items; left_over = (items_of rest).left_over }
unfolding with_digit
item_first [] tag rest all no_digit no_end = tag_first tag rest no_digit no_end
item_first (digit ∷ digits) tag rest all no_digit no_end =
    digit_first digit (digits ++ tag ∷ rest) (and_left (is_ascii_digit digit.byte) (list_all is_ascii_digit (bytes_of digits)) all)
    ∙ ap (with_digit digit) (item_first digits tag rest (and_right (is_ascii_digit digit.byte) (list_all is_ascii_digit (bytes_of digits)) all) no_digit no_end)

-- ---- bytes, cut where their bytes are

-- the bytes of one text and those of the text after it
record IsCut (located_bytes : List LocatedByte) (front back : List ℕ) : Type 0 where
  first : List LocatedByte
  rest : List LocatedByte
  whole : located_bytes ≡ first ++ rest
  first_is : bytes_of first ≡ front
  rest_is : bytes_of rest ≡ back

cut_at : (located_bytes : List LocatedByte) (front back : List ℕ) → bytes_of located_bytes ≡ front ++ back → IsCut located_bytes front back
cut_at located_bytes [] back is = record { first = []; rest = located_bytes; whole = refl; first_is = refl; rest_is = is }
cut_at [] (byte ∷ front) back is = absurd (cc)
cut_at (located ∷ located_bytes) (byte ∷ front) back is =
    let one : located.byte ≡ byte = cc in
    let more = cut_at located_bytes front back (ap (drop 1) is) in
    record {
      first = located ∷ more.first;
      rest = more.rest;
      whole = ap (λ l. located ∷ l) more.whole;
      first_is = λ i. one i ∷ more.first_is i;
      rest_is = more.rest_is;
    }

-- the byte of one byte and those of the text after it
record BeginsWith (located_bytes : List LocatedByte) (byte : ℕ) (back : List ℕ) : Type 0 where
  located : LocatedByte
  rest : List LocatedByte
  whole : located_bytes ≡ located ∷ rest
  byte_is : located.byte ≡ byte
  rest_is : bytes_of rest ≡ back

begins_with : (located_bytes : List LocatedByte) (byte : ℕ) (back : List ℕ) → bytes_of located_bytes ≡ byte ∷ back → BeginsWith located_bytes byte back
begins_with [] byte back is = absurd (cc)
begins_with (located ∷ located_bytes) byte back is = record { located = located; rest = located_bytes; whole = refl; byte_is = cc; rest_is = ap (drop 1) is }

-- ---- what an item says

tag_read : (tag : Tag) → tag_of (tag_byte tag) ≡ Ok tag
unfolding tag_of
tag_read Dead = refl
tag_read Live = refl
tag_read Row = refl

tag_no_digit : (tag : Tag) → is_ascii_digit (tag_byte tag) ≡ false
tag_no_digit Dead = refl
tag_no_digit Live = refl
tag_no_digit Row = refl

tag_no_end : (tag : Tag) → (tag_byte tag == 33) ≡ false
tag_no_end Dead = refl
tag_no_end Live = refl
tag_no_end Row = refl

count_digits : (count : ℕ) → count < 2 ^ 64 → list_all is_ascii_digit (count_text count) ≡ true
count_digits count small =
    elim (count == 1) as (λ b. list_all is_ascii_digit (if b then [] else decimal count) ≡ true) [ true ↦ refl | false ↦ (decimal_is count small).digits_all ]

count_by : (digits : List LocatedByte) (count : ℕ) (b : Bool) → count < 2 ^ 64 → (count == 1) ≡ b → bytes_of digits ≡ (if b then [] else decimal count) → count_of digits ≡ count
count_by [] count true small one is = grind (arith, nat_tests)
count_by [] count false small other is = absurd (omega (arith, ap length is, (decimal_is count small).some))
count_by (digit ∷ digits) count true small one is = absurd (cc)
count_by (digit ∷ digits) count false small other is = ap decimal_value is ∙ (decimal_is count small).value

-- ---- items that are read

-- the item that is read has the tag and the count of the one that was written
pub record IsBack (found : reader.Item) (item : Item) : Type 0 where
  pub tag : tag_of found.tag.byte ≡ Ok item.tag
  pub count : count_of found.digits ≡ item.count

abbrev pub AreBack : List reader.Item → List Item → Type 0
AreBack [] [] = Unit {0}
AreBack [] (item ∷ items) = ⊥
AreBack (found ∷ others) [] = ⊥
AreBack (found ∷ others) (item ∷ items) = IsBack found item × AreBack others items

-- the items that are read are those that were written, and no digits are left over
pub record ReadsBack (found : Items) (items : List Item) : Type 0 where
  pub each : AreBack found.items items
  pub none : found.left_over ≡ []

pub items_back : (located_bytes : List LocatedByte) (items : List Item) → AllByRecursion HasShortCount items → bytes_of located_bytes ≡ items_text items → ReadsBack (items_of located_bytes) items
items_back located_bytes [] small is =
    let stop = begins_with located_bytes 33 [] is in
    subst (λ found. ReadsBack found []) (sym (ap items_of stop.whole ∙ end_first stop.located stop.rest (ap is_ascii_digit stop.byte_is) (ap (λ b. b == 33) stop.byte_is)))
    (record { each = tt; none = refl })
items_back located_bytes (item ∷ items) small is =
    let cut = cut_at located_bytes (count_text item.count) (tag_byte item.tag ∷ items_text items) (is ∙ item_text-flat item (items_text items)) in
    let tag = begins_with cut.rest (tag_byte item.tag) (items_text items) cut.rest_is in
    let more = items_back tag.rest items small.1 tag.rest_is in
    let digits : list_all is_ascii_digit (bytes_of cut.first) ≡ true = ap (list_all is_ascii_digit) cut.first_is ∙ count_digits item.count small.0 in
    let first = item_first cut.first tag.located tag.rest digits (ap is_ascii_digit tag.byte_is ∙ tag_no_digit item.tag) (ap (λ b. b == 33) tag.byte_is ∙ tag_no_end item.tag) in
    subst (λ found. ReadsBack found (item ∷ items)) (sym (ap items_of (cut.whole ∙ ap (λ l. cut.first ++ l) tag.whole) ∙ first)) (record {
      each = (
        record { tag = ap tag_of tag.byte_is ∙ tag_read item.tag; count = count_by cut.first item.count (item.count == 1) small.0 refl cut.first_is },
        more.each,
      );
      none = more.none;
    })

-- ---- items without a fault

pub record IsFaultless (state : State) (item : Item) : Type 0 where
  pub some : (item.count == 0) ≡ false
  pub stays : leaves_range state item.tag item.count ≡ false
  pub few : passes_cells state item.tag item.count ≡ false

abbrev pub AreFaultless : ℤ → State → List Item → Type 0
AreFaultless left state [] = Unit {0}
AreFaultless left state (item ∷ items) = IsFaultless state item × AreFaultless left (after_item left state item.tag item.count) items

no_faults : (state : State) (item : Item) → IsFaultless state item → faults_of state (Ok item.tag) item.count ≡ []
unfolding faults_of
no_faults state item is =
    ap (λ b. when b BadCount ++ when (leaves_range state item.tag item.count) OutOfRange ++ when (passes_cells state item.tag item.count) TooManyCells) is.some
    ∙ ap (λ b. when false BadCount ++ when b OutOfRange ++ when (passes_cells state item.tag item.count) TooManyCells) is.stays
    ∙ ap (λ b. when false BadCount ++ when false OutOfRange ++ when b TooManyCells) is.few

no_item_fault : (state : State) (found : reader.Item) (item : Item) → IsBack found item → IsFaultless state item → item_fault state found ≡ None
unfolding item_fault
no_item_fault state found item back is =
    ap (λ refusals. option_map (λ refusal. fault_at refusal (place_of found.digits found.tag)) (first_fault refusals))
    (ap (λ tag. faults_of state tag (count_of found.digits)) back.tag ∙ ap (faults_of state (Ok item.tag)) back.count ∙ no_faults state item is)

state_back : (left : ℤ) (state : State) (found : reader.Item) (item : Item) → IsBack found item → state_after left state found ≡ after_item left state item.tag item.count
unfolding state_after
state_back left state found item back = let tag = back.tag in rw tag (ap (after_item left state item.tag) back.count)

pub no_fault : (left : ℤ) (state : State) (found : List reader.Item) (items : List Item) → AreBack found items → AreFaultless left state items → first_fault_from left state found [] ≡ None
unfolding first_fault_from
no_fault left state [] [] back all = refl
no_fault left state [] (item ∷ items) back all = absurd back
no_fault left state (found ∷ others) [] back all = absurd back
no_fault left state (found ∷ others) (item ∷ items) back all =
    ap (λ fault. option_or fault (first_fault_from left (state_after left state found) others [])) (no_item_fault state found item back.0 all.0)
    ∙ ap (λ s. first_fault_from left s others []) (state_back left state found item back.0)
    ∙ no_fault left (after_item left state item.tag item.count) others items back.1 all.1

-- ---- the cells of items

drawn : (source : List ℕ) (found : reader.Item) (item : Item) → IsBack found item → (item.count == 0) ≡ false → run_of source found ≡
    Ok (record { text = slice_range source (place_of found.digits found.tag) (found.tag.place + 1); place = place_of found.digits found.tag; count = item.count; tag = item.tag })
unfolding item_slice_from
drawn source found item back some =
    let place = place_of found.digits found.tag in
    let end = found.tag.place + 1 in
    ap (item_slice_between source place (count_of found.digits) end) back.tag
    ∙ ap (λ n. item_slice_between source place n end (Ok item.tag)) back.count
    ∙ ap (λ b. cond b (Err BadCount) (Ok (record { text = slice_range source place end; place = place; count = item.count; tag = item.tag }))) some

four_tests : (a b c : Bool) → ((a && b) && c) ≡ (a && (b && c))
four_tests true b c = refl
four_tests false b c = refl

item_covers : (state : State) (text : List ℕ) (place count : ℕ) (tag : Tag) (x y : ℤ) →
    covers state (record { text = text; place = place; count = count; tag = tag }) x y ≡ list_any (is_at x y) (item_cells (at state.column state.row) tag count)
item_covers state text place count Dead x y = refl
item_covers state text place count Row x y = refl
item_covers state text place count Live x y =
    four_tests (int_eq y state.row) (int_le state.column x) (int_lt x (state.column +ℤ pos count)) ∙ sym (in_span state.row state.column count x y)

past_is : (left : ℤ) (state : State) (tag : Tag) (count : ℕ) → at (after_item left state tag count).column (after_item left state tag count).row ≡ past left (at state.column state.row) tag count
past_is left state Dead count = refl
past_is left state Live count = refl
past_is left state Row count = refl

-- the items that are read have the cells of those that were written
pub cells_back : (left : ℤ) (source : List ℕ) (state : State) (found : List reader.Item) (items : List Item) (x y : ℤ) → AreBack found items → AreFaultless left state items →
    is_covered left state (ok_prefix (map (run_of source) found)) x y ≡ list_any (is_at x y) (cells_of left (at state.column state.row) items)
unfolding is_covered
cells_back left source state [] [] x y back all = refl
cells_back left source state [] (item ∷ items) x y back all = absurd back
cells_back left source state (found ∷ others) [] x y back all = absurd back
cells_back left source state (found ∷ others) (item ∷ items) x y back all =
    let next : State = after_item left state item.tag item.count in
    let place = place_of found.digits found.tag in
    let text = slice_range source place (found.tag.place + 1) in
    ap (λ run. is_covered left state (ok_prefix (run ∷ map (run_of source) others)) x y) (drawn source found item back.0 all.0.some)
    ∙ ap (λ b. b || is_covered left next (ok_prefix (map (run_of source) others)) x y) (item_covers state text place item.count item.tag x y)
    ∙ ap (λ b. list_any (is_at x y) (item_cells (at state.column state.row) item.tag item.count) || b) (cells_back left source next others items x y back.1 all.1)
    ∙ ap (λ cell. list_any (is_at x y) (item_cells (at state.column state.row) item.tag item.count) || list_any (is_at x y) (cells_of left cell items)) (past_is left state item.tag item.count)
    ∙ sym (list_any-append (is_at x y) (item_cells (at state.column state.row) item.tag item.count) (cells_of left (past left (at state.column state.row) item.tag item.count) items))
