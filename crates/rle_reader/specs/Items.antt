-- The items of a body: digits, none or more, and then a byte that is neither a digit nor `!`.
use Rattle.std.specs.Prelude.{◌≡◌, ℕ, ◌+◌, ◌==◌, ◌||◌, true, false, Bool, if◌then◌else◌, List, [], ◌∷◌, ◌++◌, map, slice_range, Result, Ok, Err, Option, None, Some, drop}
use Rattle.std.specs.Char.{is_ascii_digit}
use Rattle.std.specs.Int.{is_in_range}
use Rattle.std.specs.List.{flat_map, AllByRecursion}
use Rattle.std.specs.Str.{byte}
use Rattle.plane.specs.declared.refusal.Refusal.{Refusal}
use Rattle.plane.specs.declared.refusal.Refusal.TheVariants.{BadTag, MoreStates, BadCount}
use Rattle.rle_reader.specs.declared.body.LocatedByte.{LocatedByte}
use Rattle.text_lines.specs.Numbers.{decimal_value, capped}
use Rattle.text_lines.specs.Faults.{fault_at}
use Rattle.plane.specs.declared.fault.Fault.{Fault}
use Rattle.std.specs.Result.{result_map_both}
use Rattle.rle_reader.specs.declared.item.Tag.{Tag}
use Rattle.rle_reader.specs.declared.item.Tag.TheVariants.{Dead, Live, Row}

-- an item, also one whose tag is none
pub record Item : Type 0 where
  pub digits : List LocatedByte
  pub tag : LocatedByte

-- the items of a body, and the digits after them that no tag follows
pub record Items : Type 0 where
  pub items : List Item
  pub left_over : List LocatedByte

abbrev pub is_digit : LocatedByte → Bool
is_digit located = is_ascii_digit located.byte

abbrev pub is_end : LocatedByte → Bool
is_end located = located.byte == byte "!"

-- ---- what the items of a body are

-- the item is digits and then a byte that is neither a digit nor `!`
pub record IsItem (item : Item) : Type 0 where
  pub digits : AllByRecursion (λ located. is_digit located ≡ true) item.digits
  pub tag : is_digit item.tag ≡ false
  pub not_end : is_end item.tag ≡ false

-- nothing follows, or a `!` and anything
abbrev pub IsEnd : List LocatedByte → Type 0
IsEnd [] = Unit {0}
IsEnd (first ∷ rest) = is_end first ≡ true

-- the bytes are the items one after the other, then the digits left over, and then the end
pub record AreItemsOf (body : List LocatedByte) (found : Items) : Type 0 where
  pub each : AllByRecursion IsItem found.items
  pub digits : AllByRecursion (λ located. is_digit located ≡ true) found.left_over
  pub whole : (rest : List LocatedByte) × IsEnd rest
      × (body ≡ flat_map (λ item. item.digits ++ item.tag ∷ []) found.items ++ found.left_over ++ rest)

-- ---- the same, computed

-- the items where one more digit stands before them
unfoldable pub with_digit : LocatedByte → Items → Items
with_digit digit found = go found.items
  where
    go : List Item → Items
    go [] = record { items = []; left_over = digit ∷ found.left_over }
    go (item ∷ items) = record {
      items = record { digits = digit ∷ item.digits; tag = item.tag } ∷ items;
      left_over = found.left_over;
    }

-- the items where a tag stands before them
abbrev pub with_tag : LocatedByte → Items → Items
with_tag tag found = record {
  items = record { digits = []; tag = tag } ∷ found.items;
  left_over = found.left_over;
}

-- the items of a body
unfoldable pub items_of : List LocatedByte → Items
items_of [] = record { items = []; left_over = [] }
items_of (first ∷ rest) =
    if is_digit first then with_digit first (items_of rest)
    else (if is_end first then record { items = []; left_over = [] }
    else with_tag first (items_of rest))

-- ---- what an item says

-- where the digits begin, or else the tag
abbrev pub place_of : List LocatedByte → LocatedByte → ℕ
place_of [] tag = tag.place
place_of (first ∷ rest) tag = first.place

-- the value of the digits, 1 if there are none
abbrev pub count_of : List LocatedByte → ℕ
count_of [] = 1
count_of (first ∷ rest) = decimal_value (map (λ located. located.byte) (first ∷ rest))

-- a tag of a file with more than two states
abbrev pub is_more_states : ℕ → Bool
is_more_states tag = is_in_range (byte "p") (byte "y") tag || is_in_range (byte "B") (byte "X") tag

-- what a byte is as a tag
unfoldable pub tag_of : ℕ → Result Tag Refusal
tag_of tag =
    if tag == byte "b" || tag == byte "." then Ok Dead
    else (if tag == byte "o" || tag == byte "A" then Ok Live
    else (if tag == byte "$" then Ok Row
    else (if is_more_states tag then Err MoreStates else Err BadTag)))

-- an item with its slice of the text
pub record ItemSlice : Type 0 where
  pub text : List ℕ
  pub place : ℕ
  pub count : ℕ
  pub tag : Tag

-- the item from this place up to the end of its tag, with this count, unless the count is 0
abbrev pub item_slice_between : List ℕ → ℕ → ℕ → ℕ → Result Tag Refusal → Result ItemSlice Refusal
item_slice_between source place count end (Err refusal) = Err refusal
item_slice_between source place count end (Ok tag) =
    if count == 0 then Err BadCount
    else Ok
    (record { text = slice_range source place end; place = place; count = count; tag = tag })

-- the item from this place to its tag, if it has one
unfoldable pub item_slice_from : List ℕ → ℕ → ℕ → LocatedByte → Result ItemSlice Refusal
item_slice_from source place count located =
    item_slice_between source place count (located.place + 1) (tag_of located.byte)

-- the item in its text
abbrev pub run_of : List ℕ → Item → Result ItemSlice Refusal
run_of source item =
    item_slice_from source (place_of item.digits item.tag) (count_of item.digits) item.tag

-- ---- one item after the other

-- the first of these items in their text, or its fault; digits that are left over are a fault
unfoldable pub next_among : List ℕ → List Item → List LocatedByte → Result (Option ItemSlice) Fault
next_among source [] [] = Ok None
next_among source [] (digit ∷ rest) = Err (fault_at BadCount digit.place)
next_among source (item ∷ items) left_over =
    result_map_both (λ run. Some run) (λ refusal. fault_at refusal (place_of item.digits item.tag))
    (run_of source item)

abbrev pub next_of : List ℕ → Items → Result (Option ItemSlice) Fault
next_of source found = next_among source found.items found.left_over

-- the items after the first
abbrev pub items_after : Items → Items
items_after found = record { items = drop 1 found.items; left_over = found.left_over }

-- an item as a machine keeps it
abbrev pub kept : ItemSlice → ItemSlice
kept run = record run { count = capped run.count }
