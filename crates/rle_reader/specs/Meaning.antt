-- What a text means, or its first fault.
use Rattle.std.specs.Prelude.{◌≡◌, ℕ, length, List, [], ◌∷◌, map, filter, sum_by, ℤ, pos, ◌+ℤ◌, int_le, int_lt, Bool, true, false, ◌&&◌, ◌||◌, Option, None, Some, Result, Ok, Err}
use Rattle.std.specs.Option.{option_map, option_or}
use Rattle.std.specs.Ordering.{int_eq}
use Rattle.std.specs.Result.{ok_prefix}
use Rattle.plane.specs.declared.cell.Cell.{Cell}
use Rattle.plane.specs.declared.fault.Fault.{Fault}
use Rattle.plane.specs.declared.refusal.Refusal.{Refusal}
use Rattle.plane.specs.declared.refusal.Refusal.TheVariants.{BadCount}
use Rattle.plane.specs.Plane.{Plane}
use Rattle.text_lines.specs.Faults.{fault_at, unless, ◌>>=◌}
use Rattle.text_lines.specs.Lines.{lines}
use Rattle.text_lines.specs.Meaning as pattern
use Rattle.rle_reader.specs.Preamble.{PreambleMeaning, preamble_of}
use Rattle.rle_reader.specs.Body.{stripped}
use Rattle.rle_reader.specs.declared.body.LocatedByte.{LocatedByte}
use Rattle.rle_reader.specs.Items.{Item, Items, ItemSlice, items_of, place_of, count_of, tag_of, run_of, kept}
use Rattle.rle_reader.specs.State.{State, start_at, after_item, leaves_range, passes_cells, faults_of, first_fault}
use Rattle.rle_reader.specs.declared.item.Tag.{Tag}
use Rattle.rle_reader.specs.declared.item.Tag.TheVariants.{Dead, Live, Row}

-- the first fault of an item in a state
unfoldable pub item_fault : State → Item → Option Fault
item_fault state item =
    option_map (λ refusal. fault_at refusal (place_of item.digits item.tag))
    (first_fault (faults_of state (tag_of item.tag.byte) (count_of item.digits)))

-- the state after an item, also one whose tag is none
unfoldable pub state_after : ℤ → State → Item → State
state_after left state item = go (tag_of item.tag.byte)
  where
    go : Result Tag Refusal → State
    go (Err refusal) = state
    go (Ok tag) = after_item left state tag (count_of item.digits)

-- the first fault of the items, and of the digits left over after them, from a state on
unfoldable pub first_fault_from : ℤ → State → List Item → List LocatedByte → Option Fault
first_fault_from left state [] [] = None
first_fault_from left state [] (first ∷ rest) = Some (fault_at BadCount first.place)
first_fault_from left state (item ∷ items) left_over =
    option_or (item_fault state item)
    (first_fault_from left (state_after left state item) items left_over)

-- the first fault of a body whose first item begins at this cell
unfoldable pub body_fault : Cell → Items → Option Fault
body_fault corner found = first_fault_from corner.x (start_at corner) found.items found.left_over

-- the items of a body in their text, up to the first that has no tag or has the count 0
abbrev pub runs_of : List ℕ → List LocatedByte → List ItemSlice
runs_of source body = ok_prefix (map (run_of source) (items_of body).items)

-- the same as a machine keeps them
unfoldable pub runs_kept : List ℕ → List LocatedByte → List ItemSlice
runs_kept source body = map kept (runs_of source body)

-- what an accepted text means
pub record Meaning : Type 0 where
  pub pos : Cell
  pub generation : ℕ
  pub rule : Option (List ℕ)
  pub rule_place : ℕ
  pub comments : List (List ℕ)
  pub runs : List ItemSlice

-- what a text with this preamble means
unfoldable pub meaning_of : List ℕ → PreambleMeaning → Meaning
meaning_of text told = record {
  pos = told.settings.pos;
  generation = told.settings.generation;
  rule = told.rule;
  rule_place = told.header;
  comments = told.comments;
  runs = runs_of text (stripped told.body);
}

-- what a text means, or its first fault
unfoldable pub judged : List ℕ → Result Meaning Fault
judged text = do
  told ← preamble_of (length text) (lines 0 text)
  unless (body_fault told.settings.pos (items_of (stripped told.body)))
      (meaning_of text told)

-- ---- the cells that a meaning makes live

-- the tag is that of live cells
abbrev pub is_live : Tag → Bool
is_live Live = true
is_live Dead = false
is_live Row = false

-- the item makes the cell live
abbrev pub covers : State → ItemSlice → ℤ → ℤ → Bool
covers state run x y = is_live run.tag && int_eq y state.row
    && int_le state.column x && int_lt x (state.column +ℤ pos run.count)

-- one of the items, from a state on, makes the cell live
unfoldable pub is_covered : ℤ → State → List ItemSlice → ℤ → ℤ → Bool
is_covered left state [] x y = false
is_covered left state (run ∷ runs) x y =
    covers state run x y || is_covered left (after_item left state run.tag run.count) runs x y

-- the cells that the items make live
abbrev pub live_plane : Meaning → Plane
live_plane meaning = is_covered meaning.pos.x (start_at meaning.pos) meaning.runs

-- the meaning without what only this format has
abbrev pub as_pattern : Meaning → pattern.Meaning
as_pattern meaning = record {
  generation = meaning.generation;
  rule = meaning.rule;
  rule_place = meaning.rule_place;
  comments = meaning.comments;
  live = live_plane meaning;
}

-- the pattern in a text, or the text's first fault
abbrev pub pattern_in : List ℕ → Result pattern.Meaning Fault
pattern_in text = pattern.seen_as as_pattern (judged text)

-- how many cells the items make live
abbrev pub live_cells : List ItemSlice → ℕ
live_cells runs = sum_by (λ run. run.count) (filter (λ run. is_live run.tag) runs)

-- ---- where the items lead

-- the items stay within the range from a state on, and their live cells are not too many
abbrev pub StayInRange : ℤ → State → List ItemSlice → Type 0
StayInRange left state [] = Unit {0}
StayInRange left state (run ∷ runs) =
    (leaves_range state run.tag run.count ≡ false)
    × (passes_cells state run.tag run.count ≡ false)
    × StayInRange left (after_item left state run.tag run.count) runs
