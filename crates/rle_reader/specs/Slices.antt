-- Items as slices of their text.
use Rattle.std.specs.Prelude.{◌≡◌, ◌⊎◌, ◌≤◌, ℕ, ◌+◌, ◌-◌, List, [], ◌∷◌, length, Ok, true, slice_index, slice_range}
use Rattle.std.specs.Char.{is_ascii_digit}
use Rattle.rle_reader.specs.Items.{ItemSlice, tag_of}

-- the item is the slice of the source that begins at its place; its first byte is a digit, or it is
-- only the tag, and its last byte is the tag
pub record IsSlice (source : List ℕ) (item : ItemSlice) : Type 0 where
  pub slice : slice_range source item.place (item.place + length item.text) ≡ item.text
  pub first : (length item.text ≡ 1) ⊎ (is_ascii_digit (slice_index item.text 0) ≡ true)
  pub last : tag_of (slice_index item.text (length item.text - 1)) ≡ Ok item.tag

-- these items are slices of the source, of which the first begins at this place or later, and none
-- before the one before it ends
abbrev pub AreSlices : List ℕ → ℕ → List ItemSlice → Type 0
AreSlices source from [] = Unit {0}
AreSlices source from (item ∷ rest) =
    (from ≤ item.place) × IsSlice source item
    × AreSlices source (item.place + length item.text) rest
