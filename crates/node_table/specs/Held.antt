-- Words in one owner's hands, wherever they stand.
use Rattle.std.specs.Prelude.{◌≡◌, ℕ, List}
use Rattle.std.specs.Slots.{IsFull, slots_items, slots_len}
use Rattle.node_table.specs.declared.held.Holder.{Holder}
use Rattle.node_table.specs.declared.held.Holder.TheVariants.{Vector, Table}

abbrev pub items_in : Holder → List ℕ
items_in (Vector words) = words.items
items_in (Table closed) = slots_items closed.words

-- a table has a value in each word, and no slot
abbrev pub CanBeRead : Holder → Type 0
CanBeRead (Vector words) = Unit {0}
CanBeRead (Table closed) = IsFull closed.words × (slots_len closed.slots ≡ 0)
