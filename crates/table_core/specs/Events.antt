-- One atomic step on the words.
use Rattle.std.specs.Prelude.{ℕ, ◌+◌, ◌^◌, ◌==◌, if◌then◌else◌, List, slice_index, slice_set}
use Rattle.table_core.specs.declared.machine.Event.{Event}
use Rattle.table_core.specs.declared.machine.Event.TheVariants.{Look, Claim, Ask, Tell}

-- the desk whose step it is
abbrev pub desk_of : Event → ℕ
desk_of (Look desk index) = desk
desk_of (Claim desk index word) = desk
desk_of (Ask desk index) = desk
desk_of (Tell desk index number) = desk

-- the index of the one word that it loads or exchanges
abbrev pub index_of : Event → ℕ
index_of (Look desk index) = index
index_of (Claim desk index word) = index
index_of (Ask desk index) = index
index_of (Tell desk index number) = index

-- the word that stands there afterwards, where one stood before
abbrev pub word_after : Event → ℕ → ℕ
word_after (Look desk index) found = found
word_after (Claim desk index word) found = if found == 0 then word else found
word_after (Ask desk index) found = found
word_after (Tell desk index number) found = if found == 0 then 2 ^ 32 + number else found

-- all words afterwards
abbrev pub words_after : Event → List ℕ → List ℕ
words_after event words =
    slice_set words (index_of event) (word_after event (slice_index words (index_of event)))
