-- How many squares all desks of one table expand together, from its opening to its closing.
use Rattle.std.specs.Prelude.{ℕ, ◌+◌, ◌*◌, ◌^◌, ◌≤◌, List, [], ◌∷◌}
use Rattle.node_table.specs.declared.desk.Desk.{Desk}
use Rattle.node_table.specs.declared.table.NodeTable.{NodeTable}
use Rattle.node_table.specs.Desks.{IsDeskOf, expansions_of}
use Rattle.worker_split.specs.Jobs.{ComesBack}

-- one call after another by teams of at most so many workers: each takes the desk that came back
-- from the one before
abbrev pub AreCalls : NodeTable → ℕ → Desk → List Desk → Type 0
AreCalls table most desk [] = Unit {0}
AreCalls table most desk (next ∷ later) =
    (workers : ℕ) × (workers ≤ most) × ComesBack table workers desk next
    × AreCalls table most next later

-- the desk that came back from the last call
abbrev pub last_desk : Desk → List Desk → Desk
last_desk desk [] = desk
last_desk desk (next ∷ later) = last_desk next later

-- whatever calls follow one another at one table, they count at most as many expansions as there
-- are workers, for each of its pair slots
abbrev pub EveryExpansionHasItsSlot : Type 0
EveryExpansionHasItsSlot =
    (table : NodeTable) (workers : ℕ) (first : Desk) (desks : List Desk) → IsDeskOf table first →
    AreCalls table workers first desks →
    expansions_of (last_desk first desks) ≤ expansions_of first + workers * 2 ^ table.key.shape.bits
