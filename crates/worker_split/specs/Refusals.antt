-- What a desk refused to one call it refuses to the next.
use Rattle.std.specs.Prelude.{ℕ}
use Rattle.table_core.specs.declared.shape.Kind.{Kind}
use Rattle.node_table.specs.declared.desk.Desk.{Desk}
use Rattle.node_table.specs.declared.table.NodeTable.{NodeTable}
use Rattle.node_table.specs.Refusals.{HasNoRoom}
use Rattle.worker_split.specs.Jobs.{ComesBack}

-- a word for which a desk had no room has none at the desk that comes back from a call
abbrev pub EveryRefusalStays : Type 0
EveryRefusalStays =
    (table : NodeTable) (workers : ℕ) (old new : Desk) (kind : Kind) (word : ℕ) →
    ComesBack table workers old new → HasNoRoom table old kind word → HasNoRoom table new kind word
