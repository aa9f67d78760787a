use Rattle.std.proofs.Common.{◌≡◌}
use Rattle.std.specs.Prelude.{vec_len}
use Rattle.universe.proofs.Evicting.{AreLeft}
use Rattle.universe.proofs.other_tables.OtherTables.make_room.Given as goal

-- the last of the tables, with none gone that had room, under the same limit
abbrev pub invariant-evicting : goal.invariant-evicting
invariant-evicting l = AreLeft l.fn.self.tables.items l.self.tables.items l.room × (l.self.limit ≡ l.fn.self.limit)

abbrev pub decreases-evicting : goal.decreases-evicting
decreases-evicting l = vec_len l.self.tables
