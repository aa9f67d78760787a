use Rattle.std.proofs.Common.{◌≡◌, take}
use Rattle.universe.specs.Sums.{pair_sum}
use Rattle.universe.proofs.other_tables.OtherTables.pairs.Given as goal

-- the sum so far
abbrev pub invariant-loop-table : goal.invariant-loop-table
invariant-loop-table l = l.pairs ≡ pair_sum (take l.table-index l.self.tables.items)
