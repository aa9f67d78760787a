-- Words that are blocks.
use Rattle.std.proofs.Common.{◌≢◌, ℕ, zero, suc, ◌<◌, arith, refl}
use Rattle.table_core.specs.declared.shape.Kind.TheVariants.{Pair}
use Rattle.table_core.specs.Layout.{start}
use Rattle.node_sweep.specs.Table.{IsBlockIn, Table}

-- a nonzero word of a leaf is a block
pub leaf_at : (table : Table) (n : ℕ) → n ≢ 0 → n < start table.bits Pair → table.words n ≢ 0 → IsBlockIn table 0 n
leaf_at table zero some low there = absurd (some refl)
leaf_at table (suc n) some low there = (record { from = omega arith; below = omega arith }, there)
