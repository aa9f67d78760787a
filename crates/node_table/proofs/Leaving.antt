-- A desk that kept its book is one of the table where it began.
use Rattle.std.proofs.Common.{◌≡◌, ℕ, ◌≤◌, drop, sym, ◌∙◌, ap, Some}
use Rattle.std.specs.Prelude.{slice_index}
use Rattle.std.proofs.Props.{props}
use mathlib.Core.HLevel.{Σ_prop_path}
use Rattle.atomic_table.specs.Seated.{TableId}
use Rattle.squares.specs.Book.{Keeps, Store}
use Rattle.table_core.specs.declared.key.Key.{Key}
use Rattle.table_core.specs.declared.shape.Shape.{Shape}
use Rattle.node_table.specs.declared.desk.Desk.{Desk}
use Rattle.node_table.specs.declared.table.NodeTable.{NodeTable}
use Rattle.node_table.specs.Books.{book_of}
use Rattle.node_table.specs.Desks.{IsDeskOf, numbers_of, store_of, work_at, work_store}

in_range_prop : (bits : ℕ) → IsProp ((10 ≤ bits) × (bits ≤ 28))
in_range_prop bits = hlevel props

same_shape : (a b : Shape) → a.bits ≡ b.bits → a ≡ b
same_shape a b e = ap (λ (t : (bits : ℕ) × ((10 ≤ bits) × (bits ≤ 28))). record { bits = t.0; range = t.1 }) (Σ_prop_path in_range_prop {u = (a.bits, a.range)} {v = (b.bits, b.range)} e)

same_key : (a b : Key) → a.shape.bits ≡ b.shape.bits → a.rule ≡ b.rule → a.exponent ≡ b.exponent → a ≡ b
same_key a b bits rule exponent = λ i. record { shape = same_shape a.shape b.shape bits i; rule = rule i; exponent = exponent i }

same_id : (m n : ℕ) (a b : TableId) → numbers_of m a ≡ numbers_of n b → a ≡ b
same_id m n a b e = λ i. record {
  words = slice_index (e i) 1;
  slots = slice_index (e i) 2;
  views_name = slice_index (e i) 3;
  atom = slice_index (e i) 4;
  block = slice_index (e i) 5;
  offset = slice_index (e i) 6;
  slot_names = drop 7 (e i);
}

-- a desk of one table is one of another that has the same rule, exponent and numbers, and knows
-- there what it knows
pub same_table : (here table : NodeTable) (desk : Desk) → IsDeskOf here desk → here.key.rule ≡ table.key.rule → here.key.exponent ≡ table.key.exponent →
    (store_of here).numbers ≡ (store_of table).numbers → IsDeskOf table desk × (table.key ≡ here.key)
same_table here table desk d rule exponent numbers =
    let bits : here.key.shape.bits ≡ table.key.shape.bits = ap (λ xs. slice_index xs 0) numbers in
    let key : here.key ≡ table.key = same_key here.key table.key bits rule exponent in
    let id : here.table.shared.table_id ≡ table.table.shared.table_id = same_id here.key.shape.bits table.key.shape.bits here.table.shared.table_id table.table.shared.table_id numbers in
    (record { same_table = d.same_table ∙ id; same_key = d.same_key ∙ ap (λ (k : Key). Some k) key }, sym key)

-- so it is where it came with the same number of expansions
moved : (number count : ℕ) (here table : NodeTable) (desk : Desk) → IsDeskOf here desk → here.key.rule ≡ table.key.rule → here.key.exponent ≡ table.key.exponent →
    work_store number here ≡ work_store count table → IsDeskOf table desk × (work_at count table desk ≡ work_at number here desk) × (number ≡ count)
moved number count here table desk d rule exponent stores =
    let t = same_table here table desk d rule exponent (ap (λ (s : Store). s.numbers) stores) in
    (t.0, λ i. book_of (sym stores i) (t.1 i) desk.seat.me.0.known, ap (λ (s : Store). s.expansions) stores)

pub returned : (number : ℕ) (here table : NodeTable) (first desk : Desk) → IsDeskOf here desk → Keeps (work_at first.expansions table first) (work_at number here desk) →
    IsDeskOf table desk × (work_at first.expansions table desk ≡ work_at number here desk) × (number ≡ first.expansions)
returned number here table first desk d keeps = moved number first.expansions here table desk d keeps.rule keeps.exponent keeps.store
