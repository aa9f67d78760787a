-- The runs of rising cells: where they lie, and their cells.
use Rattle.std.proofs.Common.{◌≡◌, ℕ, zero, suc, ◌+◌, ℤ, pos, ◌+ℤ◌, ◌≤ℤ◌, ◌<ℤ◌, true, false, if◌then◌else◌, List, [], ◌∷◌, ◌++◌, flat_map, refl, ap, sym, ◌∙◌, subst, arith, append_assoc}
use Rattle.std.specs.Bool.{Decides}
use Rattle.std.specs.Cmp.{int_ranks}
use Rattle.std.specs.List.{AllByRecursion}
use Rattle.std.specs.List.Sorted.{IsStrictlySortedBy}
use Rattle.std.specs.Ordering.{MatchOrdering, int_cmp, int_eq, ordering_then}
use Rattle.std.specs.declared.cmp.Ordering.TheVariants.{Less, Equal, Greater}
use Rattle.std.proofs.lemmas.Bool.Decides.{Decides-int_eq}
use Rattle.std.proofs.lemmas.Int.{ints}
use Rattle.plane.specs.Listing.{is_at, reading_order}
use Rattle.plane.specs.declared.cell.Cell.{Cell}
use Rattle.plane.proofs.Around.{at_place}
use Rattle.plane.proofs.Cells.{at}
use Rattle.plane.proofs.Elements.{AllByRecursion-weaker}
use Rattle.pattern_writers.specs.Items.{distance, next_cell}
use Rattle.pattern_writers.specs.RowRuns.{first_cell, joined, run_at, runs_of}
use Rattle.pattern_writers.specs.declared.rle_text.row_run.RowRun.{RowRun}
use Rattle.pattern_writers.proofs.ItemReading.{AreAhead, IsAhead, run_cells, span}

-- ---- a run that goes on

abbrev pub longer : RowRun → RowRun → RowRun
longer run next = record run { end = next.end }

-- the first of two runs goes on with the second
pub record GoesOn (run next : RowRun) : Type 0 where
  pub row : run.row ≡ next.row
  pub column : run.end ≡ next.first

goes_on : (run next : RowRun) → is_at run.end run.row (first_cell next) ≡ true → GoesOn run next
goes_on run next here = let place = at_place run.end run.row (first_cell next) here in record { row = place.1; column = place.0 }

-- what holds of a run, the next and those after it holds where they are one, and where they are two
pub by_joined : (P : List RowRun → Type 0) (run next : RowRun) (runs : List RowRun) → (GoesOn run next → P (longer run next ∷ runs)) → P (run ∷ next ∷ runs) → P (joined run (next ∷ runs))
by_joined P run next runs one two =
    elim (is_at run.end run.row (first_cell next)) as (λ b.
    is_at run.end run.row (first_cell next) ≡ b → P (if b then (longer run next ∷ runs) else (run ∷ next ∷ runs))) [
      | true ↦ λ here. one (goes_on run next here)
      | false ↦ λ _. two
    ] refl

-- ---- where runs lie

longer_ahead : (left : ℤ) (before : Cell) (run next : RowRun) → GoesOn run next → IsAhead left before run → IsAhead left (next_cell run) next → IsAhead left before (longer run next)
longer_ahead left before run next on ahead more = record { down = ahead.down; across = ahead.across; ends = omega (arith, ints, on.column, ahead.ends, more.ends) }

joined_ahead : (left : ℤ) (before : Cell) (run : RowRun) (runs : List RowRun) → AreAhead left before (run ∷ runs) → AreAhead left before (joined run runs)
joined_ahead left before run [] ahead = ahead
joined_ahead left before run (next ∷ runs) ahead =
    by_joined (AreAhead left before) run next runs
    (λ on. (longer_ahead left before run next on ahead.0 ahead.1.0, subst (λ y. AreAhead left (at next.end y) runs) (sym on.row) ahead.1.1))
    ahead

-- the cell lies at a place or after it
pub record IsFrom (next cell : Cell) : Type 0 where
  pub down : next.y ≤ℤ cell.y
  pub across : next.y ≡ cell.y → next.x ≤ℤ cell.x

from_less : (a b : Cell) → reading_order a b ≡ Less → IsFrom (next_cell (run_at a)) b
from_less a b less =
    elim (int_cmp a.y b.y) as (λ o. MatchOrdering o (a.y <ℤ b.y) (a.y ≡ b.y) (b.y <ℤ a.y) → ordering_then o (int_cmp a.x b.x) ≡ Less → IsFrom (next_cell (run_at a)) b) [
      | Less ↦ λ above _. record { down = omega (arith, ints, above); across = λ same. absurd (omega (arith, ints, above, same)) }
      | Equal ↦ λ same before.
          let less : a.x <ℤ b.x = subst (λ o. MatchOrdering o (a.x <ℤ b.x) (a.x ≡ b.x) (b.x <ℤ a.x)) before (int_ranks a.x b.x) in
          record { down = omega (arith, ints, same); across = λ _. omega (arith, ints, less) }
      | Greater ↦ λ _ no_less. cc
    ] (int_ranks a.y b.y) less

first_ahead : (left : ℤ) (next cell : Cell) → left ≤ℤ cell.x → IsFrom next cell → IsAhead left next (run_at cell)
first_ahead left next cell right from =
    let decides : Decides (int_eq cell.y next.y) (cell.y ≡ next.y) = Decides-int_eq cell.y next.y in
    record {
      down = from.down;
      across = elim (int_eq cell.y next.y) as (λ b. int_eq cell.y next.y ≡ b → (if b then next.x else left) ≤ℤ cell.x) [
        | true ↦ λ same. from.across (sym (decides.0 same))
        | false ↦ λ _. right
      ] refl;
      ends = omega (arith, ints);
    }

-- the runs of cells that rise from a place on lie there or after it
pub runs_ahead : (left : ℤ) (next : Cell) (cells : List Cell) → IsStrictlySortedBy reading_order cells → AllByRecursion (λ cell. left ≤ℤ cell.x) cells →
    AllByRecursion (IsFrom next) cells → AreAhead left next (runs_of cells)
unfolding IsStrictlySortedBy
runs_ahead left next [] rising right from = tt
runs_ahead left next (cell ∷ cells) rising right from =
    joined_ahead left next (run_at cell) (runs_of cells) (
      first_ahead left next cell right.0 from.0,
      runs_ahead left (next_cell (run_at cell)) cells rising.1 right.1 (AllByRecursion-weaker _ _ (from_less cell) cells rising.0),
    )

-- ---- the cells of runs

span-append : (row first : ℤ) (m n : ℕ) → span row first (m + n) ≡ span row first m ++ span row (first +ℤ pos m) n
span-append row first zero n =
    let count : 0 + n ≡ n = omega arith in
    let column : first ≡ first +ℤ pos 0 = omega (arith, ints) in
    ap (span row first) count ∙ ap (λ x. span row x n) column
span-append row first (suc m) n =
    let count : suc m + n ≡ suc (m + n) = omega arith in
    let column : (first +ℤ pos 1) +ℤ pos m ≡ first +ℤ pos (suc m) = omega (arith, ints) in
    ap (span row first) count ∙ ap (λ l. at first row ∷ l) (span-append row (first +ℤ pos 1) m n ∙ ap (λ x. span row (first +ℤ pos 1) m ++ span row x n) column)

longer_cells : (run next : RowRun) → GoesOn run next → run.first ≤ℤ run.end → next.first ≤ℤ next.end → run_cells (longer run next) ≡ run_cells run ++ run_cells next
longer_cells run next on some more =
    let count : distance run.first next.end ≡ distance run.first run.end + distance next.first next.end = omega (arith, ints, on.column, some, more) in
    let column : run.first +ℤ pos (distance run.first run.end) ≡ next.first = omega (arith, ints, on.column, some) in
    ap (span run.row run.first) count
    ∙ span-append run.row run.first (distance run.first run.end) (distance next.first next.end)
    ∙ ap (λ x. run_cells run ++ span run.row x (distance next.first next.end)) column
    ∙ ap (λ y. run_cells run ++ span y next.first (distance next.first next.end)) on.row

joined_cells : (left : ℤ) (before : Cell) (run : RowRun) (runs : List RowRun) → AreAhead left before (run ∷ runs) →
    flat_map run_cells (joined run runs) ≡ run_cells run ++ flat_map run_cells runs
joined_cells left before run [] ahead = refl
joined_cells left before run (next ∷ runs) ahead =
    by_joined (λ all. flat_map run_cells all ≡ run_cells run ++ (run_cells next ++ flat_map run_cells runs)) run next runs
    (λ on. ap (λ l. l ++ flat_map run_cells runs) (longer_cells run next on ahead.0.ends ahead.1.0.ends) ∙ append_assoc (run_cells run) (run_cells next) (flat_map run_cells runs))
    refl

one_cell : (cell : Cell) → run_cells (run_at cell) ≡ cell ∷ []
one_cell cell = let count : distance cell.x (cell.x +ℤ pos 1) ≡ 1 = omega (arith, ints) in ap (span cell.y cell.x) count

-- the cells of the runs of rising cells are those cells
pub runs_cells : (left : ℤ) (next : Cell) (cells : List Cell) → IsStrictlySortedBy reading_order cells → AllByRecursion (λ cell. left ≤ℤ cell.x) cells →
    AllByRecursion (IsFrom next) cells → flat_map run_cells (runs_of cells) ≡ cells
unfolding IsStrictlySortedBy
runs_cells left next [] rising right from = refl
runs_cells left next (cell ∷ cells) rising right from =
    let later = AllByRecursion-weaker _ _ (from_less cell) cells rising.0 in
    joined_cells left next (run_at cell) (runs_of cells)
    (first_ahead left next cell right.0 from.0, runs_ahead left (next_cell (run_at cell)) cells rising.1 right.1 later)
    ∙ ap (λ l. l ++ flat_map run_cells (runs_of cells)) (one_cell cell)
    ∙ ap (λ l. cell ∷ l) (runs_cells left (next_cell (run_at cell)) cells rising.1 right.1 later)
