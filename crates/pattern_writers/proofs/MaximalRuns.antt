-- Runs that lie apart are the runs of their cells.
use Rattle.std.proofs.Common.{◌≡◌, ℕ, zero, suc, ◌⊎◌, ℤ, pos, ◌+ℤ◌, ◌-ℤ◌, ◌≤ℤ◌, ◌<ℤ◌, int_le, int_lt, Bool, true, false, ◌&&◌, ◌||◌, if◌then◌else◌, List, [], ◌∷◌, ◌++◌, flat_map, refl, ap, sym, ◌∙◌, subst, arith, ⊎_elim}
use Rattle.std.specs.declared.cmp.Ordering.TheVariants.{Less}
use Rattle.std.specs.List.{AllByRecursion, list_any}
use Rattle.std.specs.List.Sorted.{IsStrictlySortedBy}
use Rattle.std.specs.Ordering.{int_eq}
use Rattle.std.proofs.lemmas.Int.{ints}
use Rattle.std.proofs.lemmas.List.Folds.{list_any-append}
use Rattle.plane.specs.Listing.{is_at, plane_of, reading_order}
use Rattle.plane.specs.declared.cell.Cell.{Cell}
use Rattle.plane.proofs.Around.{at_place}
use Rattle.plane.proofs.Cells.{at}
use Rattle.plane.proofs.Listings.{is_at-own}
use Rattle.plane.proofs.Elements.{AllByRecursion-append, AllByRecursion-weaker}
use Rattle.pattern_writers.specs.Items.{distance}
use Rattle.pattern_writers.specs.RowRuns.{first_cell, joined, run_at, runs_of}
use Rattle.pattern_writers.specs.declared.rle_text.row_run.RowRun.{RowRun}
use Rattle.pattern_writers.proofs.ItemReading.{run_cells, span}

-- the other run lies in a later row, or in the same row with a dead cell between
abbrev pub LiesBehind : RowRun → RowRun → Type 0
LiesBehind run other = (run.row <ℤ other.row) ⊎ ((run.row ≡ other.row) × (run.end <ℤ other.first))

-- no run is empty, and each lies behind those before it
abbrev pub AreApart : List RowRun → Type 0
AreApart [] = Unit {0}
AreApart (run ∷ runs) = (run.first <ℤ run.end) × AllByRecursion (LiesBehind run) runs × AreApart runs

-- ---- the runs of their cells

not_next : (run other : RowRun) → LiesBehind run other → is_at run.end run.row (first_cell other) ≡ false
not_next run other behind =
    elim (is_at run.end run.row (first_cell other)) as (λ b. is_at run.end run.row (first_cell other) ≡ b → b ≡ false) [
      | true ↦ λ here.
          let place = at_place run.end run.row (first_cell other) here in
          absurd (⊎_elim (λ above. let no : ⊥ = omega (arith, ints, above, place.1) in no) (λ same. let no : ⊥ = omega (arith, ints, same.1, place.0) in no) behind)
      | false ↦ λ _. refl
    ] refl

if_true : {X : Type 0} (b : Bool) (x y : X) → b ≡ true → (if b then x else y) ≡ x
if_true true x y is = refl
if_true false x y is = cc

if_false : {X : Type 0} (b : Bool) (x y : X) → b ≡ false → (if b then x else y) ≡ y
if_false true x y is = cc
if_false false x y is = refl

abbrev run_with : ℤ → ℤ → ℕ → RowRun
run_with row first count = record { row = row; first = first; end = first +ℤ pos count }

alone : (run : RowRun) (runs : List RowRun) → AllByRecursion (LiesBehind run) runs → joined run runs ≡ run ∷ runs
alone run [] behind = refl
alone run (next ∷ runs) behind = if_false (is_at run.end run.row (first_cell next)) _ _ (not_next run next behind.0)

one_further : (first : ℤ) (count : ℕ) → (first +ℤ pos 1) +ℤ pos count ≡ first +ℤ pos (suc count)
one_further first count = omega (arith, ints)

-- the cells of a run, and cells whose runs lie behind it
span_runs : (row first : ℤ) (count : ℕ) (cells : List Cell) (runs : List RowRun) → runs_of cells ≡ runs → AllByRecursion (LiesBehind (run_with row first (suc count))) runs →
    runs_of (span row first (suc count) ++ cells) ≡ run_with row first (suc count) ∷ runs
span_runs row first zero cells runs is behind =
    ap (joined (run_at (at first row))) is ∙ alone (run_with row first 1) runs behind
span_runs row first (suc count) cells runs is behind =
    let further : AllByRecursion (LiesBehind (run_with row (first +ℤ pos 1) (suc count))) runs =
    subst (λ end. AllByRecursion (LiesBehind (record { row = row; first = first +ℤ pos 1; end = end })) runs) (sym (one_further first (suc count))) (weaker behind) in
    ap (joined (run_at (at first row))) (span_runs row (first +ℤ pos 1) count cells runs is further)
    ∙ if_true (is_at (first +ℤ pos 1) row (at (first +ℤ pos 1) row)) _ _ (is_at-own (at (first +ℤ pos 1) row))
    ∙ ap (λ end. record { row = row; first = first; end = end } ∷ runs) (one_further first (suc count))
  where
    weaker : AllByRecursion (LiesBehind (run_with row first (suc (suc count)))) runs → AllByRecursion (LiesBehind (record { row = row; first = first +ℤ pos 1; end = first +ℤ pos (suc (suc count)) })) runs
    weaker all = all

counted : (first end : ℤ) → first <ℤ end → (count : ℕ) × (distance first end ≡ suc count) × (end ≡ first +ℤ pos (suc count))
counted first end some = (distance first (end -ℤ pos 1), omega (arith, ints), omega (arith, ints))

pub runs_apart : (runs : List RowRun) → AreApart runs → runs_of (flat_map run_cells runs) ≡ runs
runs_apart [] apart = refl
runs_apart (run ∷ runs) apart =
    let count = counted run.first run.end apart.0 in
    let same : run ≡ run_with run.row run.first (suc count.0) = ap (λ end. record { row = run.row; first = run.first; end = end }) count.2 in
    ap (λ n. runs_of (span run.row run.first n ++ flat_map run_cells runs)) count.1
    ∙ span_runs run.row run.first count.0 (flat_map run_cells runs) runs (runs_apart runs apart.2) (subst (λ r. AllByRecursion (LiesBehind r) runs) same apart.1)
    ∙ ap (λ r. r ∷ runs) (sym same)

-- ---- their cells rise

-- the cell lies in the run
record IsOfRun (run : RowRun) (cell : Cell) : Type 0 where
  row : cell.y ≡ run.row
  from : run.first ≤ℤ cell.x
  before : cell.x <ℤ run.end

span_of : (row first end : ℤ) (start : ℤ) (count : ℕ) → first ≤ℤ start → (start +ℤ pos count) ≤ℤ end → AllByRecursion (IsOfRun (record { row = row; first = first; end = end })) (span row start count)
span_of row first end start zero from within = tt
span_of row first end start (suc count) from within = (
  record { row = refl; from = from; before = omega (arith, ints) },
  span_of row first end (start +ℤ pos 1) count (omega (arith, ints)) (omega (arith, ints)),
)

cells_of_run : (run : RowRun) → run.first <ℤ run.end → AllByRecursion (IsOfRun run) (run_cells run)
cells_of_run run some = span_of run.row run.first run.end run.first (distance run.first run.end) (omega (arith, ints)) (omega (arith, ints))

read_before : (run other : RowRun) (a b : Cell) → LiesBehind run other → IsOfRun run a → IsOfRun other b → reading_order a b ≡ Less
read_before run other a b behind one two =
    ⊎_elim (λ above. grind (arith, ints, above, one.row, two.row)) (λ same. grind (arith, ints, same.0, same.1, one.row, two.row, one.before, two.from)) behind

all_read_before : (run other : RowRun) (a : Cell) (cells : List Cell) → LiesBehind run other → IsOfRun run a → AllByRecursion (IsOfRun other) cells → AllByRecursion (λ b. reading_order a b ≡ Less) cells
all_read_before run other a cells behind one all = AllByRecursion-weaker (IsOfRun other) (λ b. reading_order a b ≡ Less) (λ b two. read_before run other a b behind one two) cells all

before_others : (run : RowRun) (a : Cell) (runs : List RowRun) → AllByRecursion (LiesBehind run) runs → AreApart runs → IsOfRun run a → AllByRecursion (λ b. reading_order a b ≡ Less) (flat_map run_cells runs)
before_others run a [] behind apart one = tt
before_others run a (next ∷ runs) behind apart one =
    AllByRecursion-append _ (run_cells next) (flat_map run_cells runs) (all_read_before run next a (run_cells next) behind.0 one (cells_of_run next apart.0)) (before_others run a runs behind.1 apart.2 one)

before_span : (row first start : ℤ) (count : ℕ) → first <ℤ start → AllByRecursion (λ b. reading_order (at first row) b ≡ Less) (span row start count)
before_span row first start zero less = tt
before_span row first start (suc count) less = (grind (arith, ints), before_span row first (start +ℤ pos 1) count (omega (arith, ints)))

span_rises : (run : RowRun) (row first : ℤ) (count : ℕ) (cells : List Cell) → AllByRecursion (IsOfRun run) (span row first count) →
    ((a : Cell) → IsOfRun run a → AllByRecursion (λ b. reading_order a b ≡ Less) cells) → IsStrictlySortedBy reading_order cells → IsStrictlySortedBy reading_order (span row first count ++ cells)
unfolding IsStrictlySortedBy
span_rises run row first zero cells of before rises = rises
span_rises run row first (suc count) cells of before rises = (
  AllByRecursion-append _ (span row (first +ℤ pos 1) count) cells (before_span row first (first +ℤ pos 1) count (omega (arith, ints))) (before (at first row) of.0),
  span_rises run row (first +ℤ pos 1) count cells of.1 before rises,
)

pub cells_rise : (runs : List RowRun) → AreApart runs → IsStrictlySortedBy reading_order (flat_map run_cells runs)
unfolding IsStrictlySortedBy
cells_rise [] apart = tt
cells_rise (run ∷ runs) apart =
    span_rises run run.row run.first (distance run.first run.end) (flat_map run_cells runs) (cells_of_run run apart.0) (λ a one. before_others run a runs apart.1 apart.2 one) (cells_rise runs apart.2)

-- ---- their cells as a plane

-- whether the run has the cell
abbrev pub is_in_run : ℤ → ℤ → RowRun → Bool
is_in_run x y run = int_eq y run.row && (int_le run.first x && int_lt x run.end)

and_nothing : (b : Bool) → (b && false) ≡ false
and_nothing true = refl
and_nothing false = refl

or_and : (a b c : Bool) → ((a && b) || (a && c)) ≡ (a && (b || c))
or_and true b c = refl
or_and false b c = refl

between_none : (first x : ℤ) → (int_le first x && int_lt x (first +ℤ pos 0)) ≡ false
between_none first x = grind (arith, ints)

between_more : (first x : ℤ) (count : ℕ) → (int_eq x first || (int_le (first +ℤ pos 1) x && int_lt x ((first +ℤ pos 1) +ℤ pos count))) ≡ (int_le first x && int_lt x (first +ℤ pos (suc count)))
between_more first x count = grind (arith, ints)

pub in_span : (row first : ℤ) (count : ℕ) (x y : ℤ) → list_any (is_at x y) (span row first count) ≡ (int_eq y row && (int_le first x && int_lt x (first +ℤ pos count)))
in_span row first zero x y = sym (ap (λ b. int_eq y row && b) (between_none first x) ∙ and_nothing (int_eq y row))
in_span row first (suc count) x y =
    ap (λ b. (int_eq y row && int_eq x first) || b) (in_span row (first +ℤ pos 1) count x y)
    ∙ or_and (int_eq y row) (int_eq x first) (int_le (first +ℤ pos 1) x && int_lt x ((first +ℤ pos 1) +ℤ pos count))
    ∙ ap (λ b. int_eq y row && b) (between_more first x count)

pub plane_of-runs : (runs : List RowRun) → AreApart runs → (x y : ℤ) → plane_of (flat_map run_cells runs) x y ≡ list_any (is_in_run x y) runs
unfolding plane_of
plane_of-runs [] apart x y = refl
plane_of-runs (run ∷ runs) apart x y =
    let end : run.first +ℤ pos (distance run.first run.end) ≡ run.end = omega (arith, ints, apart.0) in
    list_any-append (is_at x y) (run_cells run) (flat_map run_cells runs)
    ∙ ap (λ b. b || list_any (is_at x y) (flat_map run_cells runs)) (in_span run.row run.first (distance run.first run.end) x y)
    ∙ ap (λ e. (int_eq y run.row && (int_le run.first x && int_lt x e)) || list_any (is_at x y) (flat_map run_cells runs)) end
    ∙ ap (λ b. is_in_run x y run || b) (plane_of-runs runs apart.2 x y)
