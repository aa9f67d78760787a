-- The live items of a file, listed as runs one after the other.
use Rattle.std.proofs.Common.{◌≡◌, ℕ, ◌<◌, ◌==◌, Bool, true, false, cond, ◌||◌, ◌&&◌, List, [], ◌∷◌, ◌++◌, map, None, Result, Ok, Err, refl, ap, subst, ℤ, pos, ◌+ℤ◌, int_le, int_lt, arith, inl, inr, ⊎_elim}
use Rattle.std.specs.List.{AllByRecursion}
use Rattle.std.specs.Ordering.{int_eq}
use Rattle.std.specs.Result.{ok_prefix}
use Rattle.std.proofs.lemmas.Bool.Decides.{nat_tests}
use Rattle.std.proofs.lemmas.Int.{ints}
use Rattle.plane.specs.declared.cell.Cell.{Cell}
use Rattle.plane.specs.Limits.{coordinate_limit}
use Rattle.plane.specs.Range.{IsInRange}
use Rattle.plane.specs.declared.refusal.Refusal.{Refusal}
use Rattle.plane.specs.declared.refusal.Refusal.TheVariants.{BadCount}
use Rattle.plane.specs.Runs.{AreRising, AreRuns, IsRun, Precedes, is_in_run, runs_plane}
use Rattle.plane.specs.Square.{IsSame}
use Rattle.text_lines.specs.Lines.{lines_from}
use Rattle.rle_reader.specs.Body.{stripped, stripped_from}
use Rattle.rle_reader.specs.Items.{ItemSlice, Item, item_slice_between, item_slice_from, items_of, run_of, tag_of}
use Rattle.rle_reader.specs.LiveRuns.{live_run, live_runs_from, live_runs_of}
use Rattle.rle_reader.specs.Meaning.{Meaning, StayInRange, body_fault, is_covered, is_live, live_plane, meaning_of}
use Rattle.rle_reader.specs.Range.{IsWithinReach}
use Rattle.rle_reader.specs.Seen.{preamble_meaning}
use Rattle.rle_reader.specs.State.{State, state_at, start_at, after_item, leaves_range, passes_limit}
use Rattle.rle_reader.specs.declared.item.Tag.{Tag}
use Rattle.rle_reader.specs.declared.item.Tag.TheVariants.{Dead, Live, Row}
use Rattle.rle_reader.specs.declared.preamble.Preamble.{Preamble}
use Rattle.rle_reader.proofs.FaultLemmas.{InReach, either_false}
use Rattle.rle_reader.proofs.FitLemmas.{reach_after, stay-accepted, within}

-- ---- each item counts at least one

counted_if : (b : Bool) (count : ℕ) (made run : ItemSlice) → (count == 0) ≡ b → made.count ≡ count → cond {A = Result ItemSlice Refusal} b (Err BadCount) (Ok made) ≡ Ok run → 0 < run.count
counted_if true count made run zero_is is slice = cc
counted_if false count made run some is slice = let same : made ≡ run = cc in subst (λ (r : ItemSlice). 0 < r.count) same (grind (arith, nat_tests))

counted_slice : (source : List ℕ) (place count end : ℕ) (reading : Result Tag Refusal) (run : ItemSlice) → item_slice_between source place count end reading ≡ Ok run → 0 < run.count
counted_slice source place count end (Err refusal) run slice = cc
counted_slice source place count end (Ok tag) run slice = counted_if (count == 0) count _ run refl refl slice

abbrev pub IsCounted : ItemSlice → Type 0
IsCounted run = 0 < run.count

counted_first : (found : Result ItemSlice Refusal) (rest : List (Result ItemSlice Refusal)) → ((run : ItemSlice) → found ≡ Ok run → IsCounted run) → AllByRecursion IsCounted (ok_prefix rest) → AllByRecursion IsCounted (ok_prefix (found ∷ rest))
counted_first (Ok run) rest one all = (one run refl, all)
counted_first (Err refusal) rest one all = tt

pub runs_counted : (source : List ℕ) (items : List Item) → AllByRecursion IsCounted (ok_prefix (map (run_of source) items))
unfolding item_slice_from
runs_counted source [] = tt
runs_counted source (item ∷ items) =
    counted_first (run_of source item) (map (run_of source) items) (λ run is. counted_slice source _ _ _ (tag_of item.tag.byte) run is) (runs_counted source items)

-- ---- runs behind one another

-- the run ends before this place
abbrev EndsBefore : ℤ → ℤ → (Cell × ℕ) → Type 0
EndsBefore column row run = Precedes run (record { y = row; x = column }, 0)

-- what ends before a place ends before each later one
ends_further : (column row : ℤ) (count : ℕ) (run : Cell × ℕ) → EndsBefore column row run → EndsBefore (column +ℤ pos count) row run
ends_further column row count run before = ⊎_elim inl (λ same. inr (same.0, omega (arith, ints, same.1))) before

ends_above : (column row left : ℤ) (count : ℕ) (run : Cell × ℕ) → 0 < count → EndsBefore column row run → EndsBefore left (row +ℤ pos count) run
ends_above column row left count run some before = inl (⊎_elim (λ above. omega (arith, ints, above)) (λ same. omega (arith, ints, same.0)) before)

behind_item : (left : ℤ) (state : State) (tag : Tag) (count : ℕ) (run : Cell × ℕ) (later : List (Cell × ℕ)) → 0 < count → EndsBefore state.column state.row run →
    (let next = after_item left state tag count in EndsBefore next.column next.row run → AllByRecursion (Precedes run) later) →
    AllByRecursion (Precedes run) (live_run (record { y = state.row; x = state.column }) tag count ++ later)
behind_item left state Dead count run later some before more = more (ends_further state.column state.row count run before)
behind_item left state Live count run later some before more = (before, more (ends_further state.column state.row count run before))
behind_item left state Row count run later some before more = more (ends_above state.column state.row left count run some before)

-- what ends before the first item precedes all runs of the items
all_behind : (left : ℤ) (state : State) (items : List ItemSlice) (run : Cell × ℕ) → AllByRecursion IsCounted items → EndsBefore state.column state.row run →
    AllByRecursion (Precedes run) (live_runs_from left state items)
unfolding live_runs_from
all_behind left state [] run counted before = tt
all_behind left state (item ∷ items) run counted before =
    let next = after_item left state item.tag item.count in
    behind_item left state item.tag item.count run (live_runs_from left next items) counted.0 before (λ later. all_behind left next items run counted.1 later)

-- ---- the runs of items that stay in the range

-- a live item is a run of the range
run_in_range : (column row : ℤ) (live count : ℕ) → IsWithinReach column → IsWithinReach row → leaves_range (state_at column row live) Live count ≡ false → 0 < count → IsRun (record { y = row; x = column }, count)
run_in_range column row live count across down stays some =
    let end = either_false (passes_limit column count) (int_le coordinate_limit row) stays in
    record {
      row = record { low = omega (arith, ints, down.low); high = grind (arith, ints, down.high) };
      first = record { low = omega (arith, ints, across.low); high = grind (arith, ints, across.high) };
      some = some;
      end = grind (arith, ints);
    }

run_first : (state : State) (tag : Tag) (count : ℕ) (later : List (Cell × ℕ)) → InReach state → leaves_range state tag count ≡ false → 0 < count → AllByRecursion IsRun later →
    AllByRecursion IsRun (live_run (record { y = state.row; x = state.column }) tag count ++ later)
run_first state Dead count later reach stays some all = all
run_first state Row count later reach stays some all = all
run_first state Live count later reach stays some all = (run_in_range state.column state.row state.live count reach.column reach.row stays some, all)

each_run : (left : ℤ) (state : State) (items : List ItemSlice) → IsWithinReach left → InReach state → StayInRange left state items → AllByRecursion IsCounted items →
    AllByRecursion IsRun (live_runs_from left state items)
unfolding live_runs_from
each_run left state [] left_reach reach stay counted = tt
each_run left state (item ∷ items) left_reach reach stay counted =
    let next = after_item left state item.tag item.count in
    run_first state item.tag item.count (live_runs_from left next items) reach stay.0 counted.0
    (each_run left next items left_reach (reach_after left state item.tag item.count left_reach reach stay.0) stay.2 counted.1)

rising_first : (left : ℤ) (state : State) (tag : Tag) (count : ℕ) (items : List ItemSlice) → AllByRecursion IsCounted items →
    AreRising (live_runs_from left (after_item left state tag count) items) →
    AreRising (live_run (record { y = state.row; x = state.column }) tag count ++ live_runs_from left (after_item left state tag count) items)
rising_first left state Dead count items counted later = later
rising_first left state Row count items counted later = later
rising_first left state Live count items counted later =
    (all_behind left (after_item left state Live count) items (record { y = state.row; x = state.column }, count) counted (inr (refl, omega (arith, ints))), later)

runs_rise : (left : ℤ) (state : State) (items : List ItemSlice) → AllByRecursion IsCounted items → AreRising (live_runs_from left state items)
unfolding live_runs_from
runs_rise left state [] counted = tt
runs_rise left state (item ∷ items) counted =
    rising_first left state item.tag item.count items counted.1 (runs_rise left (after_item left state item.tag item.count) items counted.1)

-- ---- their cells

covers_first : (state : State) (tag : Tag) (count : ℕ) (later : List (Cell × ℕ)) (rest : Bool) (x y : ℤ) → runs_plane later x y ≡ rest →
    runs_plane (live_run (record { y = state.row; x = state.column }) tag count ++ later) x y
    ≡ ((is_live tag && int_eq y state.row && int_le state.column x && int_lt x (state.column +ℤ pos count)) || rest)
unfolding runs_plane
covers_first state Dead count later rest x y is = is
covers_first state Row count later rest x y is = is
covers_first state Live count later rest x y is = ap (λ b. is_in_run x y (record { y = state.row; x = state.column }, count) || b) is

runs_cover : (left : ℤ) (state : State) (items : List ItemSlice) (x y : ℤ) → runs_plane (live_runs_from left state items) x y ≡ is_covered left state items x y
unfolding live_runs_from is_covered runs_plane
runs_cover left state [] x y = refl
runs_cover left state (item ∷ items) x y =
    let next = after_item left state item.tag item.count in
    covers_first state item.tag item.count (live_runs_from left next items) (is_covered left next items x y) x y (runs_cover left next items x y)

-- ---- the runs of a meaning

pub live_runs-cover : (meaning : Meaning) → IsSame (runs_plane (live_runs_of meaning)) (live_plane meaning)
live_runs-cover meaning = record { same = λ x y. runs_cover meaning.pos.x (start_at meaning.pos) meaning.runs x y }

pub live_runs-are : (meaning : Meaning) → IsInRange meaning.pos → StayInRange meaning.pos.x (start_at meaning.pos) meaning.runs → AllByRecursion IsCounted meaning.runs → AreRuns (live_runs_of meaning)
live_runs-are meaning range stay counted =
    let x = within meaning.pos.x range.x in
    record {
      each = each_run meaning.pos.x (start_at meaning.pos) meaning.runs x (record { column = x; row = within meaning.pos.y range.y }) stay counted;
      rising = runs_rise meaning.pos.x (start_at meaning.pos) meaning.runs counted;
    }

-- those of an accepted text
pub accepted_runs : (source : List ℕ) (preamble : Preamble) → IsInRange preamble.settings.pos → body_fault preamble.settings.pos (items_of (stripped_from source preamble.body true)) ≡ None →
    AreRuns (live_runs_of (meaning_of source (preamble_meaning source preamble)))
unfolding meaning_of
accepted_runs source preamble range none =
    live_runs-are (meaning_of source (preamble_meaning source preamble)) range (stay-accepted source preamble none)
    (runs_counted source (items_of (stripped (lines_from source preamble.body))).items)
