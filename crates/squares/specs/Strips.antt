-- Runs and spans in the order of reading, and the strips that they make.
use Rattle.std.specs.Prelude.{◌≡◌, ◌⊎◌, ℕ, ◌+◌, ◌*◌, ◌^◌, ◌<◌, ◌≤◌, ◌<ℤ◌, ◌≤ℤ◌, false, List, [], ◌∷◌, ◌++◌, map, take, length, slice_index, Option, None}
use Rattle.std.specs.List.{AllByRecursion}
use Rattle.std.specs.Option.{option_to_list}
use Rattle.plane.specs.declared.cell.Cell.{Cell}
use Rattle.squares.specs.Spans.{FitsInRoot, in_spans, span_of}
use Rattle.squares.specs.declared.spans.Span.{Span}

-- in the order of reading the other span begins where this one does, or behind
abbrev pub Leads : Span → Span → Type 0
Leads span other = (span.row < other.row) ⊎ ((span.row ≡ other.row) × (span.first ≤ other.first))

-- each span leads those behind it
abbrev pub AreInOrder : List Span → Type 0
AreInOrder [] = Unit {0}
AreInOrder (span ∷ spans) = AllByRecursion (Leads span) spans × AreInOrder spans

-- the span lies above the row, or in it and before this cell
abbrev pub EndsBefore : ℕ → ℕ → Span → Type 0
EndsBefore row left span = (span.row < row) ⊎ ((span.row ≡ row) × (span.end ≤ left))

-- the span lies below the row, or in it and behind this cell
abbrev pub BeginsBehind : ℕ → ℕ → Span → Type 0
BeginsBehind row last span = (row < span.row) ⊎ ((span.row ≡ row) × (last < span.first))

-- the first spans have no cell of the row from this column on
abbrev pub ArePassed : List Span → ℕ → ℕ → ℕ → Type 0
ArePassed spans count row left = (x : ℕ) → left ≤ x → in_spans (take count spans) x row ≡ false

-- of each of the eight rows from this one on, so many spans are passed at this column of leaves
abbrev pub ArePassedIn : List Span → List ℕ → ℕ → ℕ → Type 0
ArePassedIn spans passed top column =
    (y : ℕ) → y < 8 →
    (slice_index passed y ≤ length spans)
    × ArePassed spans (slice_index passed y) (y + top) (8 * column)

-- up to this column of leaves the row has the same cells in each leaf
abbrev pub IsSameUpTo : List Span → ℕ → ℕ → ℕ → Type 0
IsSameUpTo spans row column end =
    (other x : ℕ) → column ≤ other → other < end → x < 8 →
    in_spans spans (x + 8 * other) row ≡ in_spans spans (x + 8 * column) row

-- in the order of reading the other run begins where this one does, or behind
abbrev pub LeadsRun : (Cell × ℕ) → (Cell × ℕ) → Type 0
LeadsRun run other = (run.0.y <ℤ other.0.y) ⊎ ((run.0.y ≡ other.0.y) × (run.0.x ≤ℤ other.0.x))

-- each run leads those behind it
abbrev pub AreInReadingOrder : List (Cell × ℕ) → Type 0
AreInReadingOrder [] = Unit {0}
AreInReadingOrder (run ∷ runs) = AllByRecursion (LeadsRun run) runs × AreInReadingOrder runs

-- the span that comes next, and those of the runs behind it
abbrev pub spans_left : ℕ → Option Span → List (Cell × ℕ) → List Span
spans_left half next runs = option_to_list next ++ map (span_of half) runs

-- what is left of runs in the order of reading: spans of a square of this half side, from this row
-- on
pub record AreLeft (half top : ℕ) (next : Option Span) (runs : List (Cell × ℕ)) : Type 0 where
  pub bound : half ≤ 2 ^ 62
  pub fit : AllByRecursion (FitsInRoot half) runs
  pub ended : next ≡ None → runs ≡ []
  pub order : AreInOrder (spans_left half next runs)
  pub rows : AllByRecursion (λ (span : Span). top ≤ span.row) (spans_left half next runs)

-- the spans above this row were taken from the front, and no other
pub record IsTaken (bottom : ℕ) (before after taken : List Span) : Type 0 where
  pub whole : before ≡ taken ++ after
  pub above : AllByRecursion (λ (span : Span). span.row < bottom) taken
  pub below : AllByRecursion (λ (span : Span). bottom ≤ span.row) after

-- the spans above this row were taken from the front
abbrev pub AreTaken : ℕ → List Span → List Span → Type 0
AreTaken bottom before after = (taken : List Span) × IsTaken bottom before after taken
