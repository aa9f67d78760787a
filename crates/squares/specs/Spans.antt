-- Runs of a square's cells, counted from its upper left corner.
use Rattle.std.specs.Prelude.{ℕ, ◌+◌, ◌<◌, pos, ◌+ℤ◌, ◌-ℤ◌, ◌≤ℤ◌, ◌<ℤ◌, int_le, ◌&&◌, Bool, List, ◌==◌, nat_le, nat_lt, unsigned_abs}
use Rattle.std.specs.List.{list_any}
use Rattle.plane.specs.Plane.{Plane}
use Rattle.plane.specs.declared.cell.Cell.{Cell}
use Rattle.squares.specs.declared.spans.Span.{Span}

-- whether the span has the cell
abbrev pub in_span : ℕ → ℕ → Span → Bool
in_span x y span = y == span.row && (nat_le span.first x && nat_lt x span.end)

-- whether one of the spans has it
unfoldable pub in_spans : List Span → ℕ → ℕ → Bool
in_spans spans x y = list_any (in_span x y) spans

-- the plane of what is live to the right of and below (0,0)
abbrev pub marked : (ℕ → ℕ → Bool) → Plane
marked live x y = (int_le (pos 0) x && int_le (pos 0) y) && live (unsigned_abs x) (unsigned_abs y)

-- the run, counted from a corner so far to the left of and above (0,0)
abbrev pub span_of : ℕ → (Cell × ℕ) → Span
span_of half run = record {
  row = unsigned_abs (run.0.y +ℤ pos half);
  first = unsigned_abs (run.0.x +ℤ pos half);
  end = unsigned_abs (run.0.x +ℤ pos half) + run.1;
}

-- the run of one or more cells lies in the square of this half side around (0,0)
pub record FitsInRoot (half : ℕ) (run : Cell × ℕ) : Type 0 where
  pub some : 0 < run.1
  pub left : (pos 0 -ℤ pos half) ≤ℤ run.0.x
  pub right : (run.0.x +ℤ pos run.1) ≤ℤ pos half
  pub top : (pos 0 -ℤ pos half) ≤ℤ run.0.y
  pub bottom : run.0.y <ℤ pos half

-- the cell as a run
abbrev pub single_run : Cell → (Cell × ℕ)
single_run cell = (cell, 1)
