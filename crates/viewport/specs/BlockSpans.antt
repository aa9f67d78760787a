-- Neighbouring blocks of a row, and where they lie in a square.
use Rattle.std.specs.Prelude.{◌≡◌, ℕ, ◌+◌, ◌-◌, ◌<◌, ◌≤◌, ◌^◌, ℤ, pos, ◌+ℤ◌, ◌-ℤ◌, ◌≤ℤ◌, List}
use Rattle.plane.specs.Plane.{Plane}
use Rattle.viewport.specs.Blocks.{block_counts}
use Rattle.viewport.specs.declared.blocks.Columns.{Columns}
use Rattle.viewport.specs.declared.block_spans.BlockSpan.{BlockSpan}

-- the span lies in a square of so many blocks a side
pub record IsInBlocks (side : ℕ) (span : BlockSpan) : Type 0 where
  pub row : span.row < side
  pub order : span.from ≤ span.end
  pub end : span.end ≤ side

-- how many live cells each block of the span has
abbrev pub span_counts : Plane → ℕ → BlockSpan → List ℕ
span_counts plane exponent span =
    block_counts plane exponent (pos span.row) (pos span.from) (span.end - span.from)

-- so many columns from the first one on are not too far away for 64 bits
pub record IsNearRange (first : ℤ) (count : ℕ) : Type 0 where
  pub low : (pos 0 -ℤ pos (2 ^ 62)) ≤ℤ first
  pub high : (first +ℤ pos count) ≤ℤ pos (2 ^ 62 + 1)

-- how so many columns from `left` on lie beside a square that has those from -half to before half
pub record AreBeside (left : ℤ) (width : ℕ) (half : ℤ) (columns : Columns) : Type 0 where
  pub all : columns.before + (columns.end - columns.from) + columns.behind ≡ width
  pub order : columns.from ≤ columns.end
  pub end : pos columns.end ≤ℤ (half +ℤ half)
  pub before : 0 < columns.before → (left +ℤ pos columns.before) ≤ℤ (pos 0 -ℤ half)
  pub inside : columns.from < columns.end → left +ℤ pos columns.before ≡ pos columns.from -ℤ half
  pub behind : 0 < columns.behind →
      half ≤ℤ (left +ℤ pos (columns.before + (columns.end - columns.from)))
