use Rattle.std.proofs.Common.{◌≡◌, ℕ, ◌+◌, ◌*◌, ◌<◌}
use Rattle.std.specs.Prelude.{◌&&◌, nat_lt}
use Rattle.plane.specs.Square.{bit}
use Rattle.squares.specs.Spans.{in_spans}
use Rattle.squares.specs.Strips.{ArePassedIn, IsSameUpTo}
use Rattle.squares.proofs.leaf_rows.leaf_column.Given as goal

-- the word has the cells of the rows so far, and up to the end all leaves have the same in these
-- rows
abbrev pub invariant-loop-y : goal.invariant-loop-y
invariant-loop-y l = record {
  word : (x y : ℕ) → x < 8 → y < 8 → bit l.word (8 * y + x) ≡ (nat_lt y l.y && in_spans l.spans (x + 8 * l.column) (y + l.top));
  behind : l.column < l.end;
  same : (y : ℕ) → y < l.y → IsSameUpTo l.spans (y + l.top) l.column l.end;
  passed : ArePassedIn l.spans l.passed l.top l.column;
}
