use Rattle.std.proofs.Common.{◌≡◌, ℕ, ◌+◌, ◌*◌, ◌<◌, take}
use Rattle.std.specs.Prelude.{◌&&◌, ◌==◌}
use Rattle.plane.specs.Square.{bit}
use Rattle.squares.specs.Spans.{in_spans}
use Rattle.squares.proofs.leaf_rows.row_bits.Given as goal

-- the word has the row's cells of the spans so far
abbrev pub invariant-loop-span : goal.invariant-loop-span
invariant-loop-span l = (x y : ℕ) → x < 8 → y < 8 → bit l.word (8 * y + x) ≡ ((y + l.top == l.row) && in_spans (take l.span-index l.spans) (x + l.left) l.row)
