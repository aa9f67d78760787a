use Rattle.std.proofs.Common.{◌≡◌, ◌-◌, pos, ◌++◌}
use Rattle.plane.specs.Square.{bits_plane}
use Rattle.viewport.specs.Blocks.{block_counts}
use Rattle.viewport.proofs.block_spans.count_leaf_span.Given as goal

abbrev pub invariant-loop-column : goal.invariant-loop-column
invariant-loop-column l =
    l.found.items ≡ l.fn.found.items ++ block_counts (bits_plane l.word) l.exponent (pos l.span.row) (pos l.span.from) (l.column - l.span.from)
