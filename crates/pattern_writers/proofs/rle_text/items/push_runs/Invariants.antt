use Rattle.std.proofs.Common.{◌≡◌, ◌++◌, drop}
use Rattle.pattern_writers.specs.Items.{cell_after, items_of}
use Rattle.pattern_writers.proofs.rle_text.items.push_runs.Given as goal

abbrev pub invariant-loop-run : goal.invariant-loop-run
invariant-loop-run l =
    (l.fn.items.items ++ items_of l.left l.fn.start l.runs ≡ l.items.items ++ items_of l.left l.next (drop l.run-index l.runs))
    × (cell_after l.fn.start l.runs ≡ cell_after l.next (drop l.run-index l.runs))
