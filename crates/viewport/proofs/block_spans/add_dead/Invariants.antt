use Rattle.std.proofs.Common.{◌≡◌, ◌++◌, replicate}
use Rattle.viewport.proofs.block_spans.add_dead.Given as goal

abbrev pub invariant-loop : goal.invariant-loop
invariant-loop l = l.found.items ≡ l.fn.found.items ++ replicate l.counter 0
