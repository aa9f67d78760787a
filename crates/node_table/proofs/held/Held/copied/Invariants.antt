use Rattle.std.proofs.Common.{◌≡◌, ℕ, ◌<◌, length}
use Rattle.std.specs.Prelude.{slice_index}
use Rattle.node_table.proofs.held.Held.copied.Given as goal

abbrev pub invariant-loop-index : goal.invariant-loop-index
invariant-loop-index l = record {
  long : length l.words.items ≡ length l.fn.self;
  copied : (i : ℕ) → i < l.index → slice_index l.words.items i ≡ slice_index l.fn.self i;
}
