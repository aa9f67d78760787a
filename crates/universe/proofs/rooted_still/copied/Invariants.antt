use Rattle.std.proofs.Common.{◌≡◌, ℕ, ◌<◌, length}
use Rattle.std.specs.Prelude.{slice_index}
use Rattle.universe.proofs.rooted_still.copied.Given as goal

abbrev pub invariant-loop-index : goal.invariant-loop-index
invariant-loop-index l = record {
  long : length l.copied.items ≡ length l.fn.words;
  copied : (i : ℕ) → i < l.index → slice_index l.copied.items i ≡ slice_index l.fn.words i;
}
