use Rattle.std.proofs.Common.{◌≡◌, ◌+◌, ◌*◌, ◌^◌, ◌<◌, ◌≤◌, drop}
use Rattle.macrocell_reader.specs.Leaf.{bits_of}
use Rattle.macrocell_reader.proofs.LeafLemmas.{bits_on}
use Rattle.macrocell_reader.proofs.leaf.bits_of.Given as goal

abbrev pub invariant-loop-byte : goal.invariant-loop-byte
invariant-loop-byte l = record {
  rows : l.row ≤ 8;
  columns : l.column ≤ 8;
  last_row : l.row ≡ 8 → l.column ≡ 0;
  small : l.bits < 2 ^ (8 * l.row + l.column);
  so_far : bits_on l.row l.column l.bits (drop l.byte-index l.text) ≡ bits_of l.text;
}
