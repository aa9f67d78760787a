use Rattle.std.proofs.Common.{◌≡◌, ◌<◌, drop}
use Rattle.text_lines.proofs.NumberLemmas.{read_on}
use Rattle.text_lines.proofs.numbers.number.Given as goal

abbrev pub invariant-loop-byte : goal.invariant-loop-byte
invariant-loop-byte l = (read_on l.value (drop l.byte-index l.text) ≡ read_on 0 l.text) × (l.value < 18446744073709551616)
