use Rattle.std.proofs.Common.{◌≡◌, ◌-◌, ◌≤◌, ◌++◌, length, take}
use Rattle.pipe_lines.proofs.lines.keep.Given as goal

abbrev pub invariant-loop-byte : goal.invariant-loop-byte
invariant-loop-byte l =
    (l.line.items ≡ l.fn.line.items ++ take l.byte-index l.bytes)
    × (l.byte-index ≤ 255 - length l.fn.line.items)
