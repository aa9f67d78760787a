use Rattle.std.proofs.Common.{◌≡◌, ◌-◌, length}
use Rattle.text_lines.specs.Lines.{lines_from}
use Rattle.macrocell_reader.specs.Seen.{nodes_kept}
use Rattle.macrocell_reader.proofs.node_lines.next_node.Given as goal

abbrev pub invariant-loop-line : goal.invariant-loop-line
invariant-loop-line l =
    nodes_kept (lines_from l.lines.source.now l.lines.at) ≡ nodes_kept (lines_from l.fn.lines.source.now l.fn.lines.at)

abbrev pub decreases-loop-line : goal.decreases-loop-line
decreases-loop-line l = length l.lines.source.now - l.lines.at
