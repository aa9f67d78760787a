use Rattle.std.proofs.Common.{◌≡◌, ℕ, List, ◌++◌, flat_map, drop}
use Rattle.pattern_writers.specs.NodeLines.{node_line}
use Rattle.pattern_writers.specs.Output.{AppendsBuffered}
use Rattle.pattern_writers.proofs.mc_text.node.write_nodes.Given as goal

abbrev pub invariant-loop-node : goal.invariant-loop-node
invariant-loop-node g l =
    (g.V.Sink.failure_count l.file ≡ g.V.Sink.failure_count l.fn.file)
    × ((out : List ℕ) × AppendsBuffered (g.V.Sink.taken l.fn.file) l.fn.block.items (g.V.Sink.taken l.file) l.block.items out
    × (flat_map node_line l.nodes ≡ out ++ flat_map node_line (drop l.node-index l.nodes)))
