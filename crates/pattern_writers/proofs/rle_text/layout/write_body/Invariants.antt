use Rattle.std.proofs.Common.{◌≡◌, ℕ, ◌≤◌, List, [], length, map, take}
use Rattle.pattern_writers.specs.Items.{item_text}
use Rattle.pattern_writers.specs.Layout.{LaysOut}
use Rattle.pattern_writers.specs.Output.{AppendsBuffered}
use Rattle.pattern_writers.proofs.rle_text.layout.write_body.Given as goal

abbrev pub invariant-loop-item : goal.invariant-loop-item
invariant-loop-item g l =
    (length l.line.bytes ≤ 70)
    × (g.V.Sink.failure_count l.file ≡ g.V.Sink.failure_count l.fn.file)
    × ((out : List ℕ) × AppendsBuffered (g.V.Sink.taken l.fn.file) l.fn.block.items (g.V.Sink.taken l.file) l.block.items out × LaysOut [] (map item_text (take l.item-index l.items)) l.line.bytes out)
