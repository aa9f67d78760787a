use Rattle.std.proofs.Common.{◌≡◌, ◌<◌, length}
use Rattle.plane.specs.SourceChange.{reading_of}
use Rattle.pipe_lines.specs.Supply.{ReadsNoMore, pending_in}
use Rattle.pipe_lines.proofs.BlockParts.{HasBlockPart}
use Rattle.pipe_lines.proofs.blocks.read_block.Given as goal

abbrev pub invariant-loop-left : goal.invariant-loop-left
invariant-loop-left g l =
    HasBlockPart (reading_of g.S.Source.remaining g.S.Source.given g.S.Source.has_ended g.S.Source.failure_count l.fn.source l.source)
    (pending_in l.fn.buffer) (pending_in l.buffer) l.fn.count l.left l.block
    × (g.S.Source.failure_count l.source ≡ g.S.Source.failure_count l.fn.source)
    × ReadsNoMore g.S.Source.reads (reading_of g.S.Source.remaining g.S.Source.given g.S.Source.has_ended g.S.Source.failure_count l.fn.source l.source)
    (pending_in l.fn.buffer) (λ bytes. length bytes < l.fn.count)

abbrev pub decreases-loop-left : goal.decreases-loop-left
decreases-loop-left g l = l.left
