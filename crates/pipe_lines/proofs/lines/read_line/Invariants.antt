use Rattle.std.proofs.Common.{◌≡◌, ◌-◌, ◌^◌}
use Rattle.plane.specs.SourceChange.{reading_of}
use Rattle.pipe_lines.specs.Supply.{IsUnbroken, ReadsNoMore, pending_in}
use Rattle.pipe_lines.proofs.Parts.{HasPart}
use Rattle.pipe_lines.proofs.lines.read_line.Given as goal

abbrev pub invariant-loop-length : goal.invariant-loop-length
invariant-loop-length g l =
    HasPart (reading_of g.S.Source.remaining g.S.Source.given g.S.Source.has_ended g.S.Source.failure_count l.fn.source l.source)
    (pending_in l.fn.buffer) (pending_in l.buffer) l.line.items l.length
    × (g.S.Source.failure_count l.source ≡ g.S.Source.failure_count l.fn.source)
    × ReadsNoMore g.S.Source.reads (reading_of g.S.Source.remaining g.S.Source.given g.S.Source.has_ended g.S.Source.failure_count l.fn.source l.source)
    (pending_in l.fn.buffer) IsUnbroken

abbrev pub decreases-loop-length : goal.decreases-loop-length
decreases-loop-length g l = 2 ^ 64 - 1 - l.length
