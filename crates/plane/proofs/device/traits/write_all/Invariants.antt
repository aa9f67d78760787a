use Rattle.std.proofs.Common.{◌≡◌, ◌-◌, ◌≤◌, length, take}
use Rattle.std.specs.Io.KnownBytes.{Appends}
use Rattle.plane.proofs.device.traits.write_all.Given as goal

abbrev pub invariant-loop-written : goal.invariant-loop-written
invariant-loop-written g l =
    (l.written ≤ length l.bytes)
    × Appends (g.W.Sink.taken l.fn.sink) (g.W.Sink.taken l.sink) (take l.written l.bytes)
    × (g.W.Sink.failure_count l.sink ≡ g.W.Sink.failure_count l.fn.sink)

abbrev pub decreases-loop-written : goal.decreases-loop-written
decreases-loop-written g l = length l.bytes - l.written
