use Rattle.std.proofs.Common.{◌≡◌, ◌-◌, ◌^◌, vec_len}
use Rattle.std.specs.Io.KnownBytes.{Appends, Consumes}
use Rattle.engine.proofs.input.load.Given as goal

abbrev pub invariant-reading : goal.invariant-reading
invariant-reading g l =
    Consumes (g.R.Source.remaining l.fn.source) (g.R.Source.remaining l.source) l.bytes.items
    × Appends (g.R.Source.given l.fn.source) (g.R.Source.given l.source) l.bytes.items
    × (g.R.Source.failure_count l.source ≡ g.R.Source.failure_count l.fn.source)

abbrev pub decreases-reading : goal.decreases-reading
decreases-reading g l = 2 ^ 64 - vec_len l.bytes
