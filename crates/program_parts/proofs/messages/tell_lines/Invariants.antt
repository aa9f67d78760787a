use Rattle.std.proofs.Common.{◌≡◌, ◌≢◌, ℕ, List}
use Rattle.std.specs.Io.KnownBytes.{Appends}
use Rattle.std.specs.List.{All}
use Rattle.program_parts.proofs.messages.tell_lines.Given as goal

abbrev pub invariant-loop-line : goal.invariant-loop-line
invariant-loop-line g l =
    (g.E.Sink.failure_count l.messages ≡ g.E.Sink.failure_count l.fn.messages)
    × ((why : List ℕ) × All (λ byte. byte ≢ 10) why × Appends (g.E.Sink.taken l.fn.messages) (g.E.Sink.taken l.messages) why)
