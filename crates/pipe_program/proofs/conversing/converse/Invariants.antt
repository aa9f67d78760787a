use Rattle.plane.specs.SinkChange.{change_of}
use Rattle.plane.specs.SourceChange.{reading_of}
use Rattle.pipe_lines.specs.Supply.{pending_in}
use Rattle.pipe_program.specs.States.{IsWithin, state_of}
use Rattle.pipe_program.proofs.DialogueEnds.{HasTurns}
use Rattle.pipe_program.proofs.conversing.converse.Given as goal

abbrev pub invariant-loop : goal.invariant-loop
invariant-loop g l = record {
  within : IsWithin l.pairs l.pattern;
  turns : HasTurns l.pairs
      (reading_of g.S.Source.remaining g.S.Source.given g.S.Source.has_ended g.S.Source.failure_count l.fn.source l.source)
      (pending_in l.buffer) (state_of l.pattern) (change_of g.W.Sink.taken g.W.Sink.failure_count l.fn.out l.out) l.counter;
}
