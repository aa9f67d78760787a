-- What lifepipe does by what words ask for.
use Rattle.std.specs.Prelude.{◌≡◌, None, Result, codes}
use Rattle.plane.specs.SinkChange.{SinkChange}
use Rattle.plane.specs.SourceChange.{SourceChange}
use Rattle.plane.specs.declared.fault.Fault.{Fault}
use Rattle.program_parts.specs.Behaviour.{Behaviour}
use Rattle.program_parts.specs.declared.numbers.Limits.{Limits}
use Rattle.pipe_program.specs.CommandLine.{AsksFor, command_line}
use Rattle.pipe_program.specs.Dialogue.{IsDialogue}

-- the requests of the source were answered to this sink, and so that ended. The file is unchanged
abbrev pub AnswersSource : {S W V : Type 0} → Limits → SourceChange S → SinkChange W →
    SinkChange V → Result Unit Fault → Type 0
AnswersSource limits source out file ended =
    IsDialogue limits.pairs source out ended × (file.new ≡ file.old)

-- what the program does: it answers the requests of standard input
abbrev pub behaviour : Behaviour Limits
behaviour = record {
  line = command_line;
  AsksFor = AsksFor;
  input = λ limits. codes "/dev/stdin";
  output = λ limits. None;
  Does = AnswersSource;
}
