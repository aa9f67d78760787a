-- What lifebatch does by what words ask for.
use Rattle.std.specs.Prelude.{◌≡◌, Result, option_map, string_bytes}
use Rattle.std.specs.Result.{result_map_both}
use Rattle.plane.specs.SinkChange.{SinkChange}
use Rattle.plane.specs.SourceChange.{IsDoneWithAll, SourceChange}
use Rattle.plane.specs.declared.fault.Fault.{Fault}
use Rattle.engine.specs.Run.{IsRun}
use Rattle.engine.specs.declared.options.Options.{Options}
use Rattle.engine.specs.declared.running.Summary.{Summary}
use Rattle.program_parts.specs.Behaviour.{Behaviour}
use Rattle.batch_program.specs.CommandLine.{AsksFor, command_line}
use Rattle.batch_program.specs.declared.asking.Asked.{Asked}

-- all bytes of the source were run, with this report and this file, and so the run ended; or they
-- could not be read, and the other two are unchanged
abbrev pub RunsSource : {S W V : Type 0} → Options → SourceChange S → SinkChange W → SinkChange V →
    Result Unit Fault → Type 0
RunsSource options source report file ended =
    (answer : Result Summary Fault) × (ended ≡ result_map_both (λ _. tt) (λ fault. fault) answer)
    × IsDoneWithAll source (λ bytes. IsRun bytes options report file answer) answer
    ((report.new ≡ report.old) × (file.new ≡ file.old))

-- what the program does: it runs what words ask for
abbrev pub behaviour : Behaviour Asked
behaviour = record {
  line = command_line;
  AsksFor = AsksFor;
  input = λ asked. string_bytes asked.file;
  output = λ asked. option_map string_bytes asked.output;
  Does = λ asked. RunsSource asked.options;
}
