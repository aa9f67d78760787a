-- What lifeview does by what words ask for.
use Rattle.std.specs.Prelude.{◌≡◌, List, ℕ, Result, Some, string_bytes}
use Rattle.plane.specs.SinkChange.{SinkChange}
use Rattle.plane.specs.SourceChange.{IsDoneWithAll, SourceChange}
use Rattle.plane.specs.declared.fault.Fault.{Fault}
use Rattle.program_parts.specs.Behaviour.{Behaviour}
use Rattle.view_program.specs.CommandLine.{AsksFor, command_line}
use Rattle.view_program.specs.View.{IsView}
use Rattle.view_program.specs.declared.asking.Asked.{Asked}
use Rattle.view_program.specs.declared.asking.View.{View}

-- all bytes of the source were drawn, with this report and this file, under the picture's name, and
-- so that ended; or they could not be read, and the other two are unchanged
abbrev pub DrawsSource : {S W V : Type 0} → View → List ℕ → SourceChange S → SinkChange W →
    SinkChange V → Result Unit Fault → Type 0
DrawsSource view name source report file ended =
    IsDoneWithAll source (λ bytes. IsView bytes view name report file ended) ended
    ((report.new ≡ report.old) × (file.new ≡ file.old))

-- what the program does: it draws what words ask for
abbrev pub behaviour : Behaviour Asked
behaviour = record {
  line = command_line;
  AsksFor = AsksFor;
  input = λ asked. string_bytes asked.file;
  output = λ asked. Some (string_bytes asked.output);
  Does = λ asked. DrawsSource asked.view (string_bytes asked.output);
}
