-- What lifeperiod does by what words ask for.
use Rattle.std.specs.Prelude.{◌≡◌, None, Result, string_bytes}
use Rattle.plane.specs.SinkChange.{SinkChange}
use Rattle.plane.specs.SourceChange.{IsDoneWithAll, SourceChange}
use Rattle.plane.specs.declared.fault.Fault.{Fault}
use Rattle.program_parts.specs.Behaviour.{Behaviour}
use Rattle.period_program.specs.CommandLine.{AsksFor, command_line}
use Rattle.period_program.specs.Finding.{IsFinding}
use Rattle.period_program.specs.declared.asking.Asked.{Asked}
use Rattle.period_program.specs.declared.asking.Search.{Search}

-- a period was looked for in all bytes of the source, with this report, and so that ended; or they
-- could not be read, and the report is unchanged. The file is unchanged
abbrev pub SearchesSource : {S W V : Type 0} → Search → SourceChange S → SinkChange W →
    SinkChange V → Result Unit Fault → Type 0
SearchesSource search source report file ended =
    IsDoneWithAll source (λ bytes. IsFinding bytes search report ended) ended
    (report.new ≡ report.old)
    × (file.new ≡ file.old)

-- what the program does: it looks for what words ask for
abbrev pub behaviour : Behaviour Asked
behaviour = record {
  line = command_line;
  AsksFor = AsksFor;
  input = λ asked. string_bytes asked.file;
  output = λ asked. None;
  Does = λ asked. SearchesSource asked.search;
}
