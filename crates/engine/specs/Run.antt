-- What a run writes and answers.
use Rattle.std.specs.Prelude.{◌≡◌, ◌⊎◌, ℕ, List, ◌++◌, length, None, Result, Ok, Err, IfOk, IfErr}
use Rattle.rule_text.specs.CountRule.{CountRule}
use Rattle.plane.specs.Bounds.{bounds_of}
use Rattle.plane.specs.Fault.{placeless}
use Rattle.plane.specs.Listing.{IsListing}
use Rattle.plane.specs.Plane.{after}
use Rattle.plane.specs.SinkChange.{SinkChange, Fails, IsUnfailed, Takes, TakesBeginning}
use Rattle.plane.specs.declared.cell.Cell.{Cell}
use Rattle.plane.specs.declared.fault.Fault.{Fault}
use Rattle.plane.specs.declared.refusal.Refusal.TheVariants.{BoxTooLarge, NodesFull, NoMemory, WriteFailed}
use Rattle.pattern_files.specs.Meaning.{Meaning}
use Rattle.engine.specs.Formats.{format_of}
use Rattle.engine.specs.Judgement.{Start, Judges, last_generation}
use Rattle.engine.specs.Refused.{IsFullOnTheWay, IsRefused}
use Rattle.engine.specs.Report.{AreFirstLines, AreLinesAfter, shown, window_text}
use Rattle.engine.specs.RunOptions.{run_of}
use Rattle.run_options.specs.declared.options.RunOptions.{RunOptions}
use Rattle.engine.specs.declared.running.Summary.{Summary}
use Rattle.engine.specs.declared.options.Options.{Options}

-- the cells are those of the last generation
abbrev pub IsLast : Start → RunOptions → List Cell → Type 0
IsLast start run cells = IsListing cells (after start.rule start.meaning.live run.gens)

-- the text is the whole report of a file that is run by the rule: its lines, and then the picture
-- of the last cells
pub record IsReport (meaning : Meaning) (rule : CountRule) (options : Options)
    (text : List ℕ) : Type 0 where
  pub lines : List ℕ
  pub shows : AreLinesAfter rule meaning.live meaning.generation (shown options) lines
  pub is : text ≡ lines ++ window_text options.window (after rule meaning.live options.gens)

-- the text is the first lines of the report of a file that is run by the rule, or none
abbrev pub IsBeginning : Meaning → CountRule → Options → List ℕ → Type 0
IsBeginning meaning rule options text =
    AreFirstLines rule meaning.live meaning.generation options text

-- an accepted run says this in its report and writes this to its file, and gives this answer
pub record Finishes (start : Start) (options : Options) (answer : Summary)
    (said written : List ℕ) : Type 0 where
  pub cells : List Cell
  pub last : IsLast start (run_of options) cells
  pub report : IsReport start.meaning start.rule options said
  pub fits : (format_of options.format).CanHold cells
  pub file : (format_of options.format).IsText start.meaning.comments start.rule
      (last_generation start (run_of options)) cells written
  pub summary : answer ≡ record {
    generation = last_generation start (run_of options);
    population = length cells;
    bounds = bounds_of cells;
  }

-- an accepted run says this in its report, and the format can't hold its last cells
pub record IsTooLarge (bytes : List ℕ) (options : Options) (said : List ℕ) : Type 0 where
  pub start : Start
  pub cells : List Cell
  pub accepted : Judges bytes (run_of options) (Ok start)
  pub last : IsLast start (run_of options) cells
  pub report : IsReport start.meaning start.rule options said
  pub unfit : (format_of options.format).CanHold cells → ⊥

-- an accepted run that has said this was stopped on its way. Memory ran out, after the first lines
-- of its report, or none, or the whole; or the tables that the options allow were full, after the
-- first lines, or none
pub record IsStopped (bytes : List ℕ) (options : Options) (fault : Fault)
    (said : List ℕ) : Type 0 where
  pub start : Start
  pub accepted : Judges bytes (run_of options) (Ok start)
  pub why : ((fault ≡ placeless NoMemory)
      × (IsBeginning start.meaning start.rule options said
      ⊎ IsReport start.meaning start.rule options said))
      ⊎ ((fault ≡ placeless NodesFull) × IsBeginning start.meaning start.rule options said
      × IsFullOnTheWay start (run_of options))

-- a run of these bytes ended well: its report and its file took what it says and writes
abbrev pub HasFinished : {W V : Type 0} → List ℕ → Options → SinkChange W → SinkChange V → Summary →
    Type 0
HasFinished bytes options report file answer =
    (start : Start) × (said : List ℕ) × (written : List ℕ) × Judges bytes (run_of options) (Ok start)
    × Finishes start options answer said written
    × Takes report said × Takes file written

-- the run is accepted, and this is the whole of its report
pub record HasReport (bytes : List ℕ) (options : Options) (said : List ℕ) : Type 0 where
  pub start : Start
  pub accepted : Judges bytes (run_of options) (Ok start)
  pub report : IsReport start.meaning start.rule options said

-- the run is accepted, and it says this in its report and writes this to its file
pub record CanBeWritten (bytes : List ℕ) (options : Options) (said written : List ℕ) : Type 0 where
  pub start : Start
  pub answer : Summary
  pub accepted : Judges bytes (run_of options) (Ok start)
  pub finishes : Finishes start options answer said written

-- the report took a beginning of what an accepted run says
abbrev pub BreaksOff : {W : Type 0} → List ℕ → Options → SinkChange W → Type 0
BreaksOff bytes options report =
    (said : List ℕ) × HasReport bytes options said × TakesBeginning report said

-- a sink of an accepted run failed. If it was that of the report, the report breaks off, and the
-- file is unchanged. If it was that of the file, the file took a beginning of its text, and the
-- report took all that it says and did not fail
abbrev pub HasFailedToWrite : {W V : Type 0} → List ℕ → Options → SinkChange W → SinkChange V →
    Type 0
HasFailedToWrite bytes options report file =
    (Fails report × (file.new ≡ file.old) × BreaksOff bytes options report)
    ⊎ (Fails file × IsUnfailed report
    × ((said : List ℕ) × (written : List ℕ) × CanBeWritten bytes options said written
    × Takes report said × TakesBeginning file written))

-- a run of these bytes was refused, in one of four ways. It was refused before anything was said of
-- it, and nothing is written. The format can't hold the last cells, and the report is whole. Memory
-- ran out or the tables were full on its way. A sink failed
abbrev pub HasEndedEarly : {W V : Type 0} → List ℕ → Options → SinkChange W → SinkChange V → Fault →
    Type 0
HasEndedEarly bytes options report file fault =
    (IsRefused bytes (run_of options) fault × (report.new ≡ report.old) × (file.new ≡ file.old))
    ⊎ ((fault ≡ placeless BoxTooLarge) × (file.new ≡ file.old)
    × ((said : List ℕ) × IsTooLarge bytes options said × Takes report said))
    ⊎ ((file.new ≡ file.old)
    × ((said : List ℕ) × IsStopped bytes options fault said × Takes report said))
    ⊎ ((fault ≡ placeless WriteFailed) × HasFailedToWrite bytes options report file)

-- what a run of these bytes by these options does to its report and to its file, and what it
-- answers
pub record IsRun {W V : Type 0} (bytes : List ℕ) (options : Options) (report : SinkChange W)
    (file : SinkChange V) (result : Result Summary Fault) : Type 0 where
  -- it writes the defined report and file of the cells that the rule, applied that many times,
  -- makes live
  pub finished : IfOk result (HasFinished bytes options report file)
  pub no_format : options.format ≡ None → file.new ≡ file.old
  -- no sink failed, or the answer is that one did
  pub unfailed : (result ≡ Err (placeless WriteFailed)) ⊎ (IsUnfailed file × IsUnfailed report)
  -- what is not accepted is refused by its name and at its place, and nothing is written. What has
  -- no text in the format is refused after the whole report. Else only memory, the tables or a sink
  -- end a run early
  pub refused : IfErr result (HasEndedEarly bytes options report file)
