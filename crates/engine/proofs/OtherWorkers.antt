-- No judgement and no ending hangs on how many workers there are.
use Rattle.std.proofs.Common.{ℕ, List, Result, Ok, Err, inl, inr}
use Rattle.plane.specs.declared.fault.Fault.{Fault}
use Rattle.engine.specs.Judgement.{Start, IsStart, Judges}
use Rattle.engine.specs.Run.{Finishes}
use Rattle.engine.specs.RunOptions.{run_of, with_workers}
use Rattle.engine.specs.declared.options.Options.{Options}
use Rattle.engine.specs.declared.running.Summary.{Summary}

start_as : (bytes : List ℕ) (options : Options) (workers pairs : ℕ) (start : Start) → IsStart bytes (run_of (with_workers workers pairs options)) start → IsStart bytes (run_of options) start
start_as bytes options workers pairs start is = record { text = is.text; rule = is.rule; cells = is.cells }

pub judged_as : (bytes : List ℕ) (options : Options) (workers pairs : ℕ) (a : Result Start Fault) → Judges bytes (run_of (with_workers workers pairs options)) a → Judges bytes (run_of options) a
judged_as bytes options workers pairs (Ok start) judges = (start_as bytes options workers pairs start judges.0, judges.1)
judged_as bytes options workers pairs (Err fault) (inl text) = inl text
judged_as bytes options workers pairs (Err fault) (inr (inl rule)) =
    inr (inl (record { meaning = rule.meaning; rule_fault = rule.rule_fault; text = rule.text; rule = rule.rule; is = rule.is }))
judged_as bytes options workers pairs (Err fault) (inr (inr range)) =
    inr (inr (record { start = range.start; accepted = start_as bytes options workers pairs range.start range.accepted; outside = range.outside; is = range.is }))

pub finishes_as : (start : Start) (options : Options) (workers pairs : ℕ) (answer : Summary) (said written : List ℕ) →
    Finishes start (with_workers workers pairs options) answer said written → Finishes start options answer said written
finishes_as start options workers pairs answer said written ends = record {
  cells = ends.cells;
  last = ends.last;
  report = record { lines = ends.report.lines; shows = ends.report.shows; is = ends.report.is };
  fits = ends.fits;
  file = ends.file;
  summary = ends.summary;
}
