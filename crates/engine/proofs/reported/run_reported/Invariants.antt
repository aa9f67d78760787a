use Rattle.std.proofs.Common.{◌≡◌, ◌≤◌, ℕ, ◌-◌, List, not}
use Rattle.std.specs.Io.KnownBytes.{Appends}
use Rattle.engine.specs.Report.{AreLinesAfter, is_shown}
use Rattle.engine.specs.Sessions.{IsLaterSession, cells_of}
use Rattle.engine.proofs.Reports.{shown_below}
use Rattle.engine.proofs.reported.run_reported.Given as goal

abbrev pub invariant-lines : goal.invariant-lines
invariant-lines g l = record {
  within : l.done ≤ l.options.gens;
  shown : is_shown l.options l.done ≡ not l.options.quiet;
  later : IsLaterSession l.fn.session l.done l.session;
  unfailed : g.W.Sink.failure_count l.report ≡ g.W.Sink.failure_count l.fn.report;
  said : (said : List ℕ) × AreLinesAfter l.fn.session.rule (cells_of l.fn.session) l.fn.session.generation (shown_below l.options l.done) said
      × Appends (g.W.Sink.taken l.fn.report) (g.W.Sink.taken l.report) said;
}

abbrev pub decreases-lines : goal.decreases-lines
decreases-lines g l = l.options.gens - l.done
