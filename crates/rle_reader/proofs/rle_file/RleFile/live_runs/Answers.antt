use Rattle.std.proofs.Common.{ap, sym, subst, ◌∙◌}
use Rattle.plane.specs.Runs.{AreRuns, runs_plane}
use Rattle.plane.specs.Square.{IsSame}
use Rattle.rle_reader.specs.LiveRuns.{live_runs_of}
use Rattle.rle_reader.specs.Meaning.{Meaning, live_plane}
use Rattle.rle_reader.proofs.LiveLemmas.{live_left-accepted}
use Rattle.rle_reader.proofs.RunLists.{accepted_runs, live_runs-cover}
use Rattle.rle_reader.proofs.rle_file.RleFile.live_runs.Goals as goal

pub returns-clause-value : goal.returns-clause-value
returns-clause-value c =
    c.new.ensures
    ∙ live_left-accepted c.self.inside.source.now c.self.inside.preamble c.self.invariant.1 c.self.invariant.2
    ∙ ap live_runs_of c.self.view_is

pub returns-clause-runs : goal.returns-clause-runs
returns-clause-runs c =
    subst AreRuns (sym (returns-clause-value c))
    (subst (λ (m : Meaning). AreRuns (live_runs_of m)) c.self.view_is (accepted_runs c.self.inside.source.now c.self.inside.preamble c.self.invariant.1 c.self.invariant.2))

pub returns-clause-cells : goal.returns-clause-cells
returns-clause-cells c =
    subst (λ runs. IsSame (runs_plane runs) (live_plane c.args.self.now)) (sym (returns-clause-value c)) (live_runs-cover c.args.self.now)
