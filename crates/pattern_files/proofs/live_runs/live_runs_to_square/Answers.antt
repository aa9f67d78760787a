use Rattle.std.proofs.Common.{◌-◌, ◌^◌, sym, subst}
use Rattle.std.specs.List.{AllByRecursion}
use Rattle.rle_reader.specs.LiveRuns.{LiesWithin}
use Rattle.pattern_files.proofs.LiveRuns.{all_fit, rising_order}
use Rattle.pattern_files.proofs.live_runs.live_runs_to_square.Goals as goal

pub ordered_runs_to_square-requires-clause-fit : goal.ordered_runs_to_square-requires-clause-fit
ordered_runs_to_square-requires-clause-fit g c = all_fit c.reach.result (2 ^ (c.level_around-level.result - 1)) c.live_runs.result c.level_around-level.ensures.far c.live_runs.ensures.runs.each
    (subst (AllByRecursion (LiesWithin c.reach.result)) (sym c.live_runs.ensures.value) c.reach.ensures.within)

pub ordered_runs_to_square-requires-clause-order : goal.ordered_runs_to_square-requires-clause-order
ordered_runs_to_square-requires-clause-order g c = rising_order c.live_runs.result c.live_runs.ensures.runs.rising
