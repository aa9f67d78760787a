use Rattle.std.proofs.Common.{refl, arith, rules, w64, SFits}
use Rattle.viewport.specs.RowRuns.{end_of}
use Rattle.viewport.proofs.RunsBeside.{grown_fits}
use Rattle.viewport.proofs.runs.longer.Goals as goal

pub overflow_add-result : goal.overflow_add-result
overflow_add-result c =
    let start : SFits w64 c.args.run.0 = search rules in
    let small = grown_fits c.args.run.0 c.args.run.1 c.args.count (end_of c.args.run) start refl c.requires in
    omega (arith, small)
