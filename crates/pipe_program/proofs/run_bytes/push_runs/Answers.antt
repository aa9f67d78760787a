use Rattle.std.proofs.Common.{rules, pos, of_z, to_z, w64, sym, ◌∙◌}
use Rattle.std.proofs.lemmas.Int.{to_z-of_z}
use Rattle.pipe_program.proofs.RunsPushed.{all_runs_pushed, row_bytes-more}
use Rattle.pipe_program.proofs.run_bytes.push_runs.Goals as goal

pub loop-run-preserved : goal.loop-run-preserved
loop-run-preserved c =
    c.loop-run.invariant ∙ row_bytes-more (to_z w64 (of_z w64 c.args.y)) c.args.runs.now c.loop-run.run-index (pos 0, 0) c.loop-run.bytes.items (search rules) ∙ (search rules)

pub returns : goal.returns
returns c =
    sym ((rw (to_z-of_z w64 c.args.y c.ranges.y) at c.loop-run.invariant) ∙ all_runs_pushed c.args.y c.args.runs.now c.loop-run.run-index c.loop-run.bytes.items c.loop-run-test.false)
