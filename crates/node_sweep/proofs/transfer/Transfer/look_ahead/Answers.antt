use Rattle.std.proofs.Common.{ap, arith}
use Rattle.std.specs.Prelude.{slice_index}
use Rattle.node_sweep.proofs.SideBySide.{found_on}
use Rattle.node_sweep.proofs.transfer.Transfer.look_ahead.Goals as goal

pub bounds-fresh-index : goal.bounds-fresh-index
bounds-fresh-index c =
    let long = c.requires.good.long in
    let range = c.way_index-index.ensures.range in
    omega arith

pub loop-i-preserved : goal.loop-i-preserved
loop-i-preserved c =
    found_on c.args.self.now c.args.fresh.now c.args.words.now c.loop-i.found c.loop-i.i _ c.loop-i.invariant (omega arith) (ap (slice_index c.args.fresh.now) c.way_index-index.ensures.index)
