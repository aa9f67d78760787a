use Rattle.node_table.proofs.StillReading.{lower_pair, some_pair, still_quarters, upper_pair}
use Rattle.node_table.proofs.TwoBlocks.{same_quarters}
use Rattle.node_table.proofs.look.read_parts.Goals as goal

pub read_pair-upper-requires : goal.read_pair-upper-requires
read_pair-upper-requires g c = some_pair (g.W.StillWords.good c.args.still.now) c.args.sq c.requires.level c.requires.known

pub read_pair-nw-requires : goal.read_pair-nw-requires
read_pair-nw-requires g c = upper_pair (g.W.StillWords.good c.args.still.now) c.args.sq c.requires.level c.requires.known c.read_pair-upper.ensures

pub read_pair-sw-requires : goal.read_pair-sw-requires
read_pair-sw-requires g c = lower_pair (g.W.StillWords.good c.args.still.now) c.args.sq c.requires.level c.requires.known c.read_pair-upper.ensures

pub returns : goal.returns
returns g c = same_quarters c.square.ensures c.square-2.ensures c.square-3.ensures c.square-4.ensures
    (still_quarters (g.W.StillWords.good c.args.still.now) c.args.sq c.requires.level c.requires.known c.read_pair-upper.ensures c.read_pair-nw.ensures c.read_pair-sw.ensures)
