use Rattle.node_sweep.proofs.Begun.{underway_begun}
use Rattle.node_sweep.proofs.transfer.Transfer.begin.Goals as goal

pub returns : goal.returns
returns c =
    let none = c.in_ok-copies.ensures.items_if_clones_equal (λ y same. same) in
    underway_begun c.args.self.now _ c.number_count.result c.requires none c.number_count.ensures
