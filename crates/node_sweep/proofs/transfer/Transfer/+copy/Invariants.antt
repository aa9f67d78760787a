use Rattle.node_sweep.proofs.transfer.Transfer.+copy.Given as goal

abbrev pub decreases-copy : goal.decreases-copy
decreases-copy l = l.height
