use Rattle.std.proofs.Common.{◌-◌}
use Rattle.universe.proofs.rooted_still.RootedStill.in_fewer_words.Given as goal

abbrev pub decreases-sizes : goal.decreases-sizes
decreases-sizes l = l.own.bits - l.shape.bits
