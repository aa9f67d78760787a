use Rattle.plane.specs.Centred.{centred}
use Rattle.pattern_writers.specs.Roots.{HasRoot}
use Rattle.pattern_writers.proofs.mc_text.root.Root.of.Given as goal

abbrev pub invariant-loop-root : goal.invariant-loop-root
invariant-loop-root g l = HasRoot (g.B.Look.book l.book) (centred l.fn.sq.level ((g.B.Look.book l.book).cells l.fn.sq)) l.root

abbrev pub decreases-loop-root : goal.decreases-loop-root
decreases-loop-root g l = l.root.level
