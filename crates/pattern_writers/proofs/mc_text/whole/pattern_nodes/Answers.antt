use Rattle.std.proofs.Common.{sym, subst}
use Rattle.std.specs.Prelude.{IfOk}
use Rattle.plane.specs.Plane.{Plane}
use Rattle.pattern_writers.specs.ListedNodes.{AreNodes}
use Rattle.pattern_writers.proofs.LeafInMiddle.{leaf_plane}
use Rattle.pattern_writers.proofs.mc_text.whole.pattern_nodes.Goals as goal

pub returns-then-sq-eq-LEAF_LEVEL-clause-ok : goal.returns-then-sq-eq-LEAF_LEVEL-clause-ok
returns-then-sq-eq-LEAF_LEVEL-clause-ok g c =
    subst (λ (p : Plane). IfOk c.leaf_nodes.result (λ nodes. AreNodes p nodes.items)) (sym (leaf_plane (g.B.Look.book c.args.book.now) c.args.sq _ c.bits.ensures)) c.leaf_nodes.ensures.ok
