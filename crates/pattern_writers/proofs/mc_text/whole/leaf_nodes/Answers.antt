use Rattle.pattern_writers.proofs.LeafInMiddle.{leaf_known, leaf_nodes_are}
use Rattle.pattern_writers.proofs.mc_text.whole.leaf_nodes.Goals as goal

pub trim-requires : goal.trim-requires
trim-requires c = record { known = leaf_known _ c.in_ok-leaf.leaf _ c.in_ok-leaf.ensures.ok }

pub listed_nodes-requires-clause-known : goal.listed_nodes-requires-clause-known
listed_nodes-requires-clause-known c = c.in_ok-root.ensures.cells.known

pub listed_nodes-requires-clause-low : goal.listed_nodes-requires-clause-low
listed_nodes-requires-clause-low c = c.in_ok-root.ensures.level.least

pub returns-clause-ok : goal.returns-clause-ok
returns-clause-ok c =
    leaf_nodes_are _ _ c.in_ok-leaf.leaf c.in_ok-root.root _ c.in_ok-listed_nodes.field-0.items c.in_ok-leaf.ensures.ok c.in_ok-root.ensures.cells c.in_ok-listed_nodes.ensures
