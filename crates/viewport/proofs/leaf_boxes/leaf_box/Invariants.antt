use Rattle.viewport.proofs.BoxesOfPlanes.{BoxMatches}
use Rattle.viewport.proofs.LeafBoxes.{up_to}
use Rattle.viewport.proofs.leaf_boxes.leaf_box.Given as goal

abbrev pub invariant-loop-place : goal.invariant-loop-place
invariant-loop-place l = BoxMatches (up_to l.word l.place) l.bounds
