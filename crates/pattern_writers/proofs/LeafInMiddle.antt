-- The nodes of a leaf, which comes into the middle of a square of level 4.
use Rattle.std.proofs.Common.{◌≡◌, List, sym, ◌∙◌, ap, subst}
use Rattle.plane.specs.Centred.{centred}
use Rattle.plane.specs.Plane.{Plane}
use Rattle.plane.proofs.Same.{plane_equal}
use Rattle.squares.specs.Book.{Book, IsKnown, Shows}
use Rattle.squares.specs.declared.sq.Sq.{Sq}
use Rattle.hashlife_step.specs.ShowsCentred.{ShowsCentred}
use Rattle.pattern_writers.specs.ListedNodes.{AreNodes}
use Rattle.pattern_writers.specs.declared.mc_text.node.ListedNode.{ListedNode}

-- the plane of a leaf, by its cells
pub leaf_plane : (book : Book) (leaf : Sq) (plane : Plane) → Shows book 3 plane leaf → centred leaf.level (book.cells leaf) ≡ centred 3 plane
leaf_plane book leaf plane shows = ap (λ n. centred n (book.cells leaf)) shows.known.at_level ∙ ap (centred 3) (plane_equal _ _ shows.cells)

pub leaf_known : (book : Book) (leaf : Sq) (plane : Plane) → Shows book 3 plane leaf → IsKnown book leaf.level leaf
leaf_known book leaf plane shows = subst (λ n. IsKnown book n leaf) (sym shows.known.at_level) shows.known

-- the nodes of the square that has the leaf in its middle are those of the leaf
pub leaf_nodes_are : (old new : Book) (leaf root : Sq) (plane : Plane) (nodes : List ListedNode) → Shows old 3 plane leaf → ShowsCentred new (centred leaf.level (old.cells leaf)) root →
    AreNodes (centred root.level (new.cells root)) nodes → AreNodes (centred 3 plane) nodes
leaf_nodes_are old new leaf root plane nodes shows at_centre are =
    subst (λ (p : Plane). AreNodes p nodes) (plane_equal _ _ at_centre.cells ∙ leaf_plane old leaf plane shows) are
