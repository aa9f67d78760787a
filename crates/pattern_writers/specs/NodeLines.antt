-- The lines of the nodes that are written.
use Rattle.std.specs.Prelude.{List, ℕ, ◌++◌, codes, slice_index}
use Rattle.plane.specs.Square.{bits_plane}
use Rattle.pattern_writers.specs.LeafText.{leaf_text}
use Rattle.pattern_writers.specs.McText.{inner_text}
use Rattle.pattern_writers.specs.declared.mc_text.node.ListedNode.{ListedNode}
use Rattle.pattern_writers.specs.declared.mc_text.node.ListedNode.TheVariants.{Leaf, Inner}

-- the text of a node
abbrev pub node_text : ListedNode → List ℕ
node_text (Leaf word) = leaf_text (bits_plane word)
node_text (Inner level quarters) =
    inner_text level (slice_index quarters 0) (slice_index quarters 1) (slice_index quarters 2)
    (slice_index quarters 3)

-- a node as a line
abbrev pub node_line : ListedNode → List ℕ
node_line node = node_text node ++ codes "\n"
