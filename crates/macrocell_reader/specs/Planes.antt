-- The cells of the nodes of a file, and the pattern that a file means.
use Rattle.std.specs.Prelude.{ℕ, zero, suc, ◌-◌, ◌^◌, List, [], ◌∷◌, ◌++◌, length, map, slice_index, slice_index_or, Result}
use Rattle.plane.specs.Centred.{centred}
use Rattle.plane.specs.Plane.{Plane}
use Rattle.plane.specs.Square.{empty, joined, bits_plane}
use Rattle.plane.specs.declared.fault.Fault.{Fault}
use Rattle.text_lines.specs.Meaning as pattern
use Rattle.macrocell_reader.specs.Meaning.{Meaning, judged}
use Rattle.macrocell_reader.specs.Nodes.{level_of}
use Rattle.macrocell_reader.specs.declared.node.Node.{Node}
use Rattle.macrocell_reader.specs.declared.node.Node.TheVariants.{Leaf, Inner}

-- the plane with this number among those of the earlier nodes; number 0 is empty
abbrev pub plane_at : List Plane → ℕ → Plane
plane_at planes zero = empty
plane_at planes (suc before) = slice_index_or planes before empty

-- the cells of a node after nodes with these planes
abbrev pub node_plane : List Plane → Node → Plane
node_plane planes (Leaf bits) = bits_plane bits
node_plane planes (Inner level kids) =
    joined (2 ^ (level - 1)) (plane_at planes (slice_index kids 0))
    (plane_at planes (slice_index kids 1))
    (plane_at planes (slice_index kids 2)) (plane_at planes (slice_index kids 3))

-- the planes of these nodes after nodes with those planes
abbrev pub planes_after : List Plane → List Node → List Plane
planes_after planes [] = planes
planes_after planes (node ∷ nodes) = planes_after (planes ++ node_plane planes node ∷ []) nodes

-- the planes of these nodes, in order
abbrev pub planes_of : List Node → List Plane
planes_of nodes = planes_after [] nodes

-- the level of the last of these nodes
abbrev pub root_level : List Node → ℕ
root_level nodes = slice_index (map level_of nodes) (length nodes - 1)

-- the cells of the last of these nodes, around (0, 0); none where there is no node, since number 0
-- is empty
abbrev pub root_plane : List Node → Plane
root_plane nodes = centred (root_level nodes) (plane_at (planes_of nodes) (length nodes))

-- the cells that a meaning makes live
abbrev pub live_plane : Meaning → Plane
live_plane meaning = root_plane (map (λ written. written.node) meaning.nodes)

-- the meaning without what only this format has
abbrev pub as_pattern : Meaning → pattern.Meaning
as_pattern meaning = record {
  generation = meaning.generation;
  rule = meaning.rule;
  rule_place = meaning.rule_place;
  comments = meaning.comments;
  live = live_plane meaning;
}

-- the pattern in a text, or the text's first fault
abbrev pub pattern_in : List ℕ → Result pattern.Meaning Fault
pattern_in text = pattern.seen_as as_pattern (judged text)
