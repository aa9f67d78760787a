-- What a line writes as a node, whether or not its numbers are those of a node.
use Rattle.std.specs.Prelude.{ℕ, ◌==◌, ◌||◌, min, Bool, if◌then◌else◌, List, [], ◌∷◌, map, Option, None}
use Rattle.std.specs.Char.{is_ascii_digit}
use Rattle.std.specs.List.{filter_map}
use Rattle.std.specs.Option.{option_map}
use Rattle.std.specs.Str.{byte}
use Rattle.text_lines.specs.Lines.{Line}
use Rattle.macrocell_reader.specs.Leaf.{is_cell, leaf_of}
use Rattle.macrocell_reader.specs.Inner.{numbers, inner_of}
use Rattle.macrocell_reader.specs.declared.node.Node.{Node}
use Rattle.macrocell_reader.specs.declared.node.Node.TheVariants.{Leaf, Inner}

-- a leaf line begins with a cell or the end of a row
abbrev pub begins_leaf : ℕ → Bool
begins_leaf first = is_cell first || first == byte "$"

-- the node that a line writes
unfoldable pub node_of : List ℕ → Option Node
node_of [] = None
node_of (first ∷ rest) =
    if begins_leaf first then option_map (λ bits. Leaf bits) (leaf_of (first ∷ rest))
    else (if is_ascii_digit first then inner_of (numbers (first ∷ rest)) else None)

-- a leaf is a square of level 3, as its side is 2^3
abbrev pub level_of : Node → ℕ
level_of (Leaf bits) = 3
level_of (Inner level kids) = level

-- a node with its line
pub record WrittenNode : Type 0 where
  pub text : List ℕ
  pub place : ℕ
  pub node : Node

-- the line of a node
abbrev pub line_of : WrittenNode → Line
line_of written = record { place = written.place; text = written.text }

-- the line with its node, if it writes one
abbrev pub written_node : Line → Option WrittenNode
written_node line = option_map (λ node. record { text = line.text; place = line.place; node = node }) (node_of line.text)

-- the nodes of these lines
abbrev pub nodes_of : List Line → List WrittenNode
nodes_of lines = filter_map written_node lines

-- ---- what a machine keeps of them

-- the node, where a number that is too large stays at the largest that fits
abbrev pub kept : Node → Node
kept (Leaf bits) = Leaf bits
kept (Inner level kids) = Inner (min level 255) (map (λ kid. min kid 4294967295) kids)

abbrev pub kept_node : WrittenNode → WrittenNode
kept_node written = record written { node = kept written.node }
