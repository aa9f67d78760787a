-- The fault of a node line, after nodes of these levels.
use Rattle.std.specs.Prelude.{◌≡◌, ℕ, zero, suc, ◌+◌, ◌-◌, ◌^◌, ◌==◌, nat_le, nat_lt, Bool, true, false, not, if◌then◌else◌, List, [], ◌∷◌, ◌++◌, length, slice_get, Option, None, Some}
use Rattle.std.specs.List.{list_all}
use Rattle.std.specs.Option.{option_map_or}
use Rattle.plane.specs.declared.refusal.Refusal.{Refusal}
use Rattle.plane.specs.declared.refusal.Refusal.TheVariants.{OutOfRange, TooManyCells, BadNodeLine, BadChild}
use Rattle.macrocell_reader.specs.Nodes.{node_of, level_of}
use Rattle.macrocell_reader.specs.declared.node.Node.{Node}
use Rattle.macrocell_reader.specs.declared.node.Node.TheVariants.{Leaf, Inner}

-- the line has the form of an inner node, of a level that is too large
abbrev pub is_above : Option Node → Bool
is_above None = false
is_above (Some (Leaf bits)) = false
is_above (Some (Inner level kids)) = nat_lt 63 level

-- the line is a leaf, or an inner node of a level above that of leaves
abbrev pub is_node : Option Node → Bool
is_node None = false
is_node (Some (Leaf bits)) = true
is_node (Some (Inner level kids)) = nat_le 4 level

-- the number is 0, which is the empty square, or that of an earlier node, one level lower
abbrev pub is_child : List ℕ → ℕ → ℕ → Bool
is_child levels level zero = true
is_child levels level (suc before) =
    option_map_or (λ lower. lower + 1 == level) (slice_get levels before) false

abbrev pub has_children : List ℕ → Option Node → Bool
has_children levels None = true
has_children levels (Some (Leaf bits)) = true
has_children levels (Some (Inner level kids)) = list_all (is_child levels level) kids

-- the most nodes of a file: they are numbered from 1, and each number has 32 bits
abbrev pub most_nodes : ℕ
most_nodes = 2 ^ 32 - 1

-- the first fault of a line that is a node after nodes of these levels
unfoldable pub fault_among : List ℕ → Option Node → Option Refusal
fault_among levels node =
    if is_above node then Some OutOfRange
    else (if nat_le most_nodes (length levels) then Some TooManyCells
    else (if not (is_node node) then Some BadNodeLine
    else (if not (has_children levels node) then Some BadChild else None)))

abbrev pub node_fault : List ℕ → List ℕ → Option Refusal
node_fault levels line = fault_among levels (node_of line)

-- each of these nodes is without fault after those before it, the first after nodes of these levels
abbrev pub StandInOrder : List ℕ → List Node → Type 0
StandInOrder levels [] = Unit {0}
StandInOrder levels (node ∷ nodes) =
    (fault_among levels (Some node) ≡ None) × StandInOrder (levels ++ level_of node ∷ []) nodes
