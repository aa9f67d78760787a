-- The node lines of a text are slices of it.
use Rattle.std.proofs.Common.{◌≡◌, ℕ, ◌+◌, List, [], ◌∷◌, map, drop, Option, Some, None, refl, arith}
use Rattle.text_lines.specs.Lines.{Line, StandIn, lines}
use Rattle.text_lines.proofs.SliceLemmas.{more_from, all_lines_stand}
use Rattle.macrocell_reader.specs.Meaning.{body_of}
use Rattle.macrocell_reader.specs.Nodes.{node_of, nodes_of, line_of}
use Rattle.macrocell_reader.specs.declared.node.Node.{Node}

node_step : (source : List ℕ) (from : ℕ) (line : Line) (rest : List Line) (found : Option Node) → node_of line.text ≡ found → StandIn source from (line ∷ rest) →
    ((next : ℕ) → StandIn source next rest → StandIn source next (map line_of (nodes_of rest))) → StandIn source from (map line_of (nodes_of (line ∷ rest)))
node_step source from line rest None is all later =
    let low = all.0 in
    rw is (more_from source (line.place + 1) from (map line_of (nodes_of rest)) (omega arith) (later (line.place + 1) all.2))
node_step source from line rest (Some node) is all later = rw is (all.0, all.1, later (line.place + 1) all.2)

nodes_stand : (source : List ℕ) (from : ℕ) (all : List Line) → StandIn source from all → StandIn source from (map line_of (nodes_of all))
nodes_stand source from [] stand = tt
nodes_stand source from (line ∷ rest) stand =
    node_step source from line rest (node_of line.text) refl stand (λ next others. nodes_stand source next rest others)

without_first : (source : List ℕ) (all : List Line) → StandIn source 0 all → StandIn source 0 (drop 1 all)
without_first source [] stand = tt
without_first source (line ∷ rest) stand = more_from source (line.place + 1) 0 rest (omega arith) stand.2

pub body_nodes_stand : (text : List ℕ) → StandIn text 0 (map line_of (nodes_of (body_of text)))
body_nodes_stand text = nodes_stand text 0 (body_of text) (without_first text (lines 0 text) (all_lines_stand text))
