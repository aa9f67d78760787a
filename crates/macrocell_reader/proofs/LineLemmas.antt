-- The node lines of a file, one after the other.
use Rattle.std.proofs.Common.{◌≡◌, List, [], ◌∷◌, Option, Some, None, map, refl, ap, ◌∙◌}
use Rattle.std.specs.List.{cons_option}
use Rattle.std.specs.Option.{option_map}
use Rattle.text_lines.specs.Lines.{Line}
use Rattle.macrocell_reader.specs.Nodes.{WrittenNode, node_of, nodes_of, kept, kept_node}
use Rattle.macrocell_reader.specs.Seen.{nodes_kept}
use Rattle.macrocell_reader.specs.declared.node.Node.{Node}

first_kept : (line : Line) (rest : List WrittenNode) (found : Option Node) (node : Node) → Some node ≡ option_map kept found →
    map kept_node (cons_option (option_map (λ node. record { text = line.text; place = line.place; node = node }) found) rest)
    ≡ record { text = line.text; place = line.place; node = node } ∷ map kept_node rest
first_kept line rest None node is = cc
first_kept line rest (Some other) node is =
    let same : kept other ≡ node = cc in
    ap (λ (n : Node). record { text = line.text; place = line.place; node = n } ∷ map kept_node rest) same

none_kept : (line : Line) (rest : List WrittenNode) (found : Option Node) → None ≡ option_map kept found →
    map kept_node (cons_option (option_map (λ node. record { text = line.text; place = line.place; node = node }) found) rest) ≡ map kept_node rest
none_kept line rest None is = refl
none_kept line rest (Some other) is = cc

module _ (before after : List Line) where
  pub nodes_kept-nil : before ≡ [] → nodes_kept before ≡ []
  unfolding nodes_kept
  nodes_kept-nil none = ap (λ lines. map kept_node (nodes_of lines)) none

  module _ (line : Line) (is : before ≡ line ∷ after) where
    pub nodes_kept-node : (node : Node) → Some node ≡ option_map kept (node_of line.text) → nodes_kept before ≡ record { text = line.text; place = line.place; node = node } ∷ nodes_kept after
    unfolding nodes_kept
    nodes_kept-node node found =
        ap (λ lines. map kept_node (nodes_of lines)) is ∙ first_kept line (nodes_of after) (node_of line.text) node found

    pub nodes_kept-other : None ≡ option_map kept (node_of line.text) → nodes_kept before ≡ nodes_kept after
    unfolding nodes_kept
    nodes_kept-other found =
        ap (λ lines. map kept_node (nodes_of lines)) is ∙ none_kept line (nodes_of after) (node_of line.text) found
