-- Lines of a macrocell text, wherever they stand.
use Rattle.std.proofs.Common.{◌≡◌, ℕ, ◌+◌, List, [], ◌∷◌, length, map, Option, Some, None, refl, ◌∙◌, ap}
use Rattle.std.specs.List.{AllByRecursion, filter_map, cons_option}
use Rattle.std.specs.Option.{option_map}
use Rattle.text_lines.specs.Lines.{Line, placed_lines, without_return}
use Rattle.macrocell_reader.specs.Meaning.{first_fault, levels_after, node_line_fault}
use Rattle.macrocell_reader.specs.Nodes.{WrittenNode, node_of, nodes_of}
use Rattle.macrocell_reader.specs.Settings.{Said, after_line, after_lines, said_fault}
use Rattle.macrocell_reader.specs.declared.node.Node.{Node}
use Rattle.macrocell_reader.proofs.MeaningLemmas.{first_fault-nil, first_fault-next}

abbrev pub bare : List WrittenNode → List Node
bare nodes = map (λ node. node.node) nodes

bare_first : (line : Line) (rest : List WrittenNode) (found : Option Node) →
    bare (cons_option (option_map (λ node. record { text = line.text; place = line.place; node = node }) found) rest) ≡ cons_option found (bare rest)
bare_first line rest None = refl
bare_first line rest (Some node) = refl

pub nodes_placed : (place : ℕ) (raw : List (List ℕ)) → bare (nodes_of (placed_lines place raw)) ≡ filter_map node_of (map without_return raw)
unfolding placed_lines
nodes_placed place [] = refl
nodes_placed place (text ∷ raw) =
    let later = nodes_placed (place + length text + 1) raw in
    bare_first (record { place = place; text = without_return text }) (nodes_of (placed_lines (place + length text + 1) raw)) (node_of (without_return text))
    ∙ ap (cons_option (node_of (without_return text))) later

-- each line is without fault after those before it
abbrev pub AreFine : List ℕ → List (List ℕ) → Type 0
AreFine levels [] = Unit {0}
AreFine levels (text ∷ texts) = (said_fault text ≡ None) × (node_line_fault levels text ≡ None) × AreFine (levels_after levels text) texts

pub fine_placed : (place : ℕ) (levels : List ℕ) (raw : List (List ℕ)) → AreFine levels (map without_return raw) → first_fault levels (placed_lines place raw) ≡ None
unfolding placed_lines
fine_placed place levels [] fine = first_fault-nil levels
fine_placed place levels (text ∷ raw) fine =
    first_fault-next levels (record { place = place; text = without_return text }) (placed_lines (place + length text + 1) raw) fine.0 fine.1
    ∙ fine_placed (place + length text + 1) (levels_after levels (without_return text)) raw fine.2

-- lines that say nothing of the rule or the generation
abbrev pub AreSilent : List (List ℕ) → Type 0
AreSilent texts = AllByRecursion (λ text. (said : Said) (place : ℕ) → after_line said (record { place = place; text = text }) ≡ said) texts

pub silent_placed : (place : ℕ) (said : Said) (raw : List (List ℕ)) → AreSilent (map without_return raw) → after_lines said (placed_lines place raw) ≡ said
unfolding placed_lines
silent_placed place said [] silent = refl
silent_placed place said (text ∷ raw) silent =
    ap (λ s. after_lines s (placed_lines (place + length text + 1) raw)) (silent.0 said place) ∙ silent_placed (place + length text + 1) said raw silent.1
