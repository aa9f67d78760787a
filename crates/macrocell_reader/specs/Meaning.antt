-- What a text means, or its first fault.
use Rattle.std.specs.Prelude.{ℕ, ◌||◌, not, Bool, if◌then◌else◌, List, [], ◌∷◌, ◌++◌, drop, Option, None, Result, Err, codes}
use Rattle.std.specs.Option.{option_map, option_or, option_to_list}
use Rattle.plane.specs.declared.fault.Fault.{Fault}
use Rattle.plane.specs.declared.refusal.Refusal.{Refusal}
use Rattle.plane.specs.declared.refusal.Refusal.TheVariants.{NotAPattern}
use Rattle.text_lines.specs.Bytes.{begins_with}
use Rattle.text_lines.specs.Comments.{is_blank_line, is_comment, comments_of}
use Rattle.text_lines.specs.Faults.{fault_at, unless}
use Rattle.text_lines.specs.Lines.{Line, lines}
use Rattle.macrocell_reader.specs.Nodes.{WrittenNode, node_of, nodes_of, level_of}
use Rattle.macrocell_reader.specs.NodeFaults.{node_fault}
use Rattle.macrocell_reader.specs.Settings.{Said, nothing_said, said_fault, after_lines}

-- a line that is neither blank nor a comment
abbrev pub is_node_line : List ℕ → Bool
is_node_line line = not (is_blank_line line || is_comment line)

-- the levels of the nodes up to the end of this line, where the nodes before it have these levels
abbrev pub levels_after : List ℕ → List ℕ → List ℕ
levels_after levels line = levels ++ option_to_list (option_map level_of (node_of line))

-- the fault of a line as a node line, if it is one, after nodes of these levels
abbrev pub node_line_fault : List ℕ → List ℕ → Option Refusal
node_line_fault levels line = if is_node_line line then node_fault levels line else None

-- the fault of a line after nodes of these levels
abbrev pub line_fault : List ℕ → List ℕ → Option Refusal
line_fault levels line = option_or (said_fault line) (node_line_fault levels line)

-- the first fault of these lines, after nodes of these levels
unfoldable pub first_fault : List ℕ → List Line → Option Fault
first_fault levels [] = None
first_fault levels (line ∷ rest) =
    option_or (option_map (λ refusal. fault_at refusal line.place) (line_fault levels line.text))
    (first_fault (levels_after levels line.text) rest)

-- what an accepted text means
pub record Meaning : Type 0 where
  pub generation : ℕ
  pub rule : Option (List ℕ)
  pub rule_place : ℕ
  pub comments : List (List ℕ)
  pub nodes : List WrittenNode

-- what these lines mean, where this is said
abbrev pub meaning_with : Said → List Line → Meaning
meaning_with said body = record {
  generation = said.generation;
  rule = said.rule;
  rule_place = said.rule_place;
  comments = comments_of body;
  nodes = nodes_of body;
}

-- the lines after the first
abbrev pub body_of : List ℕ → List Line
body_of text = drop 1 (lines 0 text)

-- what a text means, or its first fault
unfoldable pub judged : List ℕ → Result Meaning Fault
judged text =
    if begins_with (codes "[M2]") text
    then unless (first_fault [] (body_of text))
    (meaning_with (after_lines nothing_said (body_of text)) (body_of text))
    else Err (fault_at NotAPattern 0)
