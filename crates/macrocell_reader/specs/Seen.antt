-- What the parts of a file that was read are seen as.
use Rattle.std.specs.Prelude.{List, map, None}
use Rattle.plane.specs.declared.fault.Fault.{Fault}
use Rattle.plane.specs.declared.refusal.Refusal.TheVariants.{NoMemory}
use Rattle.std.specs.Option.{option_copied}
use Rattle.text_lines.specs.Lines.{Line}
use Rattle.macrocell_reader.specs.Nodes.{WrittenNode, nodes_of, kept_node}
use Rattle.macrocell_reader.specs.Settings.{Said}
use Rattle.macrocell_reader.specs.declared.node.NodeLine.{NodeLine}
use Rattle.macrocell_reader.specs.declared.settings.Settings.{Settings}

-- a node with the bytes of its line
abbrev pub written_seen : NodeLine → WrittenNode
written_seen line = record { text = line.text.now; place = line.place; node = line.node }

-- what is said, with the bytes of the rule
abbrev pub said_seen : Settings → Said
said_seen settings = record {
  generation = settings.generation;
  rule = option_copied settings.rule;
  rule_place = settings.rule_place;
}

-- the nodes of these lines, as a machine keeps them
unfoldable pub nodes_kept : List Line → List WrittenNode
nodes_kept lines = map kept_node (nodes_of lines)

-- the refusal where memory ran out, which no line is to blame for
abbrev pub out_of_memory : Fault
out_of_memory = record { refusal = NoMemory; place = None }
