use Rattle.std.proofs.Common.{◌∙◌, sym, ap}
use Rattle.text_lines.specs.Lines.{Line, lines_from}
use Rattle.macrocell_reader.specs.Seen.{nodes_kept}
use Rattle.macrocell_reader.proofs.LineLemmas.{nodes_kept-nil, nodes_kept-node, nodes_kept-other}
use Rattle.macrocell_reader.proofs.node_lines.next_node.Goals as goal

pub returns-in-Some-node_of : goal.returns-in-Some-node_of
returns-in-Some-node_of c =
    let line : Line = record { place = c.in-Some.line.place; text = c.in-Some.line.text.now } in
    sym c.loop-line.invariant
    ∙ nodes_kept-node (lines_from c.loop-line.lines.source.now c.loop-line.lines.at) (lines_from c.next_line.new.self.source.now c.next_line.new.self.at)
    line c.in-Some.ensures.line c.in-Some-node_of.node c.in-Some-node_of.ensures

pub loop-line-preserved : goal.loop-line-preserved
loop-line-preserved c =
    let line : Line = record { place = c.in-Some.line.place; text = c.in-Some.line.text.now } in
    sym (nodes_kept-other (lines_from c.loop-line.lines.source.now c.loop-line.lines.at) (lines_from c.next_line.new.self.source.now c.next_line.new.self.at)
    line c.in-Some.ensures.line c.in_default-node_of.ensures)
    ∙ c.loop-line.invariant

pub returns : goal.returns
returns c =
    let none = nodes_kept-nil (lines_from c.loop-line.lines.source.now c.loop-line.lines.at) (lines_from c.loop-line.lines.source.now c.loop-line.lines.at) c.in_default.ensures.line in (
      sym c.loop-line.invariant ∙ none,
      ap (λ source. nodes_kept (lines_from source c.next_line.new.self.at)) c.in_default.ensures.source
          ∙ ap (λ at. nodes_kept (lines_from c.loop-line.lines.source.now at)) c.in_default.ensures.place ∙ none,
    )
