use Rattle.std.proofs.Common.{◌++◌, ◌∙◌, [], sym, refl, append_assoc, rules}
use Rattle.pattern_writers.specs.NodeLines.{node_line}
use Rattle.pattern_writers.proofs.BlocksOut.{broken_off, buffered_more, buffered_none, on_err, one_more}
use Rattle.pattern_writers.proofs.mc_text.node.write_nodes.Goals as goal

pub loop-node-init : goal.loop-node-init
loop-node-init g c = (refl, ([], buffered_none _ _, refl))

pub loop-node-preserved : goal.loop-node-preserved
loop-node-preserved g c =
    let before = c.loop-node.invariant.1 in
    let line = c.as_bytes.result.now in
    let is = c.as_bytes.ensures.bytes ∙ c.line.ensures in
    let whole = one_more node_line c.args.nodes.now c.loop-node.node-index _ before.0 line c.loop-node-test.true is before.2 in (
      search rules,
      (before.0 ++ line, buffered_more before.1 c.in_ok-put.ensures.written, whole ∙ sym (append_assoc before.0 line _)),
    )

pub returns-in_err-put-clause-beginning : goal.returns-in_err-put-clause-beginning
returns-in_err-put-clause-beginning g c =
    let before = c.loop-node.invariant.1 in
    let line = c.as_bytes.result.now in
    let is = c.as_bytes.ensures.bytes ∙ c.line.ensures in
    let whole = one_more node_line c.args.nodes.now c.loop-node.node-index _ before.0 line c.loop-node-test.true is before.2 in
    on_err c.from_residual.result (broken_off line _ _ before.1 c.in_err-put.ensures.beginning whole)
