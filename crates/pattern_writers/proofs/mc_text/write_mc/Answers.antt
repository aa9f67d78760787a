use Rattle.std.proofs.Common.{◌≡◌, ◌∙◌, ◌++◌, [], Err, append-nil, sym, subst, ap, inr, flat_map}
use Rattle.std.specs.Io.KnownBytes.{Appends}
use Rattle.std.proofs.lemmas.Result.{IfErr-weaker, on_ok_weaker}
use Rattle.std.proofs.result.Match.{err_is}
use Rattle.rule_text.specs.RuleText.{canonical_text}
use Rattle.plane.proofs.Beginnings.{beginning_as}
use Rattle.plane.specs.Device.{IsWriteRefusal}
use Rattle.pattern_writers.specs.McText.{mc_preamble}
use Rattle.pattern_writers.specs.NodeLines.{node_line}
use Rattle.pattern_writers.specs.RleText.{comment_lines}
use Rattle.pattern_writers.proofs.BlocksOut.{begun_first, block_broken_off, block_out, both_err, broken_off, buffered_more, first_broken_off}
use Rattle.pattern_writers.proofs.WrittenReadBack.{mc_written_read}
use Rattle.pattern_writers.proofs.mc_text.write_mc.Goals as goal

pub returns-clause-written : goal.returns-clause-written
returns-clause-written g c =
    let nodes = c.in_ok-nodes.ensures.ok in
    let preamble : c.as_bytes.result.now ≡ mc_preamble (canonical_text c.args.rule.now) c.args.generation = c.as_bytes.ensures.bytes ∙ c.preamble_lines-preamble.ensures in
    let begun = rw preamble at c.in_ok-begin.ensures.written in
    let lines = rw c.as_slice.ensures.value at c.in_ok-write_nodes.ensures.written in
    let whole = ap (λ l. mc_preamble (canonical_text c.args.rule.now) c.args.generation ++ comment_lines c.args.comments ++ l) nodes.lines in
    on_ok_weaker c.write_all.result
    (λ wrote. record {
      level = nodes.level;
      smallest = nodes.smallest;
      appends = subst (Appends (g.V.Sink.taken c.args.file.now) (g.V.Sink.taken c.write_all.new.sink)) whole
          (block_out _ c.new-block.ensures (buffered_more begun lines) wrote);
    })
    (rw c.as_slice-2.ensures.value at c.write_all.ensures.written)

pub returns-clause-read_back : goal.returns-clause-read_back
returns-clause-read_back g c = on_ok_weaker c.write_all.result (λ writes. mc_written_read _ _ _ _ _ _ writes) (returns-clause-written g c)

pub returns-in_err-begin-clause-refused : goal.returns-in_err-begin-clause-refused
returns-in_err-begin-clause-refused g c =
    let nodes = c.in_ok-nodes.ensures.ok in
    let preamble : c.as_bytes.result.now ≡ mc_preamble (canonical_text c.args.rule.now) c.args.generation = c.as_bytes.ensures.bytes ∙ c.preamble_lines-preamble.ensures in
    let begun = rw preamble at c.in_err-begin.ensures.beginning in
    let first = mc_preamble (canonical_text c.args.rule.now) c.args.generation ++ comment_lines c.args.comments in
    let whole = ap (λ l. first ++ l) nodes.lines in
    let is : c.from_residual-in_err-begin.result ≡ Err c.in_err-begin.field-0.0 = err_is _ _ c.from_residual-in_err-begin.ensures.1 in
    rw is (inr (
      c.in_err-begin.ensures.failure.refused,
      record {
        level = nodes.level;
        smallest = nodes.smallest;
        beginning = beginning_as whole (begun_first c.new-block.ensures (first_broken_off _ first (flat_map node_line c.in_ok-nodes.nodes.items) begun));
      },
    ))

pub returns-in_err-write_nodes-clause-refused : goal.returns-in_err-write_nodes-clause-refused
returns-in_err-write_nodes-clause-refused g c =
    let nodes = c.in_ok-nodes.ensures.ok in
    let preamble : c.as_bytes.result.now ≡ mc_preamble (canonical_text c.args.rule.now) c.args.generation = c.as_bytes.ensures.bytes ∙ c.preamble_lines-preamble.ensures in
    let before = rw preamble at c.in_ok-begin.ensures.written in
    let begun = rw c.as_slice.ensures.value at c.in_err-write_nodes.ensures.beginning in
    let first = mc_preamble (canonical_text c.args.rule.now) c.args.generation ++ comment_lines c.args.comments in
    let whole = ap (λ l. first ++ l) nodes.lines in
    let is : c.from_residual-in_err-write_nodes.result ≡ Err c.in_err-write_nodes.field-0.0 = err_is _ _ c.from_residual-in_err-write_nodes.ensures.1 in
    rw is (inr (
      subst (λ n. IsWriteRefusal n (g.V.Sink.failure_count c.write_nodes.new.file) c.in_err-write_nodes.field-0.0) c.in_ok-begin.ensures.failure.unfailed c.in_err-write_nodes.ensures.failure.refused,
      record {
        level = nodes.level;
        smallest = nodes.smallest;
        beginning = beginning_as whole (begun_first c.new-block.ensures (broken_off _ [] _ before begun (ap (λ l. first ++ l) (sym (append-nil _)))));
      },
    ))

pub returns-clause-refused : goal.returns-clause-refused
returns-clause-refused g c =
    let nodes = c.in_ok-nodes.ensures.ok in
    let preamble : c.as_bytes.result.now ≡ mc_preamble (canonical_text c.args.rule.now) c.args.generation = c.as_bytes.ensures.bytes ∙ c.preamble_lines-preamble.ensures in
    let begun = rw preamble at c.in_ok-begin.ensures.written in
    let lines = rw c.as_slice.ensures.value at c.in_ok-write_nodes.ensures.written in
    let whole = ap (λ l. mc_preamble (canonical_text c.args.rule.now) c.args.generation ++ comment_lines c.args.comments ++ l) nodes.lines in
    let since = c.in_ok-write_nodes.ensures.failure.unfailed ∙ c.in_ok-begin.ensures.failure.unfailed in
    IfErr-weaker c.write_all.result _ _
    (λ refusal told. inr (
      subst (λ n. IsWriteRefusal n (g.V.Sink.failure_count c.write_all.new.sink) refusal) since told.0,
      record {
        level = nodes.level;
        smallest = nodes.smallest;
        beginning = beginning_as whole (block_broken_off c.new-block.ensures (buffered_more begun lines) told.1);
      },
    ))
    (both_err _ _ c.write_all.result c.write_all.ensures.failure.refused (rw c.as_slice-2.ensures.value at c.write_all.ensures.beginning))
