use Rattle.std.proofs.Common.{◌≡◌, ◌++◌, [], ◌∙◌, ap, refl, sym, append-nil, append_assoc}
use Rattle.std.proofs.lemmas.Result.{on_err_weaker, on_ok_weaker}
use Rattle.rule_text.specs.RuleText.{canonical_text}
use Rattle.plane.proofs.Beginnings.{beginning_as}
use Rattle.pattern_writers.specs.Layout.{body_text}
use Rattle.pattern_writers.specs.Preamble.{header_line, position_line}
use Rattle.pattern_writers.specs.RleText.{comment_lines}
use Rattle.pattern_writers.proofs.BlocksOut.{begun_first, block_broken_off, block_out, broken_off, buffered_more, first_broken_off, on_err, passed_on, told_since}
use Rattle.pattern_writers.proofs.rle_text.write_items.Goals as goal

pub returns-clause-written : goal.returns-clause-written
returns-clause-written g c =
    let frame = c.args.frame in
    let position : c.as_bytes.result.now ≡ position_line frame.corner.x frame.corner.y c.args.generation = c.as_bytes.ensures.bytes ∙ c.position_line-position.ensures in
    let header : c.as_bytes-2.result.now ≡ header_line frame.width frame.height (canonical_text c.args.rule.now) = c.as_bytes-2.ensures.bytes ∙ c.header_line-header.ensures in
    let begun = rw position at c.in_ok-begin.ensures.written in
    let headed = rw header at c.in_ok-put.ensures.written in
    on_ok_weaker c.write_all.result
    (λ wrote. block_out _ c.new-block.ensures (buffered_more (buffered_more begun headed) c.in_ok-write_body.ensures.written) wrote)
    (rw c.as_slice.ensures.value at c.write_all.ensures.written)

pub returns-clause-beginning : goal.returns-clause-beginning
returns-clause-beginning g c =
    let frame = c.args.frame in
    let position : c.as_bytes.result.now ≡ position_line frame.corner.x frame.corner.y c.args.generation = c.as_bytes.ensures.bytes ∙ c.position_line-position.ensures in
    let header : c.as_bytes-2.result.now ≡ header_line frame.width frame.height (canonical_text c.args.rule.now) = c.as_bytes-2.ensures.bytes ∙ c.header_line-header.ensures in
    let begun = rw position at c.in_ok-begin.ensures.written in
    let headed = rw header at c.in_ok-put.ensures.written in
    on_err_weaker c.write_all.result
    (λ last. block_broken_off c.new-block.ensures (buffered_more (buffered_more begun headed) c.in_ok-write_body.ensures.written) last)
    (rw c.as_slice.ensures.value at c.write_all.ensures.beginning)

pub returns-in_err-begin-clause-beginning : goal.returns-in_err-begin-clause-beginning
returns-in_err-begin-clause-beginning g c =
    let frame = c.args.frame in
    let position : c.as_bytes.result.now ≡ position_line frame.corner.x frame.corner.y c.args.generation = c.as_bytes.ensures.bytes ∙ c.position_line-position.ensures in
    let begun = rw position at c.in_err-begin.ensures.beginning in
    let preamble = position_line frame.corner.x frame.corner.y c.args.generation ++ comment_lines c.args.comments in
    let header = header_line frame.width frame.height (canonical_text c.args.rule.now) in
    let body = body_text c.args.items.now in
    on_err c.from_residual.result
    (begun_first c.new-block.ensures (beginning_as (ap (λ l. c.new-block.result.items ++ l) (sym (append_assoc preamble header body))) (first_broken_off _ preamble (header ++ body) begun)))

pub returns-in_err-put-clause-beginning : goal.returns-in_err-put-clause-beginning
returns-in_err-put-clause-beginning g c =
    let frame = c.args.frame in
    let position : c.as_bytes.result.now ≡ position_line frame.corner.x frame.corner.y c.args.generation = c.as_bytes.ensures.bytes ∙ c.position_line-position.ensures in
    let header : c.as_bytes-2.result.now ≡ header_line frame.width frame.height (canonical_text c.args.rule.now) = c.as_bytes-2.ensures.bytes ∙ c.header_line-header.ensures in
    let opened = rw position at c.in_ok-begin.ensures.written in
    let begun = rw header at c.in_err-put.ensures.beginning in
    let preamble = position_line frame.corner.x frame.corner.y c.args.generation ++ comment_lines c.args.comments in
    let body = body_text c.args.items.now in
    on_err c.from_residual-in_err-put.result
    (begun_first c.new-block.ensures (broken_off _ body _ opened begun (append_assoc preamble (header_line frame.width frame.height (canonical_text c.args.rule.now)) body)))

pub returns-in_err-write_body-clause-beginning : goal.returns-in_err-write_body-clause-beginning
returns-in_err-write_body-clause-beginning g c =
    let frame = c.args.frame in
    let position : c.as_bytes.result.now ≡ position_line frame.corner.x frame.corner.y c.args.generation = c.as_bytes.ensures.bytes ∙ c.position_line-position.ensures in
    let header : c.as_bytes-2.result.now ≡ header_line frame.width frame.height (canonical_text c.args.rule.now) = c.as_bytes-2.ensures.bytes ∙ c.header_line-header.ensures in
    let opened = rw position at c.in_ok-begin.ensures.written in
    let headed = rw header at c.in_ok-put.ensures.written in
    let first = position_line frame.corner.x frame.corner.y c.args.generation ++ comment_lines c.args.comments ++ header_line frame.width frame.height (canonical_text c.args.rule.now) in
    on_err c.from_residual-in_err-write_body.result
    (begun_first c.new-block.ensures (broken_off _ [] _ (buffered_more opened headed) c.in_err-write_body.ensures.beginning (ap (λ l. first ++ l) (sym (append-nil _)))))

pub returns-in_err-begin-clause-failure : goal.returns-in_err-begin-clause-failure
returns-in_err-begin-clause-failure g c =
    passed_on _ _ _ c.in_err-begin.field-0.0 _ refl c.from_residual.ensures.0 c.from_residual.ensures.1 c.in_err-begin.ensures.failure

pub returns-in_err-put-clause-failure : goal.returns-in_err-put-clause-failure
returns-in_err-put-clause-failure g c =
    passed_on _ _ _ c.in_err-put.field-0.0 _ c.in_ok-begin.ensures.failure.unfailed c.from_residual-in_err-put.ensures.0 c.from_residual-in_err-put.ensures.1 c.in_err-put.ensures.failure

pub returns-in_err-write_body-clause-failure : goal.returns-in_err-write_body-clause-failure
returns-in_err-write_body-clause-failure g c =
    passed_on _ _ _ c.in_err-write_body.field-0.0 _ (c.in_ok-put.ensures.failure.unfailed ∙ c.in_ok-begin.ensures.failure.unfailed) c.from_residual-in_err-write_body.ensures.0 c.from_residual-in_err-write_body.ensures.1 c.in_err-write_body.ensures.failure

pub returns-clause-failure : goal.returns-clause-failure
returns-clause-failure g c =
    let since = c.in_ok-write_body.ensures.failure.unfailed ∙ c.in_ok-put.ensures.failure.unfailed ∙ c.in_ok-begin.ensures.failure.unfailed in
    told_since _ _ _ c.write_all.result since c.write_all.ensures.failure
