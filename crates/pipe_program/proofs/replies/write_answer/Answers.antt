use Rattle.std.proofs.Common.{List, ℕ, sym, ◌∙◌, ap, subst}
use Rattle.std.proofs.lemmas.Result.{on_err_weaker}
use Rattle.plane.specs.Device.{AppendsBeginning}
use Rattle.pipe_program.specs.Replies.{answer_block, answer_words}
use Rattle.pipe_program.proofs.ReplyBeginnings.{answer_line, at_each_error, block_begun, line_begun}
use Rattle.pipe_program.proofs.replies.write_answer.Goals as goal

pub returns-in_err-write_to-clause-beginning : goal.returns-in_err-write_to-clause-beginning
returns-in_err-write_to-clause-beginning g c =
    let words : List ℕ = answer_words c.args.answer.now in
    let is = answer_line words c.new-line.result c.push.new.self c.push_answer.new.line c.push-2.new.self c.new-line.ensures c.push.ensures.text c.push_answer.ensures.text c.push-2.ensures.text in
    at_each_error c.from_residual.result (line_begun words (answer_block c.args.answer.now) c.push-2.new.self is c.in_err-write_to.ensures.beginning)

pub returns-in-Bytes-clause-beginning : goal.returns-in-Bytes-clause-beginning
returns-in-Bytes-clause-beginning g c =
    let words : List ℕ = answer_words c.args.answer.now in
    let is = answer_line words c.new-line.result c.push.new.self c.push_answer.new.line c.push-2.new.self c.new-line.ensures c.push.ensures.text c.push_answer.ensures.text c.push-2.ensures.text in
    let block = c.as_slice.ensures.value ∙ sym (ap answer_block c.in-Bytes.is) in
    on_err_weaker c.write_all.result
    (λ begun. block_begun words (answer_block c.args.answer.now) c.push-2.new.self is c.in_ok-write_to.ensures.written
    (subst (AppendsBeginning (g.W.Sink.taken c.write_to.new.sink) (g.W.Sink.taken c.write_all.new.sink)) block begun))
    c.write_all.ensures.beginning
