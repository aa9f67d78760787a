use Rattle.std.proofs.Common.{◌≡◌, ◌∙◌, List, ℕ, Err, refl, subst, inl, inr}
use Rattle.std.proofs.lemmas.Result.{on_ok_weaker}
use Rattle.std.proofs.result.Match.{err_is}
use Rattle.plane.specs.SinkChange.{change_of}
use Rattle.plane.specs.SourceChange.{reading_of}
use Rattle.pipe_lines.specs.Supply.{pending_in}
use Rattle.pipe_requests.specs.Meaning.{IsBad, Means}
use Rattle.pipe_requests.specs.Words.{words}
use Rattle.pipe_requests.specs.declared.bad.Bad.TheVariants as bad
use Rattle.pipe_program.specs.States.{state_of}
use Rattle.pipe_program.proofs.AskedRequests.{can_be_asked}
use Rattle.pipe_program.proofs.StepReplies.{HasReply, bad_turn, cut_line, reply_with_block, step_replied, unread_block, unread_line}
use Rattle.pipe_program.proofs.conversing.answer_next.Goals.{in-Cut, in-Long, in-Whole+in-Ok+in_ok-reply-in-Ok, in-Whole+in-Err}
use Rattle.pipe_program.proofs.conversing.answer_next.Goals as goal

pub returns-in_err-read_line-clause-step : goal.returns-in_err-read_line-clause-step
returns-in_err-read_line-clause-step g c =
    let is : c.from_residual.result ≡ Err c.in_err-read_line.field-0.0 = err_is _ _ c.from_residual.ensures.1 in
    let failed = c.in_err-read_line.ensures.failed in
    rw is (inl (
      failed.0,
      unread_line c.args.pairs (state_of c.args.pattern.now) (state_of c.args.pattern.now)
          (change_of g.W.Sink.taken g.W.Sink.failure_count c.args.out.now c.args.out.now) c.in_err-read_line.ensures.unread failed.1 refl,
    ))

pub answer_with_block-requires-clause-asked : goal.answer_with_block-requires-clause-asked
answer_with_block-requires-clause-asked g c κs within = can_be_asked (words c.as_slice.result.now) c.in-Ok.request c.in-Ok.ensures.ok

pub returns-in_err-reply-in-Ok-clause-step : goal.returns-in_err-reply-in-Ok-clause-step
returns-in_err-reply-in-Ok-clause-step g c =
    let is : c.from_residual-in_err-reply-in-Ok.result ≡ Err c.in_err-reply-in-Ok.field-0.0 =
    err_is _ _ c.from_residual-in_err-reply-in-Ok.ensures.1 in
    let line = rw c.in-Whole.is at c.in_ok-read_line.ensures.line in
    let means = subst (λ (text : List ℕ). Means text c.in-Ok.request) c.as_slice.ensures.value c.in-Ok.ensures.ok in
    let failed = c.in_err-reply-in-Ok.ensures.failed in
    rw is (inl (
      failed.0,
      unread_block c.args.pairs c.answer_with_block.new.source (pending_in c.answer_with_block.new.buffer)
          (state_of c.args.pattern.now) (state_of c.answer_with_block.new.pattern) c.read_line.new.line.items c.in-Ok.request
          (change_of g.W.Sink.taken g.W.Sink.failure_count c.args.out.now c.args.out.now) line.1 line.2 means line.0
          c.in_ok-read_line.ensures.unfailed c.in_err-reply-in-Ok.ensures.unread failed.1 refl,
    ))

pub returns-clause-step : goal.returns-clause-step
returns-clause-step g c =
    let pairs = c.args.pairs in
    let state = state_of c.args.pattern.now in
    let source = reading_of g.S.Source.remaining g.S.Source.given g.S.Source.has_ended g.S.Source.failure_count
    c.args.source.now c.match-branch-2.source in
    let before = pending_in c.args.buffer.now in
    let after = pending_in c.match-branch-2.buffer in
    let then = state_of c.match-branch-2.pattern in
    let read = c.in_ok-read_line.ensures.line in
    let replied : HasReply pairs source before after state then c.match-branch-2.reply =
    elim c.match-branch-2.branch [
      | in-Cut w ↦
          let line = rw w.in-Cut.is at read in
          rw (w.buffer-is, w.pattern-is, w.source-is, w.reply-is) (cut_line pairs state line.0 line.1 line.2 line.3 line.4)
      | in-Long w ↦
          let line = rw w.in-Long.is at read in
          rw (w.buffer-is, w.pattern-is, w.source-is, w.reply-is) (bad_turn pairs state line.0 bad.Long line.1 line.2 (inl (line.3, refl)))
      | in-Whole+in-Ok+in_ok-reply-in-Ok w ↦
          let line = rw w.in-Whole.is at read in
          let means = subst (λ (text : List ℕ). Means text w.in-Ok.request) w.as_slice.ensures.value w.in-Ok.ensures.ok in
          rw (w.buffer-is, w.pattern-is, w.source-is, w.reply-is) (reply_with_block pairs w.answer_with_block.new.source
          (pending_in w.answer_with_block.new.buffer) state (state_of w.answer_with_block.new.pattern) c.read_line.new.line.items w.in-Ok.request
          w.in_ok-reply-in-Ok.reply line.1 line.2 means line.0 w.in_ok-reply-in-Ok.ensures.answered)
      | in-Whole+in-Err w ↦
          let line = rw w.in-Whole.is at read in
          let bad = subst (λ (text : List ℕ). IsBad text w.in-Err.why) w.as_slice.ensures.value w.in-Err.ensures.err in
          rw (w.buffer-is, w.pattern-is, w.source-is, w.reply-is)
          (bad_turn pairs state c.read_line.new.line.items w.in-Err.why line.0 line.1 (inr (line.2, bad)))
    ] in
    let written = c.write_next.ensures in
    step_replied pairs source before after state then (change_of g.W.Sink.taken g.W.Sink.failure_count c.args.out.now c.write_next.new.out)
    c.match-branch-2.reply c.write_next.result replied written.written written.beginning written.failure written.more

pub returns-clause-unfailed : goal.returns-clause-unfailed
returns-clause-unfailed g c =
    let first = c.in_ok-read_line.ensures.unfailed in
    let unfailed : g.S.Source.failure_count c.match-branch-2.source ≡ g.S.Source.failure_count c.args.source.now =
    elim c.match-branch-2.branch [
      | in-Cut w ↦ rw w.source-is first
      | in-Long w ↦ rw w.source-is first
      | in-Whole+in-Ok+in_ok-reply-in-Ok w ↦ rw w.source-is (w.in_ok-reply-in-Ok.ensures.unfailed ∙ first)
      | in-Whole+in-Err w ↦ rw w.source-is first
    ] in
    on_ok_weaker c.write_next.result (λ written. unfailed) c.write_next.ensures.failure.unfailed
