use Rattle.std.proofs.Common.{◌≡◌, ◌-◌, ◌^◌, Err, arith}
use Rattle.std.proofs.result.Match.{err_is}
use Rattle.pipe_lines.specs.Supply.{pending_in}
use Rattle.pipe_program.proofs.DialogueEnds.{ends_at_most, ends_badly, ends_well, no_turns, turn_more}
use Rattle.pipe_program.proofs.conversing.converse.Goals as goal

pub loop-init : goal.loop-init
loop-init g c = record {
  within = tt;
  turns = no_turns c.args.pairs c.args.source.now c.args.out.now (pending_in c.new-buffer.result) c.new-buffer.ensures;
}

pub returns-in_err-answer_next : goal.returns-in_err-answer_next
returns-in_err-answer_next g c =
    let is : c.from_residual.result ≡ Err c.in_err-answer_next.field-0.0 = err_is _ _ c.from_residual.ensures.1 in
    rw is (ends_badly c.args.pairs c.in_err-answer_next.field-0.0 c.loop.invariant.turns c.in_err-answer_next.ensures.step)

pub returns-then-not-branch : goal.returns-then-not-branch
returns-then-not-branch g c =
    let step = rw c.if-not-branch.true at c.in_ok-answer_next.ensures.step in
    ends_well c.args.pairs c.loop.invariant.turns step c.in_ok-answer_next.ensures.unfailed

pub loop-preserved : goal.loop-preserved
loop-preserved g c =
    let step = rw c.if-not-branch.false at c.in_ok-answer_next.ensures.step in
    record {
      within = c.answer_next.ensures.within;
      turns = turn_more c.args.pairs c.loop.invariant.turns step c.in_ok-answer_next.ensures.unfailed;
    }

pub returns : goal.returns
returns g c =
    let last : c.loop.counter ≡ 2 ^ 64 - 1 = omega arith in
    ends_at_most c.args.pairs (rw last at c.loop.invariant.turns)
