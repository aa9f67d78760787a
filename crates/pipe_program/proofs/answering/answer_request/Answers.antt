use Rattle.std.proofs.Common.{◌≡◌, Err, Some, ap}
use Rattle.std.proofs.result.Match.{err_is}
use Rattle.pipe_program.specs.States.{opened_of, state_of}
use Rattle.pipe_program.specs.declared.answering.Failure.TheVariants as failure
use Rattle.pipe_program.proofs.AskedPatterns.{answers_open, opens_as}
use Rattle.pipe_program.proofs.answering.answer_request.Goals as goal

pub returns-in_err-open_file-in-Open-clause-answers : goal.returns-in_err-open_file-in-Open-clause-answers
returns-in_err-open_file-in-Open-clause-answers g c =
    let fault = c.in_err-open_file-in-Open.field-0.0 in
    let is : c.from_residual.result ≡ Err (failure.Refused fault) = err_is _ _ c.from_residual.ensures.1 in
    rw is (opens_as c.args.pairs (state_of c.args.pattern.now) c.args.request.now c.in-Open.length c.in-Open.rule c.args.block.now (Err (failure.Refused fault)) (state_of c.open_file.new.pattern) c.in-Open.is c.in_err-open_file-in-Open.ensures.opens)

pub returns-in_err-ask-in_default-request : goal.returns-in_err-ask-in_default-request
returns-in_err-ask-in_default-request g c =
    let fault = c.in_err-ask-in_default-request.field-0.0 in
    let is : c.from_residual-in_err-ask-in_default-request.result ≡ Err (failure.Refused fault) = err_is _ _ c.from_residual-in_err-ask-in_default-request.ensures.1 in
    record {
      answers = rw is (answers_open c.args.pairs (state_of c.args.pattern.now) (opened_of c.in-Some.session) c.args.request.now c.args.block.now (Err (failure.Refused fault)) (Some (opened_of c.ask.new.session)) (ap state_of c.in-Some.is) c.in_default.not-Open
          c.in_err-ask-in_default-request.ensures.answers);
      within = c.ask.ensures.limit;
    }
