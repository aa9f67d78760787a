use Rattle.std.proofs.Common.{◌≡◌, Err}
use Rattle.std.proofs.result.Match.{err_is}
use Rattle.plane.specs.Fault.{placeless}
use Rattle.pipe_program.specs.Answers.{reply_by}
use Rattle.pipe_program.proofs.AskedPatterns.{tells_moved, tells_multiple, tells_not_advanced, tells_not_moved, tells_period}
use Rattle.pipe_program.proofs.answering.ask.Goals as goal

pub returns-in_err-advance-in-Advance-clause-answers : goal.returns-in_err-advance-in-Advance-clause-answers
returns-in_err-advance-in-Advance-clause-answers g c =
    let refusal = c.in_err-advance-in-Advance.field-0.0 in
    let is : c.from_residual.result ≡ Err (placeless refusal) = err_is _ _ c.from_residual.ensures.1 in
    rw is (tells_not_advanced c.args.pairs c.args.block.now c.args.session.now c.advance.new.self c.args.request.now c.in-Advance.generations refusal c.in-Advance.is c.requires.limit
    c.in_err-advance-in-Advance.ensures.opened c.in_err-advance-in-Advance.ensures.refused)

pub returns-in_err-displacement_of-in-Same-clause-answers : goal.returns-in_err-displacement_of-in-Same-clause-answers
returns-in_err-displacement_of-in-Same-clause-answers g c =
    let fault = c.in_err-displacement_of-in-Same.field-0.0 in
    let is : c.from_residual-in_err-displacement_of-in-Same.result ≡ Err fault = err_is _ _ c.from_residual-in_err-displacement_of-in-Same.ensures.1 in
    rw is (tells_not_moved c.args.pairs c.args.block.now c.args.session.now c.displacement_of.new.session c.args.request.now c.in-Same.length c.in-Same.is c.displacement_of.ensures.same fault
    c.in_err-displacement_of-in-Same.ensures.refused)

pub returns-in_ok-displacement_of-in-Same-clause-answers : goal.returns-in_ok-displacement_of-in-Same-clause-answers
returns-in_ok-displacement_of-in-Same-clause-answers g c =
    tells_moved c.args.pairs c.args.block.now c.args.session.now c.displacement_of.new.session c.args.request.now c.in-Same.length c.in-Same.is c.displacement_of.ensures.same
    c.in_ok-displacement_of-in-Same.field-0 c.in_ok-displacement_of-in-Same.ensures.opened c.in_ok-displacement_of-in-Same.ensures.ok

pub returns-in-Period-clause-answers : goal.returns-in-Period-clause-answers
returns-in-Period-clause-answers g c =
    tells_period c.args.pairs c.args.block.now c.args.session.now c.search.new.session c.args.request.now c.in-Period.most (reply_by c.search.result) c.in-Period.is
    (c.search.ensures.searches c.args.pairs c.requires.limit)

pub returns-in-Period-clause-limit : goal.returns-in-Period-clause-limit
returns-in-Period-clause-limit g c = c.search.ensures.limit c.args.pairs c.requires.limit

pub returns-in-Multiple-clause-answers : goal.returns-in-Multiple-clause-answers
returns-in-Multiple-clause-answers g c =
    tells_multiple c.args.pairs c.args.block.now c.args.session.now c.search-in-Multiple.new.session c.args.request.now c.in-Multiple.whole (reply_by c.search-in-Multiple.result) c.in-Multiple.is
    (c.search-in-Multiple.ensures.searches c.args.pairs c.requires.limit)

pub returns-in-Multiple-clause-limit : goal.returns-in-Multiple-clause-limit
returns-in-Multiple-clause-limit g c = c.search-in-Multiple.ensures.limit c.args.pairs c.requires.limit
