use Rattle.std.proofs.Common.{◌≡◌, ◌∙◌, Err, Some, codes, sym, ap}
use Rattle.std.proofs.result.Match.{err_is}
use Rattle.program_parts.proofs.AskedWords.{text_by}
use Rattle.period_program.specs.CommandLine.{command_form}
use Rattle.period_program.proofs.application.LifeperiodApplication.asked_by.Goals as goal

pub returns-in_default-clause-faults : goal.returns-in_default-clause-faults
returns-in_default-clause-faults c = λ words are. (are.0, λ fit. let none = c.in_default.ensures ∙ text_by command_form words c.args.matches.now are (codes "file") ∙ fit.file.1 in cc)

pub returns-in_err-search-clause-faults : goal.returns-in_err-search-clause-faults
returns-in_err-search-clause-faults c = λ words are.
    let is : c.from_residual.result ≡ Err c.in_err-search.field-0.0 = err_is _ _ c.from_residual.ensures.1 in
    rw is (c.in_err-search.ensures.faults words are (c.in-Some.file.now, sym (text_by command_form words c.args.matches.now are (codes "file")) ∙ sym c.in-Some.ensures))

pub returns-clause-asks : goal.returns-clause-asks
returns-clause-asks c = λ words are.
    let text = text_by command_form words c.args.matches.now are in
    c.in_ok-search.ensures.asks words are (record { search = c.in_ok-search.search; file = c.in_ok-from_str.field-0 })
    (sym (text (codes "file")) ∙ sym c.in-Some.ensures ∙ ap Some (sym c.in_ok-from_str.ensures.ok))
