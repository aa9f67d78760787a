use Rattle.std.proofs.Common.{◌≡◌, ◌∙◌, Err, codes}
use Rattle.std.proofs.result.Match.{err_is}
use Rattle.program_parts.specs.declared.reason.WordsReason.TheVariants.{Refused}
use Rattle.program_parts.proofs.AskedRuns.{asked_run, fit_limits, refused_by_rule, unfit_number}
use Rattle.program_parts.proofs.AskedWords.{text_by}
use Rattle.period_program.specs.CommandLine.{command_form, command_line}
use Rattle.period_program.proofs.AskedCandidates.{asked_as, unfit_candidates}
use Rattle.period_program.proofs.asking.search_by.Goals as goal

pub returns-in_err-run-clause-faults : goal.returns-in_err-run-clause-faults
returns-in_err-run-clause-faults c = λ words are file.
    let is : c.from_residual.result ≡ Err c.in_err-run.field-0.0 = err_is _ _ c.from_residual.ensures.1 in
    rw is (unfit_number command_line words (λ text fit. fit) _ are.0 (c.in_err-run.ensures.err command_form words are))

pub returns-in_err-candidates-clause-faults : goal.returns-in_err-candidates-clause-faults
returns-in_err-candidates-clause-faults c = λ words are file.
    let text = text_by command_form words c.args.matches.now are in
    let is : c.from_residual-in_err-candidates.result ≡ Err c.in_err-candidates.field-0.0 = err_is _ _ c.from_residual-in_err-candidates.ensures.1 in
    rw is (unfit_candidates words _ _ (c.get_str.ensures ∙ text (codes "most")) (c.get_str-2.ensures ∙ text (codes "multiple")) _ are.0 c.in_err-candidates.ensures.err)

pub returns-in_err-rule-clause-faults : goal.returns-in_err-rule-clause-faults
returns-in_err-rule-clause-faults c = λ words are file.
    let text = text_by command_form words c.args.matches.now are in
    let is : c.from_residual-in_err-rule.result ≡ Err (Refused c.in_err-rule.field-0.0) = err_is _ _ c.from_residual-in_err-rule.ensures.1 in
    rw is (refused_by_rule command_line words c.args.matches.now are _ c.get_str-3.ensures c.in_err-rule.field-0.0 c.in_err-rule.ensures.err (record {
      limits = fit_limits command_form words c.in_ok-run.run' (c.in_ok-run.ensures.ok command_form words are);
      generation = (c.in_ok-run.run'.gens, (c.in_ok-run.ensures.ok command_form words are).gens);
      file = file;
      output = tt;
      window = tt;
      options = (c.in_ok-candidates.candidates, asked_as words _ _ (c.get_str.ensures ∙ text (codes "most")) (c.get_str-2.ensures ∙ text (codes "multiple")) c.in_ok-candidates.candidates c.in_ok-candidates.ensures.ok);
    }))

pub returns-clause-asks : goal.returns-clause-asks
returns-clause-asks c = λ words are asked file.
    let text = text_by command_form words c.args.matches.now are in
    record {
      form = are.0;
      run = asked_run command_line words c.args.matches.now are _ c.get_str-3.ensures c.in_ok-run.run' c.in_ok-rule.rule (c.in_ok-run.ensures.ok command_form words are) c.in_ok-rule.ensures.ok;
      candidates = asked_as words _ _ (c.get_str.ensures ∙ text (codes "most")) (c.get_str-2.ensures ∙ text (codes "multiple")) c.in_ok-candidates.candidates c.in_ok-candidates.ensures.ok;
      file = file;
    }
