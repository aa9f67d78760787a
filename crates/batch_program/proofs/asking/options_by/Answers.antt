use Rattle.std.proofs.Common.{◌≡◌, ◌∙◌, Err, codes, subst, sym}
use Rattle.std.proofs.result.Match.{err_is}
use Rattle.plane.specs.Window.{IsWindow}
use Rattle.batch_program.specs.CommandLine.{IsFlag, IsFormat, command_form, command_line}
use Rattle.program_parts.specs.Values.{IsNumber}
use Rattle.program_parts.specs.WindowText.{IsAskedWindow, IsFitWindow}
use Rattle.program_parts.specs.declared.reason.WordsReason.TheVariants.{Refused}
use Rattle.program_parts.proofs.AskedRuns.{asked_run, fit_limits, refused_by_rule, refused_by_window, unfit_number}
use Rattle.program_parts.proofs.AskedWords.{text_by, value_by}
use Rattle.program_parts.proofs.WindowTexts.{asked_window, fit_window, refused_window}
use Rattle.batch_program.proofs.asking.options_by.Goals as goal

pub returns-in_err-run-clause-faults : goal.returns-in_err-run-clause-faults
returns-in_err-run-clause-faults c = λ words are file.
    let is : c.from_residual.result ≡ Err c.in_err-run.field-0.0 = err_is _ _ c.from_residual.ensures.1 in
    rw is (unfit_number command_line words (λ text fit. fit) _ are.0 (c.in_err-run.ensures.err command_form words are))

pub returns-in_err-step-clause-faults : goal.returns-in_err-step-clause-faults
returns-in_err-step-clause-faults c = λ words are file.
    let value = value_by command_form words c.args.matches.now are in
    let is : c.from_residual-in_err-step.result ≡ Err c.in_err-step.field-0.0 = err_is _ _ c.from_residual-in_err-step.ensures.1 in
    rw (is, c.in_err-step.ensures.err.0) (are.0, λ fit. c.in_err-step.ensures.err.1 fit.options.0 (subst (λ given. IsNumber given fit.options.0) (sym (value (codes "stepsize"))) fit.options.1))

pub returns-in_err-format-clause-faults : goal.returns-in_err-format-clause-faults
returns-in_err-format-clause-faults c = λ words are file.
    let text = text_by command_form words c.args.matches.now are in
    let is : c.from_residual-in_err-format.result ≡ Err c.in_err-format.field-0.0 = err_is _ _ c.from_residual-in_err-format.ensures.1 in
    rw (is, c.in_err-format.ensures.err.1) (are.0, λ output. c.in_err-format.ensures.err.2 output.0 (subst (λ name. IsFormat name output.0) (sym (c.get_str.ensures ∙ text (codes "output"))) output.1))

pub returns-in_err-numbers-clause-faults : goal.returns-in_err-numbers-clause-faults
returns-in_err-numbers-clause-faults c = λ words are file.
    let text = text_by command_form words c.args.matches.now are in
    let is : c.from_residual-in_err-numbers.result ≡ Err c.in_err-numbers.field-0.0 = err_is _ _ c.from_residual-in_err-numbers.ensures.1 in
    rw (is, c.in_err-numbers.ensures.err.0) (are.0, λ fit. c.in_err-numbers.ensures.err.1 (subst (IsFitWindow 32) (sym (c.get_str-2.ensures ∙ text (codes "window"))) fit))

pub returns-in_err-rule-clause-faults : goal.returns-in_err-rule-clause-faults
returns-in_err-rule-clause-faults c = λ words are file.
    let text = text_by command_form words c.args.matches.now are in
    let value = value_by command_form words c.args.matches.now are in
    let is : c.from_residual-in_err-rule.result ≡ Err (Refused c.in_err-rule.field-0.0) = err_is _ _ c.from_residual-in_err-rule.ensures.1 in
    rw is (refused_by_rule command_line words c.args.matches.now are _ c.get_str-3.ensures c.in_err-rule.field-0.0 c.in_err-rule.ensures.err (record {
      limits = fit_limits command_form words c.in_ok-run.run' (c.in_ok-run.ensures.ok command_form words are);
      generation = (c.in_ok-run.run'.gens, (c.in_ok-run.ensures.ok command_form words are).gens);
      file = file;
      output = (c.in_ok-format.format, subst (λ name. IsFormat name c.in_ok-format.format) (c.get_str.ensures ∙ text (codes "output")) c.in_ok-format.ensures.ok);
      window = subst (IsFitWindow 32) (c.get_str-2.ensures ∙ text (codes "window")) (fit_window 32 _ c.in_ok-numbers.numbers c.in_ok-numbers.ensures.ok);
      options = (c.in_ok-step.step, subst (λ given. IsNumber given c.in_ok-step.step) (value (codes "stepsize")) c.in_ok-step.ensures.ok);
    }))

pub returns-in_err-window-clause-faults : goal.returns-in_err-window-clause-faults
returns-in_err-window-clause-faults c = λ words are file.
    let text = text_by command_form words c.args.matches.now are in
    let value = value_by command_form words c.args.matches.now are in
    let is : c.from_residual-in_err-window.result ≡ Err (Refused c.in_err-window.field-0.0) = err_is _ _ c.from_residual-in_err-window.ensures.1 in
    let refused = refused_window 32 IsWindow _ c.in_ok-numbers.numbers c.in_ok-numbers.ensures.ok c.in_err-window.ensures.err.1 in
    rw is (refused_by_window command_line words c.args.matches.now are _ c.get_str-3.ensures c.in_ok-rule.rule _ c.in_err-window.field-0.0 c.in_ok-rule.ensures.ok c.get_str-2.ensures refused c.in_err-window.ensures.err.0 (record {
      limits = fit_limits command_form words c.in_ok-run.run' (c.in_ok-run.ensures.ok command_form words are);
      generation = (c.in_ok-run.run'.gens, (c.in_ok-run.ensures.ok command_form words are).gens);
      file = file;
      output = (c.in_ok-format.format, subst (λ name. IsFormat name c.in_ok-format.format) (c.get_str.ensures ∙ text (codes "output")) c.in_ok-format.ensures.ok);
      window = subst (IsFitWindow 32) (c.get_str-2.ensures ∙ text (codes "window")) (fit_window 32 _ c.in_ok-numbers.numbers c.in_ok-numbers.ensures.ok);
      options = (c.in_ok-step.step, subst (λ given. IsNumber given c.in_ok-step.step) (value (codes "stepsize")) c.in_ok-step.ensures.ok);
    }))

pub returns-clause-asks : goal.returns-clause-asks
returns-clause-asks c = λ words are asked file output.
    let text = text_by command_form words c.args.matches.now are in
    let value = value_by command_form words c.args.matches.now are in
    record {
      form = are.0;
      run = asked_run command_line words c.args.matches.now are _ c.get_str-3.ensures c.in_ok-run.run' c.in_ok-rule.rule (c.in_ok-run.ensures.ok command_form words are) c.in_ok-rule.ensures.ok;
      step = subst (λ given. IsNumber given c.in_ok-step.step) (value (codes "stepsize")) c.in_ok-step.ensures.ok;
      file = file;
      output = output;
      format = subst (λ name. IsFormat name c.in_ok-format.format) (c.get_str.ensures ∙ text (codes "output")) c.in_ok-format.ensures.ok;
      quiet = subst (λ given. IsFlag given c.is_set.result) (value (codes "quiet")) c.is_set.ensures;
      window = subst (λ given. IsAskedWindow IsWindow (λ window. window) 32 given c.in_ok-window.window) (c.get_str-2.ensures ∙ text (codes "window")) (asked_window 32 IsWindow (λ window. window) _ c.in_ok-numbers.numbers _ c.in_ok-numbers.ensures.ok c.in_ok-window.ensures.ok);
    }
