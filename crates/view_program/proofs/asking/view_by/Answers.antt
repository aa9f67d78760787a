use Rattle.std.proofs.Common.{◌≡◌, ◌∙◌, Err, codes, subst, sym}
use Rattle.std.proofs.result.Match.{err_is}
use Rattle.program_parts.specs.WindowText.{IsAskedWindow, IsFitWindow}
use Rattle.program_parts.specs.declared.reason.WordsReason.TheVariants.{Refused}
use Rattle.view_program.specs.CommandLine.{IsSizeNumber, command_form, command_line}
use Rattle.view_program.specs.Shown.{CanBeShown, sides_of}
use Rattle.program_parts.proofs.AskedRuns.{asked_run, fit_limits, refused_by_rule, refused_by_window, unfit_number}
use Rattle.program_parts.proofs.AskedWords.{text_by, value_by}
use Rattle.program_parts.proofs.WindowTexts.{asked_window, fit_window, refused_window}
use Rattle.view_program.proofs.asking.view_by.Goals as goal

pub returns-in_err-run-clause-faults : goal.returns-in_err-run-clause-faults
returns-in_err-run-clause-faults c = λ words are files.
    let is : c.from_residual.result ≡ Err c.in_err-run.field-0.0 = err_is _ _ c.from_residual.ensures.1 in
    rw is (unfit_number command_line words (λ text fit. fit) _ are.0 (c.in_err-run.ensures.err command_form words are))

pub returns-in_err-size-clause-faults : goal.returns-in_err-size-clause-faults
returns-in_err-size-clause-faults c = λ words are files.
    let value = value_by command_form words c.args.matches.now are in
    let is : c.from_residual-in_err-size.result ≡ Err c.in_err-size.field-0.0 = err_is _ _ c.from_residual-in_err-size.ensures.1 in
    rw (is, c.in_err-size.ensures.err.0) (are.0, λ fit. c.in_err-size.ensures.err.1 fit.options.0 (subst (λ given. IsSizeNumber given fit.options.0) (sym (value (codes "size"))) fit.options.1))

pub returns-in_err-numbers-clause-faults : goal.returns-in_err-numbers-clause-faults
returns-in_err-numbers-clause-faults c = λ words are files.
    let text = text_by command_form words c.args.matches.now are in
    let is : c.from_residual-in_err-numbers.result ≡ Err c.in_err-numbers.field-0.0 = err_is _ _ c.from_residual-in_err-numbers.ensures.1 in
    rw (is, c.in_err-numbers.ensures.err.0) (are.0, λ fit. c.in_err-numbers.ensures.err.1 (subst (IsFitWindow 64) (sym (c.get_str.ensures ∙ text (codes "window"))) fit))

pub returns-in_err-rule-clause-faults : goal.returns-in_err-rule-clause-faults
returns-in_err-rule-clause-faults c = λ words are files.
    let text = text_by command_form words c.args.matches.now are in
    let value = value_by command_form words c.args.matches.now are in
    let is : c.from_residual-in_err-rule.result ≡ Err (Refused c.in_err-rule.field-0.0) = err_is _ _ c.from_residual-in_err-rule.ensures.1 in
    rw is (refused_by_rule command_line words c.args.matches.now are _ c.get_str-2.ensures c.in_err-rule.field-0.0 c.in_err-rule.ensures.err (record {
      limits = fit_limits command_form words c.in_ok-run.run' (c.in_ok-run.ensures.ok command_form words are);
      generation = (c.in_ok-run.run'.gens, (c.in_ok-run.ensures.ok command_form words are).gens);
      file = files.file;
      output = files.output;
      window = subst (IsFitWindow 64) (c.get_str.ensures ∙ text (codes "window")) (fit_window 64 _ c.in_ok-numbers.numbers c.in_ok-numbers.ensures.ok);
      options = (c.in_ok-size.size, subst (λ given. IsSizeNumber given c.in_ok-size.size) (value (codes "size")) c.in_ok-size.ensures.ok);
    }))

pub returns-in_err-window-clause-faults : goal.returns-in_err-window-clause-faults
returns-in_err-window-clause-faults c = λ words are files.
    let text = text_by command_form words c.args.matches.now are in
    let value = value_by command_form words c.args.matches.now are in
    let is : c.from_residual-in_err-window.result ≡ Err (Refused c.in_err-window.field-0.0) = err_is _ _ c.from_residual-in_err-window.ensures.1 in
    let refused = refused_window 64 CanBeShown _ c.in_ok-numbers.numbers c.in_ok-numbers.ensures.ok c.in_err-window.ensures.err.1 in
    rw is (refused_by_window command_line words c.args.matches.now are _ c.get_str-2.ensures c.in_ok-rule.rule _ c.in_err-window.field-0.0 c.in_ok-rule.ensures.ok c.get_str.ensures refused c.in_err-window.ensures.err.0 (record {
      limits = fit_limits command_form words c.in_ok-run.run' (c.in_ok-run.ensures.ok command_form words are);
      generation = (c.in_ok-run.run'.gens, (c.in_ok-run.ensures.ok command_form words are).gens);
      file = files.file;
      output = files.output;
      window = subst (IsFitWindow 64) (c.get_str.ensures ∙ text (codes "window")) (fit_window 64 _ c.in_ok-numbers.numbers c.in_ok-numbers.ensures.ok);
      options = (c.in_ok-size.size, subst (λ given. IsSizeNumber given c.in_ok-size.size) (value (codes "size")) c.in_ok-size.ensures.ok);
    }))

pub returns-clause-asks : goal.returns-clause-asks
returns-clause-asks c = λ words are asked file output name.
    let text = text_by command_form words c.args.matches.now are in
    let value = value_by command_form words c.args.matches.now are in
    record {
      form = are.0;
      run = asked_run command_line words c.args.matches.now are _ c.get_str-2.ensures c.in_ok-run.run' c.in_ok-rule.rule (c.in_ok-run.ensures.ok command_form words are) c.in_ok-rule.ensures.ok;
      file = file;
      output = output;
      format = name;
      window = subst (λ given. IsAskedWindow CanBeShown sides_of 64 given c.in_ok-window.window) (c.get_str.ensures ∙ text (codes "window")) (asked_window 64 CanBeShown sides_of _ c.in_ok-numbers.numbers _ c.in_ok-numbers.ensures.ok c.in_ok-window.ensures.ok);
      size = subst (λ given. IsSizeNumber given c.in_ok-size.size) (value (codes "size")) c.in_ok-size.ensures.ok;
    }
