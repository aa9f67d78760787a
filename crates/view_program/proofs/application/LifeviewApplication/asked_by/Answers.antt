use Rattle.std.proofs.Common.{◌≡◌, ◌∙◌, Err, Some, codes, sym, subst, ap}
use Rattle.std.proofs.result.Match.{err_is}
use Rattle.program_parts.proofs.AskedWords.{text_by}
use Rattle.view_program.specs.CommandLine.{command_form}
use Rattle.view_program.specs.PictureFormat.{IsFitName, IsFormat}
use Rattle.view_program.proofs.application.LifeviewApplication.asked_by.Goals as goal

pub returns-in_default-clause-faults : goal.returns-in_default-clause-faults
returns-in_default-clause-faults c = λ words are. (are.0, λ fit. let none = c.in_default.ensures ∙ text_by command_form words c.args.matches.now are (codes "file") ∙ fit.file.1 in cc)

pub returns-in_default-get_str-clause-faults : goal.returns-in_default-get_str-clause-faults
returns-in_default-get_str-clause-faults c = λ words are. (are.0, λ fit. let none = c.in_default-get_str.ensures ∙ text_by command_form words c.args.matches.now are (codes "output") ∙ fit.output.1 in cc)

pub returns-in_default-format_by-clause-faults : goal.returns-in_default-format_by-clause-faults
returns-in_default-format_by-clause-faults c = λ words are. (
  are.0,
  λ (name, named, fit).
      let same = c.in-Some-get_str.ensures ∙ text_by command_form words c.args.matches.now are (codes "output") ∙ named in
      let is : name ≡ c.in-Some-get_str.output.now = cc in
      c.in_default-format_by.ensures.none (subst IsFitName is fit),
)

pub returns-in_err-view-clause-faults : goal.returns-in_err-view-clause-faults
returns-in_err-view-clause-faults c = λ words are.
    let text = text_by command_form words c.args.matches.now are in
    let is : c.from_residual.result ≡ Err c.in_err-view.field-0.0 = err_is _ _ c.from_residual.ensures.1 in
    rw is (c.in_err-view.ensures.faults words are (record {
      file = (c.in-Some.file.now, sym (text (codes "file")) ∙ sym c.in-Some.ensures);
      output = (c.in-Some-get_str.output.now, sym (text (codes "output")) ∙ sym c.in-Some-get_str.ensures, (c.in-Some-format_by.format, c.in-Some-format_by.ensures.some));
    }))

pub returns-clause-asks : goal.returns-clause-asks
returns-clause-asks c = λ words are.
    let text = text_by command_form words c.args.matches.now are in
    let format = subst (IsFormat c.in-Some-get_str.output.now) (sym c.in_ok-view.ensures.format) c.in-Some-format_by.ensures.some in
    c.in_ok-view.ensures.asks words are (record { view = c.in_ok-view.view; file = c.in_ok-from_str.field-0; output = c.in_ok-from_str-2.field-0 })
    (sym (text (codes "file")) ∙ sym c.in-Some.ensures ∙ ap Some (sym c.in_ok-from_str.ensures.ok))
    (sym (text (codes "output")) ∙ sym c.in-Some-get_str.ensures ∙ ap Some (sym c.in_ok-from_str-2.ensures.ok))
    (subst (λ name. IsFormat name c.in_ok-view.view.format) (sym c.in_ok-from_str-2.ensures.ok) format)
