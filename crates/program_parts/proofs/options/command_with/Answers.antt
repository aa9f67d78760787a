use Rattle.std.proofs.Common.{◌≡◌, ◌∙◌, ap, rules}
use Rattle.std.specs.Prelude.{fold}
use Rattle.std.proofs.lemmas.Result.{IfOk-weaker}
use Rattle.clap.specs.Words.{app_of, new_app, with_rule}
use Rattle.program_parts.proofs.AskedWords.{adds_rules}
use Rattle.program_parts.proofs.options.command_with.Goals as goal

pub returns : goal.returns
returns c = λ all have.
    let bare : app_of c.after_help.result ≡ new_app c.args.name.now = search rules in
    IfOk-weaker c.args-2.result _ _ (λ command adds. adds_rules c.args.arguments.items all c.after_help.result command adds have ∙ ap (λ app. fold with_rule app all) bare)
    c.args-2.ensures
