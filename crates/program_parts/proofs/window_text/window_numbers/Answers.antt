use Rattle.std.proofs.Common.{◌≡◌, Some, refl, rules}
use Rattle.std.specs.Option.{option_copied}
use Rattle.program_parts.proofs.window_text.window_numbers.Goals as goal

pub returns-in-None-read-clause-err : goal.returns-in-None-read-clause-err
returns-in-None-read-clause-err c =
    let given : option_copied c.args.text ≡ Some c.in-Some.text.now = search rules in
    rw given (refl, λ fit. c.in-None-read.ensures.none refl fit.0 fit.1)
