use Rattle.std.proofs.Common.{refl}
use Rattle.std.specs.Option.{option_copied}
use Rattle.batch_program.proofs.WindowTexts.{not_narrow}
use Rattle.batch_program.proofs.window_option.narrow_numbers.Goals as goal

pub returns-in-Some-clause-err : goal.returns-in-Some-clause-err
returns-in-Some-clause-err c =
    let are = rw c.in-Some.is at c.in_ok-numbers.ensures.ok in
    (refl, not_narrow (option_copied c.args.text) c.in-Some.numbers are (λ fits. let narrow = c.is_narrow.ensures.1 fits in let wide = c.if-not-is_narrow.true in cc))
