use Rattle.std.proofs.Common.{◌≡◌, Some, rules}
use Rattle.std.specs.Option.{option_copied}
use Rattle.program_parts.proofs.numbers.rule_asked.Goals as goal

pub returns-in-Err-clause-err : goal.returns-in-Err-clause-err
returns-in-Err-clause-err c =
    let given : option_copied c.args.text ≡ Some c.as_bytes.result.now = search rules in
    rw given (c.in-Err.fault, c.in-Err.ensures.reads, c.rule_refusal.ensures)
