use Rattle.std.proofs.Common.{rules, append_assoc}
use Rattle.program_parts.proofs.messages.fault_line.Goals as goal
use Rattle.program_parts.proofs.messages.fault_line.Goals.{in-Some, in_default}

pub returns : goal.returns
returns c =
    elim c.match-fault.branch [
      | in-Some w ↦ search (rules, append_assoc)
      | in_default w ↦ search (rules, append_assoc)
    ]
