use Rattle.std.proofs.Common.{subst, sym}
use Rattle.program_parts.specs.Asking.{IsFaultOf}
use Rattle.program_parts.specs.Texts.{texts_of}
use Rattle.program_parts.proofs.WordsFaults.{fault_of_reason}
use Rattle.program_parts.proofs.entry.asked.Goals as goal

pub returns-in-Err-clause-faults : goal.returns-in-Err-clause-faults
returns-in-Err-clause-faults g c =
    let words = texts_of c.args.words.now in
    let line = g.A.Application.behaviour.line in
    subst (IsFaultOf line words) (sym c.fault.ensures) (fault_of_reason line words c.in-Err.reason c.in-Err.ensures.faults)
