use Rattle.pipe_program.proofs.CommandWords.{limits_for, reason_for}
use Rattle.pipe_program.specs.CommandLine.{command_form}
use Rattle.pipe_program.proofs.application.LifepipeApplication.asked_by.Goals as goal

pub returns-clause-asks : goal.returns-clause-asks
returns-clause-asks c = λ words are. limits_for words are.0 c.limits_asked.result (c.limits_asked.ensures.ok command_form words are)

pub returns-clause-faults : goal.returns-clause-faults
returns-clause-faults c = λ words are. reason_for words are.0 c.limits_asked.result (c.limits_asked.ensures.err command_form words are)
