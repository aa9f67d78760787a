use Rattle.period_program.specs.CommandLine.{command_rules}
use Rattle.period_program.proofs.application.LifeperiodApplication.command.Goals as goal

pub returns : goal.returns
returns c = c.command_with.ensures command_rules c.in_ok-options.ensures
