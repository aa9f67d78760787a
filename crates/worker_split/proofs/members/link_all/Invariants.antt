use Rattle.worker_split.specs.Rounds.{StayIdle}
use Rattle.worker_split.proofs.members.link_all.Given as goal

abbrev pub invariant-thieves : goal.invariant-thieves
invariant-thieves l = StayIdle l.initial.members l.members

abbrev pub invariant-victims : goal.invariant-victims
invariant-victims l = StayIdle l.initial.members l.members
