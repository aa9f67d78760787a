use Rattle.worker_split.proofs.Linking.{stay_on, stay_same}
use Rattle.worker_split.proofs.members.link_all.Goals as goal

pub thieves-init : goal.thieves-init
thieves-init c = stay_same c.args.members.now

pub victims-init : goal.victims-init
victims-init c = stay_same c.thieves.members

pub victims-preserved : goal.victims-preserved
victims-preserved c = stay_on c.victims.invariant c.link.ensures

pub returns-in_err-link : goal.returns-in_err-link
returns-in_err-link c = stay_on c.thieves.invariant (stay_on c.victims.invariant c.link.ensures)

pub thieves-preserved : goal.thieves-preserved
thieves-preserved c = stay_on c.thieves.invariant c.victims.invariant
