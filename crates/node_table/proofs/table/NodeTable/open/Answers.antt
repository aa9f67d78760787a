use Rattle.node_table.proofs.Reopening.{opens_from}
use Rattle.node_table.proofs.table.NodeTable.open.Goals as goal

pub returns-in-Ok-of_still-clause-ok : goal.returns-in-Ok-of_still-clause-ok
returns-in-Ok-of_still-clause-ok c =
    opens_from c.args.still c.in-Ok-reopen.reopened c.args.rule c.args.exponent c.in-Ok-of_still.opened.0 c.in-Ok-of_still.opened.1 c.in-Ok-reopen.ensures c.in-Ok-of_still.ensures.ok
