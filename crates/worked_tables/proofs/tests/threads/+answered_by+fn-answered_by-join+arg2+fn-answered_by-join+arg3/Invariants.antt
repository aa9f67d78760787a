use Rattle.std.proofs.Common.{◌+◌, ◌*◌}
use Rattle.worked_tables.proofs.tests.threads.+answered_by+fn-answered_by-join+arg2+fn-answered_by-join+arg3.Given as goal

abbrev pub decreases-answered_by : goal.decreases-answered_by
decreases-answered_by g l = 2 * l.splits

abbrev pub decreases-join+arg2 : goal.decreases-join+arg2
decreases-join+arg2 g l = 2 * l.splits + 1

abbrev pub decreases-join+arg3 : goal.decreases-join+arg3
decreases-join+arg3 g l = 2 * l.splits + 1
