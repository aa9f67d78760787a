use Rattle.node_table.proofs.AtWork.{is_back}
use Rattle.std.proofs.lemmas.Result.{IfOk-weaker}
use Rattle.worked_tables.proofs.tests.rounds.futures.job_at.Goals as goal

pub returns-clause-job : goal.returns-clause-job
returns-clause-job c =
    let back = is_back c.args.table.now c.args.desk c.leave.result _ _ c.at-at.ensures.book c.padded-made.ensures.keeps c.leave.ensures.desk in
    IfOk-weaker c.padded-made.result _ _ (λ sq job. record { known = back.known sq.level sq job.known; above = job.above }) c.padded-made.ensures.known
