use Rattle.std.proofs.Common.{arith}
use Rattle.std.proofs.lemmas.Result.{IfOk-weaker}
use Rattle.node_table.specs.Desks.{book_at}
use Rattle.node_table.proofs.AtWork.{is_back}
use Rattle.worked_tables.proofs.Known.{job_of}
use Rattle.worked_tables.proofs.tests.rounds.jobs_of_leaves.jobs_at.Goals as goal

pub returns-clause-jobs : goal.returns-clause-jobs
returns-clause-jobs c =
    let back = is_back c.args.table.now c.args.desk c.leave.result _ _ c.at-at.ensures.book c.all_of_leaves-jobs.ensures.keeps c.leave.ensures.desk in
    IfOk-weaker c.all_of_leaves-jobs.result _ _ (λ jobs known k d less. job_of (book_at c.args.table.now c.leave.result) 4 _ (omega arith) (back.known 4 _ (known k d less))) c.all_of_leaves-jobs.ensures.known
