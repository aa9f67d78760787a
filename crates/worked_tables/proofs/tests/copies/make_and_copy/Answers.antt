use Rattle.node_table.proofs.AtWork.{is_back}
use Rattle.worked_tables.proofs.tests.copies.make_and_copy.Goals as goal

pub copied_from-requires-clause-known : goal.copied_from-requires-clause-known
copied_from-requires-clause-known g c κs within =
    let back = is_back c.in_ok-table.table c.in_ok-table.desk c.leave-desk.result _ _ c.at-at.ensures.book c.make-root.ensures.keeps c.leave-desk.ensures.desk in
    back.known c.in_ok-root.field-0.level c.in_ok-root.field-0 c.in_ok-root.ensures.known
