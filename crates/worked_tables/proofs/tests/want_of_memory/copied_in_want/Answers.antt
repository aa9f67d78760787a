use Rattle.std.proofs.Common.{◌≤◌, refl, subst, sym}
use Rattle.node_table.proofs.AtWork.{is_back}
use Rattle.worked_tables.proofs.tests.want_of_memory.copied_in_want.Goals as goal

pub copied_from-requires-clause-known : goal.copied_from-requires-clause-known
copied_from-requires-clause-known g c κs within =
    let back = is_back c.in_ok-table.table c.in_ok-table.desk c.leave-desk.result _ _ c.at-at.ensures.book c.glider-found.ensures.keeps c.leave-desk.ensures.desk in
    let k = back.known 4 c.in_ok-found.field-0 c.in_ok-found.ensures.known in
    record { known = k.known; at_level = refl; low = subst (λ l. 3 ≤ l) (sym k.at_level) k.low; high = subst (λ l. l ≤ 65) (sym k.at_level) k.high }
