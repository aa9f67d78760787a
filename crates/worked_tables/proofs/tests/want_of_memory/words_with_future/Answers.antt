use Rattle.std.proofs.Common.{refl}
use Rattle.node_table.proofs.AtWork.{is_back}
use Rattle.worked_tables.proofs.tests.want_of_memory.words_with_future.Goals as goal

pub close-words-requires : goal.close-words-requires
close-words-requires g c =
    (is_back c.in_ok-table.table c.in_ok-table.desk c.leave-desk.result _ _ c.at-at.ensures.book c.glider_and_future-made.ensures.keeps c.leave-desk.ensures.desk).of_table

pub returns : goal.returns
returns g c =
    let known = c.in_ok-sq.ensures.known in
    let back = is_back c.in_ok-table.table c.in_ok-table.desk c.leave-desk.result _ _ c.at-at.ensures.book c.glider_and_future-made.ensures.keeps c.leave-desk.ensures.desk in
    record {
      known = c.close-words.ensures.says.known c.in_ok-sq.sq (back.known c.in_ok-sq.sq.level c.in_ok-sq.sq known).known;
      at_level = refl;
      low = known.low;
      high = known.high;
    }
