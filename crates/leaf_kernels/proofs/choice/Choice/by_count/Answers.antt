use Rattle.std.proofs.Common.{cond, ◌∙◌}
use Rattle.leaf_kernels.specs.Choices.{between, differ}
use Rattle.leaf_kernels.specs.Rows.{four_rows_plane}
use Rattle.leaf_kernels.proofs.Choices.{answered, below_eight, chosen_by_digits, cond_alike, cond_differ, differ_again}
use Rattle.leaf_kernels.proofs.choice.Choice.by_count.Goals as goal

pub returns : goal.returns
returns c answers is x lane inside few =
    let one = four_rows_plane c.args.count.ones x lane in
    let two = four_rows_plane c.args.count.twos x lane in
    let four = four_rows_plane c.args.count.fours x lane in
    let eight = four_rows_plane c.args.count.eights x lane in
    let by_two = between answers 0 2 in
    let by_four = between answers 0 4 in
    let by_five = between answers 1 5 in
    let by_six = between answers 2 6 in
    let by_seven = between answers 3 7 in
    let first = c.select-first.ensures x lane (answers 0) (answers 1) (answered _ _ _ (is.zero x lane) inside) (answered _ _ _ (is.one x lane) inside) in
    let second = c.select-second.ensures x lane by_two (between answers 1 3) (answered _ _ _ (is.two x lane) inside) (answered _ _ _ (is.three x lane) inside) in
    let third = c.select-third.ensures x lane by_four by_five (answered _ _ _ (is.four x lane) inside) (answered _ _ _ (is.five x lane) inside) in
    let fourth = c.select-fourth.ensures x lane (differ by_four by_six) (differ by_five by_seven) (answered _ _ _ (is.six x lane) inside) (answered _ _ _ (is.seven x lane) inside) in
    let low = c.select-low.ensures x lane (cond one (answers 1) (answers 0)) (cond one (answers 3) (answers 2)) first
    (second ∙ cond_differ one (answers 1) (answers 3) (answers 0) (answers 2)) in
    let high = c.select-high.ensures x lane (cond one by_five by_four) (cond one by_seven by_six) third (fourth ∙ cond_differ one by_five by_seven by_four by_six)
    ∙ cond_alike two _ _ _ _ (cond_differ one (answers 3) (answers 7) (answers 2) (answers 6)) (cond_differ one (answers 1) (answers 5) (answers 0) (answers 4))
    ∙ cond_differ two (cond one (answers 3) (answers 2)) (cond one (answers 7) (answers 6)) (cond one (answers 1) (answers 0)) (cond one (answers 5) (answers 4)) in
    let all = c.select.ensures x lane (cond two (cond one (answers 3) (answers 2)) (cond one (answers 1) (answers 0)))
    (cond two (cond one (answers 7) (answers 6)) (cond one (answers 5) (answers 4))) low high in
    let below = below_eight answers one two four in
    c.select-2.ensures x lane below (differ below (between answers 0 8)) all (answered _ _ _ (is.eight x lane) inside ∙ differ_again below (between answers 0 8))
    ∙ chosen_by_digits answers one two four eight few
