use Rattle.std.proofs.Common.{rules, w64, SFits}
use Rattle.std.proofs.lemmas.Int.{to_z-of_z}
use Rattle.viewport.proofs.RowsOfHalves.{last_covers}
use Rattle.viewport.proofs.RowsOfSquares.{is_most}
use Rattle.viewport.proofs.runs.is_covered.Goals as goal

pub returns-then-last-left : goal.returns-then-last-left
returns-then-last-left c =
    let left : SFits w64 c.args.left = c.ranges.left in
    let end : SFits w64 c.args.end = c.ranges.end in
    let first : SFits w64 c.in-Some.last.now.0 = search rules in
    let item = c.in-Some.ensures.item in
    λ yes. last_covers c.args.runs.now c.in-Some.last.now c.args.left c.args.end item.3.0 item.1 (is_most _ _ (simp to_z-of_z at c.if-last-left.true)) (simp to_z-of_z at (c.ends_at.ensures.0 yes))
