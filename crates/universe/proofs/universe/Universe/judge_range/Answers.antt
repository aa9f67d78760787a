use Rattle.std.proofs.Common.{rules}
use Rattle.std.specs.Prelude.{Some}
use Rattle.plane.specs.Range.{StaysWithin}
use Rattle.universe.specs.Cells.{live_cells}
use Rattle.universe.proofs.InRange.{held_by_root, keeps_in_box}
use Rattle.universe.proofs.universe.Universe.judge_range.Goals as goal

pub returns-then-is_ok-clause-ok : goal.returns-then-is_ok-clause-ok
returns-then-is_ok-clause-ok c =
    let universe = c.args.self.now in
    let stays : StaysWithin (Some c.square_box.result) c.args.start c.args.generations = search rules in
    keeps_in_box universe.root.level c.args.start c.args.generations (live_cells universe) c.square_box.result (held_by_root universe) c.square_box.ensures stays
