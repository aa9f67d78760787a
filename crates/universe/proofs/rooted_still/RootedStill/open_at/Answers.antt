use Rattle.std.proofs.Common.{◌^◌, ap, refl, subst, arith}
use Rattle.node_table.proofs.AtWork.{centred_same}
use Rattle.table_core.specs.declared.key.Key.{Key}
use Rattle.universe.specs.Cells.{still_of}
use Rattle.universe.specs.Tables.{IsOpened}
use Rattle.universe.proofs.rooted_still.RootedStill.open_at.Goals as goal

pub invariant_of-result : goal.invariant_of-result
invariant_of-result c =
    let opened = c.in_ok-here.ensures in
    let size = ap (λ (k : Key). 2 ^ k.shape.bits) opened.opens.key in
    let room = c.requires in
    record { known = (opened.shows c.args.self.root c.args.self.known).known; level = c.args.self.level; within = omega (arith, size, room) }

pub returns : goal.returns
returns c =
    let root = c.args.self.root in
    let opened = c.in_ok-here.ensures in
    record {
      cells = centred_same root.level _ _ (opened.shows root c.args.self.known).cells;
      opened = subst (λ (k : Key). IsOpened (still_of c.args.self) k.rule c.args.exponent c.in_ok-here.here) c.key.ensures opened;
      others = refl;
    }
