use Rattle.std.proofs.Common.{◌-◌, ◌<◌, List, refl, sym, subst, arith}
use Rattle.universe.specs.declared.tables.OpenTable.{OpenTable}
use Rattle.universe.proofs.Evicting.{AreLeft, left_sum, none_gone, one_gone}
use Rattle.universe.proofs.other_tables.OtherTables.make_room.Goals as goal

pub evicting-init : goal.evicting-init
evicting-init c = (none_gone c.args.self.now.tables.items (c.pair_count.result - c.args.pairs), refl)

pub pairs-requires : goal.pairs-requires
pairs-requires c =
    let few = left_sum c.args.self.now.tables.items c.evicting.self.tables.items (c.pair_count.result - c.args.pairs) c.evicting.invariant.0 in
    let all = c.requires.sum in
    omega (arith, few, all)

pub evicting-preserved : goal.evicting-preserved
evicting-preserved c =
    let old = c.args.self.now.tables.items in
    let now = c.evicting.self.tables.items in
    let room = c.pair_count.result - c.args.pairs in
    let full = subst (λ n. room < n) c.pairs.ensures c.evicting-test.true in
    let left = subst (λ (tables : List OpenTable). AreLeft old tables room) (sym c.remove.ensures.items) (one_gone old now room c.evicting.invariant.0 full) in
    (left, c.evicting.invariant.1)
