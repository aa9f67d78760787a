use Rattle.std.proofs.Common.{◌≡◌, ◌<◌, List, get_or, length, ap, subst, arith, ◌∙◌}
use Rattle.std.proofs.lemmas.List.Sums.{sum_by_more}
use Rattle.universe.specs.Tables.{pairs_in}
use Rattle.universe.specs.declared.tables.OpenTable.{OpenTable}
use Rattle.universe.proofs.other_tables.OtherTables.pairs.Goals as goal

pub loop-table-preserved : goal.loop-table-preserved
loop-table-preserved c =
    let tables = c.args.self.now.tables.items in
    let index = c.loop-table.table-index in
    let same = c.deref-table-items.ensures.value in
    let below = subst (λ (all : List OpenTable). index < length all) same c.loop-table-test.true in
    let table = subst (λ (all : List OpenTable). c.table-item.result ≡ get_or all index c.table-item.result) same c.table-item.is in
    let own = c.pair_count-pairs.ensures ∙ ap pairs_in table in
    let more = sum_by_more pairs_in tables index c.table-item.result below in
    let counted = c.loop-table.invariant in
    omega (arith, own, more, counted)
