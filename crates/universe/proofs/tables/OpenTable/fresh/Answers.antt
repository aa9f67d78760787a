use Rattle.std.proofs.Common.{◌^◌}
use Rattle.universe.specs.Tables.{IsFreshTable, IsOpened}
use Rattle.universe.proofs.Filling.{fresh_table}
use Rattle.universe.proofs.Halves.{ok_then}
use Rattle.universe.proofs.tables.OpenTable.fresh.Goals as goal

pub returns : goal.returns
returns c =
    let still = c.in-Ok.still in
    let rule = c.args.rule.now in
    let exponent = c.args.exponent in
    ok_then (IsOpened still rule exponent) (IsFreshTable rule exponent (2 ^ c.args.shape.bits)) c.of_words.result
    (λ opened is. fresh_table still rule exponent c.slot_count.result (2 ^ c.args.shape.bits) c.slot_count.ensures c.in-Ok.ensures.ok is) c.of_words.ensures
