use Rattle.std.proofs.Common.{◌<◌, length, refl, rules}
use Rattle.std.proofs.lemmas.Option.{slice_get_read}
use Rattle.universe.proofs.other_tables.OtherTables.take_out.Goals as goal

pub returns-clause-taken : goal.returns-clause-taken
returns-clause-taken c =
    let before = c.args.self.now.tables.items in
    let below : c.in_ok-place.place < length before = search rules in
    record { place = c.in_ok-place.place; there = slice_get_read before _ _ _ refl below c.remove.ensures.value; rest = c.remove.ensures.items }
