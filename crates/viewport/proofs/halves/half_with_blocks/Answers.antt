use Rattle.viewport.proofs.HalvesOfSquares.{picked_half, quartered_later}
use Rattle.viewport.proofs.halves.half_with_blocks.Goals as goal

pub returns-clause-row : goal.returns-clause-row
returns-clause-row g c =
    let old = g.R.Reading.book c.args.from.now in
    let new = g.R.Reading.book c.quarters_of.new.self in
    let quarters = quartered_later old new c.args.sq c.quarters_of.result (g.met.R.Reading.is_book c.quarters_of.new.self) c.quarters_of.ensures.adds.keeps c.requires.known c.requires.low c.quarters_of.ensures.value in
    picked_half c.args.half _ (old.cells c.args.sq) new.cells c.quarters_of.result c.args.row c.half_of.result c.requires.row quarters c.half_of.ensures.upper c.half_of.ensures.lower
