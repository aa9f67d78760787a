use Rattle.rle_reader.proofs.CountLemmas.{accepted-listing}
use Rattle.rle_reader.proofs.RangeLemmas.{accepted-items, accepted-live_cells, accepted-cells}
use Rattle.rle_reader.proofs.laws.accepted_in_range.Goals as goal

pub returns-clause-items : goal.returns-clause-items
returns-clause-items c = accepted-items

pub returns-clause-live_cells : goal.returns-clause-live_cells
returns-clause-live_cells c = accepted-live_cells

pub returns-clause-cells : goal.returns-clause-cells
returns-clause-cells c = accepted-cells

pub returns-clause-listing : goal.returns-clause-listing
returns-clause-listing c = accepted-listing
