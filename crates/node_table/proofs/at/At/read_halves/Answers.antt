use Rattle.node_table.specs.Books.{known_cells}
use Rattle.node_table.specs.Desks.{work_store}
use Rattle.node_table.specs.Refusals.{known_by}
use Rattle.node_table.proofs.Desks.{coherent_here}
use Rattle.node_table.proofs.Entries.{block_of}
use Rattle.node_table.proofs.TwoBlocks.{some_halves, upper_half, lower_half, pair_grown, quarters_shown, upper_shown, lower_shown}
use Rattle.node_table.proofs.TwoHalves.{halves_read}
use Rattle.node_table.proofs.Working.{learns_trans}
use Rattle.node_table.proofs.at.At.read_halves.Goals as goal

pub read_pair-upper-requires : goal.read_pair-upper-requires
read_pair-upper-requires c = some_halves (known_by c.args.self.now.desk) c.args.sq c.requires.level c.requires.known.known

pub read_pair-nw-requires : goal.read_pair-nw-requires
read_pair-nw-requires c = upper_half c.args.sq c.requires.level c.requires.known.known c.read_pair-upper.ensures.parts

pub read_pair-sw-requires : goal.read_pair-sw-requires
read_pair-sw-requires c = pair_grown c.read_pair-nw.ensures.learns.grows (lower_half c.args.sq c.requires.level c.requires.known.known c.read_pair-upper.ensures.parts)

pub returns-clause-learns : goal.returns-clause-learns
returns-clause-learns c = learns_trans c.read_pair-upper.ensures.learns (learns_trans c.read_pair-nw.ensures.learns c.read_pair-sw.ensures.learns)

pub returns-clause-value : goal.returns-clause-value
returns-clause-value c =
    let new = c.read_pair-sw.new.self in
    let store = work_store new.expansions new.table.now in
    let key = new.table.now.key in
    let known = known_by c.args.self.now.desk in
    let sq = c.args.sq in
    let coherent = coherent_here new in
    let whole = c.read_pair-upper.ensures.parts in let top = c.read_pair-nw.ensures.parts in let bottom = c.read_pair-sw.ensures.parts in
    let grows = c.read_pair-nw.ensures.learns.grows in let more = c.read_pair-sw.ensures.learns.grows in
    let block = block_of known sq c.requires.known.known in
    halves_read c.square.ensures c.square-2.ensures c.square-3.ensures c.square-4.ensures
    (quarters_shown store key sq.level (known_cells known sq) c.requires.level c.requires.known.high coherent whole top bottom grows more block)
    (upper_shown store key sq.level (known_cells known sq) c.requires.level c.requires.known.high coherent whole top bottom grows more block)
    (lower_shown store key sq.level (known_cells known sq) c.requires.level c.requires.known.high coherent whole top bottom grows more block)
