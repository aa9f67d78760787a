use Rattle.std.proofs.Common.{◌+◌, sym, subst}
use Rattle.squares.specs.Book.{Shows, joined_squares}
use Rattle.node_table.specs.DesksAtWork.{book_here}
use Rattle.node_table.specs.Halves.{squares_of}
use Rattle.node_table.proofs.TwoHalves.{whole_parts, whole_shown}
use Rattle.node_table.proofs.at.At.whole.Goals as goal

pub pair-requires : goal.pair-requires
pair-requires c = whole_parts c.requires

pub returns-clause-ok : goal.returns-clause-ok
returns-clause-ok c =
    let level = c.args.upper.left.level in
    subst (Shows (book_here c.pair.new.self) (level + 1) (joined_squares (book_here c.args.self.now) level (squares_of c.args.upper c.args.lower))) (sym c.square.ensures)
    (whole_shown c.requires c.pair.new.self c.in_ok-number.ensures.ok)
