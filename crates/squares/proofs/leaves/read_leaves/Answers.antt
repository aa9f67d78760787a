use Rattle.std.proofs.Common.{◌≡◌, length, rules}
use Rattle.squares.proofs.FourLeaves.{leaves_known, leaves_shown}
use Rattle.squares.proofs.leaves.read_leaves.Goals as goal

pub read_four-requires : goal.read_four-requires
read_four-requires g c =
    let four : length c.read_parts-quarters.result ≡ 4 = search rules in
    record { known = leaves_known (g.S.Squares.book c.read_parts-quarters.new.self) c.args.sq.level _ c.read_parts-quarters.result four c.requires.level c.read_parts-quarters.ensures.value }

pub returns-clause-value : goal.returns-clause-value
returns-clause-value g c =
    let book = g.S.Squares.book in
    leaves_shown (book c.read_parts-quarters.new.self) c.args.sq.level ((book c.args.book.now).cells c.args.sq) _ c.read_parts-quarters.result
    c.requires.level ((g.met.S.Squares.is_book c.args.book.now).square c.args.sq c.requires.known.known) c.read_parts-quarters.ensures.value c.read_four.ensures.value
