use Rattle.std.proofs.Common.{refl}
use Rattle.leaf_kernels.specs.Rows.{sixteen_plane}
use Rattle.squares.proofs.Kept.{adds_trans}
use Rattle.hashlife_step.proofs.LeafSquares.{quarters_shown}
use Rattle.hashlife_step.proofs.leaf_squares.read_quarters.Goals as goal

pub returns-clause-value : goal.returns-clause-value
returns-clause-value g c =
    let book = g.S.Squares.book in
    quarters_shown 6 c.args.sq.level ((book c.args.book.now).cells c.args.sq) (book c.read_parts.new.self) (book c.read_sixteen-upper_left.new.book) (book c.read_sixteen-upper_right.new.book) (book c.read_sixteen-lower_left.new.book)
    c.read_parts.result (sixteen_plane c.read_sixteen-upper_left.result) (sixteen_plane c.read_sixteen-upper_right.result) (sixteen_plane c.read_sixteen-lower_left.result) (sixteen_plane c.read_sixteen-lower_right.result)
    refl c.requires.level ((g.met.S.Squares.is_book c.args.book.now).square c.args.sq c.requires.known.known)
    c.read_parts.ensures.value c.read_sixteen-upper_left.ensures.adds.keeps c.read_sixteen-upper_right.ensures.adds.keeps c.read_sixteen-lower_left.ensures.adds.keeps
    c.read_sixteen-upper_left.ensures.value c.read_sixteen-upper_right.ensures.value c.read_sixteen-lower_left.ensures.value c.read_sixteen-lower_right.ensures.value

pub returns-clause-adds : goal.returns-clause-adds
returns-clause-adds g c =
    adds_trans c.read_parts.ensures.adds
    (adds_trans (adds_trans c.read_sixteen-upper_left.ensures.adds c.read_sixteen-upper_right.ensures.adds)
    (adds_trans c.read_sixteen-lower_left.ensures.adds c.read_sixteen-lower_right.ensures.adds))
