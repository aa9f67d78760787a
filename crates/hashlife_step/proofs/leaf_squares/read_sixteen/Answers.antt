use Rattle.std.proofs.Common.{refl}
use Rattle.plane.specs.Leaves.{leaves_plane}
use Rattle.hashlife_step.proofs.LeafSquares.{quarters_shown}
use Rattle.squares.proofs.Kept.{adds_trans}
use Rattle.hashlife_step.proofs.leaf_squares.read_sixteen.Goals as goal

pub returns-clause-value : goal.returns-clause-value
returns-clause-value g c =
    let book = g.S.Squares.book in
    quarters_shown 5 c.args.sq.level ((book c.args.book.now).cells c.args.sq) (book c.read_parts.new.self) (book c.read_leaves-nw.new.book) (book c.read_leaves-ne.new.book) (book c.read_leaves-sw.new.book)
    c.read_parts.result (leaves_plane c.read_leaves-nw.result) (leaves_plane c.read_leaves-ne.result) (leaves_plane c.read_leaves-sw.result) (leaves_plane c.read_leaves-se.result)
    refl c.requires.level ((g.met.S.Squares.is_book c.args.book.now).square c.args.sq c.requires.known.known)
    c.read_parts.ensures.value c.read_leaves-nw.ensures.adds.keeps c.read_leaves-ne.ensures.adds.keeps c.read_leaves-sw.ensures.adds.keeps
    c.read_leaves-nw.ensures.value c.read_leaves-ne.ensures.value c.read_leaves-sw.ensures.value c.read_leaves-se.ensures.value

pub returns-clause-adds : goal.returns-clause-adds
returns-clause-adds g c = adds_trans c.read_parts.ensures.adds (adds_trans c.read_leaves-nw.ensures.adds (adds_trans c.read_leaves-ne.ensures.adds (adds_trans c.read_leaves-sw.ensures.adds c.read_leaves-se.ensures.adds)))
