use Rattle.squares.proofs.Kept.{adds_trans}
use Rattle.squares.proofs.NineSquares.{read_all}
use Rattle.squares.proofs.subsquares.read_twice.Goals as goal

pub returns-clause-value : goal.returns-clause-value
returns-clause-value g c =
    let book = g.S.Squares.book in
    read_all c.args.sq.level (book c.read_parts-whole.new.self) (book c.read_parts-nw.new.self) (book c.read_parts-ne.new.self) (book c.read_parts-sw.new.self) (book c.read_parts-se.new.self) ((book c.args.book.now).cells c.args.sq)
    (record { whole = c.read_parts-whole.result; nw = c.read_parts-nw.result; ne = c.read_parts-ne.result; sw = c.read_parts-sw.result; se = c.read_parts-se.result })
    c.read_parts-whole.ensures.value c.read_parts-nw.ensures.adds.keeps c.read_parts-nw.ensures.value c.read_parts-ne.ensures.adds.keeps c.read_parts-ne.ensures.value
    c.read_parts-sw.ensures.adds.keeps c.read_parts-sw.ensures.value c.read_parts-se.ensures.adds.keeps c.read_parts-se.ensures.value

pub returns-clause-adds : goal.returns-clause-adds
returns-clause-adds g c =
    adds_trans c.read_parts-whole.ensures.adds (adds_trans c.read_parts-nw.ensures.adds (adds_trans c.read_parts-ne.ensures.adds (adds_trans c.read_parts-sw.ensures.adds c.read_parts-se.ensures.adds)))
