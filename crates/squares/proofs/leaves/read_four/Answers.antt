use Rattle.std.proofs.Common.{◌≡◌, length, rules}
use Rattle.squares.proofs.FourLeaves.{four_read}
use Rattle.squares.proofs.Kept.{adds_trans}
use Rattle.squares.proofs.leaves.read_four.Goals as goal

pub returns-clause-value : goal.returns-clause-value
returns-clause-value g c =
    let book = g.S.Squares.book in
    let four : length c.args.four ≡ 4 = search rules in
    four_read (book c.args.book.now) (book c.read_bits-upper_left.new.self) (book c.read_bits-upper_right.new.self) (book c.read_bits-lower_left.new.self)
    c.args.four c.read_bits-upper_left.result c.read_bits-upper_right.result c.read_bits-lower_left.result c.read_bits-lower_right.result four c.requires.known
    c.read_bits-upper_left.ensures.adds.keeps c.read_bits-upper_right.ensures.adds.keeps c.read_bits-lower_left.ensures.adds.keeps
    c.read_bits-upper_left.ensures.value c.read_bits-upper_right.ensures.value c.read_bits-lower_left.ensures.value c.read_bits-lower_right.ensures.value

pub returns-clause-adds : goal.returns-clause-adds
returns-clause-adds g c =
    adds_trans c.read_bits-upper_left.ensures.adds
    (adds_trans c.read_bits-upper_right.ensures.adds (adds_trans c.read_bits-lower_left.ensures.adds c.read_bits-lower_right.ensures.adds))
