use Rattle.std.proofs.Common.{◌≡◌, length, arith, rules}
use Rattle.squares.specs.Book.{numbered}
use Rattle.squares.proofs.Kept.{adds_trans, keeps_none, keeps_trans}
use Rattle.hashlife_step.proofs.RowsRead.{row_known, rows_read}
use Rattle.hashlife_step.proofs.centres.read_nine.Goals as goal

pub read_row-requires-clause-known : goal.read_row-requires-clause-known
read_row-requires-clause-known g c =
    let nine : length c.args.nine ≡ 9 = search rules in
    row_known (keeps_none _) (c.requires.known 0 (numbered 0 0) (omega arith)) (c.requires.known 1 (numbered 0 0) (omega arith)) (c.requires.known 2 (numbered 0 0) (omega arith))

pub read_row-requires-2-clause-known : goal.read_row-requires-2-clause-known
read_row-requires-2-clause-known g c =
    let nine : length c.args.nine ≡ 9 = search rules in
    row_known c.read_row.ensures.adds.keeps (c.requires.known 3 (numbered 0 0) (omega arith)) (c.requires.known 4 (numbered 0 0) (omega arith)) (c.requires.known 5 (numbered 0 0) (omega arith))

pub read_row-requires-3-clause-known : goal.read_row-requires-3-clause-known
read_row-requires-3-clause-known g c =
    let nine : length c.args.nine ≡ 9 = search rules in
    row_known (keeps_trans c.read_row.ensures.adds.keeps c.read_row-2.ensures.adds.keeps) (c.requires.known 6 (numbered 0 0) (omega arith)) (c.requires.known 7 (numbered 0 0) (omega arith)) (c.requires.known 8 (numbered 0 0) (omega arith))

pub returns-clause-value : goal.returns-clause-value
returns-clause-value g c =
    let nine : length c.args.nine ≡ 9 = search rules in
    rows_read nine c.requires.known c.read_row.ensures.adds.keeps c.read_row-2.ensures.adds.keeps c.read_row-3.ensures.adds.keeps c.read_row.ensures.value c.read_row-2.ensures.value c.read_row-3.ensures.value

pub returns-clause-adds : goal.returns-clause-adds
returns-clause-adds g c = adds_trans c.read_row.ensures.adds (adds_trans c.read_row-2.ensures.adds c.read_row-3.ensures.adds)
