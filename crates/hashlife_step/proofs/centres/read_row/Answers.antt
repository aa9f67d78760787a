use Rattle.std.proofs.Common.{◌≡◌, length, arith, rules}
use Rattle.squares.specs.Book.{numbered}
use Rattle.squares.proofs.Kept.{adds_trans, keeps_none, keeps_trans}
use Rattle.hashlife_step.proofs.RowsRead.{own, row_read}
use Rattle.hashlife_step.proofs.centres.read_row.Goals as goal

pub read_parts-requires-clause-known : goal.read_parts-requires-clause-known
read_parts-requires-clause-known g c =
    let three : length c.args.row ≡ 3 = search rules in
    own (keeps_none _) (c.requires.known 0 (numbered 0 0) (omega arith))

pub read_parts-requires-clause-level : goal.read_parts-requires-clause-level
read_parts-requires-clause-level g c =
    let three : length c.args.row ≡ 3 = search rules in
    let known = c.requires.known 0 (numbered 0 0) (omega arith) in
    let at_level = known.at_level in let low = c.requires.low in omega arith

pub read_parts-requires-2-clause-known : goal.read_parts-requires-2-clause-known
read_parts-requires-2-clause-known g c =
    let three : length c.args.row ≡ 3 = search rules in
    own c.read_parts.ensures.adds.keeps (c.requires.known 1 (numbered 0 0) (omega arith))

pub read_parts-requires-2-clause-level : goal.read_parts-requires-2-clause-level
read_parts-requires-2-clause-level g c =
    let three : length c.args.row ≡ 3 = search rules in
    let known = c.requires.known 1 (numbered 0 0) (omega arith) in
    let at_level = known.at_level in let low = c.requires.low in omega arith

pub read_parts-requires-3-clause-known : goal.read_parts-requires-3-clause-known
read_parts-requires-3-clause-known g c =
    let three : length c.args.row ≡ 3 = search rules in
    own (keeps_trans c.read_parts.ensures.adds.keeps c.read_parts-2.ensures.adds.keeps) (c.requires.known 2 (numbered 0 0) (omega arith))

pub read_parts-requires-3-clause-level : goal.read_parts-requires-3-clause-level
read_parts-requires-3-clause-level g c =
    let three : length c.args.row ≡ 3 = search rules in
    let known = c.requires.known 2 (numbered 0 0) (omega arith) in
    let at_level = known.at_level in let low = c.requires.low in omega arith

pub returns-clause-value : goal.returns-clause-value
returns-clause-value g c =
    let three : length c.args.row ≡ 3 = search rules in
    row_read three c.requires.known c.read_parts.ensures.adds.keeps c.read_parts-2.ensures.adds.keeps c.read_parts-3.ensures.adds.keeps c.read_parts.ensures.value c.read_parts-2.ensures.value c.read_parts-3.ensures.value

pub returns-clause-adds : goal.returns-clause-adds
returns-clause-adds g c = adds_trans c.read_parts.ensures.adds (adds_trans c.read_parts-2.ensures.adds c.read_parts-3.ensures.adds)
