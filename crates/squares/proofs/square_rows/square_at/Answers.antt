use Rattle.std.proofs.Common.{arith}
use Rattle.squares.proofs.RowPairs.{end_of, found_square}
use Rattle.squares.proofs.square_rows.square_at.Goals as goal

pub returns : goal.returns
returns c = found_square c.args.row.now c.index_at.result c.args.column c.args.column _ c.index_at.ensures.passed c.index_at.ensures.within (omega arith)
    (end_of c.args.row.now c.index_at.result c.args.column _ c.index_at.ensures.within c.index_at.ensures.behind)
