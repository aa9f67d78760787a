use Rattle.std.proofs.Common.{false, length, arith}
use Rattle.rle_reader.proofs.BodyLemmas.{stripped_from-end}
use Rattle.rle_reader.proofs.body.Body.close.Goals as goal

pub returns-clause-closed : goal.returns-clause-closed
returns-clause-closed c =
    stripped_from-end c.args.self.now.source.now (length c.args.self.now.source.now) false (omega arith)
