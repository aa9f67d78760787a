use Rattle.std.proofs.Common.{◌≡◌, true, arith, rules}
use Rattle.std.specs.Result.{is_ok}
use Rattle.pattern_writers.proofs.mc_text.listing.NodeList.add.Goals as goal

pub returns-clause-number : goal.returns-clause-number
returns-clause-number c =
    let pushed : is_ok c.push.result ≡ true = search rules in
    let count = c.len-number.ensures in
    let longer = rw pushed at c.push.ensures.len in
    let before = c.args.self.now.nodes.ok.0 in omega (arith, count, longer, before)
