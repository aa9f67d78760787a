use Rattle.std.proofs.Common.{◌-◌, ◌^◌, ◌≤◌, arith}
use Rattle.squares.proofs.RunLevels.{smallest_from}
use Rattle.squares.proofs.runs.smallest_level.Goals as goal

pub returns-clause-fits : goal.returns-clause-fits
returns-clause-fits c = (c.reach_of_all.ensures.fit (2 ^ (c.level_around.result - 1))).1 c.level_around.ensures.far

pub returns-clause-smallest : goal.returns-clause-smallest
returns-clause-smallest c =
    let level = c.level_around.result in
    let fits = (c.reach_of_all.ensures.fit (2 ^ (level - 1))).1 c.level_around.ensures.far in
    smallest_from level c.args.runs.now c.level_around.ensures.low c.requires fits
    (λ k low less all. let least : level ≤ k = c.level_around.ensures.smallest k low ((c.reach_of_all.ensures.fit (2 ^ (k - 1))).0 all) in absurd (omega arith))
