use Rattle.std.proofs.Common.{inl, inr, ⊎_elim, arith}
use Rattle.std.proofs.lemmas.Int.{ints}
use Rattle.rle_reader.proofs.reach.reach_of.Goals as goal

pub returns-clause-bottom : goal.returns-clause-bottom
returns-clause-bottom c =
    ⊎_elim (λ below. inl (omega (arith, ints, below, c.farther-2.ensures.high)))
    (λ whole. inr (omega (arith, ints, whole, c.farther-2.ensures.high))) c.row_behind-bottom.ensures.behind
