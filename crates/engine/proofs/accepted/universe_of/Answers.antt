use Rattle.std.proofs.result.Match.{err_is}
use Rattle.plane.proofs.Same.{same_sym, same_trans}
use Rattle.engine.proofs.Acceptance.{keeps_as, range_not_full, refused_range}
use Rattle.engine.proofs.accepted.universe_of.Goals as goal

pub returns-clause-ok : goal.returns-clause-ok
returns-clause-ok c =
    let same = c.judge_range.ensures.same.cells in
    record {
      same = same_trans same c.in_ok-universe.ensures.ok;
      stays = keeps_as (same_sym same) c.generation.ensures c.in_ok-judge_range.ensures.ok;
    }

pub returns-in_err-judge_range-clause-refused : goal.returns-in_err-judge_range-clause-refused
returns-in_err-judge_range-clause-refused c =
    rw (err_is _ _ c.from_residual-in_err-judge_range.ensures.1)
    (refused_range c.in_err-judge_range.field-0.0 c.in_ok-universe.ensures.ok c.generation.ensures c.in_err-judge_range.ensures.refused)

pub returns-in_err-judge_range-clause-full : goal.returns-in_err-judge_range-clause-full
returns-in_err-judge_range-clause-full c =
    rw (err_is _ _ c.from_residual-in_err-judge_range.ensures.1)
    (λ full. absurd (range_not_full c.in_err-judge_range.field-0.0 c.in_err-judge_range.ensures.refused full))
