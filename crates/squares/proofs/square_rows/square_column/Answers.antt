use Rattle.std.proofs.Common.{◌+◌, ◌*◌, arith, inl, inr, ⊎_elim}
use Rattle.squares.proofs.RowPairs.{end_of, ends_later, left_quarter, right_quarter, which_end}
use Rattle.squares.proofs.square_rows.square_column.Goals as goal

pub returns-clause-quarters : goal.returns-clause-quarters
returns-clause-quarters c = λ other low high.
    let upper = c.args.upper.now in
    let lower = c.args.lower.now in
    let column = c.args.column in
    let nw = c.index_at-nw in
    let ne = c.index_at-ne in
    let sw = c.index_at-sw in
    let se = c.index_at-se in
    let nw_end = end_of upper nw.result (2 * column) _ nw.ensures.within nw.ensures.behind in
    let ne_end = end_of upper ne.result (2 * column + 1) _ ne.ensures.within ne.ensures.behind in
    let sw_end = end_of lower sw.result (2 * column) _ sw.ensures.within sw.ensures.behind in
    let se_end = end_of lower se.result (2 * column + 1) _ se.ensures.within se.ensures.behind in
    let which = which_end _ _ c.min-same.result c.max.result column other c.min-same.ensures c.max.ensures low high in
    let above = ⊎_elim inl (λ both. inr both.0) which in
    let below = ⊎_elim inl (λ both. inr both.1) which in record {
      nw = left_quarter upper nw.result ne.result column _ _ nw.ensures.passed nw.ensures.within nw_end ne.ensures.passed ne.ensures.within ne_end other low above;
      ne = right_quarter upper nw.result ne.result column _ _ nw.ensures.passed nw.ensures.within nw_end ne.ensures.passed ne.ensures.within ne_end other low above;
      sw = left_quarter lower sw.result se.result column _ _ sw.ensures.passed sw.ensures.within sw_end se.ensures.passed se.ensures.within se_end other low below;
      se = right_quarter lower sw.result se.result column _ _ sw.ensures.passed sw.ensures.within sw_end se.ensures.passed se.ensures.within se_end other low below;
    }

pub returns-clause-passed : goal.returns-clause-passed
returns-clause-passed c =
    let column = c.args.column in record {
      upper_has = (let h = c.index_at-ne.ensures.within in omega (arith, h));
      lower_has = (let h = c.index_at-se.ensures.within in omega (arith, h));
      upper_ends = ends_later _ (2 * column + 1) (2 * (column + 1)) (omega arith) c.index_at-ne.ensures.passed;
      lower_ends = ends_later _ (2 * column + 1) (2 * (column + 1)) (omega arith) c.index_at-se.ensures.passed;
    }
