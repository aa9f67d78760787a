use Rattle.std.proofs.Common.{◌^◌, ◌∙◌, ap, subst, arith}
use Rattle.plane.proofs.Same.{same_trans}
use Rattle.table_core.specs.declared.key.Key.{Key}
use Rattle.universe.specs.Later.{IsAtExponent, ReachesExponent}
use Rattle.universe.specs.Stills.{IsOpenedAt}
use Rattle.universe.specs.declared.attempts.Attempt.{Attempt}
use Rattle.universe.specs.declared.other_tables.OtherTables.{OtherTables}
use Rattle.universe.proofs.Halves.{ok_then}
use Rattle.universe.proofs.universe.Universe.at_exponent.Goals as goal

pub open_at-requires : goal.open_at-requires
open_at-requires g c =
    let fewer = c.in_ok-compacted.ensures.pairs in
    let here = ap (λ (k : Key). 2 ^ k.shape.bits) c.close.ensures.key in
    let all = c.in-Full.start.within in
    omega (arith, fewer, here, all)

pub returns : goal.returns
returns g c =
    let same = subst (λ (a : Attempt). ReachesExponent c.args.exponent c.args.self a) c.in-Full.is c.in_ok-there.ensures in
    ok_then (IsOpenedAt c.in_ok-compacted.compacted c.args.exponent c.in-Full.start.others) (IsAtExponent c.args.exponent c.args.self) c.open_at.result
    (λ universe is. record {
      same = record {
        cells = same_trans is.cells (same_trans c.in_ok-compacted.ensures.cells (same_trans c.close.ensures.cells same.cells));
        rule = ap (λ (k : Key). k.rule) is.opened.opens.key ∙ c.in_ok-compacted.ensures.rule ∙ ap (λ (k : Key). k.rule) c.close.ensures.key ∙ same.rule;
        limit = ap (λ (o : OtherTables). o.limit) is.others ∙ same.limit;
      };
      exponent = ap (λ (k : Key). k.exponent) is.opened.opens.key;
    }) c.open_at.ensures
