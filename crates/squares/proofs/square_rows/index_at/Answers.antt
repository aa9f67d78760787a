use Rattle.std.proofs.Common.{◌<◌, sym, subst, arith}
use Rattle.std.specs.Prelude.{IfSome}
use Rattle.std.proofs.lemmas.Option.{slice_get-get_or}
use Rattle.squares.specs.declared.square_rows.Segment.{Segment}
use Rattle.squares.proofs.RowPairs.{ends_one_more, within_row}
use Rattle.squares.proofs.square_rows.index_at.Goals as goal

pub bounds-row-at : goal.bounds-row-at
bounds-row-at c = within_row c.args.row.now c.loop-at.at c.args.column c.loop-at.invariant.within c.requires.columns c.loop-at.invariant.passed

pub loop-at-smaller : goal.loop-at-smaller
loop-at-smaller c =
    let h = within_row c.args.row.now c.loop-at.at c.args.column c.loop-at.invariant.within c.requires.columns c.loop-at.invariant.passed in omega (arith, h)

pub loop-at-preserved : goal.loop-at-preserved
loop-at-preserved c =
    let h = within_row c.args.row.now c.loop-at.at c.args.column c.loop-at.invariant.within c.requires.columns c.loop-at.invariant.passed in record {
      within = omega (arith, h);
      passed = ends_one_more c.args.row.now c.loop-at.at c.args.column _ c.loop-at.invariant.passed h c.loop-at-test.true;
    }

pub returns-clause-behind : goal.returns-clause-behind
returns-clause-behind c =
    let h = within_row c.args.row.now c.loop-at.at c.args.column c.loop-at.invariant.within c.requires.columns c.loop-at.invariant.passed in
    subst (λ found. IfSome found (λ (s : Segment). c.args.column < s.end)) (sym (slice_get-get_or c.args.row.now c.loop-at.at _ h)) c.loop-at-test.false
