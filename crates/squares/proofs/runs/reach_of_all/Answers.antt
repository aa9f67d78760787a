use Rattle.std.proofs.Common.{◌≡◌, ◌≤◌, ◌↔◌, length, subst, arith}
use Rattle.std.specs.List.{AllWithin}
use Rattle.squares.specs.Spans.{FitsInRoot}
use Rattle.squares.proofs.Places.{all_within, within_more}
use Rattle.squares.proofs.runs.reach_of_all.Goals as goal

pub loop-run-preserved : goal.loop-run-preserved
loop-run-preserved c =
    let turn = c.loop-run.invariant in
    let value = c.max-farthest.ensures in
    record {
      range = omega (arith, turn.range, c.reach.ensures.range, value);
      fit = λ half.
          let more = within_more (FitsInRoot half) c.args.runs.now c.loop-run.run-index _ c.loop-run.farthest c.reach.result half c.loop-run-test.true (turn.fit half) (c.reach.ensures.fits half) in
          ((λ all. let le = more.0 all in omega (arith, le, value)), (λ le. more.1 (omega (arith, le, value))));
    }

pub returns-clause-fit : goal.returns-clause-fit
returns-clause-fit c = λ half.
    let runs = c.args.runs.now in
    let all = all_within (FitsInRoot half) runs in
    let end : c.loop-run.run-index ≡ length runs = omega (arith, c.loop-run-test.false, c.loop-run.auto.run-index-end) in
    let fit = subst (λ n. AllWithin (FitsInRoot half) runs 0 n ↔ (c.loop-run.farthest ≤ half)) end (c.loop-run.invariant.fit half) in
    ((λ each. fit.0 (all.1 each)), (λ le. all.0 (fit.1 le)))
