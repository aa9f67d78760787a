use Rattle.std.proofs.Common.{◌≡◌, ℕ, ◌≤◌, ◌+◌, ◌-◌, ◌^◌, Err, ◌++◌, ◌∙◌, rules, refl, sym, subst, arith, pow_mono}
use Rattle.std.proofs.KnownBytes.{Appends-trans}
use Rattle.std.proofs.result.Match.{err_is}
use Rattle.plane.specs.Fault.{placeless}
use Rattle.plane.specs.Range.{StaysWithin}
use Rattle.plane.specs.SinkChange.{change_of}
use Rattle.plane.specs.declared.refusal.Refusal.TheVariants.{NoMemory, TooFar}
use Rattle.engine.specs.SummaryLine.{summary_line}
use Rattle.engine.specs.Sessions.{IsNotAdvanced}
use Rattle.engine.proofs.Sessions.{none_later}
use Rattle.example_census.specs.Census.{TakesCensus}
use Rattle.example_census.proofs.CensusLines.{one_more}
use Rattle.example_census.proofs.CensusSessions.{comes_on, no_line, no_memory, not_advanced, not_opened, opened_no_memory, same_come, stops_before, summed_up, too_far}
use Rattle.example_census.proofs.census.census.Goals as goal

pub open-requires : goal.open-requires
open-requires g c = (22, omega arith, omega arith, refl)

pub returns-in_err-session : goal.returns-in_err-session
returns-in_err-session g c =
    let is : c.from_residual.result ≡ Err c.in_err-session.field-0.0 = err_is _ _ c.from_residual.ensures.1 in
    rw is (stops_before c.args.bytes.now 0 c.args.lines _ c.in_err-session.field-0.0 (let some = c.if-lines-eq0.false in omega (arith, some))
    (no_line c.args.bytes.now (change_of g.W.Sink.taken g.W.Sink.failure_count c.args.out.now c.args.out.now) refl) (not_opened c.args.bytes.now _ c.in_err-session.ensures.refused))

pub returns-in_err-bounds : goal.returns-in_err-bounds
returns-in_err-bounds g c =
    let is : c.from_residual-in_err-bounds.result ≡ Err (placeless NoMemory) = search rules in
    rw is (stops_before c.args.bytes.now 0 c.args.lines _ (placeless NoMemory) (let some = c.if-lines-eq0.false in omega (arith, some))
    (no_line c.args.bytes.now (change_of g.W.Sink.taken g.W.Sink.failure_count c.args.out.now c.args.out.now) refl) (opened_no_memory c.in_ok-session.ensures.ok))

pub loop-power-init : goal.loop-power-init
loop-power-init g c = record {
  takes = no_line c.args.bytes.now (change_of g.W.Sink.taken g.W.Sink.failure_count c.args.out.now c.args.out.now) refl;
  come = record { start = c.in_ok-session.session; opened = c.in_ok-session.ensures.ok; later = none_later c.in_ok-bounds.ensures.same; number = c.generation-first.ensures; box = c.in_ok-bounds.ensures.ok };
  within = omega arith;
}

pub returns-in_err-reach : goal.returns-in_err-reach
returns-in_err-reach g c =
    let is : c.from_residual-in_err-reach.result ≡ Err (placeless TooFar) = search rules in
    let power = c.loop-power.power in
    let far = subst (λ (n : ℕ). ¬ StaysWithin c.in_ok-bounds.bounds c.generation-first.result n) c.power_of_two-generations.ensures c.in_err-reach.ensures.too_far.1 in
    rw is (stops_before c.args.bytes.now power c.args.lines _ (placeless TooFar) c.loop-power-test.true c.loop-power.invariant.takes
    (too_far {session = c.loop-power.session} c.loop-power.invariant.come power far))

pub returns-in_err-advance : goal.returns-in_err-advance
returns-in_err-advance g c =
    let is : c.from_residual-in_err-advance.result ≡ Err (placeless c.in_err-advance.field-0.0) = err_is _ _ c.from_residual-in_err-advance.ensures.1 in
    let power = c.loop-power.power in
    let stays = subst (λ (n : ℕ). StaysWithin c.in_ok-bounds.bounds c.generation-first.result n) c.power_of_two-generations.ensures c.in_ok-reach.ensures.ok.0 in
    let refused = subst (λ (n : ℕ). IsNotAdvanced c.loop-power.session (n - c.loop-power.done) c.advance.new.self c.in_err-advance.field-0.0) c.power_of_two-generations.ensures c.in_err-advance.ensures.refused in
    rw is (stops_before c.args.bytes.now power c.args.lines _ _ c.loop-power-test.true c.loop-power.invariant.takes
    (not_advanced {session = c.loop-power.session} c.loop-power.invariant.come {there = c.advance.new.self} power c.in_err-advance.field-0.0 c.loop-power.invariant.within stays refused))

pub returns-in_err-summary : goal.returns-in_err-summary
returns-in_err-summary g c =
    let is : c.from_residual-in_err-summary.result ≡ Err (placeless NoMemory) = search rules in
    let power = c.loop-power.power in
    rw is (stops_before c.args.bytes.now power c.args.lines _ (placeless NoMemory) c.loop-power-test.true c.loop-power.invariant.takes (no_memory {session = c.loop-power.session} c.loop-power.invariant.come power))

pub loop-power-preserved : goal.loop-power-preserved
loop-power-preserved g c =
    let power = c.loop-power.power in
    let was = c.loop-power.invariant.takes.0 in
    let generations = c.power_of_two-generations.ensures in
    let within = subst (λ (n : ℕ). c.loop-power.done ≤ n) (sym generations) c.loop-power.invariant.within in
    let come = comes_on {session = c.loop-power.session} c.loop-power.invariant.come {there = c.advance.new.self} c.power_of_two-generations.result within c.in_ok-advance.ensures.ok in
    let stays = subst (λ (n : ℕ). StaysWithin c.in_ok-bounds.bounds c.generation-first.result n) generations c.in_ok-reach.ensures.ok.0 in
    let more = pow_mono {i = power} {j = power + 1} (omega arith) in
    record {
      takes = (
        (
          was.0 ++ summary_line c.in_ok-summary.field-0,
          one_more c.args.bytes.now power was.0 c.in_ok-summary.field-0 was.1 (summed_up {session = c.advance.new.self} come power c.in_ok-summary.field-0 generations stays c.in_ok-summary.ensures.ok),
          Appends-trans _ _ _ _ _ was.2 c.in_ok-write_summary.ensures.written,
        ),
        c.in_ok-write_summary.ensures.failure.unfailed ∙ c.loop-power.invariant.takes.1,
      );
      come = same_come {session = c.advance.new.self} come {there = c.summary.new.self} c.in_ok-summary.ensures.same;
      within = subst (λ (n : ℕ). n ≤ 2 ^ (power + 1)) (sym generations) more;
    }

pub returns : goal.returns
returns g c =
    let end : c.loop-power.power ≡ c.args.lines = let last = c.loop-power-test.false in let within = c.loop-power.auto.power-end in omega (arith, last, within) in
    record { finished = subst (λ (n : ℕ). TakesCensus c.args.bytes.now n (change_of g.W.Sink.taken g.W.Sink.failure_count c.args.out.now c.loop-power.out)) end c.loop-power.invariant.takes; refused = tt }
