use Rattle.std.proofs.Common.{◌≡◌, ℕ, ◌+◌, ◌-◌, List, [], Err, refl, sym, ◌∙◌, subst, arith, inl}
use Rattle.std.proofs.KnownBytes.{Appends-nil}
use Rattle.std.proofs.result.Match.{err_is}
use Rattle.engine.specs.Report.{IsSaid, AreLinesAfter}
use Rattle.engine.specs.Sessions.{IsLaterSession, cells_of}
use Rattle.engine.proofs.Reports.{first_lines, said_next, shown_below, shown_next, shows_next, shows_none, start_shown, stopped}
use Rattle.engine.proofs.Sessions.{empty_from, held_from, lacks, later_on, later_same, none_later, same_session, stuck_if_full}
use Rattle.engine.proofs.reported.run_reported.Goals as goal

pub lines-init : goal.lines-init
lines-init g c = record {
  within = omega arith;
  shown = start_shown c.args.options.now;
  later = none_later (same_session c.args.session.now);
  unfailed = refl;
  said = ([], shows_none c.args.session.now.rule (cells_of c.args.session.now) c.args.session.now.generation, Appends-nil _);
}

pub returns-in_err-population-clause-refused : goal.returns-in_err-population-clause-refused
returns-in_err-population-clause-refused g c =
    let options = c.args.options.now in
    let start = c.args.session.now in
    let plane = cells_of start in
    let here = cells_of c.lines.session in
    let done = c.lines.done in
    let said = c.lines.invariant.said in
    let is : c.from_residual.result ≡ Err c.in_err-population.field-0.0 = err_is _ _ c.from_residual.ensures.1 in
    rw is (stopped g.W.Sink.taken g.W.Sink.failure_count c.args.report.now c.lines.report c.report_generation.new.report start.rule plane start.generation options
    c.in_err-population.field-0.0 (IsSaid options.quiet c.lines.session.generation here) said.0 c.lines.invariant.unfailed
    (first_lines start.rule plane start.generation options done said.0 (omega (arith, c.lines.invariant.within)) said.1) said.2
    (λ line is_said. first_lines start.rule plane start.generation options (done + 1) _ (omega (arith, c.lines.invariant.within))
    (shows_next start.rule plane start.generation options done here said.0 line said.1 c.lines.invariant.later.cells
    (subst (λ (n : ℕ). IsSaid options.quiet n here line) c.lines.invariant.later.generation is_said) c.lines.invariant.shown))
    c.in_err-population.ensures.refused)

pub advance_within-requires-clause-held : goal.advance_within-requires-clause-held
advance_within-requires-clause-held g c κs within =
    held_from {first = c.args.session.now} {second = c.report_generation.new.session} c.args.options.now.gens c.lines.done (c.next_shown-next.result - c.lines.done) c.requires.held
    (later_same c.lines.done c.lines.invariant.later c.in_ok-population.ensures.same)
    (omega (arith, c.next_shown-next.ensures.later, c.next_shown-next.ensures.within))

pub advance_within-requires-clause-short : goal.advance_within-requires-clause-short
advance_within-requires-clause-short g c κs within = λ some.
    let here = later_same c.lines.done c.lines.invariant.later c.in_ok-population.ensures.same in
    let short = c.requires.short (λ none. some (empty_from {first = c.args.session.now} {second = c.report_generation.new.session} c.lines.done here none)) in
    omega (arith, short, c.next_shown-next.ensures.within)

pub advance_within-requires-clause-last : goal.advance_within-requires-clause-last
advance_within-requires-clause-last g c κs within =
    let here = later_same c.lines.done c.lines.invariant.later c.in_ok-population.ensures.same in
    let number = here.generation in
    let last = c.requires.last in
    omega (arith, number, last, c.next_shown-next.ensures.later, c.next_shown-next.ensures.within)

pub returns-in_err-advance_within-clause-refused : goal.returns-in_err-advance_within-clause-refused
returns-in_err-advance_within-clause-refused g c =
    let options = c.args.options.now in
    let start = c.args.session.now in
    let done = c.lines.done in
    let line = c.in_ok-population.ensures.written in
    let said = said_next start.rule (cells_of start) start.generation options done (cells_of c.lines.session) _ _ _ c.lines.invariant.said c.lines.invariant.later.cells c.lines.invariant.shown
    (line.0, subst (λ (n : ℕ). IsSaid options.quiet n (cells_of c.lines.session) line.0) c.lines.invariant.later.generation line.1, line.2) in
    let is : c.from_residual-in_err-advance_within.result ≡ Err c.in_err-advance_within.field-0.0 = err_is _ _ c.from_residual-in_err-advance_within.ensures.1 in
    rw is (inl (
      lacks (c.next_shown-next.result - done) c.in_err-advance_within.field-0.0 c.in_err-advance_within.ensures.refused,
      c.in_ok-population.ensures.unfailed ∙ c.lines.invariant.unfailed,
      (said.0, first_lines start.rule (cells_of start) start.generation options (done + 1) said.0 (omega (arith, c.lines.invariant.within)) said.1, said.2),
    ))

pub returns-in_err-advance_within-clause-full : goal.returns-in_err-advance_within-clause-full
returns-in_err-advance_within-clause-full g c =
    let is : c.from_residual-in_err-advance_within.result ≡ Err c.in_err-advance_within.field-0.0 = err_is _ _ c.from_residual-in_err-advance_within.ensures.1 in
    rw is (stuck_if_full {first = c.args.session.now} {second = c.report_generation.new.session} {third = c.advance_within.new.self} c.args.options.now.gens c.lines.done (c.next_shown-next.result - c.lines.done)
    c.in_err-advance_within.field-0.0 (later_same c.lines.done c.lines.invariant.later c.in_ok-population.ensures.same)
    (omega (arith, c.next_shown-next.ensures.later, c.next_shown-next.ensures.within)) c.in_err-advance_within.ensures.refused)

pub lines-preserved : goal.lines-preserved
lines-preserved g c =
    let options = c.args.options.now in
    let start = c.args.session.now in
    let done = c.lines.done in
    let next = c.next_shown-next.result in
    let line = c.in_ok-population.ensures.written in
    let said = said_next start.rule (cells_of start) start.generation options done (cells_of c.lines.session) _ _ _ c.lines.invariant.said c.lines.invariant.later.cells c.lines.invariant.shown
    (line.0, subst (λ (n : ℕ). IsSaid options.quiet n (cells_of c.lines.session) line.0) c.lines.invariant.later.generation line.1, line.2) in
    let sum : done + (next - done) ≡ next = omega (arith, c.next_shown-next.ensures.later) in
    record {
      within = c.next_shown-next.ensures.within;
      shown = c.next_shown-next.ensures.shown;
      later = subst (λ (n : ℕ). IsLaterSession start n c.advance_within.new.self) sum (later_on {first = start} {second = c.report_generation.new.session} {third = c.advance_within.new.self} done (next - done)
          (later_same done c.lines.invariant.later c.in_ok-population.ensures.same) c.in_ok-advance_within.ensures.ok);
      unfailed = c.in_ok-population.ensures.unfailed ∙ c.lines.invariant.unfailed;
      said = (
        said.0,
        subst (λ (ns : List ℕ). AreLinesAfter start.rule (cells_of start) start.generation ns said.0) (sym (shown_next options done next c.next_shown-next.ensures.later c.next_shown-next.ensures.between)) said.1,
        said.2,
      );
    }

pub returns-then-done-options-clause-later : goal.returns-then-done-options-clause-later
returns-then-done-options-clause-later g c =
    subst (λ (n : ℕ). IsLaterSession c.args.session.now n c.report_generation.new.session) c.if-done-options.true (later_same c.lines.done c.lines.invariant.later c.in_ok-population.ensures.same)

pub returns-then-done-options-clause-reported : goal.returns-then-done-options-clause-reported
returns-then-done-options-clause-reported g c =
    let options = c.args.options.now in
    let start = c.args.session.now in
    let line = c.in_ok-population.ensures.written in
    let said = said_next start.rule (cells_of start) start.generation options c.lines.done (cells_of c.lines.session) _ _ _ c.lines.invariant.said c.lines.invariant.later.cells c.lines.invariant.shown
    (line.0, subst (λ (n : ℕ). IsSaid options.quiet n (cells_of c.lines.session) line.0) c.lines.invariant.later.generation line.1, line.2) in (
      said.0,
      subst (λ (n : ℕ). AreLinesAfter start.rule (cells_of start) start.generation (shown_below options (n + 1)) said.0) c.if-done-options.true said.1,
      said.2,
    )

pub returns-then-done-options-clause-unfailed : goal.returns-then-done-options-clause-unfailed
returns-then-done-options-clause-unfailed g c = c.in_ok-population.ensures.unfailed ∙ c.lines.invariant.unfailed
