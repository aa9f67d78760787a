use Rattle.std.proofs.Common.{◌≡◌, ℕ, ◌+◌, ◌≤◌, Err, refl, subst, sym, ◌∙◌, ap, arith, inl}
use Rattle.std.proofs.result.Match.{err_is}
use Rattle.plane.specs.Fault.{placeless}
use Rattle.plane.specs.declared.range.TheConstants.{GENERATION_LIMIT}
use Rattle.plane.specs.declared.refusal.Refusal.{Refusal}
use Rattle.plane.specs.declared.refusal.Refusal.TheVariants.{NoMemory}
use Rattle.plane.proofs.Same.{same_sym, same_trans}
use Rattle.engine.specs.Room.{IsStuckWithin}
use Rattle.engine.specs.Sessions.{cells_of}
use Rattle.universe.proofs.StaysWithinRoot.{held, short_run}
use Rattle.engine.proofs.LastPatterns.{ends_with, stops}
use Rattle.engine.proofs.Sessions.{lacks, later_same, none_later, same_session, stuck_if_full, sums_up_as}
use Rattle.engine.proofs.last.last_pattern.Goals as goal

pub advance_within-requires-clause-held : goal.advance_within-requires-clause-held
advance_within-requires-clause-held g c κs within =
    let run = c.in_ok-session.ensures.ok.accepted in
    λ n less. held c.in_ok-session.session.rule run.lawful.no_birth_on_zero run.cells (cells_of c.in_ok-session.session) c.args.run.now.gens n run.listing run.accepted.1.coordinates less

pub advance_within-requires-clause-short : goal.advance_within-requires-clause-short
advance_within-requires-clause-short g c κs within =
    let run = c.in_ok-session.ensures.ok.accepted in
    short_run run.cells (cells_of c.in_ok-session.session) c.args.run.now.gens run.listing run.accepted.1.coordinates

pub advance_within-requires-clause-last : goal.advance_within-requires-clause-last
advance_within-requires-clause-last g c κs within =
    let opened = c.in_ok-session.ensures.ok in
    subst (λ n. n + c.args.run.now.gens ≤ GENERATION_LIMIT) (sym opened.generation) opened.accepted.accepted.1.last_generation

pub returns-in_err-advance_within-clause-refused : goal.returns-in_err-advance_within-clause-refused
returns-in_err-advance_within-clause-refused g c =
    let opened = c.in_ok-session.ensures.ok in
    let start = c.in_ok-session.session in
    let gens = c.args.run.now.gens in
    let is : c.from_residual-in_err-advance_within.result ≡ Err (placeless c.in_err-advance_within.field-0.0) = err_is _ _ c.from_residual-in_err-advance_within.ensures.1 in
    rw is (stops c.args.bytes.now c.args.run.now opened.meaning start.rule (cells_of start) opened.accepted
    c.in_err-advance_within.field-0.0 (lacks gens c.in_err-advance_within.field-0.0 c.in_err-advance_within.ensures.refused)
    (λ full. subst (λ (n : ℕ). IsStuckWithin start.rule (cells_of start) n gens) opened.limit
    (stuck_if_full {first = start} {second = start} {third = c.advance_within.new.self} gens 0 gens c.in_err-advance_within.field-0.0 (none_later (same_session start)) (omega arith) c.in_err-advance_within.ensures.refused full)))

pub returns-in_err-summary-clause-refused : goal.returns-in_err-summary-clause-refused
returns-in_err-summary-clause-refused g c =
    let opened = c.in_ok-session.ensures.ok in
    let start = c.in_ok-session.session in
    let is : c.from_residual-in_err-summary.result ≡ Err (placeless NoMemory) =
    err_is _ _ c.from_residual-in_err-summary.ensures.1 ∙ ap (λ (r : Refusal). Err (placeless r)) c.in_err-summary.ensures.memory in
    rw is (stops c.args.bytes.now c.args.run.now opened.meaning start.rule (cells_of start) opened.accepted NoMemory (inl refl) (λ full. cc))

pub returns-in_err-into_pattern-clause-refused : goal.returns-in_err-into_pattern-clause-refused
returns-in_err-into_pattern-clause-refused g c =
    let opened = c.in_ok-session.ensures.ok in
    let start = c.in_ok-session.session in
    let is : c.from_residual-in_err-into_pattern.result ≡ Err (placeless NoMemory) =
    err_is _ _ c.from_residual-in_err-into_pattern.ensures.1 ∙ ap (λ (r : Refusal). Err (placeless r)) c.in_err-into_pattern.ensures.closed.0 in
    rw is (stops c.args.bytes.now c.args.run.now opened.meaning start.rule (cells_of start) opened.accepted NoMemory (inl refl) (λ full. cc))

pub returns-clause-ok : goal.returns-clause-ok
returns-clause-ok g c =
    let opened = c.in_ok-session.ensures.ok in
    let start = c.in_ok-session.session in
    let gens = c.args.run.now.gens in
    let finished = later_same gens c.in_ok-advance_within.ensures.ok c.in_ok-summary.ensures.same in
    let same = c.in_ok-into_pattern.ensures.ok in
    ends_with c.args.bytes.now c.args.run.now opened.meaning start.rule (cells_of start) opened.accepted _ c.in_ok-summary.summary start.generation opened.generation
    (same_trans same finished.cells) (sums_up_as finished.generation (same_sym same) c.in_ok-summary.ensures.ok)
