use Rattle.std.proofs.Common.{◌≡◌, ℕ, ◌+◌, ◌≤◌, Err, refl, sym, ◌∙◌, ap, subst}
use Rattle.std.proofs.result.Match.{err_is}
use Rattle.plane.specs.Fault.{placeless}
use Rattle.plane.specs.declared.range.TheConstants.{GENERATION_LIMIT}
use Rattle.plane.specs.declared.refusal.Refusal.{Refusal}
use Rattle.plane.specs.declared.refusal.Refusal.TheVariants.{NoMemory}
use Rattle.plane.specs.Device.{AppendsBeginning, HasFailed}
use Rattle.std.specs.Io.KnownBytes.{Appends}
use Rattle.rule_text.specs.CountRule.{CountRule}
use Rattle.plane.proofs.Same.{same_sym, same_trans}
use Rattle.pattern_writers.specs.Output.{IsWriterRefusal}
use Rattle.run_options.specs.declared.options.RunOptions.{RunOptions}
use Rattle.engine.specs.Formats.{Exceeds, HasText, format_of}
use Rattle.engine.proofs.Acceptance.{accepted_as, refused_at_once}
use Rattle.engine.proofs.Endings.{ends_well, refused_counting, refused_drawing, refused_reporting, refused_writing}
use Rattle.universe.proofs.StaysWithinRoot.{held, short_run}
use Rattle.engine.specs.Refused.{IsRefused}
use Rattle.engine.specs.Room.{IsStuckWithin}
use Rattle.engine.specs.Sessions.{cells_of, comments_of}
use Rattle.engine.proofs.Sessions.{later_same, only_failed, subst2, sums_up_as, text_as}
use Rattle.engine.proofs.running.run_gated.Goals as goal

pub returns-in_err-session : goal.returns-in_err-session
returns-in_err-session g c =
    let is : c.from_residual.result ≡ Err c.in_err-session.field-0.0 = err_is _ _ c.from_residual.ensures.1 in
    rw is (refused_at_once _ _ _ _ _ refl refl (subst (λ (run : RunOptions). IsRefused c.args.bytes.now run c.in_err-session.field-0.0) c.run-run.ensures c.in_err-session.ensures.refused))

pub run_reported-requires-clause-held : goal.run_reported-requires-clause-held
run_reported-requires-clause-held g c κs within =
    let opened = accepted_as c.run-run.ensures c.in_ok-session.ensures.ok.accepted in
    λ n less. held c.in_ok-session.session.rule opened.lawful.no_birth_on_zero opened.cells (cells_of c.in_ok-session.session) c.args.options.now.gens n opened.listing opened.accepted.1.coordinates less

pub run_reported-requires-clause-short : goal.run_reported-requires-clause-short
run_reported-requires-clause-short g c κs within =
    let opened = accepted_as c.run-run.ensures c.in_ok-session.ensures.ok.accepted in
    short_run opened.cells (cells_of c.in_ok-session.session) c.args.options.now.gens opened.listing opened.accepted.1.coordinates

pub run_reported-requires-clause-last : goal.run_reported-requires-clause-last
run_reported-requires-clause-last g c κs within =
    let opened = c.in_ok-session.ensures.ok in
    subst (λ n. n + c.args.options.now.gens ≤ GENERATION_LIMIT) (sym opened.generation) (accepted_as c.run-run.ensures opened.accepted).accepted.1.last_generation

pub returns-in_err-counted : goal.returns-in_err-counted
returns-in_err-counted g c =
    let opened = c.in_ok-session.ensures.ok in
    let start = c.in_ok-session.session in
    let is : c.from_residual-in_err-counted.result ≡ Err (placeless c.in_err-counted.field-0.0) = err_is _ _ c.from_residual-in_err-counted.ensures.1 in
    rw is (refused_reporting c.args.bytes.now c.args.options.now opened.meaning start.rule (cells_of start) (accepted_as c.run-run.ensures opened.accepted)
    start.generation c.in_err-counted.field-0.0 _ _ refl opened.generation
    (λ full. subst (λ (n : ℕ). IsStuckWithin start.rule (cells_of start) n c.args.options.now.gens) (opened.limit ∙ ap (λ (run : RunOptions). run.pairs) c.run-run.ensures) (c.in_err-counted.ensures.full full)) c.in_err-counted.ensures.refused)

pub returns-in_err-summary : goal.returns-in_err-summary
returns-in_err-summary g c =
    let opened = c.in_ok-session.ensures.ok in
    let start = c.in_ok-session.session in
    let is : c.from_residual-in_err-summary.result ≡ Err (placeless NoMemory) =
    err_is _ _ c.from_residual-in_err-summary.ensures.1 ∙ ap (λ (r : Refusal). Err (placeless r)) c.in_err-summary.ensures.memory in
    rw is (refused_counting c.args.bytes.now c.args.options.now opened.meaning start.rule (cells_of start) (accepted_as c.run-run.ensures opened.accepted)
    _ _ start.generation (cells_of c.run_reported.new.session) _ opened.generation c.in_ok-counted.ensures.later.cells c.in_ok-counted.ensures.reported refl refl c.in_ok-counted.ensures.unfailed)

pub returns-in_err-write_window : goal.returns-in_err-write_window
returns-in_err-write_window g c =
    let opened = c.in_ok-session.ensures.ok in
    let start = c.in_ok-session.session in
    let gens = c.args.options.now.gens in
    let finished = later_same gens c.in_ok-counted.ensures.later c.in_ok-summary.ensures.same in
    let drawn = later_same gens finished c.in_err-write_window.ensures.same in
    let is : c.from_residual-in_err-write_window.result ≡ Err (placeless c.in_err-write_window.field-0.0) = err_is _ _ c.from_residual-in_err-write_window.ensures.1 in
    let refused = only_failed (finished.pattern.opened ∙ opened.opened) c.in_err-write_window.ensures.refused in
    let failed = subst (λ (n : ℕ). HasFailed n (g.W.Sink.failure_count c.write_window.new.report)) c.in_ok-counted.ensures.unfailed refused.0.1 in
    rw is (refused_drawing c.args.bytes.now c.args.options.now opened.meaning start.rule (cells_of start) (accepted_as c.run-run.ensures opened.accepted)
    _ _ start.generation (cells_of c.write_window.new.self) _ opened.generation drawn.cells c.in_ok-counted.ensures.reported
    c.in_err-write_window.field-0.0 refused.0.0 failed refl refused.1)

pub returns-in_err-write : goal.returns-in_err-write
returns-in_err-write g c =
    let opened = c.in_ok-session.ensures.ok in
    let start = c.in_ok-session.session in
    let gens = c.args.options.now.gens in
    let last = cells_of c.write.new.self in
    let format = c.args.options.now.format in
    let finished = later_same gens c.in_ok-counted.ensures.later c.in_ok-summary.ensures.same in
    let drawn = later_same gens finished c.in_ok-write_window.ensures.same in
    let written = later_same gens drawn c.in_err-write.ensures.same in
    let sum = sums_up_as finished.generation (same_sym (same_trans c.in_err-write.ensures.same.cells c.in_ok-write_window.ensures.same.cells)) c.in_ok-summary.ensures.ok in
    let is : c.from_residual-in_err-write.result ≡ Err (placeless c.in_err-write.field-0.0) = err_is _ _ c.from_residual-in_err-write.ensures.1 in
    rw is (refused_writing c.args.bytes.now c.args.options.now opened.meaning start.rule (cells_of start) (accepted_as c.run-run.ensures opened.accepted)
    _ _ start.generation last _ opened.generation written.cells c.in_ok-counted.ensures.reported
    (text_as (Appends (g.W.Sink.taken c.run_reported.new.report) (g.W.Sink.taken c.write_window.new.report)) c.args.options.now.window (same_sym c.in_err-write.ensures.same.cells) c.in_ok-write_window.ensures.written)
    (comments_of c.write.new.self) c.in_ok-summary.summary c.in_err-write.field-0.0 (written.pattern.comments ∙ opened.comments) sum
    c.in_err-write.ensures.no_format (c.in_ok-write_window.ensures.unfailed ∙ c.in_ok-counted.ensures.unfailed)
    (subst2 (λ (r : CountRule) (n : ℕ). IsWriterRefusal g.V.Sink.failure_count c.args.file.now c.write.new.file (Exceeds (format_of format) last)
    (HasText (format_of format) last (comments_of c.write.new.self) r n (AppendsBeginning (g.V.Sink.taken c.args.file.now) (g.V.Sink.taken c.write.new.file))) c.in_err-write.field-0.0)
    written.pattern.rule (written.generation ∙ sym sum.last) c.in_err-write.ensures.refused))

pub returns : goal.returns
returns g c =
    let opened = c.in_ok-session.ensures.ok in
    let start = c.in_ok-session.session in
    let gens = c.args.options.now.gens in
    let last = cells_of c.write.new.self in
    let format = c.args.options.now.format in
    let finished = later_same gens c.in_ok-counted.ensures.later c.in_ok-summary.ensures.same in
    let drawn = later_same gens finished c.in_ok-write_window.ensures.same in
    let written = later_same gens drawn c.in_ok-write.ensures.same in
    let sum = sums_up_as finished.generation (same_sym (same_trans c.in_ok-write.ensures.same.cells c.in_ok-write_window.ensures.same.cells)) c.in_ok-summary.ensures.ok in
    ends_well c.args.bytes.now c.args.options.now opened.meaning start.rule (cells_of start) (accepted_as c.run-run.ensures opened.accepted)
    _ _ start.generation last _ opened.generation written.cells c.in_ok-counted.ensures.reported
    (text_as (Appends (g.W.Sink.taken c.run_reported.new.report) (g.W.Sink.taken c.write_window.new.report)) c.args.options.now.window (same_sym c.in_ok-write.ensures.same.cells) c.in_ok-write_window.ensures.written)
    (comments_of c.write.new.self) c.in_ok-summary.summary (written.pattern.comments ∙ opened.comments) sum
    (subst2 (λ (r : CountRule) (n : ℕ). HasText (format_of format) last (comments_of c.write.new.self) r n (Appends (g.V.Sink.taken c.args.file.now) (g.V.Sink.taken c.write.new.file))) written.pattern.rule (written.generation ∙ sym sum.last) c.in_ok-write.ensures.written)
    c.in_ok-write.ensures.no_format c.in_ok-write.ensures.unfailed (c.in_ok-write_window.ensures.unfailed ∙ c.in_ok-counted.ensures.unfailed)
