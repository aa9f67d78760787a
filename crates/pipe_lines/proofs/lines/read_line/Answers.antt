use Rattle.std.proofs.Common.{◌≡◌, ◌++◌, ◌<◌, ◌≤◌, ◌∙◌, ◌∷◌, [], length, take, ap, sym, append_assoc, take-append-drop, arith}
use Rattle.std.specs.List.{position_or_len}
use Rattle.std.proofs.lemmas.List.{drop_all}
use Rattle.text_lines.specs.Lines.{is_line_feed}
use Rattle.pipe_lines.specs.Supply.{IsUnbroken, pending_in}
use Rattle.pipe_lines.proofs.Errors.{at_error}
use Rattle.pipe_lines.proofs.Feeds.{parts_at_feed}
use Rattle.pipe_lines.proofs.LineEnds.{ends_at_line_feed, ends_at_source_end}
use Rattle.pipe_lines.proofs.Parts.{part_grows}
use Rattle.pipe_lines.proofs.Readings.{reads_on}
use Rattle.pipe_lines.proofs.Takings.{ended_at_fill, taken_after_fill, taken_before_fill}
use Rattle.pipe_lines.proofs.lines.read_line.Goals as goal

pub returns-in_err-fill-clause-unread : goal.returns-in_err-fill-clause-unread
returns-in_err-fill-clause-unread g c =
    let begun = c.loop-length.invariant.0 in
    at_error c.from_residual.result _ (
      begun.part,
      taken_before_fill begun.taken c.in_err-fill.ensures.taken,
      begun.is.unbroken,
      c.in_err-fill.ensures.none,
    )

pub returns-then-not-branch-clause-line : goal.returns-then-not-branch-clause-line
returns-then-not-branch-clause-line g c =
    let begun = c.loop-length.invariant.0 in
    rw c.end_at_source_end.ensures (ends_at_source_end begun.is
    (taken_before_fill begun.taken c.in_ok-fill.ensures.taken)
    (ended_at_fill (rw c.if-not-branch.true at c.in_ok-fill.ensures.end)))

pub returns-then-count-pending-clause-line : goal.returns-then-count-pending-clause-line
returns-then-count-pending-clause-line g c =
    let begun = c.loop-length.invariant.0 in
    let bytes = pending_in c.fill.new.self in
    let first = c.line_length-count.result in
    let place : first ≡ position_or_len is_line_feed bytes =
    c.line_length-count.ensures.value ∙ ap (position_or_len is_line_feed) c.pending.ensures in
    let below : first < length bytes = omega (arith, ap length c.pending-in-loop-length-2.ensures) in
    let is = part_grows _ begun.part bytes _ _ first _ begun.is place (omega arith)
    (rw c.pending-in-loop-length.ensures at c.keep.ensures) c.saturating_add-length.ensures in
    let taken = taken_after_fill (take first bytes ++ 10 ∷ []) _ begun.taken c.in_ok-fill.ensures.taken
    (parts_at_feed bytes _ first place below c.take.ensures) in
    rw c.end_at_line_feed.ensures (ends_at_line_feed is (rw (append_assoc begun.part (take first bytes) (10 ∷ [])) taken))

pub loop-length-preserved : goal.loop-length-preserved
loop-length-preserved g c =
    let begun = c.loop-length.invariant.0 in
    let bytes = pending_in c.fill.new.self in
    let first = c.line_length-count.result in
    let place : first ≡ position_or_len is_line_feed bytes =
    c.line_length-count.ensures.value ∙ ap (position_or_len is_line_feed) c.pending.ensures in
    let within : first ≤ length bytes = omega (arith, ap length c.pending.ensures) in
    let all : length bytes ≤ first = omega (arith, ap length c.pending-in-loop-length-2.ensures) in
    let rest : bytes ≡ take first bytes ++ pending_in c.take-in-loop-length.new.self =
    sym (take-append-drop first bytes) ∙ ap (λ more. take first bytes ++ more) (sym c.take-in-loop-length.ensures) in (
      record {
        part = begun.part ++ take first bytes;
        taken = taken_after_fill (take first bytes) _ begun.taken c.in_ok-fill.ensures.taken rest;
        is = part_grows _ begun.part bytes _ _ first _ begun.is place within
            (rw c.pending-in-loop-length.ensures at c.keep.ensures) c.saturating_add-length.ensures;
        drained = λ some. c.take-in-loop-length.ensures ∙ drop_all first bytes all;
      },
      c.in_ok-fill.ensures.unfailed ∙ c.loop-length.invariant.1,
      reads_on g.S.Source.reads IsUnbroken begun.taken begun.is.unbroken c.loop-length.invariant.2 c.in_ok-fill.ensures.read,
    )

pub returns-in_err-fill-clause-reads : goal.returns-in_err-fill-clause-reads
returns-in_err-fill-clause-reads g c =
    let begun = c.loop-length.invariant.0 in
    reads_on g.S.Source.reads IsUnbroken begun.taken begun.is.unbroken c.loop-length.invariant.2 c.in_err-fill.ensures.read

pub returns-then-not-branch-clause-reads : goal.returns-then-not-branch-clause-reads
returns-then-not-branch-clause-reads g c =
    let begun = c.loop-length.invariant.0 in
    reads_on g.S.Source.reads IsUnbroken begun.taken begun.is.unbroken c.loop-length.invariant.2 c.in_ok-fill.ensures.read

pub returns-then-count-pending-clause-reads : goal.returns-then-count-pending-clause-reads
returns-then-count-pending-clause-reads g c =
    let begun = c.loop-length.invariant.0 in
    reads_on g.S.Source.reads IsUnbroken begun.taken begun.is.unbroken c.loop-length.invariant.2 c.in_ok-fill.ensures.read
