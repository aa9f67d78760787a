use Rattle.std.proofs.Common.{◌≡◌, ◌≢◌, ◌++◌, ◌<◌, ◌≤◌, ◌∙◌, ◌∷◌, [], List, ℕ, length, take, ap, sym, refl, length-append, length-take-le, take-append-drop, arith}
use Rattle.pipe_lines.specs.Supply.{pending_in}
use Rattle.pipe_lines.proofs.BlockParts.{holds_more}
use Rattle.pipe_lines.proofs.Errors.{at_error}
use Rattle.pipe_lines.proofs.Readings.{reads_on}
use Rattle.pipe_lines.proofs.Takings.{ended_at_fill, taken_after_fill, taken_before_fill}
use Rattle.pipe_lines.proofs.blocks.read_block.Goals as goal

some : (bytes : List ℕ) → bytes ≢ [] → 0 < length bytes
some [] are = absurd (are refl)
some (first ∷ rest) are = omega arith

pub returns-in_err-fill-clause-unread : goal.returns-in_err-fill-clause-unread
returns-in_err-fill-clause-unread g c =
    let begun = c.loop-left.invariant.0 in
    let counted = begun.counted in
    at_error c.from_residual.result _ (
      begun.bytes,
      taken_before_fill begun.taken c.in_err-fill.ensures.taken,
      omega arith,
      c.in_err-fill.ensures.none,
    )

pub returns-in_err-fill-clause-reads : goal.returns-in_err-fill-clause-reads
returns-in_err-fill-clause-reads g c =
    let begun = c.loop-left.invariant.0 in
    let counted = begun.counted in
    reads_on g.S.Source.reads (λ (bytes : List ℕ). length bytes < c.args.count) begun.taken (omega arith) c.loop-left.invariant.2 c.in_err-fill.ensures.read

pub returns-then-not-branch-clause-reads : goal.returns-then-not-branch-clause-reads
returns-then-not-branch-clause-reads g c =
    let begun = c.loop-left.invariant.0 in
    let counted = begun.counted in
    reads_on g.S.Source.reads (λ (bytes : List ℕ). length bytes < c.args.count) begun.taken (omega arith) c.loop-left.invariant.2 c.in_ok-fill.ensures.read

pub returns-then-not-branch-clause-block : goal.returns-then-not-branch-clause-block
returns-then-not-branch-clause-block g c =
    let begun = c.loop-left.invariant.0 in
    let counted = begun.counted in (
      begun.bytes,
      taken_before_fill begun.taken c.in_ok-fill.ensures.taken,
      omega arith,
      ended_at_fill (rw c.if-not-branch.true at c.in_ok-fill.ensures.end),
    )

pub loop-left-preserved : goal.loop-left-preserved
loop-left-preserved g c =
    let begun = c.loop-left.invariant.0 in
    let counted = begun.counted in
    let bytes = pending_in c.fill.new.self in
    let more = c.part_of-more.result in
    let pending : 0 < length bytes = some bytes (rw c.if-not-branch.false at c.in_ok-fill.ensures.more) in
    let size : length c.pending.result.now ≡ length bytes = ap length c.pending.ensures in
    let within : more ≤ length bytes = omega arith in
    let long : length (take more bytes) ≡ more = length-take-le more bytes within in
    let rest : bytes ≡ take more bytes ++ pending_in c.take.new.self =
    sym (take-append-drop more bytes) ∙ ap (λ later. take more bytes ++ later) (sym c.take.ensures) in (
      record {
        bytes = begun.bytes ++ take more bytes;
        taken = taken_after_fill (take more bytes) _ begun.taken c.in_ok-fill.ensures.taken rest;
        holds = holds_more c.loop-left.block c.longer-block.result begun.bytes (take more bytes) (omega arith) begun.holds
            (rw c.pending-in-loop-left.ensures at c.longer-block.ensures);
        counted = omega (arith, length-append begun.bytes (take more bytes));
      },
      c.in_ok-fill.ensures.unfailed ∙ c.loop-left.invariant.1,
      reads_on g.S.Source.reads (λ (bytes : List ℕ). length bytes < c.args.count) begun.taken (omega arith) c.loop-left.invariant.2 c.in_ok-fill.ensures.read,
    )
