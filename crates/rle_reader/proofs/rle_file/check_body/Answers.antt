use Rattle.std.proofs.Common.{false, ◌≡◌, ◌⊎◌, ◌≤ℤ◌, ◌<ℤ◌, pos, Ok, OnSome, true, ap, sym, subst, ◌∙◌}
use Rattle.std.proofs.lemmas.Result.{err_from_is_err_and}
use Rattle.std.specs.Option.{option_map}
use Rattle.rle_reader.specs.Body.{stripped_from}
use Rattle.rle_reader.specs.Items.{Items, items_of, items_after}
use Rattle.rle_reader.specs.Meaning.{body_fault, first_fault_from}
use Rattle.rle_reader.specs.Seen.{run_seen}
use Rattle.rle_reader.specs.State.{state_at}
use Rattle.rle_reader.proofs.FaultLemmas.{InReach, first_fault-on, first_fault-here, first_fault-none, first_fault-read}
use Rattle.rle_reader.proofs.ItemLemmas.{as_kept}
use Rattle.rle_reader.specs.Left.{bytes_left, runs_left}
use Rattle.rle_reader.specs.Meaning.{runs_kept}
use Rattle.rle_reader.specs.Seen.{live_runs_kept}
use Rattle.plane.specs.Limits.{coordinate_limit}
use Rattle.rle_reader.specs.Range.{IsWithinReach}
use Rattle.rle_reader.proofs.FitLemmas.{within}
use Rattle.rle_reader.proofs.MotionLemmas.{handed_on}
use Rattle.rle_reader.proofs.ReachLemmas.{bounded_start, bounded_more, bounded_all, no_farther}
use Rattle.rle_reader.proofs.RunLemmas.{runs_kept-first, runs_kept-none}
use Rattle.rle_reader.proofs.rle_file.check_body.Goals as goal

pub loop-run-init : goal.loop-run-init
unfolding body_fault
loop-run-init c =
    let body = c.new-body.result in
    let cursor = c.new-cursor.result in
    let found = items_of (stripped_from c.args.source.now c.args.preamble.now.body true) in
    let same : items_of (stripped_from body.source.now body.at false) ≡ found =
    ap (λ s. items_of (stripped_from s body.at false)) c.new-body.ensures.source ∙ ap items_of c.new-body.ensures.bytes in (
      c.new-body.ensures.source,
      ap (λ (f : Items). first_fault_from cursor.left (state_at cursor.column cursor.row cursor.live) f.items f.left_over) same
          ∙ ap (λ left. first_fault_from left (state_at cursor.column cursor.row cursor.live) found.items found.left_over) c.new-cursor.ensures.left
          ∙ ap (λ s. first_fault_from c.args.preamble.now.settings.pos.x s found.items found.left_over) c.new-cursor.ensures.state,
      subst IsWithinReach (sym (handed_on c.args.preamble.now.settings.pos.x (within c.args.preamble.now.settings.pos.x c.requires.in_range.x))) (within c.args.preamble.now.settings.pos.x c.requires.in_range.x),
      bounded_start c.args.preamble.now.settings.pos cursor.left cursor.column cursor.row cursor.live _ (runs_kept c.args.source.now (stripped_from c.args.source.now c.args.preamble.now.body true)) (runs_left body)
          c.new-cursor.ensures.left c.new-cursor.ensures.state
          (ap (λ s. runs_kept s (stripped_from s body.at false)) c.new-body.ensures.source
          ∙ ap (runs_kept c.args.source.now) c.new-body.ensures.bytes),
    )

pub returns-in_err-run-clause-err : goal.returns-in_err-run-clause-err
unfolding as_kept
returns-in_err-run-clause-err c =
    let body = c.loop-run.body in
    let cursor = c.loop-run.cursor in
    let found = items_of (stripped_from body.source.now body.at false) in
    let p = err_from_is_err_and c.from_residual.result c.from_residual.ensures.1 in
    rw (p.1, p.2) (sym c.loop-run.invariant.1
    ∙ first_fault-read cursor.left (state_at cursor.column cursor.row cursor.live) body.source.now found.items found.left_over c.in_err-run.field-0.0 (sym c.in_err-run.ensures.next))

pub returns-in-Err-clause-err : goal.returns-in-Err-clause-err
unfolding as_kept
returns-in-Err-clause-err c =
    let body = c.loop-run.body in
    let cursor = c.loop-run.cursor in
    let found = items_of (stripped_from body.source.now body.at false) in
    let reach : InReach (state_at cursor.column cursor.row cursor.live) = record { column = cursor.column_in_reach; row = cursor.row_in_reach } in
    let run = run_seen c.in-Some.run' in
    sym c.loop-run.invariant.1
    ∙ first_fault-here cursor.left (state_at cursor.column cursor.row cursor.live) reach body.source.now run found.items found.left_over c.in-Err.refusal
    (sym c.in_ok-run.ensures.next ∙ ap (λ o. Ok (option_map run_seen o)) c.in-Some.is) c.in-Err.ensures.err

pub loop-run-preserved : goal.loop-run-preserved
unfolding as_kept
loop-run-preserved c =
    let body = c.loop-run.body in
    let cursor = c.loop-run.cursor in
    let next = c.in-Ok.next in
    let found = items_of (stripped_from body.source.now body.at false) in
    let reach : InReach (state_at cursor.column cursor.row cursor.live) = record { column = cursor.column_in_reach; row = cursor.row_in_reach } in
    let run = run_seen c.in-Some.run' in
    let later = items_of (stripped_from c.next_run.new.body.source.now c.next_run.new.body.at false) in
    let rest : later ≡ items_after found = subst (λ o. OnSome o (later ≡ items_after found)) c.in-Some.is c.in_ok-run.ensures.rest in
    let handed = handed_on c.rightmost-right.result c.rightmost-right.ensures.within in
    let reached : next.column ≤ℤ c.rightmost-right.result =
    subst (λ column. column ≤ℤ c.rightmost-right.result) (handed_on c.column.result (subst IsWithinReach (sym c.column.ensures) next.column_in_reach) ∙ c.column.ensures) c.rightmost-right.ensures.other in (
      c.in_ok-run.ensures.source ∙ c.loop-run.invariant.0,
      ap (λ (f : Items). first_fault_from next.left (state_at next.column next.row next.live) f.items f.left_over) rest
          ∙ ap (λ left. first_fault_from left (state_at next.column next.row next.live) (items_after found).items found.left_over) c.in-Ok.ensures.ok.2
          ∙ ap (λ s. first_fault_from cursor.left s (items_after found).items found.left_over) c.in-Ok.ensures.ok.1
          ∙ first_fault-on cursor.left (state_at cursor.column cursor.row cursor.live) reach body.source.now run found.items found.left_over
          (sym c.in_ok-run.ensures.next ∙ ap (λ o. Ok (option_map run_seen o)) c.in-Some.is) c.in-Ok.ensures.ok.0
          ∙ c.loop-run.invariant.1,
      subst IsWithinReach (sym handed) c.rightmost-right.ensures.within,
      bounded_more c.args.preamble.now.settings.pos (live_runs_kept c.args.source.now c.args.preamble.now) cursor.left cursor.column cursor.row next.left next.column next.row cursor.live next.live _ _ run (runs_left body) (runs_left c.next_run.new.body)
          (runs_kept-first body.source.now c.next_run.new.body.source.now (bytes_left body) (bytes_left c.next_run.new.body) run
          (sym c.in_ok-run.ensures.next ∙ ap (λ o. Ok (option_map run_seen o)) c.in-Some.is) c.in_ok-run.ensures.source rest)
          c.loop-run.invariant.3 c.in-Ok.ensures.ok.0 c.in-Ok.ensures.ok.1 c.in-Ok.ensures.ok.2
          (no_farther _ _ _ handed c.rightmost-right.ensures.column) (no_farther _ _ _ handed reached),
    )

pub returns-clause-ok : goal.returns-clause-ok
unfolding as_kept
returns-clause-ok c =
    let body = c.loop-run.body in
    let cursor = c.loop-run.cursor in
    let found = items_of (stripped_from body.source.now body.at false) in
    sym c.loop-run.invariant.1
    ∙ first_fault-none cursor.left (state_at cursor.column cursor.row cursor.live) body.source.now found.items found.left_over
    (sym c.in_ok-run.ensures.next ∙ ap (λ o. Ok (option_map run_seen o)) c.in_default.is)

pub returns-clause-reach : goal.returns-clause-reach
unfolding as_kept
returns-clause-reach c =
    let body = c.loop-run.body in
    let cursor = c.loop-run.cursor in
    bounded_all c.args.preamble.now.settings.pos (live_runs_kept c.args.source.now c.args.preamble.now) cursor.left cursor.column cursor.row cursor.live _ (runs_left body) c.reach_of.result
    (runs_kept-none body.source.now (bytes_left body) (sym c.in_ok-run.ensures.next ∙ ap (λ o. Ok (option_map run_seen o)) c.in_default.is))
    c.loop-run.invariant.3 (record {
      left_side = c.reach_of.ensures.left;
      top_side = c.reach_of.ensures.top;
      right_side = c.reach_of.ensures.right;
      bottom = subst (λ row. (row <ℤ pos c.reach_of.result) ⊎ (coordinate_limit ≤ℤ pos c.reach_of.result))
          (handed_on c.row.result (subst IsWithinReach (sym c.row.ensures) cursor.row_in_reach) ∙ c.row.ensures) c.reach_of.ensures.bottom;
    })
