use Rattle.std.proofs.Common.{false, ◌≡◌, ◌-◌, length, true}
use Rattle.rle_reader.specs.Body.{stripped_from}
use Rattle.rle_reader.specs.Items.{items_of}
use Rattle.rle_reader.specs.Meaning.{body_fault, first_fault_from}
use Rattle.rle_reader.specs.State.{state_at}
use Rattle.rle_reader.specs.Left.{runs_left}
use Rattle.rle_reader.specs.Range.{IsWithinReach}
use Rattle.rle_reader.specs.Seen.{live_runs_kept}
use Rattle.rle_reader.proofs.ReachLemmas.{IsBounded}
use Rattle.rle_reader.proofs.rle_file.check_body.Given as goal

abbrev pub invariant-loop-run : goal.invariant-loop-run
invariant-loop-run l =
    let left = items_of (stripped_from l.body.source.now l.body.at false) in
    (l.body.source.now ≡ l.source)
    × (first_fault_from l.cursor.left (state_at l.cursor.column l.cursor.row l.cursor.live) left.items left.left_over
    ≡ body_fault l.preamble.settings.pos (items_of (stripped_from l.source l.preamble.body true)))
    × IsWithinReach l.right
    × IsBounded l.preamble.settings.pos (live_runs_kept l.source l.preamble) l.cursor.left l.cursor.column l.cursor.row l.cursor.live l.right (runs_left l.body)

abbrev pub decreases-loop-run : goal.decreases-loop-run
decreases-loop-run l = length l.source - l.body.at
