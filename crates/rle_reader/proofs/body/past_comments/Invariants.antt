use Rattle.std.proofs.Common.{◌≡◌, ◌-◌, ◌≤◌, length, true}
use Rattle.rle_reader.specs.Body.{stripped_from}
use Rattle.rle_reader.proofs.body.past_comments.Given as goal

abbrev pub invariant-loop-place : goal.invariant-loop-place
invariant-loop-place l = (l.fn.at ≤ l.place) × (l.place ≤ length l.source) × (stripped_from l.source l.place true ≡ stripped_from l.source l.fn.at true)

abbrev pub decreases-loop-place : goal.decreases-loop-place
decreases-loop-place l = length l.source - l.place
