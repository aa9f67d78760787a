use Rattle.std.proofs.Common.{◌≡◌, ◌-◌, length, false}
use Rattle.rle_reader.specs.Body.{stripped_from}
use Rattle.rle_reader.specs.LiveLeft.{live_left, live_rest}
use Rattle.rle_reader.proofs.live_runs.LiveRest.next_live.Given as goal

abbrev pub invariant-loop-self : goal.invariant-loop-self
invariant-loop-self l =
    live_left l.self.left l.self.column l.self.row l.count (stripped_from l.self.source.now l.self.at false) ≡ live_rest l.fn.self

abbrev pub decreases-loop-self : goal.decreases-loop-self
decreases-loop-self l = length l.self.source.now - l.self.at
