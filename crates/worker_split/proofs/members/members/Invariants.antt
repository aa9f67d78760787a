use Rattle.std.proofs.Common.{◌≡◌, ◌-◌, ◌/◌, ◌<◌, ◌≤◌, length, All}
use Rattle.worker_split.specs.Rounds.{IsIdle}
use Rattle.worker_split.specs.Shares.{shares_of}
use Rattle.worker_split.proofs.Cutting.{AreCut}
use Rattle.worker_split.proofs.members.members.Given as goal

abbrev pub invariant-loop-k : goal.invariant-loop-k
invariant-loop-k l =
    (l.low ≤ l.count) × (length l.all.items ≡ l.k) × All (IsIdle l.count) l.all.items
    × (0 < l.workers → AreCut (l.count / l.workers) l.count (l.workers - l.k) l.low (shares_of l.all.items))
