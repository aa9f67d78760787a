use Rattle.std.proofs.Common.{◌≡◌, length, All, List}
use Rattle.squares.specs.declared.sq.Sq.{Sq}
use Rattle.node_table.specs.DesksAtWork.{book_here}
use Rattle.worker_split.specs.Rounds.{IsIdle}
use Rattle.worker_split.proofs.Workers.{IsNew}
use Rattle.worker_split.proofs.gathering.hand_out.Given as goal

abbrev pub invariant-loop-k : goal.invariant-loop-k
invariant-loop-k l =
    (book_here l.at ≡ book_here l.initial.at) × (length l.members ≡ length l.initial.members)
    × ((jobs : List Sq) → All (IsIdle (length jobs)) l.initial.members → All (IsNew (book_here l.initial.at) jobs) l.members)
