use Rattle.std.proofs.Common.{◌≡◌, ◌≤◌, length, take, IsTrue, false}
use Rattle.std.specs.List.{AllZip}
use Rattle.std.specs.Vec.{vec_len, vec_capacity}
use Rattle.node_table.specs.DesksAtWork.{book_here}
use Rattle.worker_split.specs.Jobs.{HasFuture}
use Rattle.worker_split.specs.Rounds.{PlacesFit}
use Rattle.worker_split.specs.Work.{Continues}
use Rattle.worker_split.proofs.filling.fill.Given as goal

abbrev pub invariant-loop-k : goal.invariant-loop-k
invariant-loop-k g l =
    Continues 1 l.initial.at l.at l.initial.tally l.tally × PlacesFit l.shared.jobs.now (book_here l.at) l.places
    × (l.is_full ≡ false → AllZip (HasFuture (book_here l.at)) (take l.k l.shared.jobs.now) l.futures.items)
    × (vec_len l.futures ≤ l.k) × (length l.shared.jobs.now ≤ vec_capacity l.futures) × (IsTrue l.is_full → IsTrue (book_here l.at).is_full)
