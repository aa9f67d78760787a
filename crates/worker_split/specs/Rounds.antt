-- What the workers of a round are given, know and hold.
use Rattle.std.specs.Prelude.{◌≡◌, ◌<◌, ◌≤◌, ℕ, IfOk, IfErr, List, length, All, Option, Some, None, [], replicate, vec_capacity, IfSome, slice_get}
use Rattle.std.specs.declared.result.Result.{Result}
use Rattle.plane.specs.declared.refusal.Refusal.{Refusal}
use Rattle.squares.specs.declared.sq.Sq.{Sq}
use Rattle.squares.specs.Book.{Book, Keeps}
use Rattle.node_table.specs.declared.at.At.{At}
use Rattle.node_table.specs.DesksAtWork.{book_here}
use Rattle.worker_split.specs.Jobs.{HasFuture, IsJob, RefusesFull}
use Rattle.worker_split.specs.declared.members.Answer.{Answer}
use Rattle.worker_split.specs.declared.members.Member.{Member}
use Rattle.worker_split.specs.declared.members.Solver.{Solver}
use Rattle.worker_split.specs.declared.members.Room.{Room}
use Rattle.job_queues.specs.Shares.{left_in, share_in}
use Rattle.worker_split.specs.Shares.{AreShares, shares_of}
use Rattle.worker_split.specs.Work.{Works}

-- the book knows the future of the job at a place
pub record IsAnswerAt (jobs : List Sq) (book : Book) (place : ℕ) (future : Sq) : Type 0 where
  pub job : Sq
  pub at : slice_get jobs place ≡ Some job
  pub is_job : IsJob book job
  pub is : HasFuture book job future

-- the future of the job at a place, or its refusal
pub record IsSettled (jobs : List Sq) (book : Book) (place : ℕ)
    (future : Result Sq Refusal) : Type 0 where
  pub within : place < length jobs
  pub ok : IfOk future (IsAnswerAt jobs book place)
  pub refusal : IfErr future (RefusesFull book)

-- each answer is that of the job which it names
pub record AreSettled (jobs : List Sq) (book : Book) (answers : List Answer) : Type 0 where
  pub each : All (λ (a : Answer). IsSettled jobs book a.place a.future) answers

-- the queues of a worker are of a round of so many jobs
pub record HasQueues (count : ℕ) (member : Member) : Type 0 where
  pub own : member.own.count ≡ count
  pub others : All (λ other. other.count ≡ count) member.others.items

-- a worker for a round of so many jobs, who has all of its own jobs left, and to whom no desk was
-- given yet
pub record IsIdle (count : ℕ) (member : Member) : Type 0 where
  pub queues : HasQueues count member
  pub left : left_in member.own ≡ share_in member.own
  pub at : member.at ≡ None
  pub counted : member.solver.tally.expansions ≡ 0
  pub answers : member.solver.answers.items ≡ []

-- as many workers with the same shares; those that were idle stay idle
pub record StayIdle (old new : List Member) : Type 0 where
  pub len : length new ≡ length old
  pub shares : shares_of new ≡ shares_of old
  pub idle : (count : ℕ) → All (IsIdle count) old → All (IsIdle count) new

-- so many idle workers that share all jobs, an empty place for each job, and room for a future of
-- each
pub record HasRoom (count workers : ℕ) (room : Room) : Type 0 where
  pub len : length room.members.items ≡ workers
  pub idle : All (IsIdle count) room.members.items
  pub shares : 0 < workers → AreShares count (shares_of room.members.items)
  pub places : room.places.items ≡ replicate count None
  pub futures : room.futures.items ≡ []
  pub reserved : count ≤ vec_capacity room.futures

-- a desk at work that knows the jobs, and the answers that were found
pub record CanSolve (jobs : List Sq) (at : At) (solver : Solver) : Type 0 where
  pub known : All (IsJob (book_here at)) jobs
  pub answers : AreSettled jobs (book_here at) solver.answers.items

-- a worker that can solve the jobs of a round
pub record IsReady (jobs : List Sq) (member : Member) : Type 0 where
  pub queues : HasQueues (length jobs) member
  pub solver : IfSome member.at (λ at. CanSolve jobs at member.solver)

-- a desk at work that goes on from this book with the answers that were found
pub record HasFound (base : Book) (jobs : List Sq) (at : At) (solver : Solver) : Type 0 where
  pub works : Works 1 base (book_here at) 0 solver.tally.expansions
  pub answers : AreSettled jobs (book_here at) solver.answers.items

-- a worker of a round that began with this book
pub record IsMember (base : Book) (jobs : List Sq) (member : Member) : Type 0 where
  pub queues : HasQueues (length jobs) member
  pub found : IfSome member.at (λ at. HasFound base jobs at member.solver)

-- the worker stays one of the same round
abbrev pub StaysMember : Member → Member → Type 0
StaysMember old new =
    (base : Book) (jobs : List Sq) → IsMember base jobs old → IsMember base jobs new

-- what the worker found goes on from what it had found
pub record FindsMore (jobs : List Sq) (old new : Member) : Type 0 where
  pub found : (base : Book) → IsMember base jobs old →
      IfSome new.at (λ at. HasFound base jobs at new.solver)

-- the worker has run
pub record HasRun (jobs : List Sq) (old new : Member) : Type 0 where
  pub queues : HasQueues (length jobs) new
  pub found : FindsMore jobs old new

-- a worker of a round of so many jobs that began with less than what this book knows
pub record CanBeGathered (book : Book) (count : ℕ) (member : Member) : Type 0 where
  pub base : Book
  pub jobs : List Sq
  pub is : IsMember base jobs member
  pub keeps : Keeps base book
  pub len : count ≡ length jobs

-- workers of a round of so many jobs that began with this book
pub record AreMembers (base : Book) (count : ℕ) (members : List Member) : Type 0 where
  pub jobs : List Sq
  pub are : All (IsMember base jobs) members
  pub len : count ≡ length jobs

-- each place that is not empty has the future of its job, or its refusal
abbrev pub PlacesFit : List Sq → Book → List (Option (Result Sq Refusal)) → Type 0
PlacesFit jobs book places =
    (place : ℕ) (future : Result Sq Refusal) → slice_get places place ≡ Some (Some future) →
    IsSettled jobs book place future
