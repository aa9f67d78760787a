-- The shares of a round's jobs with which its workers begin.
use Rattle.std.specs.Prelude.{◌≡◌, ℕ, ◌+◌, ◌≤◌, All, List, length, map}
use Rattle.std.specs.List.{concat}
use Rattle.job_queues.specs.Shares.{jobs_between, share_in}
use Rattle.worker_split.specs.declared.members.Member.{Member}

-- the shares of some workers
abbrev pub shares_of : List Member → List (List ℕ)
shares_of members = map (λ member. share_in member.own) members

-- one after the other the shares are all jobs, each once, and no share is longer than another by
-- more than one
pub record AreShares (count : ℕ) (shares : List (List ℕ)) : Type 0 where
  pub whole : concat shares ≡ jobs_between 0 count
  pub even : All (λ one. All (λ other. length one ≤ length other + 1) shares) shares
