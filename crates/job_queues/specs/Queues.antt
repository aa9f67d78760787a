-- What a queue of jobs holds, and what its passes know.
use Rattle.std.specs.Prelude.{◌≡◌, ℕ, Bool, true, List, ◌++◌, length, All, Contains}
use mathlib.Core.Option.{some}
use lib.ListN.{get_elem?}
use Rattle.job_queues.specs.declared.queues.Seen.{Seen}

abbrev pub seen : Bool → List ℕ → List ℕ → Seen
seen alone share left = record { alone = alone; share = share; left = left }

-- the first list stands at the end of the second
abbrev pub IsEnd : List ℕ → List ℕ → Type 0
IsEnd back all = (front : List ℕ) × (all ≡ front ++ back)

-- what a pass knows where the deque holds these jobs: they are an end of those that it knows to be
-- left, and just those if it is the only pass
pub record Knows (jobs : List ℕ) (views : List Seen) (v : Seen) : Type 0 where
  pub share : IsEnd v.left v.share
  pub left : IsEnd jobs v.left
  pub alone : v.alone ≡ true → (length views ≡ 1) × (jobs ≡ v.left)

-- every pass knows so much
abbrev pub AllKnow : List ℕ → List Seen → Type 0
AllKnow jobs views =
    (port : ℕ) (v : Seen) → get_elem? views port ≡ some v → Knows jobs views v

-- these jobs were the first that the deque held, and then what is behind them was left
pub record AreTaken (v : Seen) (jobs : List ℕ) (w : Seen) : Type 0 where
  pub share : w.share ≡ v.share
  pub alone : w.alone ≡ v.alone
  pub of_share : All (Contains v.share) jobs
  pub first : IsEnd (jobs ++ w.left) v.left
  pub next : v.alone ≡ true → v.left ≡ jobs ++ w.left
