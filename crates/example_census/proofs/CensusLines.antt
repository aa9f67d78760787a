-- A census, line by line.
use Rattle.std.proofs.Common.{◌≡◌, ℕ, suc, ◌+◌, ◌^◌, List, ◌++◌, refl, arith}
use Rattle.engine.specs.declared.running.Summary.{Summary}
use Rattle.engine.specs.SummaryLine.{summary_line}
use Rattle.example_census.specs.Census.{IsCensus, IsSummaryAfter}

-- one line more
pub one_more : (bytes : List ℕ) (power : ℕ) (before : List ℕ) (summary : Summary) → IsCensus bytes power before → IsSummaryAfter bytes (2 ^ power) summary →
    IsCensus bytes (power + 1) (before ++ summary_line summary)
one_more bytes power before summary was is =
    let next : power + 1 ≡ suc power = omega arith in
    rw next (before, summary, was, is, refl)
