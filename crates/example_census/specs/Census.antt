-- The census of a pattern.
use Rattle.std.specs.Prelude.{◌≡◌, ◌⊎◌, ℕ, zero, suc, ◌^◌, ◌<◌, None, List, [], ◌++◌, Result, IfErr, OnOk}
use Rattle.plane.specs.Fault.{placeless}
use Rattle.plane.specs.Plane.{Plane}
use Rattle.plane.specs.SinkChange.{SinkChange, Fails, IsUnfailed, Takes}
use Rattle.plane.specs.declared.fault.Fault.{Fault}
use Rattle.plane.specs.declared.refusal.Refusal.TheVariants.{WriteFailed}
use Rattle.run_options.specs.declared.options.RunOptions.{RunOptions}
use Rattle.engine.specs.Last.{EndsWith}
use Rattle.engine.specs.Refused.{IsRefused}
use Rattle.engine.specs.SummaryLine.{summary_line}
use Rattle.engine.specs.declared.running.Summary.{Summary}

-- a run of so many generations, with two workers
abbrev pub run_of : ℕ → RunOptions
run_of generations = record { gens = generations; rule = None; pairs = 4194304; workers = 2 }

-- the number, population and bounding box of the generation that comes so many after the first one
-- of an accepted file
abbrev pub IsSummaryAfter : List ℕ → ℕ → Summary → Type 0
IsSummaryAfter bytes generations summary =
    (plane : Plane) × EndsWith bytes (run_of generations) plane summary

-- the text is the lines after 1, 2, 4, .. generations, so many of them
abbrev pub IsCensus : List ℕ → ℕ → List ℕ → Type 0
IsCensus bytes zero text = text ≡ []
IsCensus bytes (suc power) text =
    (before : List ℕ) × (summary : Summary) × IsCensus bytes power before
    × IsSummaryAfter bytes (2 ^ power) summary × (text ≡ before ++ summary_line summary)

-- the sink took the text of so many lines, and did not fail
abbrev pub TakesCensus : {W : Type 0} → List ℕ → ℕ → SinkChange W → Type 0
TakesCensus bytes lines out =
    ((text : List ℕ) × IsCensus bytes lines text × Takes out text) × IsUnfailed out

-- what a census of so many lines does to its sink, and what it answers
pub record IsCensusRun {W : Type 0} (bytes : List ℕ) (lines : ℕ) (out : SinkChange W)
    (result : Result Unit Fault) : Type 0 where
  -- it writes all lines
  pub finished : OnOk result (TakesCensus bytes lines out)
  -- it writes the lines before the first whose run is refused, which is the answer; or the sink
  -- failed
  pub refused : IfErr result (λ fault.
      ((power : ℕ) × (power < lines) × TakesCensus bytes power out
      × IsRefused bytes (run_of (2 ^ power)) fault)
      ⊎ ((fault ≡ placeless WriteFailed) × Fails out))
