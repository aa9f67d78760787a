-- What words ask for by the options that every program has: the generations, the rule, the slots
-- and the workers.
use Rattle.std.specs.Prelude.{◌≡◌, ◌⊎◌, ℕ, List, codes}
use Rattle.clap.specs.Words.{App, Text}
use Rattle.run_options.specs.declared.options.RunOptions.{RunOptions}
use Rattle.program_parts.specs.Texts.{text_in, value_in}
use Rattle.program_parts.specs.Values.{IsAskedRule, IsNumber, IsPairNumber, IsWorkerNumber}
use Rattle.program_parts.specs.declared.numbers.Limits.{Limits}
use Rattle.program_parts.specs.declared.reason.Misfit.TheVariants.{Nodes, Other, Workers}
use Rattle.program_parts.specs.declared.reason.WordsReason.{WordsReason}
use Rattle.program_parts.specs.declared.reason.WordsReason.TheVariants.{Unfit}

-- words of this form give the run its numbers
pub record GiveNumbers (form : App) (words : List Text) (run : RunOptions) : Type 0 where
  pub gens : IsNumber (value_in form (codes "generation") words) run.gens
  pub pairs : IsPairNumber (value_in form (codes "nodes") words) run.pairs
  pub workers : IsWorkerNumber (value_in form (codes "workers") words) run.workers

-- words of this form give these limits
pub record GiveLimits (form : App) (words : List Text) (limits : Limits) : Type 0 where
  pub pairs : IsPairNumber (value_in form (codes "nodes") words) limits.pairs
  pub workers : IsWorkerNumber (value_in form (codes "workers") words) limits.workers

-- words of this form ask for the run
pub record AskForRun (form : App) (words : List Text) (run : RunOptions) : Type 0 where
  pub numbers : GiveNumbers form words run
  pub rule : IsAskedRule (text_in form (codes "rule") words) run.rule

-- the numbers of slots and workers that words of this form give are such
abbrev pub AreFitLimits : App → List Text → Type 0
AreFitLimits form words = (limits : Limits) × GiveLimits form words limits

-- the numbers that words of this form give are those of a run
abbrev pub AreFitNumbers : App → List Text → Type 0
AreFitNumbers form words = (run : RunOptions) × GiveNumbers form words run

-- no table may have the number of slots that words of this form give
abbrev pub AreUnfitNodes : App → List Text → Type 0
AreUnfitNodes form words =
    (pairs : ℕ) → IsPairNumber (value_in form (codes "nodes") words) pairs → ⊥

-- no run may have the number of workers that words of this form give
abbrev pub AreUnfitWorkers : App → List Text → Type 0
AreUnfitWorkers form words =
    (workers : ℕ) → IsWorkerNumber (value_in form (codes "workers") words) workers → ⊥

-- the number of slots, or that of workers, that words of this form give, is not fit
abbrev pub IsUnfitLimit : App → List Text → WordsReason → Type 0
IsUnfitLimit form words reason =
    ((reason ≡ Unfit Nodes) × AreUnfitNodes form words)
    ⊎ ((reason ≡ Unfit Workers) × AreUnfitWorkers form words)

-- the number of slots, that of workers, or another one that words of this form give, is not fit
abbrev pub IsUnfitNumber : App → List Text → WordsReason → Type 0
IsUnfitNumber form words reason =
    ((reason ≡ Unfit Nodes) × AreUnfitNodes form words)
    ⊎ ((reason ≡ Unfit Workers) × AreUnfitWorkers form words)
    ⊎ ((reason ≡ Unfit Other) × (AreFitNumbers form words → ⊥))
