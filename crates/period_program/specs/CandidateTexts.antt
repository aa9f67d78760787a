-- The numbers of generations that are tried, as words give them.
use Rattle.std.specs.Prelude.{◌≡◌, ◌⊎◌, ℕ, ◌^◌, ◌≤◌, Option, None, Some, List}
use Rattle.clap.specs.Words.{Text}
use Rattle.period_search.specs.declared.candidates.Candidates.{Candidates}
use Rattle.period_search.specs.declared.candidates.Candidates.TheVariants.{UpTo, DivisorsOf}
use Rattle.program_parts.specs.WindowText.{IsUnsigned}
use Rattle.program_parts.specs.declared.reason.Misfit.TheVariants.{Other, Together}
use Rattle.program_parts.specs.declared.reason.WordsReason.{WordsReason}
use Rattle.program_parts.specs.declared.reason.WordsReason.TheVariants.{Unfit}
use Rattle.std.specs.Borrow.{Bor}

-- the text is a numeral of this number, which is from 1 to a limit
pub record IsCount (limit : ℕ) (text : Text) (number : ℕ) : Type 0 where
  pub reads : IsUnsigned 64 text number
  pub some : 1 ≤ number
  pub within : number ≤ limit

-- the text is no numeral of a number from 1 to a limit
abbrev pub IsUnfitCount : ℕ → Text → WordsReason → Type 0
IsUnfitCount limit text reason =
    (reason ≡ Unfit Other) × ((number : ℕ) → IsCount limit text number → ⊥)

-- the numbers that are tried by the texts of --most and of --multiple, of which one at most is
-- given: each from 1 to that of --most, which is at most 2^32, and 1000 if neither is given; or the
-- divisors of that of --multiple, which is at most 2^63
abbrev pub IsAskedCandidates : Option Text → Option Text → Candidates → Type 0
IsAskedCandidates None None candidates = candidates ≡ UpTo 1000
IsAskedCandidates (Some text) None candidates =
    (most : ℕ) × IsCount (2 ^ 32) text most × (candidates ≡ UpTo most)
IsAskedCandidates None (Some text) candidates =
    (whole : ℕ) × IsCount (2 ^ 63) text whole × (candidates ≡ DivisorsOf whole)
IsAskedCandidates (Some text) (Some other) candidates = ⊥

-- these texts ask for no numbers: both are given, or that which is given is not fit
abbrev pub IsUnfitCandidates : Option Text → Option Text → WordsReason → Type 0
IsUnfitCandidates most multiple reason =
    ((reason ≡ Unfit Other) ⊎ ((options : Bor (List ℕ)) × (reason ≡ Unfit (Together options))))
    × ((candidates : Candidates) → IsAskedCandidates most multiple candidates → ⊥)
