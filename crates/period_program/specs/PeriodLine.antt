-- The line that says what a search has found.
use Rattle.std.specs.Prelude.{ℕ, Option, None, Some, List, ◌++◌, codes, decimal}
use Rattle.std.specs.Fmt.{signed_decimal}
use Rattle.period_search.specs.declared.candidates.Candidates.{Candidates}
use Rattle.period_search.specs.declared.candidates.Candidates.TheVariants.{UpTo, DivisorsOf}
use Rattle.period_search.specs.declared.period.Period.{Period}

-- how many generations, and how far to the right and down
abbrev pub found_line : Period → List ℕ
found_line period =
    codes "period " ++ decimal period.generations ++ codes ", moves " ++ signed_decimal period.right
    ++ codes ", " ++ signed_decimal period.down ++ codes "\n"

-- none of the numbers that were tried is a period
abbrev pub none_line : Candidates → List ℕ
none_line (UpTo most) = codes "no period up to " ++ decimal most ++ codes "\n"
none_line (DivisorsOf whole) = codes "no period divides " ++ decimal whole ++ codes "\n"

abbrev pub period_line : Candidates → Option Period → List ℕ
period_line candidates (Some period) = found_line period
period_line candidates None = none_line candidates
