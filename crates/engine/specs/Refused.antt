-- How a run is refused before anything is said of it.
use Rattle.std.specs.Prelude.{◌≡◌, ◌⊎◌, ℕ, List, true, Ok, Err}
use Rattle.rule_text.specs.CountRule.{CountRule}
use Rattle.plane.specs.Fault.{placeless}
use Rattle.plane.specs.declared.fault.Fault.{Fault}
use Rattle.plane.specs.declared.refusal.Refusal.TheVariants.{NodesFull, NoMemory}
use Rattle.pattern_files.specs.Meaning.{Meaning, is_macrocell, judged}
use Rattle.run_options.specs.declared.options.RunOptions.{RunOptions}
use Rattle.universe.specs.Tables.{HasFullTable}
use Rattle.engine.specs.Judgement.{Start, Judges, ReadsRule}
use Rattle.engine.specs.Room.{IsStuckWithin}

-- the run's text and rule are accepted, and this is the rule
pub record HasRule (bytes : List ℕ) (run : RunOptions) (rule : CountRule) : Type 0 where
  pub meaning : Meaning
  pub text : judged bytes ≡ Ok meaning
  pub read : ReadsRule run.rule meaning (Ok rule)

-- memory may run out: a macrocell file is read, which takes memory, or the run's text and rule are
-- accepted
abbrev pub MayLackMemory : List ℕ → RunOptions → Type 0
MayLackMemory bytes run =
    (is_macrocell bytes ≡ true) ⊎ ((rule : CountRule) × HasRule bytes run rule)

-- a table is full as building the file's squares may leave it: it has as many pair slots as the run
-- may have, was opened under this rule without a square, and knows no result. The text and the rule
-- are accepted. Which squares fill the table is not said: they may be any, of use for the cells or
-- not
abbrev pub IsFullAtTheStart : List ℕ → RunOptions → Type 0
IsFullAtTheStart bytes run =
    (rule : CountRule) × HasRule bytes run rule × HasFullTable rule run.pairs

-- the tables that the run may have are too small for a generation before its last
abbrev pub IsFullOnTheWay : Start → RunOptions → Type 0
IsFullOnTheWay start run = IsStuckWithin start.rule start.meaning.live run.pairs run.gens

-- the tables that the run may have are full: at the start, or, of an accepted run, on the way
abbrev pub IsOutOfTables : List ℕ → RunOptions → Type 0
IsOutOfTables bytes run =
    IsFullAtTheStart bytes run
    ⊎ ((start : Start) × Judges bytes run (Ok start) × IsFullOnTheWay start run)

-- a run is refused before anything is said of it: by its judgement, or since memory ran out, or
-- since the tables were full
unfoldable pub IsRefused : List ℕ → RunOptions → Fault → Type 0
IsRefused bytes run fault =
    Judges bytes run (Err fault)
    ⊎ ((fault ≡ placeless NoMemory) × MayLackMemory bytes run)
    ⊎ ((fault ≡ placeless NodesFull) × IsOutOfTables bytes run)
