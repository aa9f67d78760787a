-- Which runs are accepted, and how the others are refused.
use Rattle.std.specs.Prelude.{◌≡◌, ◌⊎◌, ℕ, ◌+◌, List, codes, Option, Result, Ok, Err, Some, None}
use Rattle.std.specs.Option.{unwrap_or}
use Rattle.rule_text.specs.CountRule.{CountRule}
use Rattle.rule_text.specs.RuleText.{Reads}
use Rattle.rule_text.specs.declared.fault.RuleFault.{RuleFault}
use Rattle.plane.specs.Bounds.{bounds_of}
use Rattle.plane.specs.Fault.{placeless}
use Rattle.plane.specs.Listing.{IsListing}
use Rattle.plane.specs.Range.{StaysWithin}
use Rattle.plane.specs.Refusal.{rule_refusal}
use Rattle.plane.specs.declared.cell.Cell.{Cell}
use Rattle.plane.specs.declared.fault.Fault.{Fault}
use Rattle.plane.specs.declared.refusal.Refusal.TheVariants.{TooFar}
use Rattle.pattern_files.specs.Meaning.{Meaning, judged}
use Rattle.run_options.specs.declared.options.RunOptions.{RunOptions}

-- the text of the file's rule: that of Life where it names none
abbrev pub rule_text_of : Meaning → List ℕ
rule_text_of meaning = unwrap_or meaning.rule (codes "B3/S23")

-- the rule of a run: the one that is given, or else that of the file, as its text is read
abbrev pub ReadsRule : Option CountRule → Meaning → Result CountRule RuleFault → Type 0
ReadsRule (Some rule) meaning read = read ≡ Ok rule
ReadsRule None meaning read = Reads (rule_text_of meaning) read

-- what a run starts from: what its file means, the rule and the live cells
pub record Start : Type 0 where
  pub meaning : Meaning
  pub rule : CountRule
  pub cells : List Cell

-- the number of the last generation
abbrev pub last_generation : Start → RunOptions → ℕ
last_generation start run = start.meaning.generation + run.gens

-- the file's text and the rule are accepted
pub record IsStart (bytes : List ℕ) (run : RunOptions) (start : Start) : Type 0 where
  pub text : judged bytes ≡ Ok start.meaning
  pub rule : ReadsRule run.rule start.meaning (Ok start.rule)
  pub cells : IsListing start.cells start.meaning.live

-- the run stays within the range and the last generation
abbrev pub StaysInRange : RunOptions → Start → Type 0
StaysInRange run start = StaysWithin (bounds_of start.cells) start.meaning.generation run.gens

-- the text is accepted, and its rule is refused, at the place of the header
pub record RefusesRule (bytes : List ℕ) (run : RunOptions) (fault : Fault) : Type 0 where
  pub meaning : Meaning
  pub rule_fault : RuleFault
  pub text : judged bytes ≡ Ok meaning
  pub rule : ReadsRule run.rule meaning (Err rule_fault)
  pub is : fault ≡ record { refusal = rule_refusal rule_fault; place = Some meaning.rule_place }

-- text and rule are accepted, and the run is too far
pub record RefusesRange (bytes : List ℕ) (run : RunOptions) (fault : Fault) : Type 0 where
  pub start : Start
  pub accepted : IsStart bytes run start
  pub outside : StaysInRange run start → ⊥
  pub is : fault ≡ placeless TooFar

-- the judgements of a run, in their order: its text, then the rule, then the range
abbrev pub Judges : List ℕ → RunOptions → Result Start Fault → Type 0
Judges bytes run (Ok start) = IsStart bytes run start × StaysInRange run start
Judges bytes run (Err fault) =
    (judged bytes ≡ Err fault) ⊎ RefusesRule bytes run fault ⊎ RefusesRange bytes run fault
