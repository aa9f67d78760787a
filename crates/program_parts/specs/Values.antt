-- The values of options.
use Rattle.std.specs.Prelude.{◌≡◌, ℕ, Option, None, Some, Ok, Err}
use Rattle.clap.specs.Words.{Text}
use Rattle.rule_text.specs.CountRule.{CountRule}
use Rattle.rule_text.specs.RuleText.{Reads}
use Rattle.rule_text.specs.declared.fault.RuleFault.{RuleFault}
use Rattle.plane.specs.Refusal.{rule_refusal}
use Rattle.plane.specs.declared.refusal.Refusal.{Refusal}
use Rattle.run_options.specs.Workers.{IsWorkerCount}
use Rattle.table_core.specs.Sizes.{IsPairCount}
use Rattle.program_parts.specs.WindowText.{IsUnsigned}
use Rattle.program_parts.specs.declared.reason.Misfit.{Misfit}
use Rattle.program_parts.specs.declared.reason.WordsReason.{WordsReason}
use Rattle.program_parts.specs.declared.reason.WordsReason.TheVariants.{Unfit}

-- the text is a numeral of this number, which is below 2^64
abbrev pub IsNumber : Option Text → ℕ → Type 0
IsNumber None number = ⊥
IsNumber (Some text) number = IsUnsigned 64 text number

-- the text is a numeral of a number below 2^64
abbrev pub IsFitNumber : Option Text → Type 0
IsFitNumber text = (number : ℕ) × IsNumber text number

-- the text is a numeral of this number, and a table may have so many pair slots
abbrev pub IsPairNumber : Option Text → ℕ → Type 0
IsPairNumber text pairs = IsNumber text pairs × IsPairCount pairs

-- the text is a numeral of this number, and there may be so many workers
abbrev pub IsWorkerNumber : Option Text → ℕ → Type 0
IsWorkerNumber text workers = IsNumber text workers × IsWorkerCount workers

-- this value is not fit, and no number is read for it
abbrev pub IsUnfit : Misfit → (ℕ → Type 0) → WordsReason → Type 0
IsUnfit misfit IsRead fault = (fault ≡ Unfit misfit) × ((number : ℕ) → IsRead number → ⊥)

-- the rule that is given, if one is
abbrev pub IsAskedRule : Option Text → Option CountRule → Type 0
IsAskedRule None rule = rule ≡ None
IsAskedRule (Some text) rule = (read : CountRule) × Reads text (Ok read) × (rule ≡ Some read)

-- the text that is given is refused as a rule, by this name
abbrev pub IsRefusedRule : Option Text → Refusal → Type 0
IsRefusedRule None refusal = ⊥
IsRefusedRule (Some text) refusal =
    (fault : RuleFault) × Reads text (Err fault) × (refusal ≡ rule_refusal fault)
