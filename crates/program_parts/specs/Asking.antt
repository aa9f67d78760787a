-- What words ask for, by the form of a command line and by the values that are fit.
use Rattle.std.specs.Prelude.{◌≡◌, ◌⊎◌, List, [], Option, codes}
use Rattle.clap.specs.Words.{Text, IsAmong, fault_of, kind_of}
use Rattle.clap.specs.declared.error.kind.ErrorKind.{ErrorKind}
use Rattle.clap.specs.declared.error.kind.ErrorKind.TheVariants as kind
use Rattle.rule_text.specs.CountRule.{CountRule}
use Rattle.plane.specs.declared.refusal.Refusal.{Refusal}
use Rattle.plane.specs.declared.refusal.Refusal.TheVariants.{NoMemory, WindowTooLarge}
use Rattle.program_parts.specs.CommandLine.{CommandLine, IsFit, IsMisfit}
use Rattle.program_parts.specs.Texts.{text_in}
use Rattle.program_parts.specs.Values.{IsAskedRule, IsRefusedRule}
use Rattle.program_parts.specs.declared.reason.Misfit.{Misfit}
use Rattle.program_parts.specs.declared.reason.WordsReason.{WordsReason}
use Rattle.program_parts.specs.declared.reason.WordsReason.TheVariants.{Clap, Unfit, Refused}
use Rattle.program_parts.specs.declared.reason.WordsFault.{WordsFault}
use Rattle.program_parts.specs.declared.reason.WordsFault.TheVariants as fault

-- the words ask for the help
abbrev pub AsksForHelp : CommandLine → List Text → Type 0
AsksForHelp line words = IsAmong kind.DisplayHelp (fault_of line.form words)

-- the words ask for nothing: they have a fault of form other than a request for the help, or are of
-- the form with a value that is not fit
abbrev pub AsksForNothing : CommandLine → List Text → Type 0
AsksForNothing line words =
    ((wrong : ErrorKind) × IsAmong wrong (fault_of line.form words)
    × (wrong ≡ kind.DisplayHelp → ⊥))
    ⊎ ((fault_of line.form words ≡ []) × (IsFit line words → ⊥))

-- the words are of the form, their values are fit, and the rule that they give is refused by this
-- name
pub record RefusesRule (line : CommandLine) (words : List Text) (refusal : Refusal) : Type 0 where
  pub form : fault_of line.form words ≡ []
  pub fit : IsFit line words
  pub rule : IsRefusedRule (text_in line.form (codes "rule") words) refusal

-- the words are of the form, their values are fit, the rule that they give is one, and the window
-- is refused
pub record RefusesWindow (line : CommandLine) (words : List Text) (refusal : Refusal) : Type 0 where
  pub form : fault_of line.form words ≡ []
  pub fit : IsFit line words
  pub rule : (rule : Option CountRule) × IsAskedRule (text_in line.form (codes "rule") words) rule
  pub window : line.IsRefusedWindow (text_in line.form (codes "window") words)
  pub is : refusal ≡ WindowTooLarge

-- memory ran out while the words were read, or the rule or the window that they give is refused
abbrev pub Refuses : CommandLine → List Text → Refusal → Type 0
Refuses line words refusal =
    (refusal ≡ NoMemory) ⊎ RefusesRule line words refusal ⊎ RefusesWindow line words refusal

-- why words ask for no run: they are not of the form, or ask for the help; they are of the form,
-- with this value that is not fit; or they are refused
abbrev pub IsReasonOf : CommandLine → List Text → WordsReason → Type 0
IsReasonOf line words (Clap error) = IsAmong (kind_of error) (fault_of line.form words)
IsReasonOf line words (Unfit misfit) = (fault_of line.form words ≡ []) × IsMisfit line words misfit
IsReasonOf line words (Refused refusal) = Refuses line words refusal

-- the same without the value. Some value is not fit, and so not all are
abbrev pub IsFaultOf : CommandLine → List Text → WordsFault → Type 0
IsFaultOf line words (fault.Clap error) = IsAmong (kind_of error) (fault_of line.form words)
IsFaultOf line words fault.Unfit =
    (fault_of line.form words ≡ []) × ((misfit : Misfit) × IsMisfit line words misfit)
    × (IsFit line words → ⊥)
IsFaultOf line words (fault.Refused refusal) = Refuses line words refusal
