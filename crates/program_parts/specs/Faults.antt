-- Why words ask for no run, and what a program does then.
use Rattle.std.specs.Prelude.{◌≡◌, ◌⊎◌, ⊤}
use Rattle.clap.specs.Words.{kind_of}
use Rattle.clap.specs.declared.error.Error.{Error}
use Rattle.clap.specs.declared.error.kind.ErrorKind.TheVariants as kind
use Rattle.plane.specs.Fault.{placeless}
use Rattle.plane.specs.SinkChange.{SinkChange, Fails}
use Rattle.plane.specs.declared.refusal.Refusal.{Refusal}
use Rattle.plane.specs.declared.refusal.Refusal.TheVariants.{NoMemory, WriteFailed}
use Rattle.program_parts.specs.declared.stops.Stop.{Stop}
use Rattle.program_parts.specs.declared.stops.Stop.TheVariants as stop
use Rattle.program_parts.specs.declared.reason.WordsReason.{WordsReason}
use Rattle.program_parts.specs.declared.reason.WordsReason.TheVariants.{Clap, Unfit, Refused}
use Rattle.program_parts.specs.declared.reason.WordsFault.{WordsFault}
use Rattle.program_parts.specs.declared.reason.WordsFault.TheVariants as fault

-- the fault of the words, which doesn't say which value is not fit
abbrev pub fault_by : WordsReason → WordsFault
fault_by (Clap error) = fault.Clap error
fault_by (Unfit misfit) = fault.Unfit
fault_by (Refused refusal) = fault.Refused refusal

-- what an error of clap is told as
abbrev pub IsToldAs : Error → WordsReason → Type 0
IsToldAs error (Clap told) = (told ≡ error) × (kind_of error ≡ kind.OutOfMemory → ⊥)
IsToldAs error (Unfit misfit) = ⊥
IsToldAs error (Refused refusal) = (refusal ≡ NoMemory) × (kind_of error ≡ kind.OutOfMemory)

-- the words ask for the help
abbrev pub IsHelp : WordsReason → Type 0
IsHelp (Clap error) = kind_of error ≡ kind.DisplayHelp
IsHelp (Unfit misfit) = ⊥
IsHelp (Refused refusal) = ⊥

-- the words ask neither for the help nor for what is refused
abbrev pub IsBad : WordsReason → Type 0
IsBad (Clap error) = kind_of error ≡ kind.DisplayHelp → ⊥
IsBad (Unfit misfit) = ⊤
IsBad (Refused refusal) = ⊥

-- why a program stopped whose words ask for no run by this reason: they are bad, or refused; or the
-- help that they ask for had no room, or could not be written
abbrev pub IsStopOf : {O : Type 0} → WordsReason → SinkChange O → Stop → Type 0
IsStopOf reason out (stop.BadWords told) =
    (told ≡ reason) × IsBad reason × (out.new ≡ out.old)
IsStopOf reason out (stop.Refused told) =
    ((refusal : Refusal) × (reason ≡ Refused refusal) × (told ≡ placeless refusal)
    × (out.new ≡ out.old))
    ⊎ (IsHelp reason × (told ≡ placeless NoMemory) × (out.new ≡ out.old))
    ⊎ (IsHelp reason × (told ≡ placeless WriteFailed) × Fails out)
