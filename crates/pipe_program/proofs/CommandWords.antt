-- What the words of a command line ask for, and why they ask for nothing.
use Rattle.std.proofs.Common.{◌≡◌, List, [], Result, Ok, Err, sym, subst, inl, inr}
use Rattle.std.specs.Prelude.{IfErr, IfOk}
use Rattle.clap.specs.Words.{Text, fault_of}
use Rattle.program_parts.specs.Asking.{IsReasonOf}
use Rattle.program_parts.specs.RunWords.{GiveLimits, IsUnfitLimit}
use Rattle.program_parts.specs.declared.numbers.Limits.{Limits}
use Rattle.program_parts.specs.declared.reason.WordsReason.{WordsReason}
use Rattle.pipe_program.specs.CommandLine.{AsksFor, command_form, command_line}

module _ (words : List Text) (form : fault_of command_form words ≡ []) where
  pub limits_for : (found : Result Limits WordsReason) → IfOk found (GiveLimits command_form words) → IfOk found (AsksFor words)
  limits_for (Ok limits) given = record { form = form; given = given }
  limits_for (Err reason) given = tt

  pub reason_for : (found : Result Limits WordsReason) → IfErr found (IsUnfitLimit command_form words) → IfErr found (IsReasonOf command_line words)
  reason_for (Ok limits) unfit = tt
  reason_for (Err reason) (inl (is, none)) = subst (IsReasonOf command_line words) (sym is) (form, none)
  reason_for (Err reason) (inr (is, none)) = subst (IsReasonOf command_line words) (sym is) (form, none)
