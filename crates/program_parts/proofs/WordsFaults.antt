-- Why a program stops whose words ask for no run.
use Rattle.std.proofs.Common.{◌≡◌, ◌⊎◌, ℕ, List, Result, refl, subst, inl, inr}
use Rattle.std.specs.Prelude.{IfErr, OnOk}
use Rattle.std.proofs.lemmas.Result.{IfErr-weaker, on_ok_weaker}
use Rattle.clap.specs.Words.{Text, IsAmong, fault_of}
use Rattle.plane.specs.Fault.{placeless}
use Rattle.plane.specs.SinkChange.{SinkChange, Fails, Takes}
use Rattle.plane.specs.declared.fault.Fault.{Fault}
use Rattle.plane.specs.declared.refusal.Refusal.{Refusal as Name}
use Rattle.plane.specs.declared.refusal.Refusal.TheVariants.{NoMemory, WriteFailed}
use Rattle.program_parts.specs.Asking.{AsksForHelp, AsksForNothing, IsFaultOf, IsReasonOf, Refuses}
use Rattle.program_parts.specs.Behaviour.{Behaviour, IsDone, IsStop}
use Rattle.program_parts.specs.CommandLine.{CommandLine, IsFit, IsMisfit}
use Rattle.program_parts.specs.Faults.{IsBad, IsHelp, IsStopOf, fault_by}
use Rattle.program_parts.specs.declared.reason.Misfit.{Misfit}
use Rattle.program_parts.specs.declared.reason.Misfit.TheVariants.{Ending, Window, Nodes, Other, Together, Workers}
use Rattle.program_parts.specs.declared.stops.Stop.{Stop}
use Rattle.program_parts.specs.declared.stops.Stop.TheVariants as stop
use Rattle.program_parts.specs.declared.reason.WordsReason.{WordsReason}
use Rattle.program_parts.specs.declared.reason.WordsReason.TheVariants.{Clap, Unfit, Refused}

-- with a value that is not fit, not all are fit
unfit : (line : CommandLine) (words : List Text) (misfit : Misfit) → IsMisfit line words misfit → IsFit line words → ⊥
unfit line words (Ending endings) is fit = is fit.output
unfit line words Window is fit = is fit.window
unfit line words Nodes is fit = is fit.limits.0.pairs fit.limits.1.pairs
unfit line words Workers is fit = is fit.limits.0.workers fit.limits.1.workers
unfit line words (Together options) is fit = is fit.options
unfit line words Other is fit = is fit

module _ (line : CommandLine) (words : List Text) where
  -- why words ask for no run, without the value that is not fit
  pub fault_of_reason : (reason : WordsReason) → IsReasonOf line words reason → IsFaultOf line words (fault_by reason)
  fault_of_reason (Clap error) among = among
  fault_of_reason (Unfit misfit) (is, why) = (is, (misfit, why), unfit line words misfit why)
  fault_of_reason (Refused refusal) refuses = refuses

  -- words with a reason that is bad ask for nothing
  bad_words : (reason : WordsReason) → IsReasonOf line words reason → IsBad reason → AsksForNothing line words
  bad_words (Clap error) among other = inl (_, among, other)
  bad_words (Unfit misfit) (is, why) bad = inr (is, unfit line words misfit why)
  bad_words (Refused refusal) refuses bad = absurd bad

  -- words whose reason is a request for the help ask for it
  help_words : (reason : WordsReason) → IsReasonOf line words reason → IsHelp reason → AsksForHelp line words
  help_words (Clap error) among help = subst (λ k. IsAmong k (fault_of line.form words)) help among
  help_words (Unfit misfit) is help = absurd help
  help_words (Refused refusal) refuses help = absurd help

  -- what a program refuses that stops by its words: they are refused, or the help can't be written
  refused_words : {O : Type 0} (reason : WordsReason) (out : SinkChange O) (told : Fault) → IsReasonOf line words reason → IsStopOf reason out (stop.Refused told) →
      ((refusal : Name) × Refuses line words refusal × (told ≡ placeless refusal) × (out.new ≡ out.old)) ⊎ (AsksForHelp line words × (told ≡ placeless WriteFailed) × Fails out)
  refused_words reason out told is (inl (refusal, refused, told_is, same)) = inl (refusal, subst (IsReasonOf line words) refused is, told_is, same)
  refused_words reason out told is (inr (inl (help, told_is, same))) = inl (NoMemory, inl refl, told_is, same)
  refused_words reason out told is (inr (inr (help, told_is, failed))) = inr (help_words reason is help, told_is, failed)

module _ {Asked O : Type 0} (behaviour : Behaviour Asked) (words : List Text) (reason : WordsReason) (is : IsReasonOf behaviour.line words reason) (out : SinkChange O) where
  stop_of_words : (why : Stop) → IsStopOf reason out why → IsStop behaviour words out why
  stop_of_words (stop.BadWords told) (told_is, bad, same) = (bad_words behaviour.line words reason is bad, same)
  stop_of_words (stop.Refused told) stops = inr (refused_words behaviour.line words reason out told is stops)

  module _ {T : Type 0} (ended : Result T Stop) where
    -- where a help was shown, the words ask for it
    pub done_by_words : OnOk ended (IsHelp reason × ((text : List ℕ) × Takes out text)) → OnOk ended (IsDone behaviour words out)
    done_by_words = on_ok_weaker ended (λ shown. inl (help_words behaviour.line words reason is shown.0, shown.1))

    -- what a reason of the words stops with is why the program stops
    pub stopped_by_words : IfErr ended (IsStopOf reason out) → IfErr ended (IsStop behaviour words out)
    stopped_by_words = IfErr-weaker ended (IsStopOf reason out) (IsStop behaviour words out) stop_of_words
