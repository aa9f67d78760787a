-- The run that the words of a command line ask for, and why they ask for none.
use Rattle.std.proofs.Common.{◌≡◌, ◌∙◌, List, [], codes, None, Option, sym, subst, inl, inr}
use Rattle.clap.specs.Words.{App, Text, fault_of, first_value, found_of}
use Rattle.clap.specs.declared.parser.matches.ArgMatches.{ArgMatches}
use Rattle.rule_text.specs.CountRule.{CountRule}
use Rattle.plane.specs.declared.refusal.Refusal.{Refusal}
use Rattle.plane.specs.declared.refusal.Refusal.TheVariants.{WindowTooLarge}
use Rattle.run_options.specs.declared.options.RunOptions.{RunOptions}
use Rattle.program_parts.specs.Asking.{IsReasonOf}
use Rattle.program_parts.specs.CommandLine.{CommandLine, IsFit}
use Rattle.program_parts.specs.RunWords.{AreFitLimits, AreFitNumbers, AskForRun, GiveNumbers, IsUnfitNumber}
use Rattle.program_parts.specs.Texts.{AreMatchesIn, value_in}
use Rattle.program_parts.specs.Values.{IsAskedRule, IsFitNumber, IsRefusedRule}
use Rattle.program_parts.specs.declared.reason.WordsReason.{WordsReason}
use Rattle.program_parts.specs.declared.reason.WordsReason.TheVariants.{Refused}
use Rattle.program_parts.proofs.AskedWords.{text_by}

-- numbers of a run have limits that are fit
pub fit_limits : (form : App) (words : List Text) (run : RunOptions) → GiveNumbers form words run → AreFitLimits form words
fit_limits form words run numbers = (record { pairs = run.pairs; workers = run.workers }, record { pairs = numbers.pairs; workers = numbers.workers })

module _ (line : CommandLine) (words : List Text) (is_number : (text : Option Text) → line.IsFitGeneration text → IsFitNumber text) where
  -- values that are fit have the numbers of a run, where one of generations has to be there
  fit_numbers : IsFit line words → AreFitNumbers line.form words
  fit_numbers fit =
      let generation = is_number (value_in line.form (codes "generation") words) fit.generation in
      (record { gens = generation.0; rule = None; pairs = fit.limits.0.pairs; workers = fit.limits.0.workers }, record { gens = generation.1; pairs = fit.limits.1.pairs; workers = fit.limits.1.workers })

  -- a number of the run is not fit
  pub unfit_number : (reason : WordsReason) → fault_of line.form words ≡ [] → IsUnfitNumber line.form words reason → IsReasonOf line words reason
  unfit_number reason form (inl (is, unfit)) = subst (IsReasonOf line words) (sym is) (form, unfit)
  unfit_number reason form (inr (inl (is, unfit))) = subst (IsReasonOf line words) (sym is) (form, unfit)
  unfit_number reason form (inr (inr (is, unfit))) = subst (IsReasonOf line words) (sym is) (form, λ fit. unfit (fit_numbers fit))

module _ (line : CommandLine) (words : List Text) (matches : ArgMatches) (are : AreMatchesIn line.form words matches) (text : Option Text)
    (given : text ≡ first_value (found_of matches) (codes "rule")) where
  -- the rule that is given is refused, and the values are fit
  pub refused_by_rule : (refusal : Refusal) → IsRefusedRule text refusal → IsFit line words → IsReasonOf line words (Refused refusal)
  refused_by_rule refusal refused fit = inr (inl (record {
    form = are.0;
    fit = fit;
    rule = subst (λ (found : Option Text). IsRefusedRule found refusal) (given ∙ text_by line.form words matches are (codes "rule")) refused;
  }))

  -- the rule that is given is one, the window is refused, and the values are fit
  pub refused_by_window : (rule : Option CountRule) (window : Option Text) (refusal : Refusal) → IsAskedRule text rule → window ≡ first_value (found_of matches) (codes "window") →
      line.IsRefusedWindow window → refusal ≡ WindowTooLarge → IsFit line words → IsReasonOf line words (Refused refusal)
  refused_by_window rule window refusal asked window_given refused is fit = inr (inr (record {
    form = are.0;
    fit = fit;
    rule = (rule, subst (λ (found : Option Text). IsAskedRule found rule) (given ∙ text_by line.form words matches are (codes "rule")) asked);
    window = subst line.IsRefusedWindow (window_given ∙ text_by line.form words matches are (codes "window")) refused;
    is = is;
  }))

  -- the words ask for the run that has their numbers and this rule
  pub asked_run : (run : RunOptions) (rule : Option CountRule) → GiveNumbers line.form words run → IsAskedRule text rule → AskForRun line.form words (record run { rule = rule })
  asked_run run rule numbers asked = record {
    numbers = record { gens = numbers.gens; pairs = numbers.pairs; workers = numbers.workers };
    rule = subst (λ (found : Option Text). IsAskedRule found rule) (given ∙ text_by line.form words matches are (codes "rule")) asked;
  }
