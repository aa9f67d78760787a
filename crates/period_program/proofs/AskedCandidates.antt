-- The numbers of generations that words ask for, and why they ask for none.
use Rattle.std.proofs.Common.{◌≡◌, List, [], Option, None, Some, codes, sym, subst, inl, inr}
use Rattle.clap.specs.Words.{Text, fault_of}
use Rattle.period_search.specs.Candidates.{AreSome}
use Rattle.period_search.specs.declared.candidates.Candidates.{Candidates}
use Rattle.program_parts.specs.Asking.{IsReasonOf}
use Rattle.program_parts.specs.declared.reason.WordsReason.{WordsReason}
use Rattle.period_program.specs.CandidateTexts.{IsAskedCandidates, IsUnfitCandidates}
use Rattle.period_program.specs.CommandLine.{AskForCandidates, command_form, command_line, text_for}

-- some numbers are asked for
pub some_asked : (most multiple : Option Text) (candidates : Candidates) → IsAskedCandidates most multiple candidates → AreSome candidates
some_asked None None candidates is = subst AreSome (sym is) tt
some_asked (Some text) None candidates (most, count, is) = subst AreSome (sym is) tt
some_asked None (Some text) candidates (whole, count, is) = subst AreSome (sym is) count.some
some_asked (Some text) (Some other) candidates is = absurd is

module _ (words : List Text) (most multiple : Option Text) (first : most ≡ text_for (codes "most") words) (second : multiple ≡ text_for (codes "multiple") words) where
  pub asked_as : (candidates : Candidates) → IsAskedCandidates most multiple candidates → AskForCandidates words candidates
  asked_as candidates is =
      subst (λ (given : Option Text). IsAskedCandidates given (text_for (codes "multiple") words) candidates) first
      (subst (λ (given : Option Text). IsAskedCandidates most given candidates) second is)

  asked_back : (candidates : Candidates) → AskForCandidates words candidates → IsAskedCandidates most multiple candidates
  asked_back candidates asks =
      subst (λ (given : Option Text). IsAskedCandidates given multiple candidates) (sym first)
      (subst (λ (given : Option Text). IsAskedCandidates (text_for (codes "most") words) given candidates) (sym second) asks)

  pub unfit_candidates : (reason : WordsReason) → fault_of command_form words ≡ [] → IsUnfitCandidates most multiple reason → IsReasonOf command_line words reason
  unfit_candidates reason form (inl is, none) =
      subst (IsReasonOf command_line words) (sym is) (form, λ fit. none fit.options.0 (asked_back fit.options.0 fit.options.1))
  unfit_candidates reason form (inr (options, is), none) =
      subst (IsReasonOf command_line words) (sym is) (form, λ fit. none fit.0 (asked_back fit.0 fit.1))
