-- The parts of a text, as they are found in it.
use Rattle.std.proofs.Common.{◌≡◌, ℕ, ◌==◌, cond, List, length, Option, Some, None, ap, sym, ◌∙◌}
use Rattle.std.specs.Option.{option_map_or}
use Rattle.std.proofs.lemmas.List.{length-map}
use Rattle.rule_text.specs.RuleText.{Written, capitals, trimmed_start}
use Rattle.rule_text.specs.RuleCut.{BothRuns, both_runs, neighbourhood_cut, parts_of, parts_after, digit_values}
use Rattle.rule_text.specs.declared.neighbourhood.Neighbourhood.{Neighbourhood}
use Rattle.rule_text.proofs.Capitals.{trimmed_capitals}
use Rattle.std.specs.Char.{to_ascii_uppercase}

-- the parts, if nothing but blanks is left
abbrev pub parts_before : BothRuns → Neighbourhood → List ℕ → Option Written
parts_before runs neighbourhood left =
    cond (length left == 0) (Some (record { neighbourhood = neighbourhood; birth = digit_values runs.birth; survival = digit_values runs.survival })) None

module _ (text front : List ℕ) (trimmed : front ≡ trimmed_start text) where
  -- the parts where these are the runs of digits, if there are any
  abbrev with_runs : Option BothRuns → Option Written
  with_runs found = option_map_or (λ runs. parts_after runs (neighbourhood_cut runs.rest)) found None

  of_front : parts_of (capitals text) ≡ with_runs (both_runs (capitals front))
  unfolding parts_of
  of_front = ap (λ text. with_runs (both_runs text)) (sym (trimmed_capitals text front trimmed))

  pub no_parts : None ≡ both_runs (capitals front) → parts_of (capitals text) ≡ None
  no_parts none = of_front ∙ ap with_runs (sym none)

  module _ (runs : BothRuns) (neighbourhood : Neighbourhood) (rest left : List ℕ) where
    pub parts_found : Some runs ≡ both_runs (capitals front) → (neighbourhood, capitals rest) ≡ neighbourhood_cut runs.rest → left ≡ trimmed_start rest → parts_of (capitals text) ≡ parts_before runs neighbourhood left
    parts_found found named last =
        let size : length (trimmed_start (capitals rest)) ≡ length left =
        ap length (sym (trimmed_capitals rest left last)) ∙ length-map left to_ascii_uppercase in
        of_front
        ∙ ap with_runs (sym found)
        ∙ ap (parts_after runs) (sym named)
        ∙ ap (λ n. cond (n == 0) (Some (record { neighbourhood = neighbourhood; birth = digit_values runs.birth; survival = digit_values runs.survival })) None) size
