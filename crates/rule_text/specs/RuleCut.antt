-- The parts of a text, in capitals, as they are found from its front on.
use Rattle.std.specs.Prelude.{ℕ, ◌-◌, ◌==◌, Bool, List, [], ◌∷◌, map, drop, length, take_while, if◌then◌else◌, Option, Some, None, unwrap_or, option_map}
use Rattle.std.specs.List.{prefix_len}
use Rattle.std.specs.Option.{option_map_or}
use Rattle.std.specs.Char.{is_ascii_digit}
use Rattle.rule_text.specs.RuleText.{Written, capitals, trimmed_start}
use Rattle.rule_text.specs.declared.neighbourhood.Neighbourhood.{Neighbourhood}
use Rattle.rule_text.specs.declared.neighbourhood.Neighbourhood.TheVariants.{Moore, VonNeumann, Hexagonal}
use Rattle.rule_text.specs.declared.parts.Runs.{Runs}
use Rattle.rule_text.specs.declared.parts.Body.{Body}
use Rattle.rule_text.specs.declared.parts.Parts.{Parts}

-- what is left after the bytes at the front that pass
abbrev pub after_all : (ℕ → Bool) → List ℕ → List ℕ
after_all p text = drop (prefix_len p text) text

-- what is left after this mark at the front, a slash or a capital
abbrev pub after_mark : ℕ → List ℕ → Option (List ℕ)
after_mark mark [] = None
after_mark mark (first ∷ rest) = if first == mark then Some rest else None

-- two runs of digits, and what is left after them
pub record TwoRuns : Type 0 where
  pub first : List ℕ
  pub second : List ℕ
  pub rest : List ℕ

-- a run of digits, and another at the front of what comes after it
abbrev pub two_runs : List ℕ → List ℕ → TwoRuns
two_runs first text = record {
  first = first;
  second = take_while is_ascii_digit text;
  rest = after_all is_ascii_digit text;
}

-- two runs of digits with a slash between them
unfoldable pub runs_round_slash : List ℕ → Option TwoRuns
runs_round_slash text =
    option_map (two_runs (take_while is_ascii_digit text))
    (after_mark 47 (after_all is_ascii_digit text))

-- two runs of digits with a letter between them, before which a slash may stand
unfoldable pub runs_round_letter : ℕ → List ℕ → Option TwoRuns
runs_round_letter letter text =
    let gap = after_all is_ascii_digit text in
    option_map (two_runs (take_while is_ascii_digit text))
    (after_mark letter (unwrap_or (after_mark 47 gap) gap))

-- runs of digits of birth and of survival, and what is left after them
pub record BothRuns : Type 0 where
  pub birth : List ℕ
  pub survival : List ℕ
  pub rest : List ℕ

abbrev pub birth_first : TwoRuns → BothRuns
birth_first runs = record { birth = runs.first; survival = runs.second; rest = runs.rest }

abbrev pub survival_first : TwoRuns → BothRuns
survival_first runs = record { birth = runs.second; survival = runs.first; rest = runs.rest }

-- by the first letter, if there is one
unfoldable pub both_runs : List ℕ → Option BothRuns
both_runs text =
    option_map_or (λ rest. option_map birth_first (runs_round_letter 83 rest)) (after_mark 66 text)
    (option_map_or (λ rest. option_map survival_first (runs_round_letter 66 rest))
    (after_mark 83 text)
    (option_map survival_first (runs_round_slash text)))

-- the neighbourhood by the letter at the front, and what is left after it
unfoldable pub neighbourhood_cut : List ℕ → Neighbourhood × List ℕ
neighbourhood_cut text =
    option_map_or (λ rest. (Moore, rest)) (after_mark 77 text)
    (option_map_or (λ rest. (VonNeumann, rest)) (after_mark 86 text)
    (option_map_or (λ rest. (Hexagonal, rest)) (after_mark 72 text) (Moore, text)))

-- digits as numbers
abbrev pub digit_values : List ℕ → List ℕ
digit_values bytes = map (λ byte. byte - 48) bytes

abbrev pub parts_after : BothRuns → Neighbourhood × List ℕ → Option Written
parts_after runs cut =
    if length (trimmed_start cut.1) == 0
    then Some
    (record { neighbourhood = cut.0; birth = digit_values runs.birth; survival = digit_values runs.survival })
    else None

-- all of the text: blanks, the runs of digits, a letter for the neighbourhood, blanks
unfoldable pub parts_of : List ℕ → Option Written
parts_of text =
    option_map_or (λ runs. parts_after runs (neighbourhood_cut runs.rest))
    (both_runs (trimmed_start text)) None

-- what the functions of the code give, with what is left in capitals
abbrev pub seen_runs : Runs → TwoRuns
seen_runs runs = record {
  first = runs.first.now;
  second = runs.second.now;
  rest = capitals runs.rest.now;
}

abbrev pub seen_body : Body → BothRuns
seen_body found = record {
  birth = found.birth.now;
  survival = found.survival.now;
  rest = capitals found.rest.now;
}

abbrev pub seen_parts : Parts → Written
seen_parts parts = record {
  neighbourhood = parts.neighbourhood;
  birth = digit_values parts.birth.now;
  survival = digit_values parts.survival.now;
}
