-- What a text spells is what is found in it.
use Rattle.std.proofs.Common.{◌≡◌, ℕ, ◌<◌, ◌≤◌, codes, ◌==◌, true, false, List, [], ◌∷◌, ◌++◌, Option, option_map, Some, refl, ap, sym, ◌∙◌, inl, inr, append_assoc, append-nil, arith, ◌+◌}
use Rattle.std.specs.Char.{is_ascii_digit}
use Rattle.std.specs.List.{All, AllPass}
use Rattle.std.proofs.lemmas.Bool.{ne_eqb}
use Rattle.std.proofs.lemmas.Bool.Decides.{nat_tests}
use Rattle.std.proofs.lemmas.List.Elements.{All-head}
use Rattle.rule_text.specs.RuleText.{Form, Names, Spells, Written, body, capitals, digit_text, is_blank, trimmed_start}
use Rattle.rule_text.specs.RuleText.Form.{BirthSlashSurvival, SurvivalSlashBirth, BirthSurvival, SurvivalBirth, DigitsAlone}
use Rattle.rule_text.specs.RuleCut.{TwoRuns, two_runs, birth_first, survival_first, runs_round_slash, runs_round_letter, both_runs, neighbourhood_cut, parts_of}
use Rattle.rule_text.specs.declared.neighbourhood.Neighbourhood.{Neighbourhood}
use Rattle.rule_text.specs.declared.neighbourhood.Neighbourhood.TheVariants.{Moore, VonNeumann, Hexagonal}
use Rattle.rule_text.proofs.Fronts.{Stops, take_while-append_stop, after_all-append_stop, trimmed_start-append_stop, digit_text-pass, digit_values-digit_text}

abbrev AreDigits : List ℕ → Type 0
AreDigits digits = All (λ digit. digit < 10) digits

two_runs-digits : (first : List ℕ) (second rest : List ℕ) → AreDigits second → Stops is_ascii_digit rest → two_runs first (digit_text second ++ rest) ≡ record { first = first; second = digit_text second; rest = rest }
two_runs-digits first second rest small stops =
    rw (take_while-append_stop is_ascii_digit (digit_text second) rest (digit_text-pass second small) stops, after_all-append_stop is_ascii_digit (digit_text second) rest (digit_text-pass second small) stops) refl

module _ (first second rest : List ℕ) (first_small : AreDigits first) (second_small : AreDigits second) (stops : Stops is_ascii_digit rest) where
  abbrev found : Option TwoRuns
  found = Some (record { first = digit_text first; second = digit_text second; rest = rest })

  runs_round_slash-spelled : runs_round_slash (digit_text first ++ (47 ∷ (digit_text second ++ rest))) ≡ found
  unfolding runs_round_slash
  runs_round_slash-spelled =
      rw (take_while-append_stop is_ascii_digit (digit_text first) (47 ∷ (digit_text second ++ rest)) (digit_text-pass first first_small) refl, after_all-append_stop is_ascii_digit (digit_text first) (47 ∷ (digit_text second ++ rest)) (digit_text-pass first first_small) refl)
      (ap Some (two_runs-digits (digit_text first) second rest second_small stops))

  -- a letter with a slash before it, and without
  runs_round_letter-slash : (letter : ℕ) → (letter == letter) ≡ true → runs_round_letter letter (digit_text first ++ (47 ∷ letter ∷ (digit_text second ++ rest))) ≡ found
  unfolding runs_round_letter
  runs_round_letter-slash letter same =
      rw (take_while-append_stop is_ascii_digit (digit_text first) (47 ∷ letter ∷ (digit_text second ++ rest)) (digit_text-pass first first_small) refl, after_all-append_stop is_ascii_digit (digit_text first) (47 ∷ letter ∷ (digit_text second ++ rest)) (digit_text-pass first first_small) refl, same)
      (ap Some (two_runs-digits (digit_text first) second rest second_small stops))

  runs_round_letter-alone : (letter : ℕ) → is_ascii_digit letter ≡ false → (letter == 47) ≡ false → (letter == letter) ≡ true → runs_round_letter letter (digit_text first ++ (letter ∷ (digit_text second ++ rest))) ≡ found
  unfolding runs_round_letter
  runs_round_letter-alone letter other no_slash same =
      rw (take_while-append_stop is_ascii_digit (digit_text first) (letter ∷ (digit_text second ++ rest)) (digit_text-pass first first_small) other, after_all-append_stop is_ascii_digit (digit_text first) (letter ∷ (digit_text second ++ rest)) (digit_text-pass first first_small) other, no_slash, same)
      (ap Some (two_runs-digits (digit_text first) second rest second_small stops))

-- a digit is not a letter
digits_alone : (digits rest : List ℕ) → AreDigits digits → both_runs (digit_text digits ++ (47 ∷ rest)) ≡ option_map survival_first (runs_round_slash (digit_text digits ++ (47 ∷ rest)))
unfolding both_runs
digits_alone [] rest small = refl
digits_alone (d ∷ ds) rest small =
    let below : d < 10 = All-head (λ digit. digit < 10) d ds small in
    let no_b : (d + 48 == 66) ≡ false = ne_eqb _ _ (λ e. omega arith) in
    let no_s : (d + 48 == 83) ≡ false = ne_eqb _ _ (λ e. omega arith) in
    rw (no_b, no_s) refl

regroup : (xs ys zs rest : List ℕ) → xs ++ ys ++ zs ++ rest ≡ xs ++ (ys ++ (zs ++ rest))
regroup xs ys zs rest = simp append_assoc

both_runs-spelled : (form : Form) (birth survival rest : List ℕ) → AreDigits birth → AreDigits survival → Stops is_ascii_digit rest → both_runs (body form birth survival ++ rest) ≡ Some (record { birth = digit_text birth; survival = digit_text survival; rest = rest })
unfolding both_runs
both_runs-spelled BirthSlashSurvival b s rest bd sd stops =
    ap (λ text. option_map birth_first (runs_round_letter 83 text)) (regroup (digit_text b) (codes "/S") (digit_text s) rest)
    ∙ ap (option_map birth_first) (runs_round_letter-slash b s rest bd sd stops 83 refl)
both_runs-spelled SurvivalSlashBirth b s rest bd sd stops =
    ap (λ text. option_map survival_first (runs_round_letter 66 text)) (regroup (digit_text s) (codes "/B") (digit_text b) rest)
    ∙ ap (option_map survival_first) (runs_round_letter-slash s b rest sd bd stops 66 refl)
both_runs-spelled BirthSurvival b s rest bd sd stops =
    ap (λ text. option_map birth_first (runs_round_letter 83 text)) (regroup (digit_text b) (codes "S") (digit_text s) rest)
    ∙ ap (option_map birth_first) (runs_round_letter-alone b s rest bd sd stops 83 refl refl refl)
both_runs-spelled SurvivalBirth b s rest bd sd stops =
    ap (λ text. option_map survival_first (runs_round_letter 66 text)) (regroup (digit_text s) (codes "B") (digit_text b) rest)
    ∙ ap (option_map survival_first) (runs_round_letter-alone s b rest sd bd stops 66 refl refl refl)
both_runs-spelled DigitsAlone b s rest bd sd stops =
    ap both_runs (regroup (digit_text s) (codes "/") (digit_text b) rest)
    ∙ digits_alone s (digit_text b ++ rest) sd
    ∙ ap (option_map survival_first) (runs_round_slash-spelled s b rest sd bd stops)

-- the letter of a neighbourhood and blanks after it
blank_no_letter : (byte letter : ℕ) → is_blank byte ≡ true → 33 ≤ letter → (byte == letter) ≡ false
blank_no_letter byte letter blank above = grind (arith, nat_tests)

cut-blanks : (after : List ℕ) → AllPass is_blank after → neighbourhood_cut after ≡ (Moore, after)
unfolding neighbourhood_cut
cut-blanks [] blank = refl
cut-blanks (b ∷ bs) blank =
    let head : is_blank b ≡ true = All-head (λ byte. is_blank byte ≡ true) b bs blank in
    rw (blank_no_letter b 77 head (omega arith), blank_no_letter b 86 head (omega arith), blank_no_letter b 72 head (omega arith)) refl

neighbourhood_cut-spelled : (neighbourhood : Neighbourhood) (letter after : List ℕ) → Names letter neighbourhood → AllPass is_blank after → neighbourhood_cut (letter ++ after) ≡ (neighbourhood, after)
unfolding neighbourhood_cut
neighbourhood_cut-spelled Moore letter after (inl none) blank = ap (λ front. neighbourhood_cut (front ++ after)) none ∙ cut-blanks after blank
neighbourhood_cut-spelled Moore letter after (inr m) blank = ap (λ front. neighbourhood_cut (front ++ after)) m
neighbourhood_cut-spelled VonNeumann letter after v blank = ap (λ front. neighbourhood_cut (front ++ after)) v
neighbourhood_cut-spelled Hexagonal letter after h blank = ap (λ front. neighbourhood_cut (front ++ after)) h

blank_no_digit : (byte : ℕ) → is_blank byte ≡ true → is_ascii_digit byte ≡ false
blank_no_digit byte blank = grind (arith, nat_tests)

-- nothing that follows the digits goes on with them
blanks_stop : (after : List ℕ) → AllPass is_blank after → Stops is_ascii_digit after
blanks_stop [] blank = tt
blanks_stop (b ∷ bs) blank =
    let head : is_blank b ≡ true = All-head (λ byte. is_blank byte ≡ true) b bs blank in
    blank_no_digit b head

tail_stops : (neighbourhood : Neighbourhood) (letter after : List ℕ) → Names letter neighbourhood → AllPass is_blank after → Stops is_ascii_digit (letter ++ after)
tail_stops Moore letter after (inl none) blank = rw none (blanks_stop after blank)
tail_stops Moore letter after (inr m) blank = rw m refl
tail_stops VonNeumann letter after v blank = rw v refl
tail_stops Hexagonal letter after h blank = rw h refl

digit_no_blank : (digit : ℕ) → digit < 10 → is_blank (digit + 48) ≡ false
digit_no_blank digit below = grind (arith, nat_tests)

-- a form begins with no blank
form_stops : (form : Form) (birth survival rest : List ℕ) → AreDigits survival → Stops is_blank (body form birth survival ++ rest)
form_stops BirthSlashSurvival b s rest sd = refl
form_stops SurvivalSlashBirth b s rest sd = refl
form_stops BirthSurvival b s rest sd = refl
form_stops SurvivalBirth b s rest sd = refl
form_stops DigitsAlone b [] rest sd = refl
form_stops DigitsAlone b (d ∷ ds) rest sd = digit_no_blank d (All-head (λ digit. digit < 10) d ds sd)

all_blank : (after : List ℕ) → AllPass is_blank after → trimmed_start after ≡ []
all_blank after blank = ap trimmed_start (sym (append-nil after)) ∙ trimmed_start-append_stop after [] blank tt

-- what a text spells is found in it
pub parts_of-spelled : (text : List ℕ) (written : Written) → Spells text written → parts_of (capitals text) ≡ Some written
unfolding parts_of
parts_of-spelled text written spells =
    let b = written.birth in
    let s = written.survival in
    let tail = spells.letter ++ spells.after in
    let stops : Stops is_ascii_digit tail = tail_stops written.neighbourhood spells.letter spells.after spells.names spells.blank_after in
    let whole : capitals text ≡ spells.before ++ (body spells.form b s ++ tail) =
    spells.spelled ∙ regroup spells.before (body spells.form b s) spells.letter spells.after in
    let inner : trimmed_start (capitals text) ≡ body spells.form b s ++ tail =
    ap trimmed_start whole
    ∙ trimmed_start-append_stop spells.before (body spells.form b s ++ tail) spells.blank_before (form_stops spells.form b s tail spells.survival_digits) in
    rw (inner, both_runs-spelled spells.form b s tail spells.birth_digits spells.survival_digits stops, neighbourhood_cut-spelled written.neighbourhood spells.letter spells.after spells.names spells.blank_after, all_blank spells.after spells.blank_after, digit_values-digit_text b, digit_values-digit_text s) refl
