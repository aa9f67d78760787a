-- What is found in a text is what it spells.
use Rattle.std.proofs.Common.{◌≡◌, ℕ, ◌<◌, ◌+◌, ◌==◌, ◌⊎◌, codes, Bool, true, List, [], ◌∷◌, ◌++◌, length, Option, option_map, unwrap_or, Some, None, refl, ap, sym, ◌∙◌, inl, inr, append_assoc, append-nil, arith, subst, ◌-◌}
use Rattle.std.specs.Option.{option_map_or}
use Rattle.std.specs.Char.{is_ascii_digit}
use Rattle.std.specs.List.{All, AllPass, AllByRecursion, take_while, prefix_len}
use Rattle.std.proofs.lemmas.Bool.{eqb-true, cases_Bool}
use Rattle.std.proofs.lemmas.Bool.Decides.{nat_tests}
use Rattle.std.proofs.lemmas.List.{take-append-drop}
use Rattle.std.proofs.lemmas.List.Sums.{take_while-cons}
use Rattle.std.proofs.lemmas.List.Elements.{All-from_recursion, recursion_from_All, All-weaker, All-map}
use Rattle.rule_text.specs.RuleText.{Form, Names, Spells, Written, body, capitals, digit_text, is_blank, trimmed_start}
use Rattle.rule_text.specs.RuleText.Form.{BirthSlashSurvival, SurvivalSlashBirth, BirthSurvival, SurvivalBirth, DigitsAlone}
use Rattle.rule_text.specs.RuleCut.{TwoRuns, BothRuns, two_runs, birth_first, survival_first, runs_round_slash, runs_round_letter, both_runs, neighbourhood_cut, parts_of, parts_after, after_all, after_mark, digit_values}
use Rattle.rule_text.proofs.Fronts.{trimmed_start-is}
use Rattle.rule_text.specs.declared.neighbourhood.Neighbourhood.{Neighbourhood}
use Rattle.rule_text.specs.declared.neighbourhood.Neighbourhood.TheVariants.{Moore, VonNeumann, Hexagonal}

-- a text is its front that passes and the rest
front_and_rest : (p : ℕ → Bool) (text : List ℕ) → text ≡ take_while p text ++ after_all p text
front_and_rest p text = sym (take-append-drop (prefix_len p text) text)

front_passes : (p : ℕ → Bool) (text : List ℕ) → AllByRecursion (λ x. p x ≡ true) (take_while p text)
front_passes p [] = tt
front_passes p (x ∷ xs) =
    elim (cases_Bool (p x)) [
      | inl pass ↦ rw (take_while-cons p x xs, pass) (pass, front_passes p xs)
      | inr other ↦ rw (take_while-cons p x xs, other) tt
    ]

take_while-pass : (p : ℕ → Bool) (text : List ℕ) → AllPass p (take_while p text)
take_while-pass p text = All-from_recursion (λ x. p x ≡ true) (take_while p text) (front_passes p text)

after_mark-some : (byte : ℕ) (text rest : List ℕ) → after_mark byte text ≡ Some rest → text ≡ byte ∷ rest
after_mark-some byte [] rest found = cc
after_mark-some byte (x ∷ xs) rest found =
    elim (cases_Bool (x == byte)) [
      | inl same ↦ let e : x ≡ byte = eqb-true x byte same in let k = rw same at found in cc
      | inr other ↦ let k = rw other at found in cc
    ]

-- two runs of digits with a gap between them, and the rest
record Round (gap text : List ℕ) (runs : TwoRuns) : Type 0 where
  whole : text ≡ runs.first ++ (gap ++ (runs.second ++ runs.rest))
  first : AllPass is_ascii_digit runs.first
  second : AllPass is_ascii_digit runs.second

two_runs-round : (text gap after : List ℕ) → after_all is_ascii_digit text ≡ gap ++ after → Round gap text (two_runs (take_while is_ascii_digit text) after)
two_runs-round text gap after rest =
    let front = take_while is_ascii_digit text in
    record {
      whole =
          front_and_rest is_ascii_digit text
          ∙ ap (λ x. front ++ x) rest
          ∙ ap (λ x. front ++ (gap ++ x)) (front_and_rest is_ascii_digit after);
      first = take_while-pass is_ascii_digit text;
      second = take_while-pass is_ascii_digit after;
    }

joined : (text gap : List ℕ) (o : Option (List ℕ)) (runs : TwoRuns) → ((after : List ℕ) → o ≡ Some after → after_all is_ascii_digit text ≡ gap ++ after) → option_map (two_runs (take_while is_ascii_digit text)) o ≡ Some runs → Round gap text runs
joined text gap None runs cut found = cc
joined text gap (Some after) runs cut found =
    let same : two_runs (take_while is_ascii_digit text) after ≡ runs = cc in
    rw (← same) (two_runs-round text gap after (cut after refl))

runs_round_slash-found : (text : List ℕ) (runs : TwoRuns) → runs_round_slash text ≡ Some runs → Round (codes "/") text runs
unfolding runs_round_slash
runs_round_slash-found text runs found =
    joined text (codes "/") (after_mark 47 (after_all is_ascii_digit text)) runs (λ after is. after_mark-some 47 (after_all is_ascii_digit text) after is) found

letter_cases : (letter : ℕ) (text : List ℕ) (runs : TwoRuns) (o : Option (List ℕ)) → after_mark 47 (after_all is_ascii_digit text) ≡ o → option_map (two_runs (take_while is_ascii_digit text)) (after_mark letter (unwrap_or o (after_all is_ascii_digit text))) ≡ Some runs → Round (47 ∷ letter ∷ []) text runs ⊎ Round (letter ∷ []) text runs
letter_cases letter text runs None slash found =
    inr (joined text (letter ∷ []) (after_mark letter (after_all is_ascii_digit text)) runs (λ after is. after_mark-some letter (after_all is_ascii_digit text) after is) found)
letter_cases letter text runs (Some gap) slash found =
    inl (joined text (47 ∷ letter ∷ []) (after_mark letter gap) runs
    (λ after is. after_mark-some 47 (after_all is_ascii_digit text) gap slash ∙ ap (λ x. 47 ∷ x) (after_mark-some letter gap after is)) found)

-- with a slash before the letter, or without
runs_round_letter-found : (letter : ℕ) (text : List ℕ) (runs : TwoRuns) → runs_round_letter letter text ≡ Some runs → Round (47 ∷ letter ∷ []) text runs ⊎ Round (letter ∷ []) text runs
unfolding runs_round_letter
runs_round_letter-found letter text runs found =
    let gap = after_all is_ascii_digit text in
    letter_cases letter text runs (after_mark 47 gap) refl found

digit_back : (byte : ℕ) → is_ascii_digit byte ≡ true → (byte - 48) + 48 ≡ byte
digit_back byte digit = grind (arith, nat_tests)

digit_text-back : (bytes : List ℕ) → AllByRecursion (λ byte. is_ascii_digit byte ≡ true) bytes → digit_text (digit_values bytes) ≡ bytes
digit_text-back [] pass = refl
digit_text-back (b ∷ bs) pass =
    ap (λ x. x ∷ digit_text (digit_values bs)) (digit_back b pass.0) ∙ ap (λ xs. b ∷ xs) (digit_text-back bs pass.1)

digit_text-digit_values : (bytes : List ℕ) → AllPass is_ascii_digit bytes → digit_text (digit_values bytes) ≡ bytes
digit_text-digit_values bytes pass = digit_text-back bytes (recursion_from_All _ bytes pass)

digit_small : (byte : ℕ) → is_ascii_digit byte ≡ true → byte - 48 < 10
digit_small byte digit = grind (arith, nat_tests)

-- what a run of digits says is digits
digit_values-small : (bytes : List ℕ) → AllPass is_ascii_digit bytes → All (λ digit. digit < 10) (digit_values bytes)
digit_values-small bytes pass =
    All-map (λ digit. digit < 10) (λ byte. byte - 48) bytes
    (All-weaker (λ byte. is_ascii_digit byte ≡ true) (λ byte. byte - 48 < 10) digit_small bytes pass)

-- runs of digits in some form, and the rest
record InForm (text : List ℕ) (runs : BothRuns) : Type 0 where
  form : Form
  whole : text ≡ body form (digit_values runs.birth) (digit_values runs.survival) ++ runs.rest
  birth : AllPass is_ascii_digit runs.birth
  survival : AllPass is_ascii_digit runs.survival

regroup : (xs ys zs rest : List ℕ) → xs ++ (ys ++ (zs ++ rest)) ≡ xs ++ ys ++ zs ++ rest
regroup xs ys zs rest = simp append_assoc

-- the runs in the words of a form
in_words : (gap text : List ℕ) (runs : TwoRuns) → Round gap text runs → text ≡ digit_text (digit_values runs.first) ++ gap ++ digit_text (digit_values runs.second) ++ runs.rest
in_words gap text runs round =
    round.whole
    ∙ regroup runs.first gap runs.second runs.rest
    ∙ ap (λ x. x ++ gap ++ runs.second ++ runs.rest) (sym (digit_text-digit_values runs.first round.first))
    ∙ ap (λ x. digit_text (digit_values runs.first) ++ gap ++ x ++ runs.rest) (sym (digit_text-digit_values runs.second round.second))

birth_letter : (text : List ℕ) (runs : TwoRuns) → Round (codes "/S") text runs ⊎ Round (codes "S") text runs → InForm (66 ∷ text) (birth_first runs)
birth_letter text runs (inl round) =
    record { form = BirthSlashSurvival; whole = ap (λ x. 66 ∷ x) (in_words (codes "/S") text runs round); birth = round.first; survival = round.second }
birth_letter text runs (inr round) =
    record { form = BirthSurvival; whole = ap (λ x. 66 ∷ x) (in_words (codes "S") text runs round); birth = round.first; survival = round.second }

survival_letter : (text : List ℕ) (runs : TwoRuns) → Round (codes "/B") text runs ⊎ Round (codes "B") text runs → InForm (83 ∷ text) (survival_first runs)
survival_letter text runs (inl round) =
    record { form = SurvivalSlashBirth; whole = ap (λ x. 83 ∷ x) (in_words (codes "/B") text runs round); birth = round.second; survival = round.first }
survival_letter text runs (inr round) =
    record { form = SurvivalBirth; whole = ap (λ x. 83 ∷ x) (in_words (codes "B") text runs round); birth = round.second; survival = round.first }

no_letter : (text : List ℕ) (runs : TwoRuns) → Round (codes "/") text runs → InForm text (survival_first runs)
no_letter text runs round =
    record { form = DigitsAlone; whole = in_words (codes "/") text runs round; birth = round.second; survival = round.first }

-- what is mapped to a value is a value
option_map-some : {A B : Type 0} (f : A → B) (o : Option A) (y : B) → option_map f o ≡ Some y → (x : A) × (o ≡ Some x) × (f x ≡ y)
option_map-some f None y is = absurd cc
option_map-some f (Some x) y is = (x, refl, cc)

at_birth : (rest : List ℕ) (runs : BothRuns) → option_map birth_first (runs_round_letter 83 rest) ≡ Some runs → InForm (66 ∷ rest) runs
at_birth rest runs found =
    let two = option_map-some birth_first (runs_round_letter 83 rest) runs found in
    subst (InForm (66 ∷ rest)) two.2 (birth_letter rest two.0 (runs_round_letter-found 83 rest two.0 two.1))

at_survival : (rest : List ℕ) (runs : BothRuns) → option_map survival_first (runs_round_letter 66 rest) ≡ Some runs → InForm (83 ∷ rest) runs
at_survival rest runs found =
    let two = option_map-some survival_first (runs_round_letter 66 rest) runs found in
    subst (InForm (83 ∷ rest)) two.2 (survival_letter rest two.0 (runs_round_letter-found 66 rest two.0 two.1))

at_digits : (text : List ℕ) (runs : BothRuns) → option_map survival_first (runs_round_slash text) ≡ Some runs → InForm text runs
at_digits text runs found =
    let two = option_map-some survival_first (runs_round_slash text) runs found in
    subst (InForm text) two.2 (no_letter text two.0 (runs_round_slash-found text two.0 two.1))

by_letter : (text : List ℕ) (runs : BothRuns) (b s : Option (List ℕ)) → after_mark 66 text ≡ b → after_mark 83 text ≡ s → option_map_or (λ rest. option_map birth_first (runs_round_letter 83 rest)) b (option_map_or (λ rest. option_map survival_first (runs_round_letter 66 rest)) s (option_map survival_first (runs_round_slash text))) ≡ Some runs → InForm text runs
by_letter text runs (Some rest) s first second found = rw (after_mark-some 66 text rest first) (at_birth rest runs found)
by_letter text runs None (Some rest) first second found = rw (after_mark-some 83 text rest second) (at_survival rest runs found)
by_letter text runs None None first second found = at_digits text runs found

both_runs-found : (text : List ℕ) (runs : BothRuns) → both_runs text ≡ Some runs → InForm text runs
unfolding both_runs
both_runs-found text runs found = by_letter text runs (after_mark 66 text) (after_mark 83 text) refl refl found

-- a letter for the neighbourhood, and the rest
record Named (text : List ℕ) (cut : Neighbourhood × List ℕ) : Type 0 where
  letter : List ℕ
  names : Names letter cut.0
  whole : text ≡ letter ++ cut.1

by_name : (text : List ℕ) (m v h : Option (List ℕ)) → after_mark 77 text ≡ m → after_mark 86 text ≡ v → after_mark 72 text ≡ h → Named text (option_map_or (λ rest. (Moore, rest)) m (option_map_or (λ rest. (VonNeumann, rest)) v (option_map_or (λ rest. (Hexagonal, rest)) h (Moore, text))))
by_name text (Some rest) v h m_is v_is h_is = record { letter = codes "M"; names = inr refl; whole = after_mark-some 77 text rest m_is }
by_name text None (Some rest) h m_is v_is h_is = record { letter = codes "V"; names = refl; whole = after_mark-some 86 text rest v_is }
by_name text None None (Some rest) m_is v_is h_is = record { letter = codes "H"; names = refl; whole = after_mark-some 72 text rest h_is }
by_name text None None None m_is v_is h_is = record { letter = []; names = inl refl; whole = refl }

neighbourhood_cut-named : (text : List ℕ) → Named text (neighbourhood_cut text)
unfolding neighbourhood_cut
neighbourhood_cut-named text = by_name text (after_mark 77 text) (after_mark 86 text) (after_mark 72 text) refl refl refl

no_length : (xs : List ℕ) → length xs ≡ 0 → xs ≡ []
no_length [] none = refl
no_length (x ∷ xs) none = absurd (omega arith)

-- a text is the blanks at its front and what is left without them
blanks_and_rest : (text : List ℕ) → text ≡ take_while is_blank text ++ trimmed_start text
blanks_and_rest text = front_and_rest is_blank text ∙ ap (λ x. take_while is_blank text ++ x) (sym (trimmed_start-is text))

only_blanks : (text : List ℕ) → length (trimmed_start text) ≡ 0 → AllPass is_blank text
only_blanks text none =
    let same : take_while is_blank text ≡ text =
    sym (append-nil (take_while is_blank text)) ∙ ap (λ x. take_while is_blank text ++ x) (sym (no_length (trimmed_start text) none)) ∙ sym (blanks_and_rest text)
    in
    subst (AllPass is_blank) same (take_while-pass is_blank text)

parts_after-some : (runs : BothRuns) (cut : Neighbourhood × List ℕ) (written : Written) → parts_after runs cut ≡ Some written → (length (trimmed_start cut.1) ≡ 0) × (written ≡ record { neighbourhood = cut.0; birth = digit_values runs.birth; survival = digit_values runs.survival })
parts_after-some runs cut written found =
    elim (cases_Bool (length (trimmed_start cut.1) == 0)) [
      | inl none ↦ (eqb-true _ 0 none, sym (let k = rw none at found in cc))
      | inr some ↦ let k = rw some at found in absurd cc
    ]

runs_after : (text : List ℕ) (written : Written) (runs : Option BothRuns) → option_map_or (λ runs. parts_after runs (neighbourhood_cut runs.rest)) runs None ≡ Some written → (found : BothRuns) × (runs ≡ Some found) × (parts_after found (neighbourhood_cut found.rest) ≡ Some written)
runs_after text written None found = absurd cc
runs_after text written (Some runs) found = (runs, refl, found)

-- the parts that are found, as what is spelled
spells_parts : (text : List ℕ) (runs : BothRuns) → InForm (trimmed_start (capitals text)) runs → Named runs.rest (neighbourhood_cut runs.rest) → AllPass is_blank (neighbourhood_cut runs.rest).1 → Spells text (record { neighbourhood = (neighbourhood_cut runs.rest).0; birth = digit_values runs.birth; survival = digit_values runs.survival })
spells_parts text runs form named blank =
    let before = take_while is_blank (capitals text) in
    let b = digit_values runs.birth in
    let s = digit_values runs.survival in
    record {
      before = before;
      form = form.form;
      letter = named.letter;
      after = (neighbourhood_cut runs.rest).1;
      spelled =
          blanks_and_rest (capitals text)
          ∙ ap (λ x. before ++ x) (form.whole ∙ ap (λ x. body form.form b s ++ x) named.whole)
          ∙ regroup before (body form.form b s) named.letter (neighbourhood_cut runs.rest).1;
      names = named.names;
      blank_before = take_while-pass is_blank (capitals text);
      blank_after = blank;
      birth_digits = digit_values-small runs.birth form.birth;
      survival_digits = digit_values-small runs.survival form.survival;
    }

-- what is found in a text is spelled by it
pub parts_of-found : (text : List ℕ) (written : Written) → parts_of (capitals text) ≡ Some written → Spells text written
unfolding parts_of
parts_of-found text written found =
    let runs = runs_after text written (both_runs (trimmed_start (capitals text))) found in
    let parts = parts_after-some runs.0 (neighbourhood_cut runs.0.rest) written runs.2 in
    rw parts.1
    (spells_parts text runs.0 (both_runs-found (trimmed_start (capitals text)) runs.0 runs.1) (neighbourhood_cut-named runs.0.rest) (only_blanks (neighbourhood_cut runs.0.rest).1 parts.0))
