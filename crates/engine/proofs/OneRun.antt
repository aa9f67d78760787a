-- A run has one judgement and one ending.
use Rattle.std.proofs.Common.{◌≡◌, ℕ, ◌+◌, List, [], ◌∷◌, ◌++◌, length, Option, None, Some, Result, Ok, Err, refl, sym, ◌∙◌, ap, subst, inl, inr}
use Rattle.std.specs.List.{AllZip, concat}
use Rattle.rule_text.specs.CountRule.{CountRule}
use Rattle.rule_text.specs.declared.fault.RuleFault.{RuleFault}
use Rattle.rule_text.proofs.Readings.{one_reading}
use Rattle.plane.specs.Listing.{IsListing, plane_of}
use Rattle.plane.specs.Plane.{Plane, after}
use Rattle.plane.specs.declared.cell.Cell.{Cell}
use Rattle.plane.specs.declared.fault.Fault.{Fault}
use Rattle.plane.proofs.Uniqueness.{one_listing_lem}
use Rattle.pattern_files.specs.Meaning.{Meaning, judged}
use Rattle.run_options.specs.declared.options.RunOptions.{RunOptions}
use Rattle.engine.specs.Formats.{format_of}
use Rattle.engine.specs.declared.options.Format.{Format}
use Rattle.engine.specs.declared.options.Format.TheVariants.{Rle, Macrocell}
use Rattle.pattern_writers.specs.McText.{mc_text}
use Rattle.pattern_writers.proofs.WrittenReadBack.{one_smallest_level}
use Rattle.engine.specs.Judgement.{Start, IsStart, Judges, StaysInRange, RefusesRange, RefusesRule, ReadsRule, last_generation, rule_text_of}
use Rattle.engine.specs.Report.{AreLinesAfter, IsLineAfter, report_line, shown, window_text}
use Rattle.engine.specs.Run.{Finishes, IsReport}
use Rattle.engine.specs.RunOptions.{run_of}
use Rattle.engine.specs.declared.running.Summary.{Summary}
use Rattle.engine.specs.declared.options.Options.{Options}

-- ---- one judgement

-- a rule is read in one way
one_rule : (given : Option CountRule) (meaning : Meaning) (read other : Result CountRule RuleFault) → ReadsRule given meaning read → ReadsRule given meaning other → read ≡ other
one_rule (Some rule) meaning read other is is_other = is ∙ sym is_other
one_rule None meaning read other reads others = one_reading (rule_text_of meaning) read other reads others

module _ (bytes : List ℕ) (run : RunOptions) where
  one_meaning : (a b : Meaning) → judged bytes ≡ Ok a → judged bytes ≡ Ok b → a ≡ b
  one_meaning a b is_a is_b = cc

  -- a text is read as one rule or refused
  one_rule_reading : (a b : Meaning) (read other : Result CountRule RuleFault) → judged bytes ≡ Ok a → judged bytes ≡ Ok b → ReadsRule run.rule a read → ReadsRule run.rule b other → read ≡ other
  one_rule_reading a b read other is_a is_b reads others =
      one_rule run.rule b read other (subst (λ m. ReadsRule run.rule m read) (one_meaning a b is_a is_b) reads) others

  same_start : (a b : Start) → a.meaning ≡ b.meaning → a.rule ≡ b.rule → a.cells ≡ b.cells → a ≡ b
  same_start a b meaning rule cells =
      ap (λ m. record { meaning = m; rule = a.rule; cells = a.cells }) meaning
      ∙ ap (λ r. record { meaning = b.meaning; rule = r; cells = a.cells }) rule
      ∙ ap (λ c. record { meaning = b.meaning; rule = b.rule; cells = c }) cells

  one_start : (a b : Start) → IsStart bytes run a → IsStart bytes run b → a ≡ b
  one_start a b is_a is_b =
      let meaning = one_meaning a.meaning b.meaning is_a.text is_b.text in
      let rule : a.rule ≡ b.rule = let same = one_rule_reading a.meaning b.meaning (Ok a.rule) (Ok b.rule) is_a.text is_b.text is_a.rule is_b.rule in cc in
      let cells = one_listing_lem b.meaning.live a.cells b.cells (subst (λ m. IsListing a.cells m.live) meaning is_a.cells) is_b.cells in
      same_start a b meaning rule cells

  not_both : (start : Start) (fault : Fault) → Judges bytes run (Ok start) → Judges bytes run (Err fault) → ⊥
  not_both start fault accepted (inl text) = let is = accepted.0.text in cc
  not_both start fault accepted (inr (inl rule)) =
      let same = one_rule_reading start.meaning rule.meaning (Ok start.rule) (Err rule.rule_fault) accepted.0.text rule.text accepted.0.rule rule.rule in cc
  not_both start fault accepted (inr (inr range)) =
      range.outside (subst (StaysInRange run) (one_start start range.start accepted.0 range.accepted) accepted.1)

  one_rule_fault : (a b : Fault) → RefusesRule bytes run a → RefusesRule bytes run b → a ≡ b
  one_rule_fault a b refused other =
      let meaning = one_meaning refused.meaning other.meaning refused.text other.text in
      let fault : refused.rule_fault ≡ other.rule_fault =
      let same = one_rule_reading refused.meaning other.meaning (Err refused.rule_fault) (Err other.rule_fault) refused.text other.text refused.rule other.rule in cc in
      refused.is ∙ rw (meaning, fault) refl ∙ sym other.is

  not_rule_and_range : (a b : Fault) → RefusesRule bytes run a → RefusesRange bytes run b → ⊥
  not_rule_and_range a b rule range =
      let same = one_rule_reading range.start.meaning rule.meaning (Ok range.start.rule) (Err rule.rule_fault) range.accepted.text rule.text range.accepted.rule rule.rule in cc

  one_fault : (a b : Fault) → Judges bytes run (Err a) → Judges bytes run (Err b) → a ≡ b
  one_fault a b (inl text) (inl other) = cc
  one_fault a b (inl text) (inr (inl rule)) = let is = rule.text in cc
  one_fault a b (inl text) (inr (inr range)) = let is = range.accepted.text in cc
  one_fault a b (inr (inl rule)) (inl text) = let is = rule.text in cc
  one_fault a b (inr (inl rule)) (inr (inl other)) = one_rule_fault a b rule other
  one_fault a b (inr (inl rule)) (inr (inr range)) = absurd (not_rule_and_range a b rule range)
  one_fault a b (inr (inr range)) (inl text) = let is = range.accepted.text in cc
  one_fault a b (inr (inr range)) (inr (inl rule)) = absurd (not_rule_and_range b a rule range)
  one_fault a b (inr (inr range)) (inr (inr other)) = range.is ∙ sym other.is

pub one_judgement_lem : (bytes : List ℕ) (run : RunOptions) (a b : Result Start Fault) → Judges bytes run a → Judges bytes run b → a ≡ b
one_judgement_lem bytes run (Ok a) (Ok b) accepted other = ap Ok (one_start bytes run a b accepted.0 other.0)
one_judgement_lem bytes run (Ok a) (Err b) accepted refused = absurd (not_both bytes run a b accepted refused)
one_judgement_lem bytes run (Err a) (Ok b) refused accepted = absurd (not_both bytes run b a accepted refused)
one_judgement_lem bytes run (Err a) (Err b) refused other = ap Err (one_fault bytes run a b refused other)

-- ---- one ending

module _ (rule : CountRule) (plane : Plane) (start : ℕ) where
  one_line : (n : ℕ) (line other : List ℕ) → IsLineAfter rule plane start n line → IsLineAfter rule plane start n other → line ≡ other
  one_line n line other is is_other =
      is.2 ∙ ap (λ (cells : List Cell). report_line (start + n) (length cells)) (one_listing_lem (after rule plane n) is.0 is_other.0 is.1 is_other.1) ∙ sym is_other.2

  one_lines : (ns : List ℕ) (lines others : List (List ℕ)) → AllZip (IsLineAfter rule plane start) ns lines → AllZip (IsLineAfter rule plane start) ns others → lines ≡ others
  one_lines [] [] [] zipped other = refl
  one_lines [] [] (y ∷ ys) zipped other = absurd other
  one_lines [] (x ∷ xs) ys zipped other = absurd zipped
  one_lines (n ∷ ns) [] ys zipped other = absurd zipped
  one_lines (n ∷ ns) (x ∷ xs) [] zipped other = absurd other
  one_lines (n ∷ ns) (x ∷ xs) (y ∷ ys) zipped other =
      ap (λ line. line ∷ xs) (one_line n x y zipped.0 other.0) ∙ ap (λ lines. y ∷ lines) (one_lines ns xs ys zipped.1 other.1)

  one_text : (ns text other : List ℕ) → AreLinesAfter rule plane start ns text → AreLinesAfter rule plane start ns other → text ≡ other
  one_text ns text other shows also = shows.2 ∙ ap concat (one_lines ns shows.0 also.0 shows.1 also.1) ∙ sym also.2

one_report : (meaning : Meaning) (rule : CountRule) (options : Options) (said others : List ℕ) → IsReport meaning rule options said → IsReport meaning rule options others → said ≡ others
one_report meaning rule options said others is other =
    is.is
    ∙ ap (λ (lines : List ℕ). lines ++ window_text options.window (after rule meaning.live options.gens)) (one_text rule meaning.live meaning.generation (shown options) is.lines other.lines is.shows other.shows)
    ∙ sym other.is

-- cells have one text in a format
one_file_text : (format : Option Format) (comments : List (List ℕ)) (rule : CountRule) (generation : ℕ) (cells : List Cell) (a b : List ℕ) →
    (format_of format).IsText comments rule generation cells a → (format_of format).IsText comments rule generation cells b → a ≡ b
one_file_text None comments rule generation cells a b is other = is ∙ sym other
one_file_text (Some Rle) comments rule generation cells a b is other = is ∙ sym other
one_file_text (Some Macrocell) comments rule generation cells a b is other =
    is.is ∙ ap (λ (level : ℕ). mc_text comments rule generation level (plane_of cells)) (one_smallest_level (plane_of cells) is.level other.level is.smallest other.smallest) ∙ sym other.is

pub one_ending_lem : (start : Start) (options : Options) (a b : Summary) (said others written other : List ℕ) → Finishes start options a said written → Finishes start options b others other →
    (a ≡ b) × (said ≡ others) × (written ≡ other)
one_ending_lem start options a b said others written other finishes also =
    let cells = one_listing_lem (after start.rule start.meaning.live options.gens) finishes.cells also.cells finishes.last also.last in (
      finishes.summary ∙ rw cells refl ∙ sym also.summary,
      one_report start.meaning start.rule options said others finishes.report also.report,
      one_file_text options.format start.meaning.comments start.rule (last_generation start (run_of options)) also.cells written other
          (subst (λ (c : List Cell). (format_of options.format).IsText start.meaning.comments start.rule (last_generation start (run_of options)) c written) cells finishes.file) also.file,
    )
