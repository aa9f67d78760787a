-- A run that was cut goes on, from the file of its first part.
use Rattle.std.proofs.Common.{◌≡◌, ℕ, ◌+◌, ◌<◌, ◌≤◌, ◌^◌, List, [], ◌++◌, length, codes, Option, None, Some, IfSome, Ok, refl, sym, ◌∙◌, ap, subst, arith}
use Rattle.std.specs.List.{AllByRecursion}
use Rattle.std.specs.Option.{unwrap_or}
use Rattle.rule_text.specs.CountRule.{CountRule, IsRule}
use Rattle.rule_text.specs.RuleText.{Reads, canonical_text}
use Rattle.rule_text.proofs.Canonical.{reads-canonical_text}
use Rattle.rule_text.proofs.RisingDigits.{Fit-rising, has-rising, rising-rising}
use Rattle.plane.specs.Bounds.{bounds_of}
use Rattle.plane.specs.Centred.{Holds, IsSmallestLevel}
use Rattle.plane.specs.Listing.{IsListing, plane_of}
use Rattle.plane.specs.Plane.{Plane, after}
use Rattle.plane.specs.Range.{IsInRange, StaysWithin}
use Rattle.plane.specs.Square.{IsSame}
use Rattle.plane.specs.declared.cell.Cell.{Cell}
use Rattle.plane.proofs.Parts.{after_sum}
use Rattle.plane.proofs.Same.{plane_equal, same_refl, same_sym, same_trans}
use Rattle.universe.proofs.StaysWithinRoot.{held}
use Rattle.universe.proofs.Spread.{stays_on}
use Rattle.pattern_files.specs.Meaning.{Meaning, judged}
use Rattle.pattern_files.proofs.Judged.{judged_macrocell, judged_rle}
use Rattle.pattern_writers.specs.McText.{from_corner, mc_text}
use Rattle.pattern_writers.specs.Reading.{HasNoReturn, IsReadAs, IsReadableHeading}
use Rattle.pattern_writers.specs.RleText.{rle_text}
use Rattle.pattern_writers.specs.Subsquares.{listed_in}
use Rattle.pattern_writers.proofs.McTextReading.{mc_read}
use Rattle.pattern_writers.proofs.RleTextReading.{rle_read}
use Rattle.pattern_writers.proofs.RowsBetween.{found_all}
use Rattle.pattern_writers.proofs.RowsDown.{live_in_range}
use Rattle.engine.specs.Accepted.{IsAccepted}
use Rattle.engine.specs.CutRuns.{AreParts, CanBeRead, GoesOn}
use Rattle.engine.specs.Formats.{format_of}
use Rattle.engine.specs.Judgement.{Start, Judges, ReadsRule, rule_text_of}
use Rattle.engine.specs.Report.{AreLinesAfter, shown, window_text}
use Rattle.engine.specs.Run.{Finishes}
use Rattle.engine.specs.RunOptions.{run_of}
use Rattle.engine.specs.declared.options.Format.{Format}
use Rattle.engine.specs.declared.options.Format.TheVariants.{Rle, Macrocell}
use Rattle.engine.specs.declared.options.Options.{Options}
use Rattle.engine.specs.declared.running.Summary.{Summary}
use Rattle.engine.proofs.Endings.{listing_as}
use Rattle.engine.proofs.KeptComments.{meaning_comments}
use Rattle.engine.proofs.OneRun.{one_ending_lem}
use Rattle.engine.proofs.Reports.{same_after}
use Rattle.engine.proofs.WholeReports.{all_lines}

-- ---- the rule

-- what is read is a rule
rule_read : (text : List ℕ) (rule : CountRule) → Reads text (Ok rule) → IsRule rule
rule_read text rule reads =
    let written = reads.0 in
    subst IsRule (sym reads.4) (record {
      birth_fits = Fit-rising written.neighbourhood written.birth reads.2.birth;
      survival_fits = Fit-rising written.neighbourhood written.survival reads.2.survival;
      birth_rises = sym (rising-rising written.birth);
      survival_rises = sym (rising-rising written.survival);
      no_birth_on_zero = has-rising written.birth 0 (omega arith) ∙ reads.3;
    })

-- so the rule of a run is one, if each that is given is
rule_of_run : (given : Option CountRule) (meaning : Meaning) (rule : CountRule) → IfSome given IsRule → ReadsRule given meaning (Ok rule) → IsRule rule
rule_of_run (Some given) meaning rule lawful reads = let same : given ≡ rule = cc in subst IsRule same lawful
rule_of_run None meaning rule lawful reads = rule_read (rule_text_of meaning) rule reads

-- a file that names a rule as it is written is run by it
named_rule : (given : Option CountRule) (meaning : Meaning) (rule : CountRule) → IsRule rule → given ≡ None → meaning.rule ≡ Some (canonical_text rule) → ReadsRule given meaning (Ok rule)
named_rule given meaning rule lawful none named =
    subst (λ (g : Option CountRule). ReadsRule g meaning (Ok rule)) (sym none)
    (subst (λ (m : Option (List ℕ)). Reads (unwrap_or m (codes "B3/S23")) (Ok rule)) (sym named) (reads-canonical_text rule lawful))

-- ---- the file is read back

-- cells in the square of level 63 lie in the range
in_range : (plane : Plane) (cells : List Cell) → Holds 63 plane → IsListing cells plane → AllByRecursion IsInRange cells
unfolding plane_of
in_range plane cells is listing =
    found_all IsInRange cells (λ cell found.
    let at = live_in_range plane cell.x cell.y is (sym (listing.live cell.x cell.y) ∙ found) in record { x = at.0; y = at.1 })

-- the smallest square around (0,0) of cells that the one of level 63 holds is no larger
low_level : (level : ℕ) (plane : Plane) → IsSmallestLevel level plane → Holds 63 plane → level ≤ 63
low_level level plane smallest is = grind (arith, smallest.no_smaller 63, is)

module _ (comments : List (List ℕ)) (rule : CountRule) (generation : ℕ) (cells : List Cell) (heading : IsReadableHeading comments generation) (listing : IsListing cells (plane_of cells)) (is : Holds 63 (plane_of cells)) where
  abbrev ReadsBack : List ℕ → Type 0
  ReadsBack text = IsReadAs comments rule generation (plane_of cells) (judged text)

  rle_back : length cells ≤ 2 ^ 28 → ReadsBack (rle_text comments rule generation cells)
  rle_back few =
      subst (IsReadAs comments rule generation (plane_of cells)) (sym (judged_rle (rle_text comments rule generation cells) refl))
      (rle_read comments rule generation (plane_of cells) cells (record { heading = heading; listing = listing; cells_in_range = in_range (plane_of cells) cells is listing; few = few }))

  mc_back : (level : ℕ) → IsSmallestLevel level (plane_of cells) → length (listed_in level (from_corner level (plane_of cells))) < 2 ^ 32 → ReadsBack (mc_text comments rule generation level (plane_of cells))
  mc_back level smallest few =
      subst (IsReadAs comments rule generation (plane_of cells)) (sym (judged_macrocell (mc_text comments rule generation level (plane_of cells)) refl))
      (mc_read comments rule generation level (plane_of cells) (record { heading = heading; smallest = smallest; high = low_level level (plane_of cells) smallest is; numbers = few }))

  file_back : (format : Option Format) (text : List ℕ) → CanBeRead format cells → (format_of format).IsText comments rule generation cells text → ReadsBack text
  file_back None text can text_is = absurd can
  file_back (Some Rle) text can text_is = subst ReadsBack (sym text_is) (rle_back can)
  file_back (Some Macrocell) text can text_is = subst ReadsBack (sym text_is.is) (mc_back text_is.level text_is.smallest (can text_is.level text_is.smallest))

-- ---- a text of each format

other_text : (format : Option Format) (comments others : List (List ℕ)) (rule : CountRule) (generation : ℕ) (cells : List Cell) (text : List ℕ) →
    (format_of format).IsText comments rule generation cells text → (other : List ℕ) × (format_of format).IsText others rule generation cells other
other_text None comments others rule generation cells text is = ([], refl)
other_text (Some Rle) comments others rule generation cells text is = (rle_text others rule generation cells, refl)
other_text (Some Macrocell) comments others rule generation cells text is =
    (mc_text others rule generation is.level (plane_of cells), record { level = is.level; smallest = is.smallest; is = refl })

-- ---- the rest begins where the first part ended

module _ (bytes : List ℕ) (start : Start) (first rest whole : Options) (answer : Summary) (said written : List ℕ) (lawful : IfSome whole.rule IsRule) (parts : AreParts first rest whole) (accepted : Judges bytes (run_of whole) (Ok start))
    (cut : Finishes start first answer said written) (can : CanBeRead first.format cut.cells) where
  rule_is : IsRule start.rule
  rule_is = rule_of_run whole.rule start.meaning start.rule lawful accepted.0.rule

  abbrev between : Plane
  between = after start.rule start.meaning.live first.gens

  same_between : IsSame (plane_of cut.cells) between
  same_between = record { same = cut.last.live }

  held_between : Holds 63 (plane_of cut.cells)
  held_between =
      subst (Holds 63) (sym (plane_equal (plane_of cut.cells) between same_between))
      (held start.rule rule_is.no_birth_on_zero start.cells start.meaning.live whole.gens first.gens accepted.0.cells accepted.1.coordinates (omega (arith, parts.generations)))

  own_listing : IsListing cut.cells (plane_of cut.cells)
  own_listing = record { rising = cut.last.rising; live = λ x y. refl }

  heading : IsReadableHeading start.meaning.comments (start.meaning.generation + first.gens)
  heading = record {
    in_range = omega (arith, accepted.1.last_generation, parts.generations);
    are_comments = meaning_comments bytes start.meaning accepted.0.text;
  }

  read : IsReadAs start.meaning.comments start.rule (start.meaning.generation + first.gens) (plane_of cut.cells) (judged written)
  read = file_back start.meaning.comments start.rule (start.meaning.generation + first.gens) cut.cells heading own_listing held_between first.format written can cut.file

  abbrev begun : Start
  begun = record { meaning = read.meaning; rule = start.rule; cells = cut.cells }

  same_live : IsSame read.meaning.live between
  same_live = same_trans read.same_cells same_between

  begun_listing : IsListing cut.cells read.meaning.live
  begun_listing = listing_as (same_sym read.same_cells) own_listing

  begun_stays : StaysWithin (bounds_of cut.cells) read.meaning.generation rest.gens
  begun_stays =
      subst (λ (n : ℕ). StaysWithin (bounds_of cut.cells) n rest.gens) (sym read.same_generation)
      (stays_on start.rule rule_is start.meaning.live start.cells cut.cells start.meaning.generation first.gens rest.gens accepted.0.cells cut.last
      (subst (λ (n : ℕ). StaysWithin (bounds_of start.cells) start.meaning.generation n) parts.generations accepted.1))

  begun_accepted : Judges written (run_of rest) (Ok begun)
  begun_accepted =
      (record { text = read.accepted; rule = named_rule rest.rule read.meaning start.rule rule_is parts.no_rule read.same_rule; cells = begun_listing }, begun_stays)

  begun_run : IsAccepted written (run_of rest) read.meaning start.rule read.meaning.live
  begun_run = record { cells = cut.cells; listing = begun_listing; same = same_refl read.meaning.live; lawful = rule_is; accepted = begun_accepted }

  -- ---- it ends as the whole

  in_two : after start.rule start.meaning.live whole.gens ≡ after start.rule between rest.gens
  in_two = ap (after start.rule start.meaning.live) parts.generations ∙ after_sum start.rule start.meaning.live first.gens rest.gens

  one_last : read.meaning.generation + rest.gens ≡ start.meaning.generation + whole.gens
  one_last = omega (arith, read.same_generation, parts.generations)

  module _ (end : Summary) (whole_said file : List ℕ) (finishes : Finishes start whole end whole_said file) where
    abbrev lines : (lines : List ℕ) × AreLinesAfter start.rule read.meaning.live read.meaning.generation (shown rest) lines
    lines = all_lines written rest read.meaning start.rule read.meaning.live begun_run 0 [] ([], tt, refl)

    abbrev rest_said : List ℕ
    rest_said = lines.0 ++ window_text rest.window (after start.rule read.meaning.live rest.gens)

    -- with each text of the last cells
    ends_with : (text : List ℕ) → (format_of whole.format).IsText read.meaning.comments start.rule (start.meaning.generation + whole.gens) finishes.cells text → Finishes begun rest end rest_said text
    ends_with text text_is = record {
      cells = finishes.cells;
      last = same_after start.rule between read.meaning.live (same_sym same_live).same rest.gens finishes.cells (subst (IsListing finishes.cells) in_two finishes.last);
      report = record { lines = lines.0; shows = lines.1; is = refl };
      fits = subst (λ (f : Option Format). (format_of f).CanHold finishes.cells) (sym parts.format) finishes.fits;
      file = subst (λ (f : Option Format). (format_of f).IsText read.meaning.comments start.rule (read.meaning.generation + rest.gens) finishes.cells text) (sym parts.format)
          (subst (λ (n : ℕ). (format_of whole.format).IsText read.meaning.comments start.rule n finishes.cells text) (sym one_last) text_is);
      summary = finishes.summary ∙ ap (λ (n : ℕ). record { generation = n; population = length finishes.cells; bounds = bounds_of finishes.cells }) (sym one_last);
    }

    -- with one of them it ends
    some_text : (text : List ℕ) × (format_of whole.format).IsText read.meaning.comments start.rule (start.meaning.generation + whole.gens) finishes.cells text
    some_text = other_text whole.format start.meaning.comments read.meaning.comments start.rule (start.meaning.generation + whole.gens) finishes.cells file finishes.file

    -- with that of the whole if the comments are the same
    same_text : AllByRecursion HasNoReturn start.meaning.comments → (format_of whole.format).IsText read.meaning.comments start.rule (start.meaning.generation + whole.gens) finishes.cells file
    same_text none =
        subst (λ (comments : List (List ℕ)). (format_of whole.format).IsText comments start.rule (start.meaning.generation + whole.gens) finishes.cells file) (sym (read.same_comments none)) finishes.file

    pub goes_on : GoesOn written rest start.meaning.comments end file
    goes_on = record {
      begun = begun;
      accepted = begun_accepted;
      ends = (rest_said, some_text.0, ends_with some_text.0 some_text.1);
      same_answer = λ other others text ends. (one_ending_lem begun rest other end others rest_said text some_text.0 ends (ends_with some_text.0 some_text.1)).0;
      same_file = λ none other others text ends. (one_ending_lem begun rest other end others rest_said text file ends (ends_with file (same_text none))).2;
    }
