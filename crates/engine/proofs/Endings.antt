-- How runs end.
use Rattle.std.proofs.Common.{◌≡◌, ◌⊎◌, ℕ, ◌+◌, Bor, List, ◌++◌, length, take, Option, None, Some, Ok, Err, refl, sym, ◌∙◌, subst, ap, arith, ⊎_elim, inl, inr}
use Rattle.std.specs.Io.KnownBytes.{Appends}
use Rattle.std.proofs.KnownBytes.{Appends-trans}
use Rattle.std.specs.Option.{option_copied, unwrap_or}
use Rattle.std.proofs.lemmas.List.{take_all}
use Rattle.rule_text.specs.CountRule.{CountRule}
use Rattle.plane.specs.Bounds.{bounds_of}
use Rattle.plane.specs.Fault.{placeless}
use Rattle.plane.specs.Listing.{IsListing}
use Rattle.plane.specs.Plane.{Plane, after}
use Rattle.plane.specs.SinkChange.{SinkChange, Fails, IsUnfailed, Takes, TakesBeginning}
use Rattle.plane.specs.Square.{IsSame}
use Rattle.plane.specs.Range.{StaysWithin}
use Rattle.plane.specs.declared.cell.Bounds.{Bounds}
use Rattle.plane.specs.declared.cell.Cell.{Cell}
use Rattle.plane.specs.declared.fault.Fault.{Fault}
use Rattle.plane.specs.declared.refusal.Refusal.{Refusal}
use Rattle.plane.specs.declared.refusal.Refusal.TheVariants.{NodesFull, NoMemory, WriteFailed}
use Rattle.pattern_files.specs.Meaning.{Meaning}
use Rattle.viewport.specs.Population.{HasPopulation}
use Rattle.plane.specs.Device.{AppendsBeginning, IsWriteRefusal}
use Rattle.plane.proofs.Uniqueness.{one_listing_lem}
use Rattle.pattern_writers.specs.Output.{IsWriterRefusal}
use Rattle.engine.specs.Formats.{Exceeds, HasText, format_of}
use Rattle.engine.specs.Accepted.{IsAccepted, SumsUp}
use Rattle.engine.specs.Judgement.{Start, last_generation}
use Rattle.engine.specs.Report.{AreFirstLines, AreLinesAfter, shown, window_text}
use Rattle.engine.specs.Room.{IsStuckWithin}
use Rattle.engine.specs.Run.{CanBeWritten, IsBeginning, IsLast, IsReport, Finishes, HasReport, HasFailedToWrite, HasFinished, HasEndedEarly, IsRun, IsStopped}
use Rattle.universe.specs.Outcomes.{LacksMemoryOrRoom}
use Rattle.engine.specs.RunOptions.{run_of}
use Rattle.engine.specs.declared.running.Summary.{Summary}
use Rattle.plane.proofs.Beginnings.{beginning_of_more, text_and_beginning}
use Rattle.plane.proofs.Same.{plane_equal, same_refl}
use Rattle.engine.specs.declared.options.Options.{Options}
use Rattle.engine.proofs.Onward.{stuck_from}
use Rattle.engine.proofs.WholeReports.{all_lines}
use Rattle.engine.proofs.Reports.{same_after, same_generation, same_shows}

-- the bytes of the slice, or else of another
pub copied_or : (slice : Option (Bor (List ℕ))) (other : Bor (List ℕ)) → (unwrap_or slice other).now ≡ unwrap_or (option_copied slice) other.now
copied_or None other = refl
copied_or (Some slice) other = refl

-- a sink that is as it was has not failed
pub unfailed_same : {S : Type 0} (sink : SinkChange S) → sink.new ≡ sink.old → IsUnfailed sink
unfailed_same sink same = ap sink.failure_count same

-- a run that stopped so is a run as it has to be, if without a format its file is as it was, and no
-- sink failed but at `WriteFailed`
pub stopped_early : {W V : Type 0} {bytes : List ℕ} {options : Options} {report : SinkChange W} {file : SinkChange V} {fault : Fault} →
    (options.format ≡ None → file.new ≡ file.old) → (fault ≡ placeless WriteFailed) ⊎ (IsUnfailed file × IsUnfailed report) → HasEndedEarly bytes options report file fault →
    IsRun bytes options report file (Err fault)
stopped_early no_format unfailed stopped = record { finished = tt; no_format = no_format; unfailed = ⊎_elim (λ told. inl (ap Err told)) (λ both. inr both) unfailed; refused = stopped }

-- a run that a failed sink stopped
pub failed_early : {W V : Type 0} {bytes : List ℕ} {options : Options} {report : SinkChange W} {file : SinkChange V} {refusal : Refusal} →
    (options.format ≡ None → file.new ≡ file.old) → refusal ≡ WriteFailed → HasFailedToWrite bytes options report file →
    IsRun bytes options report file (Err (placeless refusal))
failed_early no_format is failed =
    let told = ap placeless is in
    stopped_early no_format (inl told) (inr (inr (inr (told, failed))))

-- a listing of one plane is one of each other with the same cells
pub listing_as : {cells : List Cell} {plane other : Plane} → IsSame plane other → IsListing cells plane → IsListing cells other
listing_as same listing = record { rising = listing.rising; live = λ x y. listing.live x y ∙ same.same x y }

pub population_as : {plane other : Plane} {population : ℕ} → IsSame plane other → HasPopulation plane population → HasPopulation other population
population_as same counted = record { cells = counted.cells; listing = listing_as same counted.listing; count = counted.count }

-- what a box and a generation stay within
pub stays_as : {box other : Option Bounds} {start generation generations : ℕ} → box ≡ other → start ≡ generation → StaysWithin box start generations → StaysWithin other generation generations
stays_as {box} {other} {start} {generation} {generations} boxes starts stays =
    subst (λ (b : Option Bounds). StaysWithin b generation generations) boxes (subst (λ (n : ℕ). StaysWithin box n generations) starts stays)

-- a run that comes to `last`
module _ (bytes : List ℕ) (options : Options) (meaning : Meaning) (rule : CountRule) (here : Plane) (run : IsAccepted bytes (run_of options) meaning rule here) where
  abbrev pub start : Start
  start = record { meaning = meaning; rule = rule; cells = run.cells }

  -- the first lines of the report
  pub first_said : (said : List ℕ) → AreFirstLines rule here meaning.generation options said → IsBeginning meaning rule options said
  first_said said (lines, shows) = (lines, same_shows rule here meaning.live run.same.same meaning.generation (take lines (shown options)) said shows)

  -- all lines are the first ones
  all_said : (said : List ℕ) → AreLinesAfter rule here meaning.generation (shown options) said → IsBeginning meaning rule options said
  all_said said shows =
      let all : take (length (shown options)) (shown options) ≡ shown options = take_all (length (shown options)) (shown options) (omega arith) in
      first_said said (length (shown options), subst (λ ns. AreLinesAfter rule here meaning.generation ns said) (sym all) shows)

  -- memory ran out behind the first lines, or behind the whole report
  memory_out : (fault : Fault) (said : List ℕ) → fault ≡ placeless NoMemory → IsBeginning meaning rule options said ⊎ IsReport meaning rule options said → IsStopped bytes options fault said
  memory_out fault said is report = record { start = start; accepted = run.accepted; why = inl (is, report) }

  -- the lines and the picture of the last cells
  pub whole_report : (last : Plane) (lines : List ℕ) → IsSame last (after rule here options.gens) → AreLinesAfter rule here meaning.generation (shown options) lines →
      IsReport meaning rule options (lines ++ window_text options.window last)
  whole_report last lines is shows =
      let last_is = plane_equal last (after rule meaning.live options.gens) (same_generation rule here meaning.live run.same.same options.gens last is) in
      record {
        lines = lines;
        shows = same_shows rule here meaning.live run.same.same meaning.generation (shown options) lines shows;
        is = ap (λ plane. lines ++ window_text options.window plane) last_is;
      }

  -- what an accepted run says
  pub has_report : (last : Plane) (lines : List ℕ) → IsSame last (after rule here options.gens) → AreLinesAfter rule here meaning.generation (shown options) lines →
      HasReport bytes options (lines ++ window_text options.window last)
  has_report last lines is shows = record { start = start; accepted = run.accepted; report = whole_report last lines is shows }

  pub last_cells : (last : Plane) (cells : List Cell) → IsSame last (after rule here options.gens) → IsListing cells last → IsLast start (run_of options) cells
  last_cells last cells is listing = same_after rule here meaning.live run.same.same options.gens cells (listing_as is listing)

  -- what an accepted run that ends well writes and answers
  pub finishes : (last : Plane) (lines : List ℕ) (cells : List Cell) (written : List ℕ) (answer : Summary) → IsSame last (after rule here options.gens) →
      AreLinesAfter rule here meaning.generation (shown options) lines → IsListing cells last → (format_of options.format).CanHold cells →
      (format_of options.format).IsText meaning.comments rule (last_generation start (run_of options)) cells written → SumsUp (last_generation start (run_of options)) last answer →
      Finishes start options answer (lines ++ window_text options.window last) written
  finishes last lines cells written answer is shows listing fits file sum = record {
    cells = cells;
    last = last_cells last cells is listing;
    report = whole_report last lines is shows;
    fits = fits;
    file = file;
    summary =
        ap (λ g. record { generation = g; population = answer.population; bounds = answer.bounds }) sum.last
        ∙ ap (λ n. record { generation = last_generation start (run_of options); population = n; bounds = answer.bounds }) (sum.population.count ∙ ap length (one_listing_lem last sum.population.cells cells sum.population.listing listing))
        ∙ ap (λ b. record { generation = last_generation start (run_of options); population = length cells; bounds = b }) (sum.bounds.bounds ∙ ap bounds_of (one_listing_lem last sum.bounds.cells cells sum.bounds.listing listing));
  }

  -- ---- how a run is refused once its report has begun

  -- a run that has said some lines was stopped
  pub stopped_by : (refusal : Refusal) (said : List ℕ) → LacksMemoryOrRoom refusal → AreFirstLines rule here meaning.generation options said →
      (refusal ≡ NodesFull → IsStuckWithin rule here options.pairs options.gens) → IsStopped bytes options (placeless refusal) said
  stopped_by refusal said (inl memory) shows stuck = memory_out (placeless refusal) said (ap placeless memory) (inl (first_said said shows))
  stopped_by refusal said (inr is) shows stuck =
      record { start = start; accepted = run.accepted; why = inr (ap placeless is, first_said said shows, stuck_from run.same (stuck is)) }

  -- in the middle of the report
  pub refused_reporting : {W V : Type 0} (generation : ℕ) (refusal : Refusal) (report : SinkChange W) (file : SinkChange V) → file.new ≡ file.old → generation ≡ meaning.generation →
      (refusal ≡ NodesFull → IsStuckWithin rule here options.pairs options.gens) →
      (LacksMemoryOrRoom refusal × IsUnfailed report × ((said : List ℕ) × AreFirstLines rule here generation options said × Takes report said))
      ⊎ (IsWriteRefusal (report.failure_count report.old) (report.failure_count report.new) refusal
      × ((said : List ℕ) × AreFirstLines rule here generation options said × TakesBeginning report said)) →
      IsRun bytes options report file (Err (placeless refusal))
  refused_reporting generation refusal report file same is_start stuck (inl (no_room, unfailed, (said, shows, appends))) =
      let shows_start = subst (λ n. AreFirstLines rule here n options said) is_start shows in
      stopped_early (λ _. same) (inr (unfailed_same file same, unfailed)) (inr (inr (inl (same, (said, stopped_by refusal said no_room shows_start stuck, appends)))))
  refused_reporting generation refusal report file same is_start stuck (inr ((is, failed), (said, (lines, shows), begun))) =
      let all = all_lines bytes options meaning rule here run lines said (subst (λ n. AreLinesAfter rule here n (take lines (shown options)) said) is_start shows) in
      let last = after rule here options.gens in
      let said_all = has_report last (said ++ all.0) (same_refl last) all.1 in
      failed_early (λ _. same) is (inl (failed, same, ((said ++ all.0) ++ window_text options.window last, said_all, beginning_of_more (window_text options.window last) (beginning_of_more all.0 begun))))

  -- after the lines, which count from the generation of the file
  module _ {W V : Type 0} (report : SinkChange W) (file : SinkChange V) (from : ℕ) (last : Plane) (lines_taken : Option (List ℕ)) (is_from : from ≡ meaning.generation) (is : IsSame last (after rule here options.gens))
      (reported : (said : List ℕ) × AreLinesAfter rule here from (shown options) said × Appends (report.taken report.old) lines_taken said) where
    shows_all : AreLinesAfter rule here meaning.generation (shown options) reported.0
    shows_all = subst (λ (n : ℕ). AreLinesAfter rule here n (shown options) reported.0) is_from reported.1

    -- memory ran out before the picture
    pub refused_counting : lines_taken ≡ report.taken report.new → file.new ≡ file.old → IsUnfailed report → IsRun bytes options report file (Err (placeless NoMemory))
    refused_counting taken same unfailed =
        let said_lines = subst (λ (bytes_taken : Option (List ℕ)). Appends (report.taken report.old) bytes_taken reported.0) taken reported.2 in
        stopped_early (λ _. same) (inr (unfailed_same file same, unfailed)) (inr (inr (inl (same, (reported.0, memory_out (placeless NoMemory) reported.0 refl (inl (all_said reported.0 shows_all)), said_lines)))))

    -- the sink failed at the picture
    pub refused_drawing : (refusal : Refusal) → refusal ≡ WriteFailed → Fails report → file.new ≡ file.old → AppendsBeginning lines_taken (report.taken report.new) (window_text options.window last) →
        IsRun bytes options report file (Err (placeless refusal))
    refused_drawing refusal is_failure failed same begun =
        failed_early (λ _. same) is_failure (inl (failed, same, (reported.0 ++ window_text options.window last, has_report last reported.0 is shows_all, text_and_beginning reported.0 reported.2 begun)))

    module _ (draws : Appends lines_taken (report.taken report.new) (window_text options.window last)) where
      said_all : Takes report (reported.0 ++ window_text options.window last)
      said_all = Appends-trans _ _ _ reported.0 (window_text options.window last) reported.2 draws

      -- what the report says and what the file is to have
      can_be_written : (answer : Summary) (Holds : List ℕ → Type 0) → SumsUp (last_generation start (run_of options)) last answer →
          (text : HasText (format_of options.format) last meaning.comments rule (last_generation start (run_of options)) Holds) → CanBeWritten bytes options (reported.0 ++ window_text options.window last) text.text
      can_be_written answer Holds sums text =
          record { start = start; answer = answer; accepted = run.accepted; finishes = finishes last reported.0 text.cells text.text answer is shows_all text.listing text.fits text.is sums }

      -- the text of the file, by what the run is told of it
      text_of : (comments : List (List ℕ)) (answer : Summary) (Holds : List ℕ → Type 0) → comments ≡ meaning.comments → SumsUp (last_generation start (run_of options)) last answer →
          HasText (format_of options.format) last comments rule answer.generation Holds → HasText (format_of options.format) last meaning.comments rule (last_generation start (run_of options)) Holds
      text_of comments answer Holds is_comments sums text =
          subst (λ (n : ℕ). HasText (format_of options.format) last meaning.comments rule n Holds) sums.last
          (subst (λ (texts : List (List ℕ)). HasText (format_of options.format) last texts rule answer.generation Holds) is_comments text)

      -- the file was not written
      pub refused_writing : (comments : List (List ℕ)) (answer : Summary) (refusal : Refusal) → comments ≡ meaning.comments → SumsUp (from + options.gens) last answer →
          (options.format ≡ None → file.new ≡ file.old) → IsUnfailed report →
          IsWriterRefusal file.failure_count file.old file.new (Exceeds (format_of options.format) last)
          (HasText (format_of options.format) last comments rule answer.generation (AppendsBeginning (file.taken file.old) (file.taken file.new))) refusal →
          IsRun bytes options report file (Err (placeless refusal))
      refused_writing comments answer refusal is_comments sum no_format unfailed (inl (large, unfit, unchanged)) =
          stopped_early no_format (inr (unfailed_same file unchanged, unfailed)) (inr (inl (
            ap placeless large,
            unchanged,
            (
              reported.0 ++ window_text options.window last,
              record {
                start = start;
                cells = unfit.cells;
                accepted = run.accepted;
                last = last_cells last unfit.cells is unfit.listing;
                report = whole_report last reported.0 is shows_all;
                unfit = unfit.unfit;
              },
              said_all,
            ),
          )))
      refused_writing comments answer refusal is_comments sum no_format unfailed (inr (inl (memory, unchanged))) =
          stopped_early no_format (inr (unfailed_same file unchanged, unfailed)) (inr (inr (inl (unchanged, (reported.0 ++ window_text options.window last, memory_out (placeless refusal) _ (ap placeless memory) (inr (whole_report last reported.0 is shows_all)), said_all)))))
      refused_writing comments answer refusal is_comments sum no_format unfailed (inr (inr ((failing, failed), begins))) =
          let sums : SumsUp (last_generation start (run_of options)) last answer = subst (λ (n : ℕ). SumsUp (n + options.gens) last answer) is_from sum in
          let text = text_of comments answer _ is_comments sums begins in
          failed_early no_format failing (inr (failed, unfailed, (reported.0 ++ window_text options.window last, text.text, can_be_written answer _ sums text, said_all, text.holds)))

      -- what an accepted run that ends well writes and answers
      pub ends_well : (comments : List (List ℕ)) (answer : Summary) → comments ≡ meaning.comments → SumsUp (from + options.gens) last answer →
          HasText (format_of options.format) last comments rule answer.generation (Appends (file.taken file.old) (file.taken file.new)) → (options.format ≡ None → file.new ≡ file.old) → IsUnfailed file → IsUnfailed report →
          IsRun bytes options report file (Ok answer)
      ends_well comments answer is_comments sum writes no_format unfailed_file unfailed_report =
          let sums : SumsUp (last_generation start (run_of options)) last answer = subst (λ (n : ℕ). SumsUp (n + options.gens) last answer) is_from sum in
          let text = text_of comments answer _ is_comments sums writes in
          let finished : HasFinished bytes options report file answer = (
            start,
            reported.0 ++ window_text options.window last,
            text.text,
            run.accepted,
            finishes last reported.0 text.cells text.text answer is shows_all text.listing text.fits text.is sums,
            said_all,
            text.holds,
          ) in
          record { finished = finished; no_format = no_format; unfailed = inr (unfailed_file, unfailed_report); refused = tt }
