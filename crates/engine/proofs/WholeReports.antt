-- An accepted run has a whole report, of which what it has said is a beginning.
use Rattle.std.proofs.Common.{◌≡◌, ℕ, zero, suc, ◌+◌, ◌≤◌, Bool, true, false, List, [], ◌∷◌, ◌++◌, length, filter, take, drop, refl, sym, ◌∙◌, subst, ap, arith}
use Rattle.std.specs.List.{AllByRecursion, concat, range_with_len}
use Rattle.std.proofs.lemmas.List.{take-append-drop}
use Rattle.std.proofs.lemmas.List.Folds.{concat-append}
use Rattle.rule_text.specs.CountRule.{CountRule}
use Rattle.plane.specs.Listing.{IsListing}
use Rattle.plane.specs.Plane.{Plane, after}
use Rattle.plane.specs.declared.cell.Cell.{Cell}
use Rattle.universe.proofs.StaysWithinRoot.{held}
use Rattle.pattern_files.specs.Meaning.{Meaning}
use Rattle.engine.specs.Accepted.{IsAccepted}
use Rattle.engine.specs.Report.{report_line, is_shown, shown, AreLinesAfter}
use Rattle.engine.specs.RunOptions.{run_of}
use Rattle.engine.specs.declared.options.Options.{Options}
use Rattle.engine.proofs.CellsAtRest.{held_listing}
use Rattle.engine.proofs.Reports.{AllZip-append, filtered_in, filtered_out}

-- ---- numbers of generations

range_within : (last first count : ℕ) → first + count ≤ last + 1 → AllByRecursion (λ n. n ≤ last) (range_with_len first count)
range_within last first zero within = tt
range_within last first (suc count) within = (omega arith, range_within last (first + 1) count (omega arith))

module _ (P : ℕ → Type 0) where
  filter_one : (p : ℕ → Bool) (b : Bool) (n : ℕ) (ns : List ℕ) → p n ≡ b → P n → AllByRecursion P (filter p ns) → AllByRecursion P (filter p (n ∷ ns))
  filter_one p true n ns is one all = subst (AllByRecursion P) (sym (filtered_in p n ns is)) (one, all)
  filter_one p false n ns is one all = subst (AllByRecursion P) (sym (filtered_out p n ns is)) all

  AllByRecursion-filter : (p : ℕ → Bool) (ns : List ℕ) → AllByRecursion P ns → AllByRecursion P (filter p ns)
  AllByRecursion-filter p [] all = tt
  AllByRecursion-filter p (n ∷ ns) all = filter_one p (p n) n ns refl all.0 (AllByRecursion-filter p ns all.1)

  AllByRecursion-drop : (k : ℕ) (ns : List ℕ) → AllByRecursion P ns → AllByRecursion P (drop k ns)
  AllByRecursion-drop zero ns all = all
  AllByRecursion-drop (suc k) [] all = tt
  AllByRecursion-drop (suc k) (n ∷ ns) all = AllByRecursion-drop k ns all.1

shown_within : (options : Options) → AllByRecursion (λ n. n ≤ options.gens) (shown options)
shown_within options = AllByRecursion-filter (λ n. n ≤ options.gens) (is_shown options) (range_with_len 0 (options.gens + 1)) (range_within options.gens 0 (options.gens + 1) (omega arith))

-- ---- lines

module _ (rule : CountRule) (plane : Plane) (start last : ℕ) (listed : (n : ℕ) → n ≤ last → (cells : List Cell) × IsListing cells (after rule plane n)) where
  -- the lines after some numbers of generations
  lines_after : (ns : List ℕ) → AllByRecursion (λ n. n ≤ last) ns → (text : List ℕ) × AreLinesAfter rule plane start ns text
  lines_after [] within = ([], ([], tt, refl))
  lines_after (n ∷ ns) within =
      let cells = listed n within.0 in
      let line = report_line (start + n) (length cells.0) in
      let rest = lines_after ns within.1 in
      (line ++ rest.0, (line ∷ rest.1.0, ((cells.0, cells.1, refl), rest.1.1), ap (λ l. line ++ l) rest.1.2))

  -- behind some lines those after more numbers
  lines_on : (ns ms text : List ℕ) → AreLinesAfter rule plane start ns text → AllByRecursion (λ n. n ≤ last) ms → (rest : List ℕ) × AreLinesAfter rule plane start (ns ++ ms) (text ++ rest)
  lines_on ns ms text lines within =
      let rest = lines_after ms within in (
        rest.0,
        (
          lines.0 ++ rest.1.0,
          AllZip-append rule plane start ns ms lines.0 rest.1.0 lines.1 rest.1.1,
          ap (λ l. l ++ rest.0) lines.2 ∙ ap (λ l. concat lines.0 ++ l) rest.1.2 ∙ sym (concat-append lines.0 rest.1.0),
        ),
      )

-- ---- the report of an accepted run

module _ (bytes : List ℕ) (options : Options) (meaning : Meaning) (rule : CountRule) (here : Plane) (run : IsAccepted bytes (run_of options) meaning rule here) where
  listed : (n : ℕ) → n ≤ options.gens → (cells : List Cell) × IsListing cells (after rule here n)
  listed n within = held_listing 63 (after rule here n) (held rule run.lawful.no_birth_on_zero run.cells here options.gens n run.listing run.accepted.1.coordinates within)

  -- behind its first lines stand the others
  pub all_lines : (lines : ℕ) (said : List ℕ) → AreLinesAfter rule here meaning.generation (take lines (shown options)) said → (rest : List ℕ) × AreLinesAfter rule here meaning.generation (shown options) (said ++ rest)
  all_lines lines said shows =
      let within = AllByRecursion-drop (λ n. n ≤ options.gens) lines (shown options) (shown_within options) in
      let all = lines_on rule here meaning.generation options.gens listed (take lines (shown options)) (drop lines (shown options)) said shows within in
      (all.0, subst (λ ns. AreLinesAfter rule here meaning.generation ns (said ++ all.0)) (take-append-drop lines (shown options)) all.1)
