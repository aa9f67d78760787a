-- The lines of a report, one after the other.
use Rattle.std.proofs.Common.{◌≡◌, ◌⊎◌, inl, inr, Option, ℕ, zero, suc, ◌+◌, ◌-◌, ◌<◌, ◌≤◌, ◌&&◌, not, true, false, List, [], ◌∷◌, ◌++◌, length, filter, take, refl, sym, ◌∙◌, ap, subst, append_assoc, append-nil, arith, ℤ, Bool}
use Rattle.std.specs.List.{AllZip, concat, range_with_len}
use Rattle.std.proofs.Math.Seq.{take-append_seam}
use Rattle.std.proofs.lemmas.List.Elements.{filter-append}
use Rattle.rule_text.specs.CountRule.{CountRule}
use Rattle.std.specs.Io.KnownBytes.{Appends}
use Rattle.std.proofs.KnownBytes.{Appends-trans}
use Rattle.plane.specs.Device.{AppendsBeginning, IsWriteRefusal}
use Rattle.plane.specs.Listing.{IsListing}
use Rattle.plane.specs.Plane.{Plane, after}
use Rattle.plane.specs.Square.{IsSame}
use Rattle.plane.specs.declared.cell.Cell.{Cell}
use Rattle.plane.specs.declared.refusal.Refusal.{Refusal}
use Rattle.plane.specs.declared.refusal.Refusal.TheVariants.{NoMemory}
use Rattle.plane.proofs.Beginnings.{text_and_beginning}
use Rattle.plane.proofs.Cones.{light_cone_lem}
use Rattle.universe.specs.Outcomes.{LacksMemoryOrRoom}
use Rattle.engine.specs.Report.{report_line, is_shown, IsLineAfter, IsSaid, AreFirstLines, AreLinesAfter}
use Rattle.engine.specs.declared.options.Options.{Options}

-- ---- numbers in a row that pass a test

range-append : (a m k : ℕ) → range_with_len a (m + k) ≡ range_with_len a m ++ range_with_len (a + m) k
range-append a zero k = let none : 0 + k ≡ k = omega arith in let same : a ≡ a + 0 = omega arith in ap (range_with_len a) none ∙ ap (λ b. range_with_len b k) same
range-append a (suc m) k =
    let one_more : suc m + k ≡ suc (m + k) = omega arith in
    let same : (a + 1) + m ≡ a + suc m = omega arith in
    ap (range_with_len a) one_more ∙ ap (λ l. a ∷ l) (range-append (a + 1) m k ∙ ap (λ b. range_with_len (a + 1) m ++ range_with_len b k) same)

pub filtered_out : (p : ℕ → Bool) (x : ℕ) (xs : List ℕ) → p x ≡ false → filter p (x ∷ xs) ≡ filter p xs
filtered_out p x xs fails = rw fails refl

pub filtered_in : (p : ℕ → Bool) (x : ℕ) (xs : List ℕ) → p x ≡ true → filter p (x ∷ xs) ≡ x ∷ filter p xs
filtered_in p x xs holds = rw holds refl

-- numbers in a row of which none passes
none_pass : (p : ℕ → Bool) (a k : ℕ) → ((n : ℕ) → a ≤ n → n < a + k → p n ≡ false) → filter p (range_with_len a k) ≡ []
none_pass p a zero none = refl
none_pass p a (suc k) none =
    filtered_out p a (range_with_len (a + 1) k) (none a (omega arith) (omega arith))
    ∙ none_pass p (a + 1) k (λ n from to. none n (omega (arith, from)) (omega (arith, to)))

-- ---- the numbers of generations that are shown

and_true : (b : Bool) → (b && true) ≡ b
and_true true = refl
and_true false = refl

-- the start is shown, unless nothing is
pub start_shown : (options : Options) → is_shown options 0 ≡ not options.quiet
start_shown options = and_true (not options.quiet)

-- those below a number
abbrev pub shown_below : Options → ℕ → List ℕ
shown_below options count = filter (is_shown options) (range_with_len 0 count)

-- the first of them, and those between it and the last
below_and_between : (options : Options) (count more : ℕ) → shown_below options (count + more) ≡ shown_below options count ++ filter (is_shown options) (range_with_len count more)
below_and_between options count more =
    let from : 0 + count ≡ count = omega arith in
    ap (filter (is_shown options)) (range-append 0 count more)
    ∙ filter-append (is_shown options) (range_with_len 0 count) (range_with_len (0 + count) more)
    ∙ ap (λ a. shown_below options count ++ filter (is_shown options) (range_with_len a more)) from

-- between one and the next there is none
pub shown_next : (options : Options) (done next : ℕ) → done < next → ((n : ℕ) → done < n → n < next → is_shown options n ≡ false) → shown_below options next ≡ shown_below options (done + 1)
shown_next options done next later none =
    let sum : next ≡ (done + 1) + (next - (done + 1)) = omega (arith, later) in
    ap (shown_below options) sum
    ∙ below_and_between options (done + 1) (next - (done + 1))
    ∙ ap (λ l. shown_below options (done + 1) ++ l) (none_pass (is_shown options) (done + 1) (next - (done + 1)) (λ n above below. none n (omega (arith, above)) (omega (arith, below, later))))
    ∙ append-nil (shown_below options (done + 1))

-- those below a number are the first of all
shown_first : (options : Options) (count last : ℕ) → count ≤ last → take (length (shown_below options count)) (shown_below options last) ≡ shown_below options count
shown_first options count last within =
    let sum : last ≡ count + (last - count) = omega (arith, within) in
    ap (λ n. take (length (shown_below options count)) (shown_below options n)) sum
    ∙ ap (take (length (shown_below options count))) (below_and_between options count (last - count))
    ∙ take-append_seam (shown_below options count) (filter (is_shown options) (range_with_len count (last - count)))

-- ---- the lines

module _ (rule : CountRule) (plane : Plane) (start : ℕ) where
  pub AllZip-append : (ns ms : List ℕ) (xs ys : List (List ℕ)) → AllZip (IsLineAfter rule plane start) ns xs → AllZip (IsLineAfter rule plane start) ms ys →
      AllZip (IsLineAfter rule plane start) (ns ++ ms) (xs ++ ys)
  AllZip-append [] ms [] ys first second = second
  AllZip-append [] ms (x ∷ xs) ys first second = absurd first
  AllZip-append (n ∷ ns) ms [] ys first second = absurd first
  AllZip-append (n ∷ ns) ms (x ∷ xs) ys first second = (first.0, AllZip-append ns ms xs ys first.1 second)

  concat-more : (xs : List (List ℕ)) (x : List ℕ) → concat xs ++ x ≡ concat (xs ++ x ∷ [])
  concat-more [] x = sym (append-nil x)
  concat-more (y ∷ ys) x = append_assoc y (concat ys) x ∙ ap (λ l. y ++ l) (concat-more ys x)

  pub shows_none : AreLinesAfter rule plane start [] []
  shows_none = ([], tt, refl)

  -- one line more
  pub shows_more : (ns : List ℕ) (n population : ℕ) (cells : List Cell) (generation : ℕ) (text : List ℕ) → AreLinesAfter rule plane start ns text →
      IsListing cells (after rule plane n) → generation ≡ start + n → population ≡ length cells → AreLinesAfter rule plane start (ns ++ n ∷ []) (text ++ report_line generation population)
  shows_more ns n population cells generation text shows listing generation_is population_is = (
    shows.0 ++ report_line generation population ∷ [],
    AllZip-append ns (n ∷ []) shows.0 (report_line generation population ∷ []) shows.1 ((cells, listing, rw (generation_is, population_is) refl), tt),
    ap (λ l. l ++ report_line generation population) shows.2 ∙ concat-more shows.0 (report_line generation population),
  )

  same_shows_of : (ns ms text other : List ℕ) → ns ≡ ms → text ≡ other → AreLinesAfter rule plane start ns text → AreLinesAfter rule plane start ms other
  same_shows_of ns ms text other numbers texts shows = subst (λ l. AreLinesAfter rule plane start l other) numbers (subst (λ t. AreLinesAfter rule plane start ns t) texts shows)

  -- what is said of one of the generations, if it is shown
  pub shows_next : (options : Options) (n : ℕ) (here : Plane) (text said : List ℕ) → AreLinesAfter rule plane start (shown_below options n) text →
      IsSame here (after rule plane n) → IsSaid options.quiet (start + n) here said → is_shown options n ≡ not options.quiet →
      AreLinesAfter rule plane start (shown_below options (n + 1)) (text ++ said)
  shows_next options n here text said shows same is_said shown_is = go options.quiet refl is_said
    where
      go : (quiet : Bool) → options.quiet ≡ quiet → IsSaid quiet (start + n) here said → AreLinesAfter rule plane start (shown_below options (n + 1)) (text ++ said)
      go true is nothing =
          let no_line : is_shown options n ≡ false = shown_is ∙ ap not is in
          same_shows_of _ _ _ _
          (sym (below_and_between options n 1 ∙ ap (λ l. shown_below options n ++ l) (filtered_out (is_shown options) n [] no_line) ∙ append-nil (shown_below options n)))
          (sym (ap (λ l. text ++ l) nothing ∙ append-nil text))
          shows
      go false is (cells, listing, line_is) =
          let line : is_shown options n ≡ true = shown_is ∙ ap not is in
          same_shows_of _ _ _ _
          (sym (below_and_between options n 1 ∙ ap (λ l. shown_below options n ++ l) (filtered_in (is_shown options) n [] line)))
          (sym (ap (λ l. text ++ l) line_is))
          (shows_more (shown_below options n) n (length cells) cells (start + n) text shows (record { rising = listing.rising; live = λ x y. listing.live x y ∙ same.same x y }) refl refl)

  -- all that is said up to it
  pub said_next : (options : Options) (n : ℕ) (here : Plane) (old middle new : Option (List ℕ)) →
      (said : List ℕ) × AreLinesAfter rule plane start (shown_below options n) said × Appends old middle said →
      IsSame here (after rule plane n) → is_shown options n ≡ not options.quiet →
      (said : List ℕ) × IsSaid options.quiet (start + n) here said × Appends middle new said →
      (said : List ℕ) × AreLinesAfter rule plane start (shown_below options (n + 1)) said × Appends old new said
  said_next options n here old middle new before same shown_is line =
      (before.0 ++ line.0, shows_next options n here before.0 line.0 before.1 same line.1 shown_is, Appends-trans old middle new before.0 line.0 before.2 line.2)

-- ---- a report that stops

-- the lines below a number are the first of all
pub first_lines : (rule : CountRule) (plane : Plane) (start : ℕ) (options : Options) (count : ℕ) (said : List ℕ) → count ≤ options.gens + 1 → AreLinesAfter rule plane start (shown_below options count) said →
    AreFirstLines rule plane start options said
first_lines rule plane start options count said within shows =
    (length (shown_below options count), subst (λ ns. AreLinesAfter rule plane start ns said) (sym (shown_first options count (options.gens + 1) within)) shows)

-- where a line could not be said, what was said before stands, or the sink has failed and took a
-- beginning of both
pub stopped : {S : Type 0} (taken : S → Option (List ℕ)) (failures : S → ℕ) (start old new : S) (rule : CountRule) (plane : Plane) (generation : ℕ) (options : Options) (refusal : Refusal) (IsNext : List ℕ → Type 0) (said : List ℕ) →
    failures old ≡ failures start → AreFirstLines rule plane generation options said → Appends (taken start) (taken old) said →
    ((next : List ℕ) → IsNext next → AreFirstLines rule plane generation options (said ++ next)) →
    ((refusal ≡ NoMemory) × (new ≡ old))
    ⊎ (IsWriteRefusal (failures old) (failures new) refusal × ((next : List ℕ) × IsNext next × AppendsBeginning (taken old) (taken new) next)) →
    (LacksMemoryOrRoom refusal × (failures new ≡ failures start) × ((said : List ℕ) × AreFirstLines rule plane generation options said × Appends (taken start) (taken new) said))
    ⊎ (IsWriteRefusal (failures start) (failures new) refusal × ((said : List ℕ) × AreFirstLines rule plane generation options said × AppendsBeginning (taken start) (taken new) said))
stopped taken failures start old new rule plane generation options refusal IsNext said unfailed shows appends with_next (inl (memory, same)) =
    inl (inl memory, ap failures same ∙ unfailed, (said, shows, subst (λ s. Appends (taken start) (taken s) said) (sym same) appends))
stopped taken failures start old new rule plane generation options refusal IsNext said unfailed shows appends with_next (inr (refused, (next, is, begun))) =
    inr (subst (λ n. IsWriteRefusal n (failures new) refusal) unfailed refused, (said ++ next, with_next next is, text_and_beginning said appends begun))

-- ---- planes with the same cells

module _ (rule : CountRule) (plane other : Plane) (same : (x y : ℤ) → plane x y ≡ other x y) where
  pub same_after : (n : ℕ) (cells : List Cell) → IsListing cells (after rule plane n) → IsListing cells (after rule other n)
  same_after n cells listing =
      record { rising = listing.rising; live = λ x y. listing.live x y ∙ light_cone_lem rule plane other n x y (λ u v _ _. same u v) }

  pub same_generation : (n : ℕ) (last : Plane) → IsSame last (after rule plane n) → IsSame last (after rule other n)
  same_generation n last is = record { same = λ x y. is.same x y ∙ light_cone_lem rule plane other n x y (λ u v _ _. same u v) }

  same_lines : (start : ℕ) (ns : List ℕ) (lines : List (List ℕ)) → AllZip (IsLineAfter rule plane start) ns lines → AllZip (IsLineAfter rule other start) ns lines
  same_lines start [] [] zipped = tt
  same_lines start [] (line ∷ lines) zipped = absurd zipped
  same_lines start (n ∷ ns) [] zipped = absurd zipped
  same_lines start (n ∷ ns) (line ∷ lines) zipped =
      let first = zipped.0 in ((first.0, same_after n first.0 first.1, first.2), same_lines start ns lines zipped.1)

  pub same_shows : (start : ℕ) (ns : List ℕ) (text : List ℕ) → AreLinesAfter rule plane start ns text → AreLinesAfter rule other start ns text
  same_shows start ns text shows = (shows.0, same_lines start ns shows.0 shows.1, shows.2)
