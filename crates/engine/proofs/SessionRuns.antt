-- What a session that was opened of a file says of runs of this file.
use Rattle.std.proofs.Common.{◌≡◌, ℕ, ◌+◌, ◌≤◌, List, Option, Ok, Err, refl, sym, ◌∙◌, subst, arith, inl, inr}
use Rattle.rule_text.specs.CountRule.{CountRule}
use Rattle.plane.specs.Bounds.{bounds_of}
use Rattle.plane.specs.Fault.{placeless}
use Rattle.plane.specs.Plane.{Plane}
use Rattle.plane.specs.Range.{StaysWithin}
use Rattle.plane.specs.declared.cell.Cell.{Cell}
use Rattle.plane.specs.declared.fault.Fault.{Fault}
use Rattle.plane.specs.declared.refusal.Refusal.{Refusal}
use Rattle.plane.specs.declared.refusal.Refusal.TheVariants.{NodesFull, NoMemory, TooFar}
use Rattle.pattern_files.specs.Meaning.{Meaning}
use Rattle.run_options.specs.declared.options.RunOptions.{RunOptions}
use Rattle.universe.specs.Ranges.{KeepsToRange, LeavesRange}
use Rattle.universe.specs.Tables.{HasFullTable}
use Rattle.plane.proofs.Same.{same_sym}
use Rattle.plane.proofs.Uniqueness.{one_listing_lem}
use Rattle.universe.proofs.InRange.{keeps_on}
use Rattle.universe.proofs.Spread.{stays_shorter}
use Rattle.engine.specs.Accepted.{IsAccepted, SumsUp}
use Rattle.engine.specs.Judgement.{Judges, ReadsRule}
use Rattle.engine.specs.Refused.{HasRule, IsFullAtTheStart, IsOutOfTables, IsRefused, MayLackMemory}
use Rattle.engine.specs.Last.{EndsWith}
use Rattle.engine.specs.Room.{IsStuckWithin}
use Rattle.engine.specs.Sessions.{IsLaterSession, IsNotAdvanced, IsOpenedFor, cells_of}
use Rattle.engine.specs.declared.running.Summary.{Summary}
use Rattle.engine.specs.declared.session.Session.{Session}
use Rattle.engine.proofs.Acceptance.{keeps_as, leaves_as}
use Rattle.engine.proofs.Endings.{listing_as, stays_as}
use Rattle.engine.proofs.LastPatterns.{ends_with, stops}
use Rattle.engine.proofs.Sessions.{stuck_from_later, stuck_within}

-- no plane's cells both stay in the range and leave it
pub not_both : {plane : Plane} {start generations : ℕ} → KeepsToRange plane start generations → LeavesRange plane start generations → ⊥
not_both {plane} {start} {generations} keeps leaves =
    leaves.outside (subst (λ (cells : List Cell). StaysWithin (bounds_of cells) start generations) (one_listing_lem plane keeps.cells leaves.cells keeps.listing leaves.listing) keeps.stays)

-- a run of the same file, by the same rule and in as many pair slots, of as many generations or more
pub record IsLonger (run longer : RunOptions) : Type 0 where
  pub rule : longer.rule ≡ run.rule
  pub pairs : longer.pairs ≡ run.pairs
  pub gens : run.gens ≤ longer.gens

rule_of_longer : {run longer : RunOptions} → IsLonger run longer → (meaning : Meaning) (rule : CountRule) → ReadsRule run.rule meaning (Ok rule) → ReadsRule longer.rule meaning (Ok rule)
rule_of_longer is meaning rule = subst (λ (given : Option CountRule). ReadsRule given meaning (Ok rule)) (sym is.rule)

memory_not_full : (refusal : Refusal) → refusal ≡ NoMemory → refusal ≡ NodesFull → ⊥
memory_not_full refusal memory full = cc

module _ (bytes : List ℕ) {run longer : RunOptions} (is : IsLonger run longer) where
  -- it is accepted, if the session's cells stay in the range so long
  pub accepted_for : {session : Session} → (opened : IsOpenedFor bytes run session) → KeepsToRange (cells_of session) session.generation longer.gens → IsAccepted bytes longer opened.meaning session.rule (cells_of session)
  accepted_for {session} opened keeps =
      let judged_as = opened.accepted.accepted.0 in
      record {
        cells = keeps.cells;
        listing = keeps.listing;
        same = opened.accepted.same;
        lawful = opened.accepted.lawful;
        accepted = (record { text = judged_as.text; rule = rule_of_longer is opened.meaning session.rule judged_as.rule; cells = listing_as opened.accepted.same keeps.listing }, stays_as {box = bounds_of keeps.cells} refl opened.generation keeps.stays);
      }

  -- and refused, if they leave it
  pub too_far_for : {session : Session} → (opened : IsOpenedFor bytes run session) → LeavesRange (cells_of session) session.generation longer.gens → IsRefused bytes longer (placeless TooFar)
  unfolding IsRefused
  too_far_for {session} opened leaves =
      let there = leaves_as opened.accepted.same opened.generation leaves in
      let judged_as = opened.accepted.accepted.0 in
      inl (inr (inr (record {
        start = record { meaning = opened.meaning; rule = session.rule; cells = there.cells };
        accepted = record { text = judged_as.text; rule = rule_of_longer is opened.meaning session.rule judged_as.rule; cells = there.listing };
        outside = there.outside;
        is = refl;
      })))

  -- ---- what is refused is so for a longer run

  refused_judgement : (fault : Fault) → Judges bytes run (Err fault) → Judges bytes longer (Err fault)
  refused_judgement fault (inl text) = inl text
  refused_judgement fault (inr (inl refused)) = inr (inl (record {
    meaning = refused.meaning;
    rule_fault = refused.rule_fault;
    text = refused.text;
    rule = subst (λ (given : Option CountRule). ReadsRule given refused.meaning (Err refused.rule_fault)) (sym is.rule) refused.rule;
    is = refused.is;
  }))
  refused_judgement fault (inr (inr refused)) = inr (inr (record {
    start = refused.start;
    accepted = record { text = refused.accepted.text; rule = rule_of_longer is refused.start.meaning refused.start.rule refused.accepted.rule; cells = refused.accepted.cells };
    outside = λ stays. refused.outside (stays_shorter refused.start.cells refused.start.meaning.generation run.gens longer.gens is.gens stays);
    is = refused.is;
  }))

  has_rule : (rule : CountRule) → HasRule bytes run rule → HasRule bytes longer rule
  has_rule rule has = record { meaning = has.meaning; text = has.text; read = rule_of_longer is has.meaning rule has.read }

  may_lack_memory : MayLackMemory bytes run → MayLackMemory bytes longer
  may_lack_memory (inl macrocell) = inl macrocell
  may_lack_memory (inr (rule, has)) = inr (rule, has_rule rule has)

  -- where the session was refused before its first generation, a longer run is refused too
  full_at_the_start : IsFullAtTheStart bytes run → IsFullAtTheStart bytes longer
  full_at_the_start (rule, has, full) = (rule, has_rule rule has, subst (λ (n : ℕ). HasFullTable rule n) (sym is.pairs) full)

  out_of_tables : run.gens ≡ 0 → IsOutOfTables bytes run → IsOutOfTables bytes longer
  out_of_tables none (inl full) = inl (full_at_the_start full)
  out_of_tables none (inr (start, judges, stuck)) = let before = stuck.before in absurd (omega (arith, before, none))

  pub refused_for : (fault : Fault) → run.gens ≡ 0 → IsRefused bytes run fault → IsRefused bytes longer fault
  unfolding IsRefused
  refused_for fault none (inl judges) = inl (refused_judgement fault judges)
  refused_for fault none (inr (inl (memory, may))) = inr (inl (memory, may_lack_memory may))
  refused_for fault none (inr (inr (full, out))) = inr (inr (full, out_of_tables none out))

  -- ---- what comes of a session that is advanced to the last generation of a longer run

  pub later_ends : {first later : Session} (answer : Summary) → (opened : IsOpenedFor bytes run first) → KeepsToRange (cells_of first) first.generation longer.gens → IsLaterSession first longer.gens later →
      SumsUp later.generation (cells_of later) answer → EndsWith bytes longer (cells_of later) answer
  later_ends {first} {later} answer opened keeps is_later sums =
      ends_with bytes longer opened.meaning first.rule (cells_of first) (accepted_for {session = first} opened keeps) (cells_of later) answer first.generation opened.generation is_later.cells
      (subst (λ (n : ℕ). SumsUp n (cells_of later) answer) is_later.generation sums)

  pub later_refused : {first here there : Session} (done more : ℕ) (refusal : Refusal) → (opened : IsOpenedFor bytes run first) → KeepsToRange (cells_of first) first.generation longer.gens → IsLaterSession first done here →
      done + more ≡ longer.gens → IsNotAdvanced here more there refusal → IsRefused bytes longer (placeless refusal)
  later_refused {first} {here} {there} done more refusal opened keeps is_later sum (inl (far, leaves, same)) =
      let on = keeps_on first.rule opened.accepted.lawful (cells_of first) first.generation done more (subst (λ (n : ℕ). KeepsToRange (cells_of first) first.generation n) (sym sum) keeps) in
      let here_keeps = keeps_as (same_sym is_later.cells) (sym is_later.generation) on in
      absurd (not_both here_keeps leaves)
  later_refused {first} {here} {there} done more refusal opened keeps is_later sum (inr (inl (full, stuck))) =
      let within : done + more ≤ longer.gens = omega (arith, sum) in
      let from_first = stuck_within {old = first} {new = there} longer.gens (stuck_from_later {first = first} {second = here} {third = there} longer.gens done more is_later within stuck) in
      stops bytes longer opened.meaning first.rule (cells_of first) (accepted_for {session = first} opened keeps) refusal (inr full)
      (λ _. subst (λ (n : ℕ). IsStuckWithin first.rule (cells_of first) n longer.gens) (opened.limit ∙ sym is.pairs) from_first)
  later_refused {first} {here} {there} done more refusal opened keeps is_later sum (inr (inr (memory, after))) =
      stops bytes longer opened.meaning first.rule (cells_of first) (accepted_for {session = first} opened keeps) refusal (inl memory) (λ full. absurd (memory_not_full refusal memory full))

  -- and memory may run out in it
  pub memory_refused_for : {session : Session} → IsOpenedFor bytes run session → IsRefused bytes longer (placeless NoMemory)
  unfolding IsRefused
  memory_refused_for {session} opened =
      let judged_as = opened.accepted.accepted.0 in
      inr (inl (refl, inr (session.rule, record { meaning = opened.meaning; text = judged_as.text; read = rule_of_longer is opened.meaning session.rule judged_as.rule })))
