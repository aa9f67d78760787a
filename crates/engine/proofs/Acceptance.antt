-- How a run is accepted, and how it is refused before its first line.
use Rattle.std.proofs.Common.{◌≡◌, ◌⊎◌, ℕ, true, List, Some, Ok, Err, refl, sym, ap, subst, inl, inr}
use Rattle.rule_text.specs.CountRule.{CountRule, IsRule}
use Rattle.rule_text.specs.declared.fault.RuleFault.{RuleFault}
use Rattle.plane.specs.Fault.{placeless}
use Rattle.plane.specs.Plane.{Plane}
use Rattle.plane.specs.Refusal.{rule_refusal}
use Rattle.plane.specs.SinkChange.{SinkChange}
use Rattle.plane.specs.Square.{IsSame}
use Rattle.plane.specs.declared.fault.Fault.{Fault}
use Rattle.plane.specs.declared.refusal.Refusal.{Refusal}
use Rattle.plane.specs.declared.refusal.Refusal.TheVariants.{NodesFull, NoMemory, TooFar}
use Rattle.universe.specs.Outcomes.{LacksMemoryOrRoom}
use Rattle.universe.specs.Ranges.{KeepsToRange, LeavesRange}
use Rattle.universe.specs.Tables.{HasFullTable}
use Rattle.run_options.specs.declared.options.RunOptions.{RunOptions}
use Rattle.engine.specs.Accepted.{HasCellsInRange, IsAccepted}
use Rattle.engine.specs.Judgement.{ReadsRule}
use Rattle.pattern_files.specs.Meaning.{Meaning, is_macrocell, judged}
use Rattle.engine.specs.Refused.{HasRule, IsRefused}
use Rattle.engine.specs.Run.{IsRun}
use Rattle.engine.specs.RunOptions.{run_of}
use Rattle.engine.specs.declared.options.Options.{Options}
use Rattle.engine.proofs.Endings.{listing_as, stays_as, stopped_early, unfailed_same}

-- ---- the range

-- what stays in the range, or leaves it, does so as each plane with the same cells
pub keeps_as : {here there : Plane} {start generation generations : ℕ} → IsSame here there → start ≡ generation → KeepsToRange here start generations → KeepsToRange there generation generations
keeps_as same is keeps = record { cells = keeps.cells; listing = listing_as same keeps.listing; stays = stays_as refl is keeps.stays }

pub leaves_as : {here there : Plane} {start generation generations : ℕ} → IsSame here there → start ≡ generation → LeavesRange here start generations → LeavesRange there generation generations
leaves_as same is leaves = record { cells = leaves.cells; listing = listing_as same leaves.listing; outside = λ stays. leaves.outside (stays_as refl (sym is) stays) }

-- the range was not judged, or is left
pub refused_range : {here there : Plane} {start generation generations : ℕ} (refusal : Refusal) → IsSame here there → start ≡ generation →
    (refusal ≡ NoMemory) ⊎ ((refusal ≡ TooFar) × LeavesRange here start generations) →
    LacksMemoryOrRoom refusal ⊎ ((refusal ≡ TooFar) × LeavesRange there generation generations)
refused_range refusal same is (inl memory) = inl (inl memory)
refused_range refusal same is (inr (far, leaves)) = inr (far, leaves_as same is leaves)

-- where it was not judged, or is left, no table is full
pub range_not_full : {Leaves : Type 0} (refusal : Refusal) → (refusal ≡ NoMemory) ⊎ ((refusal ≡ TooFar) × Leaves) → refusal ≡ NodesFull → ⊥
range_not_full refusal (inl memory) full = cc
range_not_full refusal (inr (far, leaves)) full = cc

-- ---- the judgement

-- the text is refused, or memory ran out while it was read
pub text_refused : (bytes : List ℕ) (run : RunOptions) (fault : Fault) → (judged bytes ≡ Err fault) ⊎ ((is_macrocell bytes ≡ true) × (fault ≡ placeless NoMemory)) →
    IsRefused bytes run fault
unfolding IsRefused
text_refused bytes run fault (inl refused) = inl (inl refused)
text_refused bytes run fault (inr (macrocell, memory)) = inr (inl (memory, inl macrocell))

module _ (bytes : List ℕ) (run : RunOptions) (meaning : Meaning) (text : judged bytes ≡ Ok meaning) where
  pub rule_refused : (fault : Fault) → ((rule_fault : RuleFault) × ReadsRule run.rule meaning (Err rule_fault) × (fault ≡ record { refusal = rule_refusal rule_fault; place = Some meaning.rule_place })) →
      IsRefused bytes run fault
  unfolding IsRefused
  rule_refused fault (rule_fault, read, is) = inl (inr (inl (record { meaning = meaning; rule_fault = rule_fault; text = text; rule = read; is = is })))

  module _ (rule : CountRule) (read : ReadsRule run.rule meaning (Ok rule)) where
    has_rule : HasRule bytes run rule
    has_rule = record { meaning = meaning; text = text; read = read }

    pub range_refused : (refusal : Refusal) → LacksMemoryOrRoom refusal ⊎ ((refusal ≡ TooFar) × LeavesRange meaning.live meaning.generation run.gens) →
        (refusal ≡ NodesFull → HasFullTable rule run.pairs) → IsRefused bytes run (placeless refusal)
    unfolding IsRefused
    range_refused refusal (inl (inl memory)) full = inr (inl (ap placeless memory, inr (rule, has_rule)))
    range_refused refusal (inl (inr is)) full = inr (inr (ap placeless is, inl (rule, has_rule, full is)))
    range_refused refusal (inr (far, leaves)) full = inl (inr (inr (record {
      start = record { meaning = meaning; rule = rule; cells = leaves.cells };
      accepted = record { text = text; rule = read; cells = leaves.listing };
      outside = leaves.outside;
      is = ap placeless far;
    })))

    pub accepted : (here : Plane) → IsRule rule → HasCellsInRange meaning run.gens here → IsAccepted bytes run meaning rule here
    accepted here lawful room = record {
      cells = room.stays.cells;
      listing = room.stays.listing;
      same = room.same;
      lawful = lawful;
      accepted = (record { text = text; rule = read; cells = listing_as room.same room.stays.listing }, room.stays.stays);
    }

-- what is accepted as one run is so as each that is the same
pub accepted_as : {bytes : List ℕ} {run other : RunOptions} {meaning : Meaning} {rule : CountRule} {here : Plane} → run ≡ other → IsAccepted bytes run meaning rule here →
    IsAccepted bytes other meaning rule here
accepted_as {bytes} {run} {other} {meaning} {rule} {here} same = subst (λ (r : RunOptions). IsAccepted bytes r meaning rule here) same

-- a run that is refused before its first line has written nothing
pub refused_at_once : {W V : Type 0} (bytes : List ℕ) (options : Options) (fault : Fault) (report : SinkChange W) (file : SinkChange V) → report.new ≡ report.old → file.new ≡ file.old →
    IsRefused bytes (run_of options) fault → IsRun bytes options report file (Err fault)
refused_at_once bytes options fault report file same same_file refused =
    stopped_early (λ _. same_file) (inr (unfailed_same file same_file, unfailed_same report same)) (inl (refused, same, same_file))
