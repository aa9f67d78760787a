-- How a run without a report ends.
use Rattle.std.proofs.Common.{◌≡◌, ℕ, ◌+◌, List, ap, subst, inl, inr}
use Rattle.rule_text.specs.CountRule.{CountRule}
use Rattle.plane.specs.Fault.{placeless}
use Rattle.plane.specs.Plane.{Plane, after}
use Rattle.plane.specs.Square.{IsSame}
use Rattle.plane.specs.declared.refusal.Refusal.{Refusal}
use Rattle.plane.specs.declared.refusal.Refusal.TheVariants.{NodesFull}
use Rattle.pattern_files.specs.Meaning.{Meaning}
use Rattle.run_options.specs.declared.options.RunOptions.{RunOptions}
use Rattle.engine.specs.Accepted.{IsAccepted, SumsUp}
use Rattle.engine.specs.Judgement.{Start}
use Rattle.engine.specs.Last.{EndsWith}
use Rattle.engine.specs.Refused.{IsRefused}
use Rattle.engine.specs.Room.{IsStuckWithin}
use Rattle.universe.specs.Outcomes.{LacksMemoryOrRoom}
use Rattle.engine.specs.declared.running.Summary.{Summary}
use Rattle.engine.proofs.Onward.{stuck_from}
use Rattle.engine.proofs.Reports.{same_generation}

module _ (bytes : List ℕ) (run : RunOptions) (meaning : Meaning) (rule : CountRule) (here : Plane) (accepted : IsAccepted bytes run meaning rule here) where
  abbrev start : Start
  start = record { meaning = meaning; rule = rule; cells = accepted.cells }

  -- it comes to its last generation
  pub ends_with : (last : Plane) (answer : Summary) (generation : ℕ) → generation ≡ meaning.generation → IsSame last (after rule here run.gens) →
      SumsUp (generation + run.gens) last answer → EndsWith bytes run last answer
  ends_with last answer generation from is sum = record {
    start = start;
    accepted = accepted.accepted;
    cells = same_generation rule here meaning.live accepted.same.same run.gens last is;
    summary = subst (λ n. SumsUp (n + run.gens) last answer) from sum;
  }

  -- it was stopped on its way
  pub stops : (refusal : Refusal) → LacksMemoryOrRoom refusal → (refusal ≡ NodesFull → IsStuckWithin rule here run.pairs run.gens) → IsRefused bytes run (placeless refusal)
  unfolding IsRefused
  stops refusal (inl memory) stuck = inr (inl (ap placeless memory, inr (rule, record { meaning = meaning; text = accepted.accepted.0.text; read = accepted.accepted.0.rule })))
  stops refusal (inr is) stuck = inr (inr (ap placeless is, inr (start, accepted.accepted, stuck_from accepted.same (stuck is))))
