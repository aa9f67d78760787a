-- Sessions that are opened of a file and come to the last generation of a run.
use Rattle.std.proofs.Common.{◌≡◌, ℕ, ◌+◌, List, Option, refl, sym, ◌∙◌, ap, arith}
use Rattle.plane.specs.Fault.{placeless}
use Rattle.plane.specs.Range.{StaysWithin}
use Rattle.plane.specs.declared.cell.Bounds.{Bounds}
use Rattle.plane.specs.declared.fault.Fault.{Fault}
use Rattle.plane.specs.declared.refusal.Refusal.{Refusal}
use Rattle.plane.specs.declared.refusal.Refusal.TheVariants.{NoMemory, TooFar}
use Rattle.plane.proofs.Parts.{after_same}
use Rattle.plane.proofs.Same.{same_trans}
use Rattle.run_options.specs.declared.options.RunOptions.{RunOptions}
use Rattle.universe.specs.Ranges.{KeepsToRange}
use Rattle.viewport.specs.BoundingBox.{HasBounds}
use Rattle.engine.specs.Refused.{IsRefused}
use Rattle.engine.specs.Sessions.{IsLaterSession, IsNotAdvanced, IsOpenedFor, IsSameSession, cells_of, opening}
use Rattle.engine.specs.declared.session.Session.{Session}
use Rattle.engine.proofs.Endings.{stays_as}
use Rattle.engine.proofs.SessionRuns.{IsLonger, accepted_for, later_refused, memory_refused_for, refused_for, too_far_for}
use Rattle.engine.proofs.Sessions.{none_later, same_then_later}
use Rattle.period_program.specs.LastSession.{IsLastSession}

module _ (bytes : List ℕ) (run : RunOptions) where
  longer : IsLonger (opening run.rule run.pairs) run
  longer = record { rule = refl; pairs = refl; gens = omega arith }

  pub not_opened : (fault : Fault) → IsRefused bytes (opening run.rule run.pairs) fault → IsRefused bytes run fault
  not_opened fault refused = refused_for bytes longer fault refl refused

  module _ {session : Session} (opened : IsOpenedFor bytes (opening run.rule run.pairs) session) where
    pub no_memory : IsRefused bytes run (placeless NoMemory)
    no_memory = memory_refused_for bytes longer {session = session} opened

    -- its box was asked for, and the run judged by it
    module _ (bounds : Option Bounds) (has : HasBounds (cells_of session) bounds) (generation : ℕ) (first : generation ≡ session.generation) where
      pub too_far : ¬ StaysWithin bounds generation run.gens → IsRefused bytes run (placeless TooFar)
      too_far far = too_far_for bytes longer {session = session} opened (record {
        cells = has.cells;
        listing = has.listing;
        outside = λ stays. far (stays_as (sym has.bounds) (sym first) stays);
      })

      module _ (stays : StaysWithin bounds generation run.gens) where
        keeps : KeepsToRange (cells_of session) session.generation run.gens
        keeps = record { cells = has.cells; listing = has.listing; stays = stays_as has.bounds first stays }

        pub not_advanced : {asked there : Session} (refusal : Refusal) → IsSameSession session asked → IsNotAdvanced asked run.gens there refusal → IsRefused bytes run (placeless refusal)
        not_advanced {asked} {there} refusal same refused =
            later_refused bytes longer {first = session} {here = asked} {there = there} 0 run.gens refusal opened keeps (none_later same) (omega arith) refused

        pub is_last : {asked there : Session} → IsSameSession session asked → IsLaterSession asked run.gens there → IsLastSession bytes run there
        is_last {asked} {there} same later =
            let whole = same_then_later {first = session} {second = asked} {third = there} run.gens same later in
            let run_is = accepted_for bytes longer {session = session} opened keeps in
            record {
              start = record { meaning = opened.meaning; rule = session.rule; cells = run_is.cells };
              accepted = run_is.accepted;
              rule = whole.pattern.rule;
              cells = same_trans whole.cells (after_same session.rule (cells_of session) opened.meaning.live run.gens opened.accepted.same);
              generation = whole.generation ∙ ap (λ (n : ℕ). n + run.gens) opened.generation;
              limit = whole.pattern.limit ∙ opened.limit;
            }
