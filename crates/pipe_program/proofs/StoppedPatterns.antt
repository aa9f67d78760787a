-- Why the pattern that a session has open did not advance, or a search for its period stopped.
use Rattle.std.proofs.Common.{◌≡◌, ◌⊎◌, ℕ, ◌-◌, Bool, true, false, Some, Err, refl, sym, ◌∙◌, ap, subst, arith, inl, inr}
use Rattle.std.proofs.lemmas.Bool.{false≢true}
use Rattle.plane.specs.Fault.{placeless}
use Rattle.plane.specs.declared.refusal.Refusal.{Refusal}
use Rattle.plane.specs.declared.refusal.Refusal.TheVariants.{NoMemory, TooFar}
use Rattle.engine.specs.Room.{IsStuckWithin}
use Rattle.engine.specs.Sessions.{IsLaterSession, IsLostSession, IsSameSession, IsStuckHere, IsStuckOnTheWay, cells_of, is_open, pairs_of}
use Rattle.engine.specs.Sessions as sessions
use Rattle.engine.specs.States.{is_there}
use Rattle.engine.specs.declared.session.Session.{Session}
use Rattle.engine.proofs.Sessions.{none_later, same_session, stuck_within}
use Rattle.period_search.specs.Searches.{StopsOnTheWay}
use Rattle.period_search.specs.declared.candidates.Candidates.{Candidates}
use Rattle.pipe_program.specs.Answers.{IsNotAdvanced, Searches}
use Rattle.pipe_program.specs.States.{HasLimit, IsLost, cells_if, opened_of}
use Rattle.pipe_program.specs.declared.answering.Failure.TheVariants as failure
use Rattle.pipe_program.proofs.Looks.{same_opened}
use Rattle.pipe_program.proofs.SearchedPatterns.{later_opened, limit_later}

-- the cells of a session that is open are there
pub cells_there : (session : Session) → is_open session ≡ true → cells_if (is_open session) (cells_of session) ≡ Some (cells_of session)
cells_there session opened = ap (λ (b : Bool). cells_if b (cells_of session)) opened

lost_opened : (old new : Session) → IsLostSession old new → IsLost (opened_of old) (opened_of new)
lost_opened old new lost = record {
  rule = lost.rule;
  generation = lost.generation;
  comments = lost.comments;
  cells = ap (λ (b : Bool). cells_if b (cells_of new)) lost.closed;
}

-- a session that is stuck has tables that are too small for one generation of its cells
stuck_here : (session : Session) → IsStuckHere session → IsStuckWithin session.rule (cells_of session) (pairs_of session) 1
stuck_here session stuck =
    stuck_within {old = session} {new = session} 1
    (record { done = 0; before = omega arith; later = none_later {first = session} {second = session} (same_session session); stuck = stuck })

-- it is open
open_if_stuck : (session : Session) → IsStuckHere session → is_open session ≡ true
open_if_stuck session stuck = ap is_there stuck.is

-- the session did not advance, and neither did the pattern that it has open
pub not_advanced : (pairs generations : ℕ) (old new : Session) (refusal : Refusal) → HasLimit pairs old → (refusal ≡ NoMemory) ⊎ (is_open old ≡ true) → sessions.IsNotAdvanced old generations new refusal →
    IsNotAdvanced pairs generations (opened_of old) refusal (opened_of new)
not_advanced pairs generations old new refusal limit (inl memory) (inl (far, leaves, same)) = absurd (far_not_full (sym far ∙ memory)) where
  far_not_full : TooFar ≡ NoMemory → ⊥
  far_not_full is = cc
not_advanced pairs generations old new refusal limit (inr opened) (inl (far, leaves, same)) = inl (far, same_opened old new same, (cells_of old, cells_there old opened, leaves))
not_advanced pairs generations old new refusal limit any (inr (inl (full, stuck))) =
    let later = stuck.later in
    let here = open_if_stuck new stuck.stuck in
    let opened : is_open old ≡ true = sym later.pattern.opened ∙ here in
    inr (inl (
      full,
      (stuck.done, stuck.before, later_opened old new stuck.done opened later),
      (cells_of new, cells_there new here, subst (λ (n : ℕ). IsStuckWithin new.rule (cells_of new) n 1) (later.pattern.limit ∙ limit opened) (stuck_here new stuck.stuck)),
    ))
not_advanced pairs generations old new refusal limit any (inr (inr (memory, inl same))) = inr (inr (memory, inl (same_opened old new same)))
not_advanced pairs generations old new refusal limit any (inr (inr (memory, inr lost))) = inr (inr (memory, inr (lost_opened old new lost)))

-- so has one that is the same, or closed
limit_same : (pairs : ℕ) (old new : Session) → HasLimit pairs old → IsSameSession old new → HasLimit pairs new
limit_same pairs old new limit same = λ opened. same.pattern.limit ∙ limit (sym same.pattern.opened ∙ opened)

limit_lost : (pairs : ℕ) (session : Session) → is_open session ≡ false → HasLimit pairs session
limit_lost pairs session closed = λ opened. absurd (false≢true (sym closed ∙ opened))

pub limit_not_advanced : (pairs generations : ℕ) (old new : Session) (refusal : Refusal) → HasLimit pairs old → sessions.IsNotAdvanced old generations new refusal → HasLimit pairs new
limit_not_advanced pairs generations old new refusal limit (inl (far, leaves, same)) = limit_same pairs old new limit same
limit_not_advanced pairs generations old new refusal limit (inr (inl (full, stuck))) = limit_later pairs stuck.done old new limit stuck.later
limit_not_advanced pairs generations old new refusal limit (inr (inr (memory, inl same))) = limit_same pairs old new limit same
limit_not_advanced pairs generations old new refusal limit (inr (inr (memory, inr lost))) = limit_lost pairs new lost.closed

module _ (pairs : ℕ) (candidates : Candidates) (old new : Session) (refusal : Refusal) (limit : HasLimit pairs old) where
  -- a search that stops
  pub stopped : StopsOnTheWay candidates old new refusal → Searches pairs candidates (opened_of old) (Err (failure.Refused (placeless refusal))) (opened_of new)
  stopped (inl (memory, same)) = inr (inr (ap (λ (r : Refusal). Err (failure.Refused (placeless r))) memory, inl (same_opened old new same)))
  stopped (inr (opened, inl (memory, (done, within, later)))) =
      inr (inr (ap (λ (r : Refusal). Err (failure.Refused (placeless r))) memory, inr (done, within, later_opened old new done opened later)))
  stopped (inr (opened, inr way)) =
      let here_opened : is_open way.here ≡ true = way.later.pattern.opened ∙ opened in
      inr (inl (
        refusal,
        record {
          plane = cells_of old;
          before = cells_there old opened;
          here = opened_of way.here;
          done = way.done;
          next = way.next;
          later = later_opened old way.here way.done opened way.later;
          none = way.none;
          is_next = way.is_next;
          stops = not_advanced pairs (way.next - way.done) way.here new refusal (limit_later pairs way.done old way.here limit way.later) (inr here_opened) way.refused;
        },
        refl,
      ))

  pub limit_stopped : StopsOnTheWay candidates old new refusal → HasLimit pairs new
  limit_stopped (inl (memory, same)) = limit_same pairs old new limit same
  limit_stopped (inr (opened, inl (memory, (done, within, later)))) = limit_later pairs done old new limit later
  limit_stopped (inr (opened, inr way)) = limit_not_advanced pairs (way.next - way.done) way.here new refusal (limit_later pairs way.done old way.here limit way.later) way.refused
