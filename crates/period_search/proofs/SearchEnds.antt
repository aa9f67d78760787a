-- What the early end of a search says of its first cells.
use Rattle.std.proofs.Common.{◌≡◌, ◌⊎◌, ◌+◌, ◌-◌, ◌≤◌, arith, inl, inr}
use Rattle.plane.specs.declared.refusal.Refusal.{Refusal}
use Rattle.plane.specs.declared.refusal.Refusal.TheVariants.{NoMemory}
use Rattle.engine.specs.Sessions.{cells_of, pairs_of}
use Rattle.engine.specs.declared.session.Session.{Session}
use Rattle.engine.proofs.Acceptance.{leaves_as}
use Rattle.engine.proofs.Sessions.{stuck_from_later, stuck_within}
use Rattle.period_search.specs.Searches.{IsRefusedOnTheWay, StopsInPlane, StopsOnTheWay}
use Rattle.period_search.specs.declared.candidates.Candidates.{Candidates}

refused_in_plane : (candidates : Candidates) (old new : Session) (refusal : Refusal) → IsRefusedOnTheWay candidates old new refusal →
    (refusal ≡ NoMemory) ⊎ StopsInPlane old.rule (cells_of old) old.generation (pairs_of old) candidates refusal
refused_in_plane candidates old new refusal way =
    let within : way.done + (way.next - way.done) ≤ way.next = let behind = way.is_next.behind in omega (arith, behind) in
    elim (way.refused) [
      | inl (far, leaves, same) ↦ inr (record {
        done = way.done;
        next = way.next;
        none = way.none;
        is_next = way.is_next;
        why = inl (far, leaves_as way.later.cells way.later.generation leaves);
      })
      | inr (inl (full, stuck)) ↦ inr (record {
        done = way.done;
        next = way.next;
        none = way.none;
        is_next = way.is_next;
        why = inr (full, stuck_within {old = old} {new = new} way.next (stuck_from_later {first = old} {second = way.here} {third = new} way.next way.done (way.next - way.done) way.later within stuck));
      })
      | inr (inr (memory, after)) ↦ inl memory
    ]

-- memory ran out, or the plane of the first cells does not come to a candidate
pub stops_in_plane : (candidates : Candidates) (old new : Session) (refusal : Refusal) → StopsOnTheWay candidates old new refusal →
    (refusal ≡ NoMemory) ⊎ StopsInPlane old.rule (cells_of old) old.generation (pairs_of old) candidates refusal
stops_in_plane candidates old new refusal (inl (memory, same)) = inl memory
stops_in_plane candidates old new refusal (inr (opened, inl (memory, came))) = inl memory
stops_in_plane candidates old new refusal (inr (opened, inr way)) = refused_in_plane candidates old new refusal way
