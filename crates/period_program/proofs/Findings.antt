-- How looking for a period ends.
use Rattle.std.proofs.Common.{◌≡◌, ℕ, Option, List, Ok, Err, refl, sym, ap, subst, inl, inr}
use Rattle.rule_text.specs.CountRule.{CountRule}
use Rattle.plane.specs.Fault.{placeless}
use Rattle.plane.specs.Plane.{Plane}
use Rattle.plane.specs.SinkChange.{SinkChange, Fails, IsUnfailed, Takes, TakesBeginning}
use Rattle.plane.specs.declared.fault.Fault.{Fault}
use Rattle.plane.specs.declared.refusal.Refusal.{Refusal}
use Rattle.plane.specs.declared.refusal.Refusal.TheVariants.{NoMemory, WriteFailed}
use Rattle.plane.proofs.Same.{plane_equal}
use Rattle.engine.specs.Judgement.{last_generation}
use Rattle.engine.specs.Refused.{IsRefused}
use Rattle.engine.specs.Sessions.{cells_of, pairs_of}
use Rattle.engine.specs.declared.session.Session.{Session}
use Rattle.period_search.specs.Searches.{IsAnswer, StopsInPlane, StopsOnTheWay}
use Rattle.period_search.specs.declared.period.Period.{Period}
use Rattle.period_search.proofs.SearchEnds.{stops_in_plane}
use Rattle.period_program.specs.Finding.{HasAnswer, IsFinding, IsStopped, last_plane}
use Rattle.period_program.specs.LastSession.{IsLastSession}
use Rattle.period_program.specs.PeriodLine.{period_line}
use Rattle.period_program.specs.declared.asking.Search.{Search}

module _ {W : Type 0} (bytes : List ℕ) (search : Search) (report : SinkChange W) where
  -- it was refused before it has written anything
  module _ (same : report.new ≡ report.old) where
    pub refused_at_once : (fault : Fault) → IsRefused bytes search.run fault → IsFinding bytes search report (Err fault)
    refused_at_once fault refused = record { finished = tt; unfailed = inr (ap report.failure_count same); refused = inl (refused, same) }

    stopped_at : (fault : Fault) → IsStopped bytes search fault → IsFinding bytes search report (Err fault)
    stopped_at fault stopped = record { finished = tt; unfailed = inr (ap report.failure_count same); refused = inr (inl (stopped, same)) }

  -- the run came to its last generation
  module _ {session : Session} (last : IsLastSession bytes search.run session) where
    the_plane : cells_of session ≡ last_plane last.start search
    the_plane = plane_equal (cells_of session) (last_plane last.start search) last.cells

    out_of_memory : IsRefused bytes search.run (placeless NoMemory)
    unfolding IsRefused
    out_of_memory = let judged_as = last.accepted.0 in inr (inl (refl, inr (last.start.rule, record { meaning = last.start.meaning; text = judged_as.text; read = judged_as.rule })))

    stops_there : (refusal : Refusal) → StopsInPlane session.rule (cells_of session) session.generation (pairs_of session) search.candidates refusal →
        StopsInPlane last.start.rule (last_plane last.start search) (last_generation last.start search.run) search.run.pairs search.candidates refusal
    stops_there refusal stops =
        subst (λ (r : CountRule). StopsInPlane r (last_plane last.start search) (last_generation last.start search.run) search.run.pairs search.candidates refusal) last.rule
        (subst (λ (p : Plane). StopsInPlane session.rule p (last_generation last.start search.run) search.run.pairs search.candidates refusal) the_plane
        (subst (λ (n : ℕ). StopsInPlane session.rule (cells_of session) n search.run.pairs search.candidates refusal) last.generation
        (subst (λ (n : ℕ). StopsInPlane session.rule (cells_of session) session.generation n search.candidates refusal) last.limit stops)))

    -- and its period could not be found
    pub not_found : {there : Session} → report.new ≡ report.old → (refusal : Refusal) → StopsOnTheWay search.candidates session there refusal → IsFinding bytes search report (Err (placeless refusal))
    not_found {there} same refusal stops = elim (stops_in_plane search.candidates session there refusal stops) [
      | inl memory ↦ refused_at_once same (placeless refusal) (subst (λ (r : Refusal). IsRefused bytes search.run (placeless r)) (sym memory) out_of_memory)
      | inr there ↦ stopped_at same (placeless refusal) (record { start = last.start; accepted = last.accepted; refusal = refusal; is = refl; stops = stops_there refusal there })
    ]

    -- and was found, or none
    module _ (answer : Option Period) (is : IsAnswer session.rule (cells_of session) search.candidates answer) where
      has_answer : HasAnswer bytes search answer
      has_answer = record {
        start = last.start;
        accepted = last.accepted;
        is = subst (λ (r : CountRule). IsAnswer r (last_plane last.start search) search.candidates answer) last.rule
            (subst (λ (p : Plane). IsAnswer session.rule p search.candidates answer) the_plane is);
      }

      pub line_failed : (refusal : Refusal) → refusal ≡ WriteFailed → Fails report → TakesBeginning report (period_line search.candidates answer) → IsFinding bytes search report (Err (placeless refusal))
      line_failed refusal is failed begun =
          let told = ap placeless is in
          record { finished = tt; unfailed = inl (ap Err told); refused = inr (inr (told, failed, (answer, has_answer, begun))) }

      pub ends_well : IsUnfailed report → Takes report (period_line search.candidates answer) → IsFinding bytes search report (Ok tt)
      ends_well unfailed takes = record { finished = (answer, has_answer, takes); unfailed = inr unfailed; refused = tt }
