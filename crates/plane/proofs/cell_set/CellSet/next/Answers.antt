use Rattle.std.proofs.Common.{◌≡◌, ◌++◌, ◌∷◌, refl, sym, ◌∙◌, map, ap, [], subst}
use Rattle.std.specs.Map.Iter.{deref}
use Rattle.std.proofs.lemmas.Map.Iter.{rest_more, rest_all}
use Rattle.std.proofs.lemmas.List.{append-nil, map-append}
use Rattle.plane.specs.Listing.{plane_of, IsListing}
use Rattle.plane.specs.Plane.{next}
use Rattle.plane.specs.Range.{IsInRange}
use Rattle.plane.proofs.Around.{candidates_cover}
use Rattle.plane.proofs.Boxes.{room_for_next}
use Rattle.plane.proofs.Living.{LiveAmong, none_live, none_rise, one_lives, one_dies, all_live}
use Rattle.plane.proofs.Growth.{reach_after}
use Rattle.plane.proofs.Turns.{one_done, holds_of_item}
use Rattle.plane.proofs.SentErrors.{sent_on}
use Rattle.plane.proofs.cell_set.CellSet.next.Goals as goal

pub candidates-requires : goal.candidates-requires
candidates-requires c = room_for_next c.args.self.now c.requires

pub loop-cell-init : goal.loop-cell-init
loop-cell-init c = record {
  listed = refl;
  living = none_live _ _ c.new-living.ensures;
  rising = none_rise _ c.new-living.ensures;
}

pub lives_next-requires : goal.lives_next-requires
lives_next-requires c = holds_of_item IsInRange c.in_ok-candidates.candidates _ _ _ _
    (c.loop-cell.invariant.listed ∙ c.into_iter-cell-iterator.ensures.into_iter_gives ∙ c.iter-cell-items.ensures.cells)
    (rest_more deref _ _ _ _ c.in-Some.is c.next.ensures.steps) c.iter-cell-items.ensures.listing.in_range

pub insert-requires : goal.insert-requires
insert-requires c = holds_of_item IsInRange c.in_ok-candidates.candidates _ _ _ _
    (c.loop-cell.invariant.listed ∙ c.into_iter-cell-iterator.ensures.into_iter_gives ∙ c.iter-cell-items.ensures.cells)
    (rest_more deref _ _ _ _ c.in-Some.is c.next.ensures.steps) c.iter-cell-items.ensures.listing.in_range

pub loop-cell-preserved-in-Continue-branch-2 : goal.loop-cell-preserved-in-Continue-branch-2
loop-cell-preserved-in-Continue-branch-2 c =
    let plane = next c.args.rule.now (plane_of c.args.self.now) in
    record {
      listed = one_done _ _ _ _ _ c.loop-cell.invariant.listed (rest_more deref _ _ _ _ c.in-Some.is c.next.ensures.steps);
      living = subst (λ cells. LiveAmong plane cells c.insert.new.self) (sym (map-append deref c.loop-cell.yielded (c.in-Some.cell ∷ [])))
          (one_lives plane _ _ _ _ c.loop-cell.invariant.living (sym c.if-lives_next.ensures) c.in_ok-insert.ensures.ok);
      rising = c.in_ok-insert.ensures.ok.rising;
    }

pub loop-cell-preserved : goal.loop-cell-preserved
loop-cell-preserved c =
    let plane = next c.args.rule.now (plane_of c.args.self.now) in
    record {
      listed = one_done _ _ _ _ _ c.loop-cell.invariant.listed (rest_more deref _ _ _ _ c.in-Some.is c.next.ensures.steps);
      living = subst (λ cells. LiveAmong plane cells c.loop-cell.living) (sym (map-append deref c.loop-cell.yielded (c.in-Some.cell ∷ [])))
          (one_dies plane _ _ _ c.loop-cell.invariant.living (sym c.if-lives_next.ensures));
      rising = c.loop-cell.invariant.rising;
    }

-- the living cells are the next generation
listing_of : (c : goal.After-drop-candidates-inside-2) → IsListing c.loop-cell.living (next c.args.rule.now (plane_of c.args.self.now))
listing_of c =
    let plane = next c.args.rule.now (plane_of c.args.self.now) in
    let done = map deref c.loop-cell.yielded in
    let all : done ≡ c.in_ok-candidates.candidates =
    sym (append-nil done) ∙ ap (λ rest. done ++ rest) (sym (rest_all deref _ _ _ c.in-None.is c.next.ensures.steps))
    ∙ c.loop-cell.invariant.listed ∙ c.into_iter-cell-iterator.ensures.into_iter_gives ∙ c.iter-cell-items.ensures.cells in
    record {
      rising = c.loop-cell.invariant.rising;
      live = all_live plane c.in_ok-candidates.candidates _ (subst (λ cells. LiveAmong plane cells c.loop-cell.living) all c.loop-cell.invariant.living)
          (candidates_cover c.args.rule.now c.args.self.now c.in_ok-candidates.candidates c.neighbourhood.ensures.rule.no_birth_on_zero
          (rw (← c.neighbourhood.ensures.neighbourhood) c.in_ok-candidates.ensures.ok));
    }

pub returns-clause-ok : goal.returns-clause-ok
returns-clause-ok c = listing_of c

pub returns-clause-reach : goal.returns-clause-reach
returns-clause-reach c = reach_after c.args.rule.now c.args.self.now c.loop-cell.living c.neighbourhood.ensures.rule.no_birth_on_zero (listing_of c)

pub returns-in_err-candidates-clause-memory : goal.returns-in_err-candidates-clause-memory
returns-in_err-candidates-clause-memory c = sent_on _ c.from_residual.result c.in_err-candidates.field-0.0 c.from_residual.ensures.1 c.in_err-candidates.ensures.memory

pub returns-in_err-insert-clause-memory : goal.returns-in_err-insert-clause-memory
returns-in_err-insert-clause-memory c = sent_on _ c.from_residual-in_err-insert.result c.in_err-insert.field-0.0 c.from_residual-in_err-insert.ensures.1 c.in_err-insert.ensures.memory
