use Rattle.std.proofs.Common.{◌≡◌, ◌++◌, ◌∷◌, [], refl, sym, ◌∙◌, map, ap}
use Rattle.std.specs.Map.Iter.{deref}
use Rattle.std.proofs.lemmas.Map.Iter.{rest_more, rest_all}
use Rattle.std.proofs.lemmas.List.{append-nil, map-append}
use Rattle.plane.proofs.Turns.{one_done}
use Rattle.squares.specs.Spans.{single_run}
use Rattle.squares.proofs.runs.runs_of.Goals as goal

pub loop-cell-init : goal.loop-cell-init
loop-cell-init c = record { listed = refl; runs = c.new-runs.ensures.items }

pub loop-cell-preserved : goal.loop-cell-preserved
loop-cell-preserved c = record {
  listed = one_done _ _ _ _ _ c.loop-cell.invariant.listed (rest_more deref _ _ _ _ c.in-Some.is c.next.ensures.steps);
  runs = c.in_ok-push.ensures.items
      ∙ ap (λ rs. rs ++ single_run (deref c.in-Some.cell) ∷ []) c.loop-cell.invariant.runs
      ∙ sym (ap (map single_run) (map-append deref c.loop-cell.yielded (c.in-Some.cell ∷ [])) ∙ map-append single_run (map deref c.loop-cell.yielded) (deref c.in-Some.cell ∷ []));
}

pub returns-clause-ok : goal.returns-clause-ok
returns-clause-ok c =
    let done = map deref c.loop-cell.yielded in
    let all : done ≡ c.args.cells.now =
    sym (append-nil done) ∙ ap (λ rest. done ++ rest) (sym (rest_all deref _ _ _ c.in-None.is c.next.ensures.steps))
    ∙ c.loop-cell.invariant.listed ∙ c.into_iter-cell-iterator.ensures.into_iter_gives ∙ c.iter-cell-items.ensures.cells in
    c.loop-cell.invariant.runs ∙ ap (map single_run) all
