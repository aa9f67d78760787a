use Rattle.std.proofs.Common.{◌≡◌, ◌∙◌, sym, subst, ap, inl, refl}
use Rattle.std.specs.Prelude.{Result, Ok, Err, IfOk}
use Rattle.std.specs.List.{AllByRecursion}
use Rattle.plane.specs.Square.{IsSame}
use Rattle.plane.specs.Centred.{IsSmallestLevel}
use Rattle.plane.specs.Runs.{IsRun, runs_plane}
use Rattle.plane.proofs.Same.{plane_equal}
use Rattle.squares.specs.Roots.{square_plane}
use Rattle.squares.specs.declared.sq.Sq.{Sq}
use Rattle.squares.proofs.RunLevels.{known_root}
use Rattle.squares.proofs.RunOrder.{all_sorted, same_runs_plane}
use Rattle.plane.proofs.SentErrors.{sent_on}
use Rattle.plane.specs.declared.refusal.Refusal.TheVariants.{NoMemory}
use Rattle.squares.proofs.runs.runs_to_square.Goals as goal

pub smallest_level-level-requires : goal.smallest_level-level-requires
smallest_level-level-requires g c = subst (AllByRecursion IsRun) (sym c.deref.ensures.value) (all_sorted IsRun c.args.runs.now c.in_ok-sorted.sorted.items c.in_ok-sorted.ensures.same c.requires)

-- what both clauses of a result that is Ok say
both : {A E : Type 0} (result : Result A E) (P Q R : A → Type 0) → ((a : A) → P a → Q a → R a) → IfOk result P → IfOk result Q → IfOk result R
both (Ok a) P Q R make p q = make a p q
both (Err e) P Q R make p q = tt

pub returns-clause-ok : goal.returns-clause-ok
returns-clause-ok g c =
    let book = g.S.Squares.book c.ordered_runs_to_square.new.book in
    let level = c.smallest_level-level.result in
    let first : runs_plane c.deref.result.now ≡ runs_plane c.args.runs.now = ap runs_plane c.deref.ensures.value ∙ plane_equal _ _ (same_runs_plane c.args.runs.now c.in_ok-sorted.sorted.items c.in_ok-sorted.ensures.same) in
    let second : runs_plane c.deref-2.result.now ≡ runs_plane c.args.runs.now = ap runs_plane c.deref-2.ensures.value ∙ plane_equal _ _ (same_runs_plane c.args.runs.now c.in_ok-sorted.sorted.items c.in_ok-sorted.ensures.same) in
    both c.ordered_runs_to_square.result _ _ _
    (λ (sq : Sq) known cells. known_root book level (runs_plane c.args.runs.now) sq (subst (IsSmallestLevel level) first c.smallest_level-level.ensures.smallest) known (subst (IsSame (square_plane book sq)) second cells))
    c.ordered_runs_to_square.ensures.known c.ordered_runs_to_square.ensures.cells

pub returns-in_err-sorted-clause-refusal : goal.returns-in_err-sorted-clause-refusal
returns-in_err-sorted-clause-refusal g c = sent_on _ c.from_residual.result NoMemory c.from_residual.ensures.1 (inl refl)
