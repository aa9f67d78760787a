use Rattle.std.proofs.Common.{◌∙◌, sym, subst, inl, refl}
use Rattle.std.specs.List.{AllByRecursion}
use Rattle.std.proofs.lemmas.Result.{IfOk-weaker}
use Rattle.plane.specs.Runs.{IsRun}
use Rattle.squares.specs.declared.sq.Sq.{Sq}
use Rattle.squares.proofs.RunLevels.{cells_of_root, single_runs}
use Rattle.plane.proofs.SentErrors.{sent_on}
use Rattle.plane.specs.declared.refusal.Refusal.TheVariants.{NoMemory}
use Rattle.squares.proofs.runs.cells_to_square.Goals as goal

pub runs_to_square-requires : goal.runs_to_square-requires
runs_to_square-requires g c = subst (AllByRecursion IsRun) (sym (c.deref.ensures.value ∙ c.in_ok-runs.ensures.ok)) (single_runs c.args.cells.now c.in_ok-runs.ensures.set.in_range)

pub returns-clause-ok : goal.returns-clause-ok
returns-clause-ok g c =
    IfOk-weaker c.runs_to_square.result _ _
    (λ (sq : Sq) shown. cells_of_root (g.S.Squares.book c.runs_to_square.new.book) _ c.args.cells.now sq (c.deref.ensures.value ∙ c.in_ok-runs.ensures.ok) shown)
    c.runs_to_square.ensures.ok

pub returns-in_err-runs-clause-refusal : goal.returns-in_err-runs-clause-refusal
returns-in_err-runs-clause-refusal g c = sent_on _ c.from_residual.result NoMemory c.from_residual.ensures.1 (inl refl)
