-- Runs of a row, moved to the right.
use Rattle.std.proofs.lemmas.Bool.{cases_lt}
use Rattle.std.proofs.Common.{◌≡◌, ℕ, ◌+◌, ◌<◌, ◌≤◌, ⊎_elim, ℤ, pos, ◌+ℤ◌, ◌-ℤ◌, ◌<ℤ◌, ◌||◌, List, [], ◌∷◌, length, get_or, refl, sym, ◌∙◌, ap, subst, arith}
use Rattle.std.specs.List.{AllByRecursion, list_any}
use Rattle.std.proofs.lemmas.Int.{ints}
use Rattle.std.proofs.lemmas.List.{ext_get_or, get_or-map, length-map}
use Rattle.plane.specs.Laws.{moved}
use Rattle.plane.specs.Plane.{Plane}
use Rattle.plane.specs.Square.{IsSame, spans}
use Rattle.viewport.specs.RowRuns.{AreApart, AreRowRuns, end_of, is_in_row_run, is_in_some}
use Rattle.viewport.proofs.OneList.{one_list_of_runs_lem}
use Rattle.period_search.specs.MovedRuns.{moved_run, moved_runs}

-- ---- compared run by run

abbrev pub no_run : ℤ × ℕ
no_run = (pos 0, 0)

-- the first runs of one list are those of the other, moved
abbrev pub AreMovedBefore : ℤ → List (ℤ × ℕ) → List (ℤ × ℕ) → ℕ → Type 0
AreMovedBefore right runs others n = (k : ℕ) → k < n → get_or others k no_run ≡ moved_run right (get_or runs k no_run)

pub all_moved : (right : ℤ) (runs others : List (ℤ × ℕ)) → length runs ≡ length others → AreMovedBefore right runs others (length runs) → others ≡ moved_runs right runs
all_moved right runs others long each =
    ext_get_or no_run others (moved_runs right runs) (sym long ∙ sym (length-map runs (moved_run right)))
    (λ i within. let before : i < length runs = subst (λ n. i < n) (sym long) within in each i before ∙ sym (get_or-map (moved_run right) runs i no_run no_run before))

pub each_moved : (right : ℤ) (runs others : List (ℤ × ℕ)) → others ≡ moved_runs right runs → AreMovedBefore right runs others (length runs)
each_moved right runs others is k within = ap (λ (l : List (ℤ × ℕ)). get_or l k no_run) is ∙ get_or-map (moved_run right) runs k no_run no_run within

pub moved_length : (right : ℤ) (runs others : List (ℤ × ℕ)) → others ≡ moved_runs right runs → length runs ≡ length others
moved_length right runs others is = sym (ap (λ (l : List (ℤ × ℕ)). length l) is ∙ length-map runs (moved_run right))

-- ---- their cells

one_moved : (right x : ℤ) (run : ℤ × ℕ) → is_in_row_run x (moved_run right run) ≡ is_in_row_run (x -ℤ right) run
one_moved right x run = ap (spans run.1) (step x run.0 right) where
  step : (x first right : ℤ) → x -ℤ (first +ℤ right) ≡ (x -ℤ right) -ℤ first
  step x first right = omega (arith, ints)

pub cells_moved : (right x : ℤ) (runs : List (ℤ × ℕ)) → is_in_some (moved_runs right runs) x ≡ is_in_some runs (x -ℤ right)
unfolding is_in_some
cells_moved right x [] = refl
cells_moved right x (run ∷ runs) =
    ap (λ b. b || list_any (is_in_row_run x) (moved_runs right runs)) (one_moved right x run)
    ∙ ap (λ b. is_in_row_run (x -ℤ right) run || b) (cells_moved right x runs)

behind_moved : (right : ℤ) (run : ℤ × ℕ) (runs : List (ℤ × ℕ)) → AllByRecursion (λ other. end_of run <ℤ other.0) runs → AllByRecursion (λ other. end_of (moved_run right run) <ℤ other.0) (moved_runs right runs)
behind_moved right run [] all = tt
behind_moved right run (other ∷ runs) all = (let less = all.0 in omega (arith, ints, less), behind_moved right run runs all.1)

apart_moved : (right : ℤ) (runs : List (ℤ × ℕ)) → AreApart runs → AreApart (moved_runs right runs)
apart_moved right [] apart = tt
apart_moved right (run ∷ runs) apart = (apart.0, behind_moved right run runs apart.1, apart_moved right runs apart.2)

back : (z by : ℤ) → (z +ℤ by) -ℤ by ≡ z
back z by = omega (arith, ints)

-- where a plane is another one, moved, the runs of its rows are those of the other one, moved
pub runs_of_moved : (plane other : Plane) (right down y : ℤ) (runs others : List (ℤ × ℕ)) → IsSame other (moved right down plane) → AreRowRuns plane y runs → AreRowRuns other (y +ℤ down) others →
    others ≡ moved_runs right runs
runs_of_moved plane other right down y runs others same of_row of_other =
    one_list_of_runs_lem other (y +ℤ down) others (moved_runs right runs) of_other (record {
      apart = apart_moved right runs of_row.apart;
      cells = λ x. cells_moved right x runs ∙ of_row.cells (x -ℤ right) ∙ ap (λ v. plane (x -ℤ right) v) (sym (back y down)) ∙ sym (same.same x (y +ℤ down));
    })

-- where they are so, a row of the plane is that of the other one, moved
pub row_moved : (plane other : Plane) (right down y : ℤ) (runs others : List (ℤ × ℕ)) → AreRowRuns plane y runs → AreRowRuns other (y +ℤ down) others → others ≡ moved_runs right runs →
    (x : ℤ) → other x (y +ℤ down) ≡ plane (x -ℤ right) y
row_moved plane other right down y runs others of_row of_other is x =
    sym (of_other.cells x) ∙ ap (λ (l : List (ℤ × ℕ)). is_in_some l x) is ∙ cells_moved right x runs ∙ of_row.cells (x -ℤ right)

-- one run more
pub one_more : (right : ℤ) (runs others : List (ℤ × ℕ)) (i : ℕ) → AreMovedBefore right runs others i → get_or others i no_run ≡ moved_run right (get_or runs i no_run) → AreMovedBefore right runs others (i + 1)
one_more right runs others i before here k less =
    ⊎_elim (λ (below : k < i). before k below) (λ (above : i ≤ k). let same : k ≡ i = omega (arith, above, less) in ap (λ (n : ℕ). get_or others n no_run) same ∙ here ∙ sym (ap (λ (n : ℕ). moved_run right (get_or runs n no_run)) same)) (cases_lt k i)

pub to_all : (right : ℤ) (runs others : List (ℤ × ℕ)) (i : ℕ) → length runs ≤ i → AreMovedBefore right runs others i → AreMovedBefore right runs others (length runs)
to_all right runs others i all before k less = before k (omega (arith, all, less))
