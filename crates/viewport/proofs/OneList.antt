-- A row has one list of runs.
use Rattle.std.proofs.Common.{◌≡◌, ℕ, ◌<◌, ℤ, pos, ◌+ℤ◌, ◌≤ℤ◌, ◌<ℤ◌, true, false, ◌||◌, List, [], ◌∷◌, refl, sym, ◌∙◌, ap, arith}
use Rattle.std.specs.Prelude.{int_lt}
use Rattle.std.specs.List.{AllByRecursion, list_any}
use Rattle.std.proofs.lemmas.Bool.{false≢true}
use Rattle.std.proofs.lemmas.Int.{ints}
use Rattle.plane.proofs.Elements.{AllByRecursion-weaker}
use Rattle.viewport.specs.RowRuns.{AreApart, OneListOfRuns, end_of, is_in_row_run, is_in_some}
use Rattle.squares.proofs.NumberMaps.{by_cases}

out_before : (x : ℤ) (run : ℤ × ℕ) → x <ℤ run.0 → is_in_row_run x run ≡ false
out_before x run h = grind (arith, ints)

out_behind : (x : ℤ) (run : ℤ × ℕ) → end_of run ≤ℤ x → is_in_row_run x run ≡ false
out_behind x run h = grind (arith, ints)

in_it : (x : ℤ) (run : ℤ × ℕ) → run.0 ≤ℤ x → x <ℤ end_of run → is_in_row_run x run ≡ true
in_it x run h k = grind (arith, ints)

from_in : (x : ℤ) (run : ℤ × ℕ) → is_in_row_run x run ≡ true → (run.0 ≤ℤ x) × (x <ℤ end_of run)
from_in x run h = (grind (arith, ints), grind (arith, ints))

-- no run that begins behind a place has it
none_there : (x : ℤ) (runs : List (ℤ × ℕ)) → AllByRecursion (λ other. x <ℤ other.0) runs → is_in_some runs x ≡ false
unfolding is_in_some
none_there x [] all = refl
none_there x (run ∷ runs) all = ap (λ b. b || list_any (is_in_row_run x) runs) (out_before x run all.0) ∙ none_there x runs all.1

some_first : (run : ℤ × ℕ) (runs : List (ℤ × ℕ)) (x : ℤ) → is_in_row_run x run ≡ true → is_in_some (run ∷ runs) x ≡ true
unfolding is_in_some
some_first run runs x h = ap (λ b. b || list_any (is_in_row_run x) runs) h

not_first : (run : ℤ × ℕ) (runs : List (ℤ × ℕ)) (x : ℤ) → is_in_row_run x run ≡ false → is_in_some (run ∷ runs) x ≡ is_in_some runs x
unfolding is_in_some
not_first run runs x h = ap (λ b. b || list_any (is_in_row_run x) runs) h

no_runs : (x : ℤ) → is_in_some [] x ≡ false
unfolding is_in_some
no_runs x = refl

starts : (run : ℤ × ℕ) → 0 < run.1 → is_in_row_run run.0 run ≡ true
starts run some = grind (arith, ints)

-- what one of these has lies at their first place or behind it
at_least : (x : ℤ) (run : ℤ × ℕ) (runs : List (ℤ × ℕ)) → AreApart (run ∷ runs) → is_in_some (run ∷ runs) x ≡ true → run.0 ≤ℤ x
at_least x run runs apart h =
    by_cases (int_lt x run.0)
    (λ e. absurd (false≢true (sym (not_first run runs x (out_before x run (is_less x run.0 e)) ∙ none_there x runs (later x run runs apart (is_less x run.0 e))) ∙ h)))
    (λ e. no_less x run.0 e) where
      is_less : (a b : ℤ) → int_lt a b ≡ true → a <ℤ b
      is_less a b e = grind (arith, ints)

      no_less : (a b : ℤ) → int_lt a b ≡ false → b ≤ℤ a
      no_less a b e = grind (arith, ints)

      beyond : (x a e b : ℤ) (n : ℕ) → x <ℤ a → (a +ℤ pos n) <ℤ b → x <ℤ b
      beyond x a e b n h k = omega (arith, ints)

      later : (x : ℤ) (run : ℤ × ℕ) (runs : List (ℤ × ℕ)) → AreApart (run ∷ runs) → x <ℤ run.0 → AllByRecursion (λ other. x <ℤ other.0) runs
      later x run runs apart h = AllByRecursion-weaker (λ other. end_of run <ℤ other.0) (λ other. x <ℤ other.0) (λ other k. beyond x run.0 run.0 other.0 run.1 h k) runs apart.1

-- no list goes on where the other's first run has ended
no_longer : (a b : ℤ × ℕ) (runs others : List (ℤ × ℕ)) → AreApart (a ∷ runs) → AreApart (b ∷ others) → ((x : ℤ) → is_in_some (a ∷ runs) x ≡ is_in_some (b ∷ others) x) → a.0 ≡ b.0 → end_of b ≤ℤ end_of a
no_longer a b runs others apart also same first =
    by_cases (int_lt (end_of a) (end_of b))
    (λ e. absurd (false≢true (sym (not_first a runs (end_of a) (out_behind (end_of a) a (itself (end_of a))) ∙ none_there (end_of a) runs apart.1)
    ∙ same (end_of a) ∙ some_first b others (end_of a) (in_it (end_of a) b (at_start a b first) (less (end_of a) (end_of b) e)))))
    (λ e. more (end_of a) (end_of b) e) where
      itself : (x : ℤ) → x ≤ℤ x
      itself x = omega (arith, ints)

      less : (x y : ℤ) → int_lt x y ≡ true → x <ℤ y
      less x y e = grind (arith, ints)

      more : (x y : ℤ) → int_lt x y ≡ false → y ≤ℤ x
      more x y e = grind (arith, ints)

      at_start : (a b : ℤ × ℕ) → a.0 ≡ b.0 → b.0 ≤ℤ end_of a
      at_start a b e = omega (arith, ints)

both_ways : (a b : ℤ) → a ≤ℤ b → b ≤ℤ a → a ≡ b
both_ways a b h k = omega (arith, ints)

same_count : (a b : ℤ × ℕ) → a.0 ≡ b.0 → end_of a ≡ end_of b → a.1 ≡ b.1
same_count a b e f = omega (arith, ints)

one_list : (runs others : List (ℤ × ℕ)) → AreApart runs → AreApart others → ((x : ℤ) → is_in_some runs x ≡ is_in_some others x) → runs ≡ others
one_list [] [] apart also same = refl
one_list [] (b ∷ others) apart also same = absurd (false≢true (sym (no_runs b.0) ∙ same b.0 ∙ some_first b others b.0 (starts b also.0)))
one_list (a ∷ runs) [] apart also same = absurd (false≢true (sym (no_runs a.0) ∙ sym (same a.0) ∙ some_first a runs a.0 (starts a apart.0)))
one_list (a ∷ runs) (b ∷ others) apart also same =
    let left : a.0 ≡ b.0 = both_ways a.0 b.0
    (at_least b.0 a runs apart (same b.0 ∙ some_first b others b.0 (starts b also.0)))
    (at_least a.0 b others also (sym (same a.0) ∙ some_first a runs a.0 (starts a apart.0))) in
    let ends : end_of a ≡ end_of b = both_ways (end_of a) (end_of b) (no_longer b a others runs also apart (λ x. sym (same x)) (sym left)) (no_longer a b runs others apart also same left) in
    let count : a.1 ≡ b.1 = same_count a b left ends in
    let head : a ≡ b = λ i. (left i, count i) in
    let rest : (x : ℤ) → is_in_some runs x ≡ is_in_some others x = λ x. by_cases (is_in_row_run x a)
    (λ e. let h = (from_in x a e).1 in
    none_there x runs (AllByRecursion-weaker (λ other. end_of a <ℤ other.0) (λ other. x <ℤ other.0) (λ other k. through x (end_of a) other.0 h k) runs apart.1)
    ∙ sym (none_there x others (AllByRecursion-weaker (λ other. end_of b <ℤ other.0) (λ other. x <ℤ other.0) (λ other k. through_other x (end_of a) (end_of b) other.0 h ends k) others also.1)))
    (λ e. sym (not_first a runs x e) ∙ same x ∙ not_first b others x (sym (ap (is_in_row_run x) head) ∙ e)) in
    ap (λ (r : ℤ × ℕ). r ∷ runs) head ∙ ap (λ rs. b ∷ rs) (one_list runs others apart.2 also.2 rest) where
      through : (x e y : ℤ) → x <ℤ e → e <ℤ y → x <ℤ y
      through x e y h k = omega (arith, ints)

      through_other : (x e f y : ℤ) → x <ℤ e → e ≡ f → f <ℤ y → x <ℤ y
      through_other x e f y h g k = omega (arith, ints)

pub one_list_of_runs_lem : OneListOfRuns
one_list_of_runs_lem plane y runs others is also = one_list runs others is.apart also.apart (λ x. is.cells x ∙ sym (also.cells x))
