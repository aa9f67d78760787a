-- The rows of two planes, compared from the top.
use Rattle.std.proofs.Common.{◌≡◌, ℕ, ℤ, pos, ◌+ℤ◌, ◌-ℤ◌, ◌≤ℤ◌, ◌<ℤ◌, int_lt, Bool, true, false, not, Option, None, Some, List, refl, sym, ◌∙◌, ap, arith}
use Rattle.std.proofs.lemmas.Bool.{false≢true}
use Rattle.std.specs.Option.{option_eq}
use Rattle.std.specs.Ordering.{int_eq}
use Rattle.std.specs.Cmp.{int_eq_equiv}
use Rattle.std.proofs.lemmas.Bool.Decides.{Decides-int_eq}
use Rattle.std.proofs.lemmas.Int.{ints}
use Rattle.plane.specs.Laws.{moved}
use Rattle.plane.specs.Plane.{Plane}
use Rattle.plane.specs.Square.{IsSame}
use Rattle.viewport.specs.RowRuns.{AreRowRuns}
use Rattle.viewport.specs.Rows.{AreDeadRows, IsDeadFrom, IsFirstRow}
use Rattle.period_search.specs.Rows.{IsNextRow}
use Rattle.period_search.specs.MovedRuns.{moved_runs}
use Rattle.period_search.proofs.MovedRuns.{row_moved, runs_of_moved}

pub by_cases : {A : Type 0} (b : Bool) → (b ≡ true → A) → (b ≡ false → A) → A
by_cases true p q = p refl
by_cases false p q = q refl

is_less : (a b : ℤ) → int_lt a b ≡ true → a <ℤ b
is_less a b e = grind (arith, ints)

no_less : (a b : ℤ) → int_lt a b ≡ false → b ≤ℤ a
no_less a b e = grind (arith, ints)

-- one number is less than the other, or they are equal
order : {A : Type 0} (a b : ℤ) → (a <ℤ b → A) → (a ≡ b → A) → (b <ℤ a → A) → A
order a b less same more = by_cases (int_lt a b) (λ e. less (is_less a b e))
    (λ e. by_cases (int_lt b a) (λ f. more (is_less b a f)) (λ f. same (equal a b (no_less a b e) (no_less b a f)))) where
      equal : (a b : ℤ) → b ≤ℤ a → a ≤ℤ b → a ≡ b
      equal a b h k = omega (arith, ints)

-- the rows above this one are those of the other plane, moved
pub record AreMovedAbove (plane other : Plane) (right down y : ℤ) : Type 0 where
  pub cells : (x z : ℤ) → z <ℤ y → other x (z +ℤ down) ≡ plane (x -ℤ right) z

-- ---- one row more

pub row_added : (plane other : Plane) (right down y row : ℤ) → AreMovedAbove plane other right down y → AreDeadRows plane y row → IsNextRow plane other right down y row → AreMovedAbove plane other right down (row +ℤ pos 1)
row_added plane other right down y row above dead next = record {
  cells = λ x z less.
      by_cases (int_lt z y) (λ e. above.cells x z (is_less z y e)) (λ e.
      order z row
      (λ h. next.dead.dead x (z +ℤ down) (from_there y z down (no_less z y e)) (to_there z row down h) ∙ sym (dead.dead (x -ℤ right) z (no_less z y e) h))
      (λ h. ap (λ v. other x (v +ℤ down)) h ∙ next.cells x ∙ ap (plane (x -ℤ right)) (sym h))
      (λ h. absurd (too_far z row less h)));
} where
  from_there : (y z down : ℤ) → y ≤ℤ z → (y +ℤ down) ≤ℤ (z +ℤ down)
  from_there y z down h = omega (arith, ints)

  to_there : (z row down : ℤ) → z <ℤ row → (z +ℤ down) <ℤ (row +ℤ down)
  to_there z row down h = omega (arith, ints)

  too_far : (z row : ℤ) → z <ℤ (row +ℤ pos 1) → row <ℤ z → ⊥
  too_far z row h k = omega (arith, ints)

-- ---- all rows

there_and_back : (z by : ℤ) → (z -ℤ by) +ℤ by ≡ z
there_and_back z by = omega (arith, ints)

behind : (y v down : ℤ) → y ≤ℤ (v -ℤ down) → (y +ℤ down) ≤ℤ v
behind y v down h = omega (arith, ints)

pub all_rows : (plane other : Plane) (right down y : ℤ) → AreMovedAbove plane other right down y → IsDeadFrom plane y → IsDeadFrom other (y +ℤ down) → IsSame other (moved right down plane)
all_rows plane other right down y above dead dead_too = record {
  same = λ x v.
      by_cases (int_lt (v -ℤ down) y)
      (λ e. ap (other x) (sym (there_and_back v down)) ∙ above.cells x (v -ℤ down) (is_less (v -ℤ down) y e))
      (λ e. dead_too.dead x v (behind y v down (no_less (v -ℤ down) y e)) ∙ sym (dead.dead (x -ℤ right) (v -ℤ down) (no_less (v -ℤ down) y e)));
}

-- ---- planes that are the same where one is moved

back : (z by : ℤ) → (z +ℤ by) -ℤ by ≡ z
back z by = omega (arith, ints)

live_there : (plane other : Plane) (right down x y : ℤ) → IsSame other (moved right down plane) → plane x y ≡ true → other (x +ℤ right) (y +ℤ down) ≡ true
live_there plane other right down x y same live = same.same _ _ ∙ ap (λ u. plane u ((y +ℤ down) -ℤ down)) (back x right) ∙ ap (plane x) (back y down) ∙ live

live_here : (plane other : Plane) (right down x y : ℤ) → IsSame other (moved right down plane) → other x y ≡ true → plane (x -ℤ right) (y -ℤ down) ≡ true
live_here plane other right down x y same live = sym (same.same x y) ∙ live

both : {A : Type 0} {b : Bool} → b ≡ true → b ≡ false → A
both live dead = absurd (false≢true (sym dead ∙ live))

-- the first live row of one is that of the other, moved
pub first_row_moved : (plane other : Plane) (right down y row : ℤ) (found : Option ℤ) → IsSame other (moved right down plane) → IsFirstRow plane y (Some row) → IsFirstRow other (y +ℤ down) found → found ≡ Some (row +ℤ down)
first_row_moved plane other right down y row None same (from, live, dead) none =
    both (live_there plane other right down live.x row same live.live) (none.dead _ _ (later y row down from)) where
      later : (y row down : ℤ) → y ≤ℤ row → (y +ℤ down) ≤ℤ (row +ℤ down)
      later y row down h = omega (arith, ints)
first_row_moved plane other right down y row (Some found) same (from, live, dead) (from_too, live_too, dead_too) =
    order found (row +ℤ down)
    (λ h. both (live_here plane other right down live_too.x found same live_too.live) (dead.dead _ _ (at_least y down found from_too) (at_most row down found h)))
    (λ h. ap (λ (z : ℤ). Some z) h)
    (λ h. both (live_there plane other right down live.x row same live.live) (dead_too.dead _ _ (later y row down from) h)) where
      later : (y row down : ℤ) → y ≤ℤ row → (y +ℤ down) ≤ℤ (row +ℤ down)
      later y row down h = omega (arith, ints)

      at_least : (y down found : ℤ) → (y +ℤ down) ≤ℤ found → y ≤ℤ (found -ℤ down)
      at_least y down found h = omega (arith, ints)

      at_most : (row down found : ℤ) → found <ℤ (row +ℤ down) → (found -ℤ down) <ℤ row
      at_most row down found h = omega (arith, ints)

-- where one has no row left, the other has none
pub no_row_moved : (plane other : Plane) (right down y : ℤ) (found : Option ℤ) → IsSame other (moved right down plane) → IsDeadFrom plane y → IsFirstRow other (y +ℤ down) found → found ≡ None
no_row_moved plane other right down y None same dead none = refl
no_row_moved plane other right down y (Some found) same dead (from, live, dead_too) =
    both (live_here plane other right down live.x found same live.live) (dead.dead _ _ (at_least y down found from)) where
      at_least : (y down found : ℤ) → (y +ℤ down) ≤ℤ found → y ≤ℤ (found -ℤ down)
      at_least y down found h = omega (arith, ints)

-- ---- answers

-- the next row of the other plane is this one, moved, if its runs are
pub next_row : (plane other : Plane) (right down y row : ℤ) (runs others : List (ℤ × ℕ)) → IsFirstRow other (y +ℤ down) (Some (row +ℤ down)) → AreRowRuns plane row runs → AreRowRuns other (row +ℤ down) others →
    others ≡ moved_runs right runs → IsNextRow plane other right down y row
next_row plane other right down y row runs others found of_row of_other is = record { dead = found.2; cells = row_moved plane other right down row runs others of_row of_other is }

pub other_runs : (plane other : Plane) (right down row : ℤ) (runs others : List (ℤ × ℕ)) → AreRowRuns plane row runs → AreRowRuns other (row +ℤ down) others → (others ≡ moved_runs right runs → ⊥) →
    IsSame other (moved right down plane) → ⊥
other_runs plane other right down row runs others of_row of_other unlike same = unlike (runs_of_moved plane other right down row runs others same of_row of_other)

pub other_row : (plane other : Plane) (right down y row : ℤ) (found : Option ℤ) → IsFirstRow plane y (Some row) → IsFirstRow other (y +ℤ down) found → (found ≡ Some (row +ℤ down) → ⊥) →
    IsSame other (moved right down plane) → ⊥
other_row plane other right down y row found is_first is_found unlike same = unlike (first_row_moved plane other right down y row found same is_first is_found)

-- a test whether a row was found at this place
pub was_found : (found : Option ℤ) (row : ℤ) (other : Bool) → other ≡ not (option_eq int_eq found (Some row)) → other ≡ false → found ≡ Some row
was_found None row other is unlike = both (is) unlike
was_found (Some here) row other is unlike = ap (λ (z : ℤ). Some z) ((Decides-int_eq here row).0 (not_false (int_eq here row) (sym is ∙ unlike))) where
  not_false : (b : Bool) → not b ≡ false → b ≡ true
  not_false true is = refl
  not_false false is = absurd (false≢true (sym is))

pub was_not_found : (found : Option ℤ) (row : ℤ) (other : Bool) → other ≡ not (option_eq int_eq found (Some row)) → other ≡ true → found ≡ Some row → ⊥
was_not_found found row other is alike same =
    false≢true (sym (ap not (int_eq_equiv.refl row)) ∙ ap (λ (o : Option ℤ). not (option_eq int_eq o (Some row))) (sym same) ∙ sym is ∙ alike)
