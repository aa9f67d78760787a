-- Numbers as code reads them, and what is said of rows and runs at such numbers.
use Rattle.std.proofs.Common.{◌≡◌, ℤ, pos, ◌+ℤ◌, ◌-ℤ◌, ◌≤ℤ◌, ◌<◌, Bool, true, false, not, Option, None, Some, List, ℕ, SFits, to_z, of_z, w64, refl, sym, ◌∙◌, ap, subst, arith}
use Rattle.std.specs.Prelude.{is_some, unsigned_abs}
use Rattle.std.specs.Bool.{OnFalse, OnTrue}
use Rattle.std.proofs.lemmas.Int.{ints, to_z-of_z}
use Rattle.plane.specs.Laws.{moved}
use Rattle.plane.specs.Plane.{Plane}
use Rattle.plane.specs.Square.{IsSame}
use Rattle.plane.proofs.Same.{plane_equal, same_trans}
use Rattle.viewport.specs.RowRuns.{AreRowRuns}
use Rattle.viewport.specs.Rows.{IsFirstRow}
use Rattle.period_search.specs.Boxes.{IsSideInRange}
use Rattle.period_search.specs.Rows.{IsNextRow}
use Rattle.period_search.specs.MovedRuns.{moved_runs}

-- a number as it is read
abbrev pub read : ℤ → ℤ
read z = to_z w64 (of_z w64 z)

pub sum_read : (a b : ℤ) → SFits w64 a → SFits w64 b → SFits w64 (a +ℤ b) → read (read a +ℤ read b) ≡ a +ℤ b
sum_read a b fits_a fits_b fits = ap (λ (z : ℤ). read (z +ℤ read b)) (to_z-of_z w64 a fits_a) ∙ ap (λ (z : ℤ). read (a +ℤ z)) (to_z-of_z w64 b fits_b) ∙ to_z-of_z w64 (a +ℤ b) fits

pub first_row_as : (p q : Plane) (z at : ℤ) (found : Option ℤ) → IsSame p q → z ≡ at → IsFirstRow p z found → IsFirstRow q at found
first_row_as p q z at found same is first = subst (λ (plane : Plane). IsFirstRow plane at found) (plane_equal p q same) (subst (λ (y : ℤ). IsFirstRow p y found) is first)

pub runs_as : (p q : Plane) (z at : ℤ) (runs : List (ℤ × ℕ)) → IsSame p q → z ≡ at → AreRowRuns p z runs → AreRowRuns q at runs
runs_as p q z at runs same is of_row = subst (λ (plane : Plane). AreRowRuns plane at runs) (plane_equal p q same) (subst (λ (y : ℤ). AreRowRuns p y runs) is of_row)

module _ (read_right right : ℤ) (a b runs others : List (ℤ × ℕ)) (same : read_right ≡ right) (first : a ≡ runs) (second : b ≡ others) where
  pub moved_as : b ≡ moved_runs read_right a → others ≡ moved_runs right runs
  moved_as is = sym second ∙ is ∙ ap (λ (r : ℤ). moved_runs r a) same ∙ ap (λ (l : List (ℤ × ℕ)). moved_runs right l) first

  pub moved_back : others ≡ moved_runs right runs → b ≡ moved_runs read_right a
  moved_back is = second ∙ is ∙ sym (ap (λ (r : ℤ). moved_runs r a) same ∙ ap (λ (l : List (ℤ × ℕ)). moved_runs right l) first)

pub on_true : (P : Type 0) (b : Bool) → (b ≡ true → P) → OnTrue b P
on_true P true holds = holds refl
on_true P false holds = tt

pub on_false : (P : Type 0) (b : Bool) → (b ≡ false → P) → OnFalse b P
on_false P true holds = tt
on_false P false holds = holds refl

-- ---- boxes

pub in_range_fits : (first last z : ℤ) → IsSideInRange first last → first ≤ℤ z → z ≤ℤ (last +ℤ pos 1) → SFits w64 z
in_range_fits first last z side from to = let low = side.low in let high = side.high in omega (arith, ints, low, high, from, to)

-- the difference of two coordinates fits
module _ (first last other_first other_last a b : ℤ) (side : IsSideInRange first last) (other : IsSideInRange other_first other_last) (a_from : first ≤ℤ a) (a_to : a ≤ℤ last) (b_from : other_first ≤ℤ b) (b_to : b ≤ℤ other_last) where
  pub read_both : read b -ℤ read a ≡ b -ℤ a
  read_both =
      let a_fits : SFits w64 a = in_range_fits first last a side a_from (omega (arith, ints, a_to)) in
      let b_fits : SFits w64 b = in_range_fits other_first other_last b other b_from (omega (arith, ints, b_to)) in
      ap (λ (z : ℤ). z -ℤ read a) (to_z-of_z w64 b b_fits) ∙ ap (λ (z : ℤ). b -ℤ z) (to_z-of_z w64 a a_fits)

  plain_fits : SFits w64 (b -ℤ a)
  plain_fits = let low = side.low in let high = side.high in let other_low = other.low in let other_high = other.high in omega (arith, ints, low, high, other_low, other_high, a_from, a_to, b_from, b_to)

  pub difference_fits : SFits w64 (read b -ℤ read a)
  difference_fits = subst (λ (z : ℤ). SFits w64 z) (sym read_both) plain_fits

  pub difference_read : read (read b -ℤ read a) ≡ b -ℤ a
  difference_read = ap read read_both ∙ to_z-of_z w64 (b -ℤ a) plain_fits

-- rows of a box, moved down
module _ (top bottom down y row : ℤ) (side : IsSideInRange top bottom) (there : IsSideInRange (top +ℤ down) (bottom +ℤ down)) (down_fits : SFits w64 down) where
  pub moved_fits : top ≤ℤ y → y ≤ℤ (bottom +ℤ pos 1) → SFits w64 (y +ℤ read down)
  moved_fits from to = subst (λ (z : ℤ). SFits w64 (y +ℤ z)) (sym (to_z-of_z w64 down down_fits)) (in_range_fits (top +ℤ down) (bottom +ℤ down) (y +ℤ down) there (omega (arith, ints, from)) (omega (arith, ints, to)))

pub on_true_from : (P : Type 0) (b : Bool) → OnTrue b P → b ≡ true → P
on_true_from P true holds is = holds
on_true_from P false holds is = cc

pub on_false_from : (P : Type 0) (b : Bool) → OnFalse b P → b ≡ false → P
on_false_from P true holds is = cc
on_false_from P false holds is = holds

pub next_as : (plane p q : Plane) (right down y z at : ℤ) → IsSame p q → z ≡ at → IsNextRow plane p right down y z → IsNextRow plane q right down y at
next_as plane p q right down y z at same is next = subst (λ (other : Plane). IsNextRow plane other right down y at) (plane_equal p q same) (subst (λ (row : ℤ). IsNextRow plane p right down y row) is next)

pub moved_other : (plane p q : Plane) (read_right right read_down down : ℤ) → read_right ≡ right → read_down ≡ down → IsSame p q → IsSame q (moved right down plane) → IsSame p (moved read_right read_down plane)
moved_other plane p q read_right right read_down down across below same is =
    subst (λ (d : ℤ). IsSame p (moved read_right d plane)) (sym below) (subst (λ (r : ℤ). IsSame p (moved r down plane)) (sym across) (same_trans same is))

pub fewer_rows : (bottom y row at : ℤ) → at ≡ row +ℤ pos 1 → y ≤ℤ row → row ≤ℤ bottom → unsigned_abs ((bottom +ℤ pos 1) -ℤ at) < unsigned_abs ((bottom +ℤ pos 1) -ℤ y)
fewer_rows bottom y row at is from to = first_of (omega (arith, ints), grind (arith, ints))

pub none_of : (o : Option ℤ) (b : Bool) → is_some o ≡ not b → b ≡ true → o ≡ None
none_of None b is none = refl
none_of (Some x) b is none = let e = is ∙ ap not none in cc

pub some_of : (o : Option ℤ) (b : Bool) → is_some o ≡ not b → b ≡ false → o ≡ None → ⊥
some_of None b is some none = let e = is ∙ ap not some in cc
some_of (Some x) b is some none = cc
