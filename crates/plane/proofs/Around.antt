-- All live cells of the next generation are among the candidates.
use Rattle.std.proofs.Common.{◌≡◌, ◌≢◌, ℕ, suc, ◌<◌, ℤ, ◌+ℤ◌, ◌-ℤ◌, Bool, true, false, ◌&&◌, ◌||◌, List, [], ◌∷◌, length, get_or, count_by, refl, sym, ◌∙◌, ap, arith}
use Rattle.std.specs.List.{AllByRecursion, list_any}
use Rattle.std.specs.Ordering.{int_eq}
use Rattle.std.specs.Cmp.{signed_Decides}
use Rattle.std.proofs.lemmas.Int.{ints}
use Rattle.rule_text.specs.declared.neighbourhood.Neighbourhood.{Neighbourhood}
use Rattle.rule_text.specs.declared.neighbourhood.Offset.{Offset}
use Rattle.rule_text.specs.Neighbourhood.{offsets, step, stay}
use Rattle.rule_text.specs.CountRule.{CountRule, has, lives}
use Rattle.plane.specs.declared.cell.Cell.{Cell}
use Rattle.plane.specs.Generation.{HasAround, IsKept}
use Rattle.plane.specs.Listing.{plane_of, is_at}
use Rattle.plane.specs.Plane.{Plane, live_neighbours, next}

-- what is round a cell stays there
pub HasAround-kept : (neighbourhood : Neighbourhood) (cell : Cell) (old new : Plane) → IsKept old new → HasAround neighbourhood cell old → HasAround neighbourhood cell new
HasAround-kept neighbourhood cell old new kept has = record {
  itself = kept cell.x cell.y has.itself;
  around = λ k d within. kept _ _ (has.around k d within);
}

-- a cell that the list has at a place, and what holds of it
pub record CellAt (P : Cell → Type 0) (x y : ℤ) : Type 0 where
  pub cell : Cell
  pub holds : P cell
  pub x_is : x ≡ cell.x
  pub y_is : y ≡ cell.y

and_both : (a b : Bool) → (a && b) ≡ true → (a ≡ true) × (b ≡ true)
and_both true b both = (refl, both)
and_both false b both = cc

-- a place at which a cell lies is its place
pub at_place : (x y : ℤ) (cell : Cell) → is_at x y cell ≡ true → (x ≡ cell.x) × (y ≡ cell.y)
at_place x y cell here =
    let both = and_both (int_eq y cell.y) (int_eq x cell.x) here in
    ((signed_Decides x cell.x).0 both.1, (signed_Decides y cell.y).0 both.0)

pub live_cell : (P : Cell → Type 0) (cells : List Cell) (x y : ℤ) → AllByRecursion P cells → plane_of cells x y ≡ true → CellAt P x y
unfolding plane_of
live_cell P [] x y all live = cc
live_cell P (cell ∷ cells) x y all live =
    elim (is_at x y cell) as (λ b. is_at x y cell ≡ b → (b || list_any (is_at x y) cells) ≡ true → CellAt P x y) [
      | true ↦ λ here _. let place = at_place x y cell here in record { cell = cell; holds = all.0; x_is = place.0; y_is = place.1 }
      | false ↦ λ _ rest. live_cell P cells x y all.1 rest
    ] refl live

-- a count that is not 0 counted something
pub some_counted : (p : Offset → Bool) (xs : List Offset) → count_by p xs ≢ 0 → (k : ℕ) × (k < length xs) × ((d : Offset) → p (get_or xs k d) ≡ true)
some_counted p [] more = absurd (more refl)
some_counted p (x ∷ xs) more =
    elim (p x) as (λ b. p x ≡ b → (k : ℕ) × (k < suc (length xs)) × ((d : Offset) → p (get_or (x ∷ xs) k d) ≡ true)) [
      | true ↦ λ here. (0, omega arith, λ d. here)
      | false ↦ λ other. let rest = some_counted p xs (λ none. more (grind (arith, none, other))) in (suc rest.0, omega (arith, rest.1), λ d. rest.2 d)
    ] refl

back_again : (x by u : ℤ) → x +ℤ by ≡ u → x ≡ u -ℤ by
back_again x by u e = omega (arith, ints)

-- the same live cell, at coordinates that are equal
moved : (plane : Plane) (x y u v : ℤ) → x ≡ u → y ≡ v → plane u v ≡ true → plane x y ≡ true
moved plane x y u v p q live = ap (λ a. plane a y) p ∙ ap (λ b. plane u b) q ∙ live

abbrev pub no_step : Offset
no_step = step stay stay

-- a cell is born only of some neighbours
pub born_of : (rule : CountRule) → has rule.birth 0 ≡ false → (n : ℕ) → has rule.birth n ≡ true → n ≢ 0
born_of rule zero n born none = let twice = sym born ∙ ap (has rule.birth) none ∙ zero in cc

-- where the candidates have each live cell and what is round it, they have each cell of the next
-- generation
pub candidates_cover : (rule : CountRule) (cells candidates : List Cell) → has rule.birth 0 ≡ false →
    AllByRecursion (λ cell. HasAround rule.neighbourhood cell (plane_of candidates)) cells →
    (x y : ℤ) → next rule (plane_of cells) x y ≡ true → plane_of candidates x y ≡ true
candidates_cover rule cells candidates zero all x y live =
    let Round : Cell → Type 0 = λ cell. HasAround rule.neighbourhood cell (plane_of candidates) in
    let count : ℕ = live_neighbours rule.neighbourhood (plane_of cells) x y in
    elim (plane_of cells x y) as (λ b. plane_of cells x y ≡ b → lives rule b count ≡ true → plane_of candidates x y ≡ true) [
      | true ↦ λ here _.
          let one = live_cell Round cells x y all here in
          moved (plane_of candidates) x y one.cell.x one.cell.y one.x_is one.y_is one.holds.itself
      | false ↦ λ _ born.
          let some = some_counted (λ offset. plane_of cells (x +ℤ offset.right) (y +ℤ offset.down)) (offsets rule.neighbourhood) (born_of rule zero count born) in
          let offset : Offset = get_or (offsets rule.neighbourhood) some.0 no_step in
          let one = live_cell Round cells (x +ℤ offset.right) (y +ℤ offset.down) all (some.2 no_step) in
          moved (plane_of candidates) x y (one.cell.x -ℤ offset.right) (one.cell.y -ℤ offset.down)
          (back_again x offset.right one.cell.x one.x_is) (back_again y offset.down one.cell.y one.y_is) (one.holds.around some.0 no_step some.1)
    ] refl live
