-- How far some generations reach.
use Rattle.std.proofs.Common.{◌≡◌, ◌≢◌, ℕ, ◌+◌, ◌≤◌, ℤ, pos, ◌+ℤ◌, ◌-ℤ◌, ◌≤ℤ◌, true, false, Bool, ◌||◌, Option, None, Some, List, [], ◌∷◌, fold, IfSome, refl, sym, ◌∙◌, ap, arith, get_or}
use Rattle.std.specs.List.{AllByRecursion, list_any}
use Rattle.std.proofs.lemmas.Int.{ints, clamps}
use Rattle.std.proofs.lemmas.List.Elements.{All-from_recursion}
use Rattle.rule_text.specs.declared.neighbourhood.Offset.{Offset}
use Rattle.rule_text.specs.Neighbourhood.{offsets, IsStep}
use Rattle.rule_text.specs.CountRule.{CountRule, has, lives}
use Rattle.plane.specs.declared.cell.Cell.{Cell}
use Rattle.plane.specs.declared.cell.Bounds.{Bounds}
use Rattle.plane.specs.Bounds.{box_with, bounds_of, HasReach, IsWithin}
use Rattle.plane.specs.Listing.{plane_of, is_at, IsListing}
use Rattle.plane.specs.Plane.{live_neighbours, next}
use Rattle.plane.specs.Range.{IsBoxInRange, IsCoordinate, widened}
use Rattle.plane.proofs.Around.{live_cell, some_counted, born_of, no_step}
use Rattle.plane.proofs.Boxes.{Covers, box_at, coordinate_between, covers_bounds, grown, some_box, within_bounds}
use Rattle.plane.proofs.Cells.{at}
use Rattle.plane.proofs.Cones.{offsets_step}
use Rattle.plane.proofs.Listings.{is_at-own}
use Rattle.plane.proofs.Elements.{AllByRecursion-weaker}

-- a box whose sides do not cross
record IsProper (box : Bounds) : Type 0 where
  pub wide : box.left ≤ℤ box.right
  pub tall : box.top ≤ℤ box.bottom

coordinate_inner : (m n : ℕ) (a b c d : ℤ) → m ≤ n → (a -ℤ pos 0) ≤ℤ c → c ≤ℤ d → d ≤ℤ b → IsCoordinate (a -ℤ pos n) → IsCoordinate (b +ℤ pos n) → IsCoordinate (c -ℤ pos m) × IsCoordinate (d +ℤ pos m)
coordinate_inner m n a b c d less left proper right low high = (
  coordinate_between (a -ℤ pos n) (c -ℤ pos m) (b +ℤ pos n) low high (omega (arith, ints)) (omega (arith, ints)),
  coordinate_between (a -ℤ pos n) (d +ℤ pos m) (b +ℤ pos n) low high (omega (arith, ints)) (omega (arith, ints)),
)

-- what lies inside stays in the range, widened by no more
inner_in_range : (m n : ℕ) (outer inner : Bounds) → m ≤ n → Covers outer inner → IsProper inner → IsBoxInRange (widened n outer) → IsBoxInRange (widened m inner)
inner_in_range m n outer inner less covers proper range =
    let across = coordinate_inner m n outer.left outer.right inner.left inner.right less (omega (arith, ints, covers.left)) proper.wide covers.right range.left range.right in
    let down = coordinate_inner m n outer.top outer.bottom inner.top inner.bottom less (omega (arith, ints, covers.top)) proper.tall covers.bottom range.top range.bottom in
    record { left = across.0; right = across.1; top = down.0; bottom = down.1 }

proper_grown : (box : Bounds) (cell : Cell) → IsProper box → IsProper (grown box cell)
proper_grown box cell proper = record { wide = omega (arith, ints, clamps); tall = omega (arith, ints, clamps) }

proper_fold : (box : Bounds) (cells : List Cell) → IsProper box → IfSome (fold box_with (Some box) cells) IsProper
proper_fold box [] proper = proper
proper_fold box (cell ∷ cells) proper = proper_fold (grown box cell) cells (proper_grown box cell proper)

bounds_proper : (cells : List Cell) → IfSome (bounds_of cells) IsProper
bounds_proper [] = tt
bounds_proper (cell ∷ cells) = proper_fold (box_at cell) cells (record { wide = omega (arith, ints); tall = omega (arith, ints) })

if_some_both : {T : Type 0} (P Q R : T → Type 0) → ((x : T) → P x → Q x → R x) → (o : Option T) → IfSome o P → IfSome o Q → IfSome o R
if_some_both P Q R both None p q = tt
if_some_both P Q R both (Some x) p q = both x p q

-- the cell one step back lies in the box widened by one
step_back : (box : Bounds) (cell : Cell) (offset : Offset) (x y : ℤ) → IsWithin box cell → IsStep offset → x +ℤ offset.right ≡ cell.x → y +ℤ offset.down ≡ cell.y → IsWithin (widened 1 box) (at x y)
step_back box cell offset x y within one across down = record { left = omega (arith, ints); top = omega (arith, ints); right = omega (arith, ints); bottom = omega (arith, ints) }

stay_within : (box : Bounds) (cell : Cell) (x y : ℤ) → IsWithin box cell → x ≡ cell.x → y ≡ cell.y → IsWithin (widened 1 box) (at x y)
stay_within box cell x y within across down = record { left = omega (arith, ints); top = omega (arith, ints); right = omega (arith, ints); bottom = omega (arith, ints) }

-- the live cells of the next generation lie in the box widened by one
next_within : (rule : CountRule) (box : Bounds) (cells : List Cell) → has rule.birth 0 ≡ false → AllByRecursion (IsWithin box) cells →
    (x y : ℤ) → next rule (plane_of cells) x y ≡ true → IsWithin (widened 1 box) (at x y)
next_within rule box cells zero within x y live =
    let count : ℕ = live_neighbours rule.neighbourhood (plane_of cells) x y in
    elim (plane_of cells x y) as (λ b. plane_of cells x y ≡ b → lives rule b count ≡ true → IsWithin (widened 1 box) (at x y)) [
      | true ↦ λ here _. let one = live_cell (IsWithin box) cells x y within here in stay_within box one.cell x y one.holds one.x_is one.y_is
      | false ↦ λ _ born.
          let some = some_counted (λ offset. plane_of cells (x +ℤ offset.right) (y +ℤ offset.down)) (offsets rule.neighbourhood) (born_of rule zero count born) in
          let offset : Offset = get_or (offsets rule.neighbourhood) some.0 no_step in
          let one = live_cell (IsWithin box) cells (x +ℤ offset.right) (y +ℤ offset.down) within (some.2 no_step) in
          step_back box one.cell offset x y one.holds (All-from_recursion IsStep (offsets rule.neighbourhood) (offsets_step rule.neighbourhood) some.0 no_step some.1) one.x_is one.y_is
    ] refl live

any_kept : (b c : Bool) → c ≡ true → (b || c) ≡ true
any_kept true c is = refl
any_kept false c is = is

-- each cell of a list is live on its plane
listed_live : (cells : List Cell) → AllByRecursion (λ cell. plane_of cells cell.x cell.y ≡ true) cells
unfolding plane_of
listed_live [] = tt
listed_live (cell ∷ cells) = (
  ap (λ b. b || list_any (is_at cell.x cell.y) cells) (is_at-own cell),
  AllByRecursion-weaker _ _ (λ other live. any_kept (is_at other.x other.y cell) (plane_of cells other.x other.y) live) cells (listed_live cells),
)

abbrev LivesNext : CountRule → List Cell → Cell → Type 0
LivesNext rule cells cell = next rule (plane_of cells) cell.x cell.y ≡ true

listed_next : (rule : CountRule) (cells living : List Cell) → IsListing living (next rule (plane_of cells)) → AllByRecursion (LivesNext rule cells) living
listed_next rule cells living listing = AllByRecursion-weaker _ _ (λ cell live. sym (listing.live cell.x cell.y) ∙ live) living (listed_live living)

twice_widened : (n : ℕ) (box : Bounds) → IsBoxInRange (widened (n + 1) box) → IsBoxInRange (widened n (widened 1 box))
twice_widened n box range = record {
  left = coordinate_between (box.left -ℤ pos (n + 1)) ((box.left -ℤ pos 1) -ℤ pos n) (box.left -ℤ pos (n + 1)) range.left range.left (omega (arith, ints)) (omega (arith, ints));
  top = coordinate_between (box.top -ℤ pos (n + 1)) ((box.top -ℤ pos 1) -ℤ pos n) (box.top -ℤ pos (n + 1)) range.top range.top (omega (arith, ints)) (omega (arith, ints));
  right = coordinate_between (box.right +ℤ pos (n + 1)) ((box.right +ℤ pos 1) +ℤ pos n) (box.right +ℤ pos (n + 1)) range.right range.right (omega (arith, ints)) (omega (arith, ints));
  bottom = coordinate_between (box.bottom +ℤ pos (n + 1)) ((box.bottom +ℤ pos 1) +ℤ pos n) (box.bottom +ℤ pos (n + 1)) range.bottom range.bottom (omega (arith, ints)) (omega (arith, ints));
}

reach_in_box : (rule : CountRule) (n : ℕ) (box : Bounds) (cells living : List Cell) → has rule.birth 0 ≡ false → AllByRecursion (IsWithin box) cells →
    IsBoxInRange (widened (n + 1) box) → IsListing living (next rule (plane_of cells)) → HasReach n living
reach_in_box rule n box cells living zero within range listing =
    let all : AllByRecursion (IsWithin (widened 1 box)) living =
    AllByRecursion-weaker (LivesNext rule cells) (IsWithin (widened 1 box)) (λ cell live. next_within rule box cells zero within cell.x cell.y live) living (listed_next rule cells living listing) in
    if_some_both (Covers (widened 1 box)) IsProper (λ b. IsBoxInRange (widened n b))
    (λ b covers proper. inner_in_range n n (widened 1 box) b (omega arith) covers proper (twice_widened n box range))
    (bounds_of living) (covers_bounds (widened 1 box) living all) (bounds_proper living)

reach_by_bounds : (rule : CountRule) (n : ℕ) (bounds : Option Bounds) (cells living : List Cell) → has rule.birth 0 ≡ false → bounds ≢ None →
    IfSome bounds (λ box. AllByRecursion (IsWithin box) cells) → IfSome bounds (λ box. IsBoxInRange (widened (n + 1) box)) →
    IsListing living (next rule (plane_of cells)) → HasReach n living
reach_by_bounds rule n None cells living zero some within range listing = absurd (some refl)
reach_by_bounds rule n (Some box) cells living zero some within range listing = reach_in_box rule n box cells living zero within range listing

-- no cell lives next where none is live
none_next : (rule : CountRule) (living : List Cell) (n : ℕ) → has rule.birth 0 ≡ false → AllByRecursion (LivesNext rule []) living → HasReach n living
none_next rule [] n zero all = tt
none_next rule (cell ∷ living) n zero all =
    let nowhere : Bounds = record { left = cell.x +ℤ pos 2; top = cell.y; right = cell.x +ℤ pos 2; bottom = cell.y } in
    let within = next_within rule nowhere [] zero tt cell.x cell.y all.0 in absurd (omega (arith, ints, within.left))

-- what had room for one more generation has room for the others after it
pub reach_after : (rule : CountRule) (cells living : List Cell) → has rule.birth 0 ≡ false → IsListing living (next rule (plane_of cells)) →
    (n : ℕ) → HasReach (n + 1) cells → HasReach n living
reach_after rule [] living zero listing n range = none_next rule living n zero (listed_next rule [] living listing)
reach_after rule (cell ∷ cells) living zero listing n range =
    reach_by_bounds rule n (bounds_of (cell ∷ cells)) (cell ∷ cells) living zero (some_box (box_at cell) cells) (within_bounds (cell ∷ cells)) range listing
