-- A plane has at most one listing.
use Rattle.std.proofs.Common.{◌≡◌, Bool, true, false, ◌||◌, List, [], ◌∷◌, refl, sym, ◌∙◌, ap}
use Rattle.std.specs.declared.cmp.Ordering.TheVariants.{Less, Equal, Greater}
use Rattle.std.specs.Cmp.{Equal-is, tied_itself}
use Rattle.std.specs.List.{list_any, AllByRecursion}
use Rattle.std.specs.List.Sorted.{IsStrictlySortedBy}
use Rattle.std.specs.Ordering.{is_eq, ordering_reverse}
use Rattle.plane.specs.declared.cell.Cell.{Cell}
use Rattle.plane.specs.Laws.{OneListing}
use Rattle.plane.specs.Listing.{reading_order}
use Rattle.plane.proofs.Around.{at_place}
use Rattle.plane.proofs.Cells.{same_cell}
use Rattle.plane.proofs.Listings.{reading_order_total, ties_at_place, plane_of-by_order}
use Rattle.plane.proofs.Elements.{AllByRecursion-weaker}

-- whether a search by the order finds the cell
abbrev finds : List Cell → Cell → Bool
finds cells cell = list_any (λ k. is_eq (reading_order cell k)) cells

abbrev IsBeforeAll : Cell → List Cell → Type 0
IsBeforeAll cell cells = AllByRecursion (λ other. reading_order cell other ≡ Less) cells

not_found : (cell : Cell) (cells : List Cell) → IsBeforeAll cell cells → finds cells cell ≡ false
not_found cell [] before = refl
not_found cell (other ∷ cells) before = ap (λ o. is_eq o || finds cells cell) before.0 ∙ not_found cell cells before.1

-- what ties with a cell before all others is not found among them
tie_not_found : (a cell : Cell) (cells : List Cell) → reading_order a cell ≡ Equal → IsBeforeAll cell cells → finds cells a ≡ false
tie_not_found a cell cells tie before =
    not_found a cells (AllByRecursion-weaker _ _ (λ other less. reading_order_total.congr a cell other tie ∙ less) cells before)

-- what is before the first is not found
below_not_found : (a cell : Cell) (cells : List Cell) → reading_order a cell ≡ Less → IsBeforeAll cell cells → finds (cell ∷ cells) a ≡ false
below_not_found a cell cells less before =
    not_found a (cell ∷ cells) (less, AllByRecursion-weaker _ _ (λ other below. reading_order_total.trans a cell other less below) cells before)

finds_first : (cell : Cell) (cells : List Cell) → finds (cell ∷ cells) cell ≡ true
finds_first cell cells = ap (λ o. is_eq o || finds cells cell) (tied_itself reading_order_total cell)

tied_cells : (a b : Cell) → reading_order a b ≡ Equal → a ≡ b
tied_cells a b tie =
    let place = at_place a.x a.y b (sym (ties_at_place a b) ∙ ap is_eq tie) in same_cell a.x a.y b.x b.y place.0 place.1

-- the first cells of two lists that find the same cells tie
first_tie : (x y : Cell) (xs ys : List Cell) → IsBeforeAll x xs → IsBeforeAll y ys → ((a : Cell) → finds (x ∷ xs) a ≡ finds (y ∷ ys) a) → reading_order x y ≡ Equal
first_tie x y xs ys x_first y_first same =
    elim (reading_order x y) as (λ o. reading_order x y ≡ o → o ≡ Equal) [
      | Less ↦ λ less. let found = sym (finds_first x xs) ∙ same x ∙ below_not_found x y ys less y_first in cc
      | Equal ↦ λ tie. refl
      | Greater ↦ λ more.
          let less : reading_order y x ≡ Less = reading_order_total.antisymm y x ∙ ap ordering_reverse more in
          let found = sym (finds_first y ys) ∙ sym (same y) ∙ below_not_found y x xs less x_first in cc
    ] refl

or_cancel : (b c d : Bool) → (b || c) ≡ (b || d) → (b ≡ true → c ≡ d) → c ≡ d
or_cancel true c d both is = is refl
or_cancel false c d both is = both

same_list : (xs ys : List Cell) → IsStrictlySortedBy reading_order xs → IsStrictlySortedBy reading_order ys → ((a : Cell) → finds xs a ≡ finds ys a) → xs ≡ ys
unfolding IsStrictlySortedBy
same_list [] [] up also same = refl
same_list [] (y ∷ ys) up also same = let found = same y ∙ finds_first y ys in cc
same_list (x ∷ xs) [] up also same = let found = sym (same x) ∙ finds_first x xs in cc
same_list (x ∷ xs) (y ∷ ys) up also same =
    let tie = first_tie x y xs ys up.0 also.0 same in
    let is : x ≡ y = tied_cells x y tie in
    let rest : xs ≡ ys = same_list xs ys up.1 also.1 (λ a.
    or_cancel (is_eq (reading_order a x)) (finds xs a) (finds ys a)
    (same a ∙ ap (λ k. is_eq (reading_order a k) || finds ys a) (sym is))
    (λ here.
    let at_x : reading_order a x ≡ Equal = (Equal-is (reading_order a x)).0 here in
    let at_y : reading_order a y ≡ Equal = ap (reading_order a) (sym is) ∙ at_x in
    tie_not_found a x xs at_x up.0 ∙ sym (tie_not_found a y ys at_y also.0))) in
    ap (λ cell. cell ∷ xs) is ∙ ap (λ cells. y ∷ cells) rest

pub one_listing_lem : OneListing
one_listing_lem plane xs ys listing other = same_list xs ys listing.rising other.rising (λ a.
    plane_of-by_order xs a ∙ listing.live a.x a.y ∙ sym (other.live a.x a.y) ∙ sym (plane_of-by_order ys a))
