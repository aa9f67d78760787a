-- Lists of cells in the order of reading, and the planes that they make.
use Rattle.std.proofs.Common.{◌≡◌, ℤ, Bool, true, false, cond, ◌&&◌, ◌||◌, List, [], ◌∷◌, refl, sym, ◌∙◌, ap}
use Rattle.std.specs.declared.cmp.Ordering.{Ordering}
use Rattle.std.specs.declared.cmp.Ordering.TheVariants.{Less, Equal, Greater}
use Rattle.std.specs.Ordering.{ordering_then, is_eq, int_cmp, int_eq, match_ordering}
use Rattle.std.specs.Cmp.{IsTotalOrder, int_cmp_total, int_eq_equiv}
use Rattle.std.specs.List.{list_any, AllByRecursion}
use Rattle.std.specs.BTreeSet.{insert_key}
use Rattle.std.proofs.lemmas.Cmp.{then_total, on_total}
use Rattle.plane.specs.declared.cell.Cell.{Cell}
use Rattle.plane.specs.CellSet.{with_cell}
use Rattle.plane.specs.Generation.{IsKept}
use Rattle.plane.specs.Listing.{reading_order, is_at, plane_of, IsListing}

pub reading_order_total : IsTotalOrder reading_order
reading_order_total = then_total (on_total (λ c. c.y) int_cmp_total) (on_total (λ c. c.x) int_cmp_total)

is_eq-then : (a b : Ordering) → is_eq (ordering_then a b) ≡ (is_eq a && is_eq b)
is_eq-then Less b = refl
is_eq-then Equal b = refl
is_eq-then Greater b = refl

-- two cells tie in the order exactly where they are one place
pub ties_at_place : (a b : Cell) → is_eq (reading_order a b) ≡ is_at a.x a.y b
ties_at_place a b = is_eq-then (int_cmp a.y b.y) (int_cmp a.x b.x)

any_agrees : {X : Type 0} (p q : X → Bool) → ((x : X) → p x ≡ q x) → (xs : List X) → list_any p xs ≡ list_any q xs
any_agrees p q same [] = refl
any_agrees p q same (x ∷ xs) = ap (λ b. b || list_any p xs) (same x) ∙ ap (λ b. q x || b) (any_agrees p q same xs)

-- a search by the order says which cells of the plane are live
pub plane_of-by_order : (cells : List Cell) (c : Cell) → list_any (λ k. is_eq (reading_order c k)) cells ≡ plane_of cells c.x c.y
unfolding plane_of
plane_of-by_order cells c = any_agrees _ _ (ties_at_place c) cells

-- what holds of each key and of a new one holds of each after it came in
pub AllByRecursion-insert_key : {K : Type 0} (P : K → Type 0) (R : K → K → Ordering) (ks : List K) (k : K) →
    P k → AllByRecursion P ks → AllByRecursion P (insert_key R ks k)
AllByRecursion-insert_key P R [] k one all = (one, tt)
AllByRecursion-insert_key P R (x ∷ xs) k one all =
    elim (R k x) as (λ o. AllByRecursion P (match_ordering o (k ∷ x ∷ xs) (x ∷ xs) (x ∷ insert_key R xs k))) [
      | Less ↦ (one, all)
      | Equal ↦ all
      | Greater ↦ (all.0, AllByRecursion-insert_key P R xs k one all.1)
    ]

cond-or : (a b : Bool) → cond a true b ≡ (a || b)
cond-or true b = refl
cond-or false b = refl

abbrev at : ℤ → ℤ → Cell
at x y = record { y = y; x = x }

-- each is at the other's place, or neither
is_at-flip : (x y : ℤ) (k : Cell) → is_at k.x k.y (at x y) ≡ is_at x y k
is_at-flip x y k = ap (λ b. b && int_eq k.x x) (int_eq_equiv.symm k.y y) ∙ ap (λ b. int_eq y k.y && b) (int_eq_equiv.symm k.x x)

-- where a search by the order finds one more cell, the plane has that one too
pub plane_of-one_more : (old new : List Cell) (k : Cell) →
    ((q : Cell) → list_any (λ c. is_eq (reading_order q c)) new ≡ cond (is_eq (reading_order k q)) true (list_any (λ c. is_eq (reading_order q c)) old)) →
    (x y : ℤ) → plane_of new x y ≡ with_cell k (plane_of old) x y
plane_of-one_more old new k more x y =
    sym (plane_of-by_order new (at x y)) ∙ more (at x y)
    ∙ ap (λ b. cond (is_eq (reading_order k (at x y))) true b) (plane_of-by_order old (at x y))
    ∙ cond-or (is_eq (reading_order k (at x y))) (plane_of old x y)
    ∙ ap (λ b. b || plane_of old x y) (ties_at_place k (at x y) ∙ is_at-flip x y k)

or-true : (a : Bool) → (a || true) ≡ true
or-true true = refl
or-true false = refl

-- a cell lies at its own place
pub is_at-own : (k : Cell) → is_at k.x k.y k ≡ true
is_at-own k = ap (λ b. b && int_eq k.x k.x) (int_eq_equiv.refl k.y) ∙ int_eq_equiv.refl k.x

-- cells stay when one more comes in
pub IsKept-inserted : (old new : List Cell) (k : Cell) → IsListing new (with_cell k (plane_of old)) → IsKept (plane_of old) (plane_of new)
IsKept-inserted old new k listing x y live = listing.live x y ∙ ap (λ b. is_at x y k || b) live ∙ or-true (is_at x y k)

-- the cell that came in is there
pub has_inserted : (old new : List Cell) (k : Cell) → IsListing new (with_cell k (plane_of old)) → plane_of new k.x k.y ≡ true
has_inserted old new k listing = listing.live k.x k.y ∙ ap (λ b. b || plane_of old k.x k.y) (is_at-own k)
