-- What is left of spans when those above a row were taken.
use Rattle.std.proofs.Common.{◌≡◌, ℕ, ◌+◌, ◌-◌, ◌*◌, ◌^◌, ◌≤◌, List, [], ◌∷◌, ◌++◌, Option, Some, None, map, sym, subst, arith, refl, inl, inr, ⊎_elim}
use Rattle.std.specs.Prelude.{◌⊎◌, MatchOption, ⊤}
use Rattle.std.specs.List.{AllByRecursion}
use Rattle.std.proofs.Math.Pow.{pow_mono}
use Rattle.plane.specs.declared.cell.Cell.{Cell}
use Rattle.plane.proofs.Elements.{AllByRecursion-weaker}
use Rattle.plane.proofs.Paddings.{twice_half}
use Rattle.squares.specs.Spans.{span_of}
use Rattle.squares.specs.Strips.{AreInOrder, AreLeft, Leads, spans_left}
use Rattle.squares.specs.declared.spans.Span.{Span}
use Rattle.squares.proofs.SpanOrder.{rows_from}

pub order_after : (taken rest : List Span) → AreInOrder (taken ++ rest) → AreInOrder rest
order_after [] rest order = order
order_after (s ∷ taken) rest order = order_after taken rest order.1

-- where the next span lies in the row or below, or there is none, all that is left does
pub left_below : (half bottom : ℕ) (next : Option Span) (runs : List (Cell × ℕ)) → (next ≡ None → runs ≡ []) → AreInOrder (spans_left half next runs) →
    ((next ≡ None) ⊎ ((s : Span) × (next ≡ Some s) × (bottom ≤ s.row))) → AllByRecursion (λ (span : Span). bottom ≤ span.row) (spans_left half next runs)
left_below half bottom None runs ended order which = subst (λ (rs : List (Cell × ℕ)). AllByRecursion (λ (span : Span). bottom ≤ span.row) (map (span_of half) rs)) (sym (ended refl)) tt
left_below half bottom (Some s) runs ended order which = ⊎_elim (λ none. absurd (some_none none))
    (λ (t, is, low). let same : s ≡ t = cc in rows_from bottom s (map (span_of half) runs) order (subst (λ (u : Span). bottom ≤ u.row) (sym same) low)) which
  where
    some_none : Some s ≡ None → ⊥
    some_none e = cc

pub left_below_at : (half bottom : ℕ) (next : Option Span) (runs : List (Cell × ℕ)) → (next ≡ None → runs ≡ []) → AreInOrder (spans_left half next runs) →
    MatchOption next ⊤ (λ (s : Span). bottom ≤ s.row) → AllByRecursion (λ (span : Span). bottom ≤ span.row) (spans_left half next runs)
left_below_at half bottom None runs ended order below = left_below half bottom None runs ended order (inl refl)
left_below_at half bottom (Some s) runs ended order below = left_below half bottom (Some s) runs ended order (inr (s, refl, below))

-- what is left from this row on, if none of it lies above a lower one
pub left_from : (half top bottom : ℕ) (next : Option Span) (runs : List (Cell × ℕ)) → AreLeft half top next runs → AllByRecursion (λ (span : Span). bottom ≤ span.row) (spans_left half next runs) → AreLeft half bottom next runs
left_from half top bottom next runs left below = record { bound = left.bound; fit = left.fit; ended = left.ended; order = left.order; rows = below }

pub left_from_top : (half top : ℕ) (next : Option Span) (runs : List (Cell × ℕ)) → AreLeft half top next runs → AreLeft half 0 next runs
left_from_top half top next runs left = left_from half top 0 next runs left (AllByRecursion-weaker (λ (s : Span). top ≤ s.row) (λ (s : Span). 0 ≤ s.row) (λ s h. omega arith) _ left.rows)

pub order_taken : (taken rest : List Span) → AreInOrder (taken ++ rest) → AreInOrder taken
order_taken [] rest order = tt
order_taken (s ∷ taken) rest order = (AllByRecursion-front (Leads s) taken rest order.0, order_taken taken rest order.1)
  where
    AllByRecursion-front : (P : Span → Type 0) (xs ys : List Span) → AllByRecursion P (xs ++ ys) → AllByRecursion P xs
    AllByRecursion-front P [] ys all = tt
    AllByRecursion-front P (x ∷ xs) ys all = (all.0, AllByRecursion-front P xs ys all.1)

-- ---- how many squares of a level stand side by side

pub wider : (width level : ℕ) → 4 ≤ level → level ≤ 63 → width ≤ 2 ^ (63 - level) → 2 * width ≤ 2 ^ (63 - (level - 1))
wider width level low high h =
    let twice : 2 ^ (64 - level) ≡ 2 ^ (64 - level - 1) + 2 ^ (64 - level - 1) = twice_half (64 - level) (omega (arith, high)) in
    let one : 64 - level - 1 ≡ 63 - level = omega arith in
    let two : 63 - (level - 1) ≡ 64 - level = omega (arith, low, high) in
    let h' : width ≤ 2 ^ (64 - level - 1) = subst (λ n. width ≤ 2 ^ n) (sym one) h in
    subst (λ n. 2 * width ≤ 2 ^ n) (sym two) (omega (arith, twice, h'))

pub at_most : (width level : ℕ) → 3 ≤ level → width ≤ 2 ^ (63 - level) → width ≤ 2 ^ 60
at_most width level low h = let p : 2 ^ (63 - level) ≤ 2 ^ 60 = pow_mono {i = 63 - level} {j = 60} (omega (arith, low)) in omega (arith, h, p)
