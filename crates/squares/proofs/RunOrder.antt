-- Runs in the order of reading, sorted, and as spans of a square.
use Rattle.std.proofs.Common.{◌≡◌, ℕ, suc, ◌+◌, ◌^◌, ◌<◌, ◌≤◌, ℤ, ◌<ℤ◌, ◌≤ℤ◌, Bool, true, false, cond, List, [], ◌∷◌, map, length, get_or, Option, sym, ◌∙◌, subst, arith, refl, inl, inr, ⊎_elim, is_lt}
use Rattle.std.specs.Prelude.{◌⊎◌, int_lt, None}
use Rattle.std.specs.List.{AllByRecursion}
use Rattle.std.specs.List.Sorted.{IsPermutation}
use Rattle.std.specs.Ordering.{int_cmp, nat_cmp, ordering_then}
use Rattle.std.specs.declared.cmp.Ordering.TheVariants.{Less, Equal, Greater}
use Rattle.std.proofs.lemmas.Int.{ints}
use Rattle.std.proofs.lemmas.List.Elements.{All-from_recursion, recursion_from_All}
use Rattle.std.proofs.lemmas.List.Sorted.{All-permutation, list_any-IsPermutation}
use Rattle.plane.specs.declared.cell.Cell.{Cell}
use Rattle.plane.specs.Runs.{is_in_run, runs_plane}
use Rattle.plane.specs.Square.{IsSame}
use Rattle.plane.proofs.Elements.{AllByRecursion-weaker}
use Rattle.squares.specs.Spans.{FitsInRoot, span_of}
use Rattle.squares.specs.Strips.{AreInOrder, AreInReadingOrder, AreLeft, Leads, LeadsRun, spans_left}
use Rattle.squares.specs.declared.spans.Span.{Span}

-- ---- sorted runs

not_less : (y x v u : ℤ) (m n : ℕ) → is_lt (ordering_then (ordering_then (int_cmp v y) (int_cmp u x)) (nat_cmp m n)) ≡ false → (y <ℤ v) ⊎ ((y ≡ v) × (x ≤ℤ u))
not_less y x v u m n h = by_cases (int_lt v y) (int_lt y v) (int_lt u x) refl refl refl h
  where
    by_cases : (a b c : Bool) → int_lt v y ≡ a → int_lt y v ≡ b → int_lt u x ≡ c →
        is_lt (ordering_then (ordering_then (cond a Less (cond b Greater Equal)) (cond c Less (cond (int_lt x u) Greater Equal))) (nat_cmp m n)) ≡ false → (y <ℤ v) ⊎ ((y ≡ v) × (x ≤ℤ u))
    by_cases true b c e f g k = cc
    by_cases false true c e f g k = inl (grind (arith, ints))
    by_cases false false true e f g k = cc
    by_cases false false false e f g k = inr (grind (arith, ints), grind (arith, ints))

leads_trans : (a b c : Cell × ℕ) → LeadsRun a b → LeadsRun b c → LeadsRun a c
leads_trans a b c h k = ⊎_elim
    (λ above. inl (⊎_elim (λ under. omega (arith, ints, above, under)) (λ same. let e = same.0 in omega (arith, ints, above, e)) k))
    (λ at. let e = at.0 in let f = at.1 in ⊎_elim (λ under. inl (omega (arith, ints, e, under))) (λ same. let i = same.0 in let j = same.1 in inr (e ∙ i, omega (arith, ints, f, j))) k) h

all_led : (a b : Cell × ℕ) (rest : List (Cell × ℕ)) → LeadsRun a b → AllByRecursion (LeadsRun b) rest → AllByRecursion (LeadsRun a) (b ∷ rest)
all_led a b rest h all = (h, AllByRecursion-weaker (LeadsRun b) (LeadsRun a) (λ c k. leads_trans a b c h k) rest all)

-- where each run leads the next, they are in the order of reading
in_order : (runs : List (Cell × ℕ)) → ((k : ℕ) (d : Cell × ℕ) → k + 1 < length runs → LeadsRun (get_or runs k d) (get_or runs (k + 1) d)) → AreInReadingOrder runs
in_order [] each = tt
in_order (a ∷ []) each = (tt, tt)
in_order (a ∷ b ∷ rest) each =
    let later = in_order (b ∷ rest) (λ k d less. let e : suc k + 1 ≡ suc (k + 1) = omega arith in subst (λ n. LeadsRun (get_or (a ∷ b ∷ rest) (suc k) d) (get_or (a ∷ b ∷ rest) n d)) e (each (suc k) d (omega (arith, less)))) in
    (all_led a b rest (each 0 a (omega arith)) later.0, later)

pub sorted_order : (runs : List (Cell × ℕ)) → ((k : ℕ) (d : Cell × ℕ) → 0 ≤ k → k + 1 < length runs →
    is_lt (ordering_then (ordering_then (int_cmp (get_or runs (k + 1) d).0.y (get_or runs k d).0.y) (int_cmp (get_or runs (k + 1) d).0.x (get_or runs k d).0.x)) (nat_cmp (get_or runs (k + 1) d).1 (get_or runs k d).1)) ≡ false) → AreInReadingOrder runs
sorted_order runs sorted = in_order runs (λ k d less. not_less (get_or runs k d).0.y (get_or runs k d).0.x (get_or runs (k + 1) d).0.y (get_or runs (k + 1) d).0.x (get_or runs (k + 1) d).1 (get_or runs k d).1 (sorted k d (omega arith) less))

-- the same runs in another order have the same cells
pub same_runs_plane : (runs sorted : List (Cell × ℕ)) → IsPermutation runs sorted → IsSame (runs_plane sorted) (runs_plane runs)
unfolding runs_plane
same_runs_plane runs sorted same = record { same = λ x y. sym (list_any-IsPermutation (is_in_run x y) runs sorted same) }

-- ---- the spans of runs

spans_lead : (half : ℕ) (a b : Cell × ℕ) → FitsInRoot half a → FitsInRoot half b → LeadsRun a b → Leads (span_of half a) (span_of half b)
spans_lead half a b fits_a fits_b h = ⊎_elim
    (λ above. let t = fits_a.top in inl (grind (arith, ints)))
    (λ same. let e = same.0 in let f = same.1 in let l = fits_a.left in inr (grind (arith, ints), grind (arith, ints))) h

all_spans_lead : (half : ℕ) (a : Cell × ℕ) (runs : List (Cell × ℕ)) → FitsInRoot half a → AllByRecursion (FitsInRoot half) runs → AllByRecursion (LeadsRun a) runs → AllByRecursion (Leads (span_of half a)) (map (span_of half) runs)
all_spans_lead half a [] fits all h = tt
all_spans_lead half a (b ∷ runs) fits all h = (spans_lead half a b fits all.0 h.0, all_spans_lead half a runs fits all.1 h.1)

pub spans_in_order : (half : ℕ) (runs : List (Cell × ℕ)) → AllByRecursion (FitsInRoot half) runs → AreInReadingOrder runs → AreInOrder (map (span_of half) runs)
spans_in_order half [] all order = tt
spans_in_order half (run ∷ runs) all order = (all_spans_lead half run runs all.0 all.1 order.0, spans_in_order half runs all.1 order.1)

from_top : (spans : List Span) → AllByRecursion (λ (span : Span). 0 ≤ span.row) spans
from_top [] = tt
from_top (s ∷ spans) = (omega arith, from_top spans)

-- what is left at first
pub left_first : (half : ℕ) (next : Option Span) (runs rest : List (Cell × ℕ)) → half ≤ 2 ^ 62 → AllByRecursion (FitsInRoot half) rest → (next ≡ None → rest ≡ []) →
    spans_left half next rest ≡ map (span_of half) runs → AllByRecursion (FitsInRoot half) runs → AreInReadingOrder runs → AreLeft half 0 next rest
left_first half next runs rest bound fit ended spans all order = record {
  bound = bound;
  fit = fit;
  ended = ended;
  order = subst AreInOrder (sym spans) (spans_in_order half runs all order);
  rows = from_top (spans_left half next rest);
}

-- a fact of each run, in another order
pub all_sorted : (P : Cell × ℕ → Type 0) (runs sorted : List (Cell × ℕ)) → IsPermutation runs sorted → AllByRecursion P runs → AllByRecursion P sorted
all_sorted P runs sorted same all = recursion_from_All P sorted (All-permutation P runs sorted same (All-from_recursion P runs all))
