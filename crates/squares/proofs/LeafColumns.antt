-- A leaf of a strip, row by row, and how far the leaves behind it are the same.
use Rattle.std.proofs.Common.{◌≡◌, ℕ, suc, zero, ◌+◌, ◌-◌, ◌*◌, ◌<◌, ◌≤◌, Bool, true, false, List, [], ◌∷◌, take, drop, length, slice_set, sym, ◌∙◌, ap, subst, arith, refl, inl, inr, ⊎_elim}
use Rattle.std.specs.Prelude.{◌&&◌, ◌||◌, ◌==◌, ◌⊎◌, nat_lt, min, slice_get, slice_index, IfSome}
use Rattle.std.specs.List.{AllByRecursion}
use Rattle.std.proofs.lemmas.Bool.{cases_lt}
use Rattle.std.proofs.lemmas.Bool.Decides.{nat_tests}
use Rattle.std.proofs.lemmas.List.{get_or-set_same, get_or-set_other, take_rest}
use Rattle.squares.specs.Spans.{in_spans}
use Rattle.squares.specs.Strips.{AreInOrder, ArePassed, ArePassedIn, EndsBefore, IsSameUpTo}
use Rattle.squares.specs.declared.spans.Span.{Span}
use Rattle.squares.proofs.SpanOrder.{left_cells, none_passed, order_left, passed_further, row_at_least, rows_from}

-- ---- the spans that are left, as a slice

pub slice_order : (spans : List Span) (count : ℕ) → AreInOrder spans → AreInOrder (take (length spans - count) (drop count spans))
slice_order spans count order = subst AreInOrder (sym (take_rest spans count)) (order_left count spans order)

left_rows : (spans : List Span) (count row left : ℕ) → AreInOrder spans → IfSome (slice_get spans count) (λ (s : Span). ¬ EndsBefore row left s) → AllByRecursion (λ (s : Span). row ≤ s.row) (drop count spans)
left_rows [] zero row left order next = tt
left_rows [] (suc count) row left order next = tt
left_rows (s ∷ rest) zero row left order next = rows_from row s rest order (row_at_least row left s next)
left_rows (s ∷ rest) (suc count) row left order next = left_rows rest count row left order.1 next

pub slice_rows : (spans : List Span) (count row left : ℕ) → AreInOrder spans → IfSome (slice_get spans count) (λ (s : Span). ¬ EndsBefore row left s) →
    AllByRecursion (λ (s : Span). row ≤ s.row) (take (length spans - count) (drop count spans))
slice_rows spans count row left order next = subst (AllByRecursion (λ (s : Span). row ≤ s.row)) (sym (take_rest spans count)) (left_rows spans count row left order next)

left_first : (spans : List Span) (count : ℕ) → slice_get (drop count spans) 0 ≡ slice_get spans count
left_first [] zero = refl
left_first [] (suc count) = refl
left_first (s ∷ rest) zero = refl
left_first (s ∷ rest) (suc count) = left_first rest count

pub slice_next : (spans : List Span) (count row left : ℕ) → IfSome (slice_get spans count) (λ (s : Span). ¬ EndsBefore row left s) →
    IfSome (slice_get (take (length spans - count) (drop count spans)) 0) (λ (s : Span). ¬ EndsBefore row left s)
slice_next spans count row left next = subst (λ found. IfSome found (λ (s : Span). ¬ EndsBefore row left s)) (sym (ap (λ ss. slice_get ss 0) (take_rest spans count) ∙ left_first spans count)) next

slice_cells : (spans : List Span) (count row left x : ℕ) → ArePassed spans count row left → left ≤ x → in_spans (take (length spans - count) (drop count spans)) x row ≡ in_spans spans x row
slice_cells spans count row left x passed h = ap (λ ss. in_spans ss x row) (take_rest spans count) ∙ sym (left_cells spans count row left x passed h)

-- ---- one row more

one_row : (y k top : ℕ) (p q : Bool) → (y ≡ k → q ≡ p) → ((nat_lt y k && p) || ((y + top == k + top) && q)) ≡ (nat_lt y (k + 1) && p)
one_row y k top true true same = grind (arith, nat_tests)
one_row y k top false false same = grind (arith, nat_tests)
one_row y k top true false same = grind (arith, nat_tests)
one_row y k top false true same = grind (arith, nat_tests)

module _ (spans : List Span) (count k top column : ℕ) (passed : ArePassed spans count (k + top) (8 * column)) where
  pub word_more : (x y : ℕ) (word bits : Bool) → word ≡ (nat_lt y k && in_spans spans (x + 8 * column) (y + top)) →
      bits ≡ ((y + top == k + top) && in_spans (take (length spans - count) (drop count spans)) (x + 8 * column) (k + top)) →
      (word || bits) ≡ (nat_lt y (k + 1) && in_spans spans (x + 8 * column) (y + top))
  word_more x y word bits was made = ap (λ b. b || bits) was ∙ ap (λ b. (nat_lt y k && in_spans spans (x + 8 * column) (y + top)) || b) made
      ∙ one_row y k top _ _ (λ e. slice_cells spans count (k + top) (8 * column) (x + 8 * column) passed (omega arith) ∙ ap (λ n. in_spans spans (x + 8 * column) (n + top)) (sym e))

  same_here : (end end' : ℕ) → end' ≤ end → IsSameUpTo (take (length spans - count) (drop count spans)) (k + top) column end → IsSameUpTo spans (k + top) column end'
  same_here end end' less same = λ other x low high h. sym (slice_cells spans count (k + top) (8 * column) (x + 8 * other) passed (omega (arith, low)))
      ∙ same other x low (omega (arith, high, less)) h ∙ slice_cells spans count (k + top) (8 * column) (x + 8 * column) passed (omega arith)

  pub same_more : (end more end' : ℕ) → end' ≡ min end more → ((y : ℕ) → y < k → IsSameUpTo spans (y + top) column end) → IsSameUpTo (take (length spans - count) (drop count spans)) (k + top) column more →
      (y : ℕ) → y < k + 1 → IsSameUpTo spans (y + top) column end'
  same_more end more end' is before here y less = ⊎_elim
      (λ above. λ other x low high h. before y above other x low (omega (arith, is, high)) h)
      (λ at. let e : k ≡ y = omega (arith, less, at) in subst (λ n. IsSameUpTo spans (n + top) column end') e (same_here more end' (omega (arith, is)) here))
      (cases_lt y k)

  pub passed_more : (counts : List ℕ) → length counts ≡ 8 → k < 8 → count ≤ length spans → ArePassedIn spans counts top column → ArePassedIn spans (slice_set counts k count) top column
  passed_more counts size less within before y h = ⊎_elim
      (λ e. let here : slice_index (slice_set counts k count) y ≡ count = ap (λ n. slice_index (slice_set counts k count) n) e ∙ get_or-set_same counts k count 0 (omega (arith, size, less)) in
      (subst (λ n. n ≤ length spans) (sym here) within, subst (λ n. ArePassed spans n (y + top) (8 * column)) (sym here) (subst (λ n. ArePassed spans count (n + top) (8 * column)) (sym e) passed)))
      (λ other. let there : slice_index (slice_set counts k count) y ≡ slice_index counts y = get_or-set_other counts k y count 0 other in
      (subst (λ n. n ≤ length spans) (sym there) (before y h).0, subst (λ n. ArePassed spans n (y + top) (8 * column)) (sym there) (before y h).1))
      (same_or_other y k)
    where
      same_or_other : (a b : ℕ) → (a ≡ b) ⊎ (¬ (a ≡ b))
      same_or_other a b = ⊎_elim (λ h. inr (λ e. omega (arith, h, e))) (λ h. ⊎_elim (λ g. inr (λ e. omega (arith, g, e))) (λ g. inl (omega (arith, h, g))) (cases_lt b a)) (cases_lt a b)

pub further : (spans : List Span) (counts : List ℕ) (top column column' : ℕ) → column ≤ column' → ArePassedIn spans counts top column → ArePassedIn spans counts top column'
further spans counts top column column' h before y k = ((before y k).0, passed_further spans (slice_index counts y) (y + top) (8 * column) (8 * column') (omega (arith, h)) (before y k).1)

index_zero : (counts : List ℕ) (y : ℕ) → AllByRecursion (λ n. n ≡ 0) counts → slice_index counts y ≡ 0
index_zero [] y all = refl
index_zero (n ∷ counts) zero all = all.0
index_zero (n ∷ counts) (suc y) all = index_zero counts y all.1

-- at first no span is passed
pub first_passed : (spans : List Span) (top : ℕ) → ArePassedIn spans (0 ∷ 0 ∷ 0 ∷ 0 ∷ 0 ∷ 0 ∷ 0 ∷ 0 ∷ []) top 0
first_passed spans top y h =
    let zero_here = index_zero (0 ∷ 0 ∷ 0 ∷ 0 ∷ 0 ∷ 0 ∷ 0 ∷ 0 ∷ []) y (refl, (refl, (refl, (refl, (refl, (refl, (refl, (refl, tt)))))))) in
    (subst (λ n. n ≤ length spans) (sym zero_here) (omega arith), subst (λ n. ArePassed spans n (y + top) 0) (sym zero_here) (none_passed spans (y + top) 0))
