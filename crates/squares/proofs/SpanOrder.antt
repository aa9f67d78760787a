-- Spans in the order of reading: which of them have no cell of a row from or up to a column.
use Rattle.std.proofs.Common.{◌≡◌, ℕ, suc, zero, ◌+◌, ◌-◌, ◌*◌, ◌<◌, ◌≤◌, Bool, true, false, List, [], ◌∷◌, take, drop, length, get_or, sym, ◌∙◌, ap, subst, arith, refl, inl, inr, ⊎_elim}
use Rattle.std.specs.Prelude.{◌⊎◌, ◌&&◌, ◌||◌, ◌==◌, max}
use Rattle.std.specs.List.{AllByRecursion, list_any}
use Rattle.std.proofs.lemmas.Bool.{cases_lt}
use Rattle.std.proofs.lemmas.Bool.Decides.{nat_tests}
use Rattle.std.proofs.lemmas.List.{take-append-drop}
use Rattle.std.proofs.lemmas.List.Folds.{list_any-append}
use Rattle.squares.specs.Spans.{in_span, in_spans}
use Rattle.squares.specs.Strips.{AreInOrder, ArePassed, BeginsBehind, EndsBefore, IsSameUpTo, Leads}
use Rattle.squares.specs.declared.spans.Span.{Span}
use Rattle.squares.proofs.Places.{all_at}
use Rattle.squares.proofs.SpanCells.{first_in, more_in, none_in}

-- a span that ends before a cell, or begins behind it, hasn't the cell
pub ended_before : (row left x : ℕ) (s : Span) → EndsBefore row left s → left ≤ x → in_span x row s ≡ false
ended_before row left x s ends h = ⊎_elim (λ above. grind (arith, nat_tests, above)) (λ same. let e = same.1 in grind (arith, nat_tests, e)) ends

pub begun_behind : (row last x : ℕ) (s : Span) → BeginsBehind row last s → x ≤ last → in_span x row s ≡ false
begun_behind row last x s begins h = ⊎_elim (λ below. grind (arith, nat_tests, below)) (λ same. let e = same.1 in grind (arith, nat_tests, e)) begins

behind_next : (row last : ℕ) (s t : Span) → Leads s t → BeginsBehind row last s → BeginsBehind row last t
behind_next row last s t leads begins = ⊎_elim
    (λ below. ⊎_elim (λ under. inl (omega (arith, below, under))) (λ same. inl (let e = same.0 in omega (arith, below, e))) leads)
    (λ at. ⊎_elim (λ under. inl (let e = at.0 in omega (arith, under, e))) (λ same. let e = at.0 in let f = same.0 in let g = at.1 in let h = same.1 in inr (omega (arith, e, f), omega (arith, g, h))) leads)
    begins

none_of : (row last x : ℕ) (s : Span) (rest : List Span) → AllByRecursion (Leads s) rest → BeginsBehind row last s → x ≤ last → in_spans rest x row ≡ false
none_of row last x s [] all begins h = none_in x row
none_of row last x s (t ∷ rest) all begins h = first_in t rest x row
    ∙ ap (λ b. b || in_spans rest x row) (begun_behind row last x t (behind_next row last s t all.0 begins) h)
    ∙ none_of row last x s rest all.1 begins h

-- where the first begins behind a cell, none has it
pub none_behind : (row last x : ℕ) (s : Span) (rest : List Span) → AreInOrder (s ∷ rest) → BeginsBehind row last s → x ≤ last → in_spans (s ∷ rest) x row ≡ false
none_behind row last x s rest order begins h = first_in s rest x row
    ∙ ap (λ b. b || in_spans rest x row) (begun_behind row last x s begins h) ∙ none_of row last x s rest order.0 begins h

-- no span is passed at first, and one more that ends before
pub none_passed : (spans : List Span) (row left : ℕ) → ArePassed spans 0 row left
none_passed spans row left = λ x h. none_in x row

pub one_passed : (spans : List Span) (i row left : ℕ) (s d : Span) → i < length spans → s ≡ get_or spans i d → EndsBefore row left s → ArePassed spans i row left → ArePassed spans (i + 1) row left
one_passed spans i row left s d within is ends passed = λ x h. more_in spans i s d x row within is ∙ ap (λ b. b || in_span x row s) (passed x h) ∙ ended_before row left x s ends h

pub passed_further : (spans : List Span) (i row left right : ℕ) → left ≤ right → ArePassed spans i row left → ArePassed spans i row right
passed_further spans i row left right h passed = λ x k. passed x (omega (arith, h, k))

-- the cells from there on are those of the spans that are left
pub left_cells : (spans : List Span) (i row left x : ℕ) → ArePassed spans i row left → left ≤ x → in_spans spans x row ≡ in_spans (drop i spans) x row
unfolding in_spans
left_cells spans i row left x passed h = ap (λ ss. list_any (in_span x row) ss) (sym (take-append-drop i spans)) ∙ list_any-append (in_span x row) (take i spans) (drop i spans)
    ∙ ap (λ b. b || list_any (in_span x row) (drop i spans)) (passed x h)

-- what is left of spans in order is in order
pub order_left : (i : ℕ) (spans : List Span) → AreInOrder spans → AreInOrder (drop i spans)
order_left zero spans order = order
order_left (suc i) [] order = order
order_left (suc i) (s ∷ rest) order = order_left i rest order.1

rows_of : (row : ℕ) (s : Span) (rest : List Span) → row ≤ s.row → AllByRecursion (Leads s) rest → AllByRecursion (λ (t : Span). row ≤ t.row) rest
rows_of row s [] h all = tt
rows_of row s (t ∷ rest) h all = (⊎_elim (λ under. omega (arith, h, under)) (λ same. let e = same.0 in omega (arith, h, e)) all.0, rows_of row s rest h all.1)

-- where the first span lies in the row or below, all do
pub rows_from : (row : ℕ) (s : Span) (rest : List Span) → AreInOrder (s ∷ rest) → row ≤ s.row → AllByRecursion (λ (t : Span). row ≤ t.row) (s ∷ rest)
rows_from row s rest order h = (h, rows_of row s rest h order.0)

-- the row's cells of one span more
in_row : (row x y : ℕ) (s : Span) → s.row ≡ row → in_span x y s ≡ ((y == row) && in_span x row s)
in_row row x y s e = grind (arith, nat_tests, e)

both_or : (e a b : Bool) → ((e && a) || (e && b)) ≡ (e && (a || b))
both_or true a b = refl
both_or false a b = refl

row_of_next : (row last : ℕ) (s : Span) → row ≤ s.row → ¬ BeginsBehind row last s → s.row ≡ row
row_of_next row last s h not = ⊎_elim (λ below. absurd (not (inl below))) (λ k. omega (arith, h, k)) (cases_lt row s.row)

pub row_more : (spans : List Span) (i row last x y : ℕ) (s d : Span) (word bits : Bool) → bits ≡ in_span x y s → s ≡ get_or spans i d → i < length spans →
    AllByRecursion (λ (t : Span). row ≤ t.row) spans → ¬ BeginsBehind row last s →
    word ≡ ((y == row) && in_spans (take i spans) x row) → (word || bits) ≡ ((y == row) && in_spans (take (i + 1) spans) x row)
row_more spans i row last x y s d word bits made is within rows not was =
    let at = row_of_next row last s (subst (λ (t : Span). row ≤ t.row) (sym is) (all_at (λ (t : Span). row ≤ t.row) spans i d rows within)) not in ap (λ b. b || bits) was ∙ ap (λ b. ((y == row) && in_spans (take i spans) x row) || b) (made ∙ in_row row x y s at)
    ∙ both_or (y == row) (in_spans (take i spans) x row) (in_span x row s) ∙ ap (λ b. (y == row) && b) (sym (more_in spans i s d x row within is))

-- where a span begins behind a cell, only those before it may have the cell
pub cells_before : (spans : List Span) (i row last x : ℕ) (s d : Span) → AreInOrder spans → i < length spans → s ≡ get_or spans i d → BeginsBehind row last s → x ≤ last →
    in_spans (take i spans) x row ≡ in_spans spans x row
cells_before [] i row last x s d order within is begins h = absurd (omega (arith, within))
cells_before (t ∷ rest) zero row last x s d order within is begins h = none_in x row ∙ sym (none_behind row last x t rest order (subst (BeginsBehind row last) is begins) h)
cells_before (t ∷ rest) (suc i) row last x s d order within is begins h = first_in t (take i rest) x row
    ∙ ap (λ b. in_span x row t || b) (cells_before rest i row last x s d order.1 (omega (arith, within)) is begins h) ∙ sym (first_in t rest x row)

-- up to which column of leaves a row is the same
pub none_same : (spans : List Span) (row column end : ℕ) → length spans ≡ 0 → IsSameUpTo spans row column end
none_same [] row column end e = λ other x low high h. none_in _ row ∙ sym (none_in _ row)
none_same (s ∷ rest) row column end e = absurd (omega (arith, e))

pub below_same : (spans : List Span) (row column end : ℕ) (s d : Span) → AreInOrder spans → 0 < length spans → s ≡ get_or spans 0 d → row < s.row → IsSameUpTo spans row column end
below_same [] row column end s d order some is below = absurd (omega (arith, some))
below_same (t ∷ rest) row column end s d order some is below = λ other x low high h.
    let under : row < t.row = subst (λ (u : Span). row < u.row) is below in
    none_behind row (x + 8 * other) (x + 8 * other) t rest order (inl under) (omega arith) ∙ sym (none_behind row (x + 8 * column) (x + 8 * column) t rest order (inl under) (omega arith))

module _ (row column e : ℕ) (t : Span) (rest : List Span) (order : AreInOrder (t ∷ rest)) (at : t.row ≡ row) where
  gap_same : (other x : ℕ) → 8 * e ≤ t.first → column ≤ other → other < e → x < 8 → in_spans (t ∷ rest) (x + 8 * other) row ≡ in_spans (t ∷ rest) (x + 8 * column) row
  gap_same other x gap low high h =
      let begins : BeginsBehind row (8 * e - 1) t = inr (at, omega (arith, gap, high)) in
      none_behind row (8 * e - 1) (x + 8 * other) t rest order begins (omega (arith, high, h)) ∙ sym (none_behind row (8 * e - 1) (x + 8 * column) t rest order begins (omega (arith, low, high, h)))

  has_cell : (x : ℕ) → t.first ≤ x → x < t.end → in_spans (t ∷ rest) x row ≡ true
  has_cell x low high = first_in t rest x row ∙ ap (λ b. b || in_spans rest x row) (let here : in_span x row t ≡ true = grind (arith, nat_tests, at, low, high) in here)

  full_same : (other x : ℕ) → t.first ≤ 8 * column → 8 * e ≤ t.end → column ≤ other → other < e → x < 8 → in_spans (t ∷ rest) (x + 8 * other) row ≡ in_spans (t ∷ rest) (x + 8 * column) row
  full_same other x begins ends low high h = has_cell (x + 8 * other) (omega (arith, begins, low)) (omega (arith, ends, high, h)) ∙ sym (has_cell (x + 8 * column) (omega (arith, begins)) (omega (arith, ends, low, high, h)))

pub first_same : (spans : List Span) (row column e end : ℕ) (s d : Span) → AreInOrder spans → 0 < length spans → s ≡ get_or spans 0 d → s.row ≡ row →
    (((8 * column < s.first) × (8 * e ≤ s.first)) ⊎ ((s.first ≤ 8 * column) × (8 * e ≤ s.end))) → (((end ≡ e)) ⊎ (end ≡ column + 1)) → IsSameUpTo spans row column end
first_same [] row column e end s d order some is at kind which = absurd (omega (arith, some))
first_same (t ∷ rest) row column e end s d order some is at kind which = λ other x low high h. ⊎_elim
    (λ same. let less : other < e = omega (arith, same, high) in ⊎_elim
    (λ gap. gap_same row column e t rest order here other x (subst (λ (u : Span). 8 * e ≤ u.first) is gap.1) low less h)
    (λ full. full_same row column e t rest order here other x (subst (λ (u : Span). u.first ≤ 8 * column) is full.0) (subst (λ (u : Span). 8 * e ≤ u.end) is full.1) low less h) kind)
    (λ same. ap (λ n. in_spans (t ∷ rest) (x + 8 * n) row) (let e : other ≡ column = omega (arith, same, low, high) in e)) which
  where
    here : t.row ≡ row
    here = subst (λ (u : Span). u.row ≡ row) is at

pub and_none : (a b : Bool) → b ≡ false → (a && b) ≡ false
and_none true b e = e
and_none false b e = refl

pub row_of_first : (row left : ℕ) (s : Span) → s.row ≤ row → ¬ EndsBefore row left s → s.row ≡ row
row_of_first row left s h not = ⊎_elim (λ above. absurd (not (inl above))) (λ k. omega (arith, h, k)) (cases_lt s.row row)

pub max_of : (m a b : ℕ) → m ≡ max a b → (m ≡ a) ⊎ (m ≡ b)
max_of m a b e = ⊎_elim (λ h. inr (omega (arith, e, h))) (λ h. inl (omega (arith, e, h))) (cases_lt a b)

pub row_at_least : (row left : ℕ) (s : Span) → ¬ EndsBefore row left s → row ≤ s.row
row_at_least row left s not = ⊎_elim (λ above. absurd (not (inl above))) (λ k. k) (cases_lt s.row row)
