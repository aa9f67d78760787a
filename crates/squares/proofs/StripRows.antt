-- The rows of squares of a strip, from the spans that lie in it.
use Rattle.std.proofs.Common.{◌≡◌, ℕ, ◌+◌, ◌-◌, ◌*◌, ◌^◌, ◌<◌, ◌≤◌, ℤ, pos, ◌+ℤ◌, Bool, true, false, List, [], ◌∷◌, ◌++◌, Option, Some, sym, ◌∙◌, ap, subst, arith, refl}
use Rattle.std.specs.Prelude.{◌&&◌, ◌||◌, int_le}
use Rattle.std.specs.List.{AllByRecursion}
use Rattle.std.proofs.lemmas.Bool.Decides.{nat_tests}
use Rattle.std.proofs.lemmas.List.{append_assoc}
use Rattle.std.proofs.lemmas.List.Folds.{list_any-append}
use Rattle.plane.specs.Plane.{Plane}
use Rattle.plane.specs.Square.{IsSame, spans as spans_at, cut, joined}
use Rattle.plane.proofs.Cuts.{joined_cuts, moved_to}
use Rattle.plane.proofs.Elements.{AllByRecursion-append, AllByRecursion-weaker}
use Rattle.plane.proofs.Paddings.{twice_half}
use Rattle.plane.proofs.Same.{same_refl, same_sym, same_trans}
use Rattle.squares.specs.Book.{Book, IsBook, IsKnown, Shows, nth, numbered}
use Rattle.squares.specs.Spans.{in_span, in_spans, marked}
use Rattle.squares.specs.SquareRows.{HaveQuarters, IsJoined, IsRow, square_at}
use Rattle.squares.specs.Strips.{AreTaken, IsTaken}
use Rattle.squares.specs.declared.spans.Span.{Span}
use Rattle.squares.specs.declared.sq.Sq.{Sq}
use Rattle.squares.specs.declared.square_rows.Segment.{Segment}
use Rattle.squares.proofs.Centres.{shows_as}
use Rattle.squares.proofs.FourKnown.{empty_known, joined_as}
use Rattle.squares.proofs.RowColumns.{has_first}
use Rattle.squares.proofs.SpanCells.{cut_marked, first_in, none_in, or_none}

-- ---- the cells of spans above a row, and of those below

other_row : (x y : ℕ) (s : Span) → ¬ (y ≡ s.row) → in_span x y s ≡ false
other_row x y s not = grind (arith, nat_tests)

pub none_above : (bottom x y : ℕ) (spans : List Span) → AllByRecursion (λ (s : Span). bottom ≤ s.row) spans → y < bottom → in_spans spans x y ≡ false
none_above bottom x y [] rows h = none_in x y
none_above bottom x y (s ∷ rest) rows h = first_in s rest x y ∙ ap (λ b. b || in_spans rest x y) (other_row x y s (λ e. omega (arith, e, rows.0, h))) ∙ none_above bottom x y rest rows.1 h

none_below : (bottom x y : ℕ) (spans : List Span) → AllByRecursion (λ (s : Span). s.row < bottom) spans → bottom ≤ y → in_spans spans x y ≡ false
none_below bottom x y [] rows h = none_in x y
none_below bottom x y (s ∷ rest) rows h = first_in s rest x y ∙ ap (λ b. b || in_spans rest x y) (other_row x y s (λ e. omega (arith, e, rows.0, h))) ∙ none_below bottom x y rest rows.1 h

in_both : (spans more : List Span) (x y : ℕ) → in_spans (spans ++ more) x y ≡ (in_spans spans x y || in_spans more x y)
unfolding in_spans
in_both spans more x y = list_any-append (in_span x y) spans more

-- what was taken has the cells above the row, and what is left has the others
pub taken_cells : (bottom x y : ℕ) (before after taken : List Span) → IsTaken bottom before after taken → y < bottom → in_spans taken x y ≡ in_spans before x y
taken_cells bottom x y before after taken is h = sym (ap (λ ss. in_spans ss x y) is.whole ∙ in_both taken after x y ∙ ap (λ b. in_spans taken x y || b) (none_above bottom x y after is.below h) ∙ or_none _)

pub left_cells_below : (bottom x y : ℕ) (before after taken : List Span) → IsTaken bottom before after taken → bottom ≤ y → in_spans after x y ≡ in_spans before x y
left_cells_below bottom x y before after taken is h = sym (ap (λ ss. in_spans ss x y) is.whole ∙ in_both taken after x y ∙ ap (λ b. b || in_spans after x y) (none_below bottom x y taken is.above h))

-- nothing taken, and twice something
pub none_taken : (bottom : ℕ) (spans : List Span) → AllByRecursion (λ (s : Span). bottom ≤ s.row) spans → AreTaken bottom spans spans
none_taken bottom spans rows = ([], record { whole = refl; above = tt; below = rows })

pub taken_twice : (middle bottom : ℕ) (first second third : List Span) → middle ≤ bottom → AreTaken middle first second → AreTaken bottom second third → AreTaken bottom first third
taken_twice middle bottom first second third h (one, is_one) (two, is_two) = (
  one ++ two,
  record {
    whole = is_one.whole ∙ ap (λ ss. one ++ ss) is_two.whole ∙ sym (append_assoc one two third);
    above = AllByRecursion-append (λ (s : Span). s.row < bottom) one two (AllByRecursion-weaker (λ (s : Span). s.row < middle) (λ (s : Span). s.row < bottom) (λ s less. omega (arith, less, h)) one is_one.above) is_two.above;
    below = is_two.below;
  },
)

-- ---- rows of squares

cut_same : (side left top : ℕ) (f g : ℕ → ℕ → Bool) → ((x y : ℕ) → top ≤ y → y < top + side → f x y ≡ g x y) → IsSame (cut side left top (marked f)) (cut side left top (marked g))
cut_same side left top f g same = same_trans
    (same_sym (cut_marked side left top (λ x y. f (x + left) (y + top)) f (λ x y hx hy. refl)))
    (cut_marked side left top (λ x y. f (x + left) (y + top)) g (λ x y hx hy. same (x + left) (y + top) (omega arith) (omega (arith, hy))))

-- a row of squares shows what has the same cells in the strip
pub row_same : (book : Book) (level width top : ℕ) (f g : ℕ → ℕ → Bool) (row : List Segment) → ((x y : ℕ) → top ≤ y → y < top + 2 ^ level → f x y ≡ g x y) →
    IsRow book level width top (marked f) row → IsRow book level width top (marked g) row
row_same book level width top f g row same shown column high = let had = shown column high in
    (had.0, had.1, shows_as book level level _ _ had.0 refl (cut_same (2 ^ level) (column * 2 ^ level) top f g same) had.2)

pub empty_shown : (book : Book) (level width top : ℕ) (spans : List Span) → IsBook book → 3 ≤ level → level ≤ 65 → AllByRecursion (λ (s : Span). top + 2 ^ level ≤ s.row) spans →
    IsRow book level width top (marked (in_spans spans)) (record { end = width; sq = numbered level 0 } ∷ [])
empty_shown book level width top spans is low high rows column less = (
  numbered level 0,
  has_first (record { end = width; sq = numbered level 0 }) [] column less,
  record {
    known = empty_known book level is low high;
    cells = same_trans (is.zero_empty level) (same_trans (record { same = λ x y. sym (nothing x y) })
        (cut_marked (2 ^ level) (column * 2 ^ level) top (λ x y. false) (in_spans spans) (λ x y hx hy. sym (none_above (top + 2 ^ level) (x + column * 2 ^ level) (y + top) spans rows (omega (arith, hy))))));
  },
)
  where
    none_marked : (a b : Bool) → ((a && b) && false) ≡ false
    none_marked true true = refl
    none_marked true false = refl
    none_marked false b = refl

    and_false : (a b : Bool) → b ≡ false → (a && b) ≡ false
    and_false true b e = e
    and_false false b e = refl

    nothing : (x y : ℤ) → cut (2 ^ level) 0 0 (marked (λ x y. false)) x y ≡ false
    nothing x y = and_false (spans_at (2 ^ level) x && spans_at (2 ^ level) y) _ (none_marked (int_le (pos 0) (x +ℤ pos 0)) (int_le (pos 0) (y +ℤ pos 0)))

-- ---- two rows

same_square : (a b : Sq) (found : Option Sq) → found ≡ Some a → found ≡ Some b → a ≡ b
same_square a b found e f = cc

-- the square that stands in a column shows the cells there
pub shown_there : (book : Book) (level width top : ℕ) (plane : Plane) (row : List Segment) (column : ℕ) (sq : Sq) → IsRow book level width top plane row → column < width → square_at row column ≡ Some sq →
    Shows book level (cut (2 ^ level) (column * 2 ^ level) top plane) sq
shown_there book level width top plane row column sq shown less there = let had = shown column less in
    subst (Shows book level (cut (2 ^ level) (column * 2 ^ level) top plane)) (same_square had.0 sq (square_at row column) had.1 there) had.2

pub have_quarters : (book : Book) (level width top below : ℕ) (plane other : Plane) (upper lower : List Segment) → level < 65 → IsRow book level (2 * width) top plane upper → IsRow book level (2 * width) below other lower → HaveQuarters book width upper lower
have_quarters book level width top below plane other upper lower high above under = record {
  upper_columns = λ column less. let had = above column less in (had.0, had.1);
  lower_columns = λ column less. let had = under column less in (had.0, had.1);
  known = λ column quarters less read.
      let nw = (shown_there book level (2 * width) top plane upper (2 * column) (nth quarters 0) above (omega (arith, less)) read.nw).known in
      let ne = (shown_there book level (2 * width) top plane upper (2 * column + 1) (nth quarters 1) above (omega (arith, less)) read.ne).known in
      let sw = (shown_there book level (2 * width) below other lower (2 * column) (nth quarters 2) under (omega (arith, less)) read.sw).known in
      let se = (shown_there book level (2 * width) below other lower (2 * column + 1) (nth quarters 3) under (omega (arith, less)) read.se).known in
      let e : level ≡ (nth quarters 0).level = sym nw.at_level in record {
        level = subst (λ n. n < 65) e high;
        known = record {
          first = subst (λ n. IsKnown book n (nth quarters 0)) e nw;
          second = subst (λ n. IsKnown book n (nth quarters 1)) e ne;
          third = subst (λ n. IsKnown book n (nth quarters 2)) e sw;
          fourth = subst (λ n. IsKnown book n (nth quarters 3)) e se;
        };
      };
}

left_side : (column h : ℕ) → (2 * column) * h ≡ column * (h + h)
left_side column h = grind (arith)

right_side : (column h : ℕ) → (2 * column + 1) * h ≡ column * (h + h) + h
right_side column h = grind (arith)

-- the row of the squares that two rows make shows the cells of both
pub rows_joined : (old new : Book) (level width top : ℕ) (plane : Plane) (upper lower row : List Segment) → 0 < level → IsRow old (level - 1) (2 * width) top plane upper → IsRow old (level - 1) (2 * width) (top + 2 ^ (level - 1)) plane lower →
    IsJoined old new upper lower width row → IsRow new level width top plane row
rows_joined old new level width top plane upper lower row least above under made_row column less =
    let h = 2 ^ (level - 1) in
    let it = made_row column less in
    let below = top + h in
    let nw = shown_there old (level - 1) (2 * width) top plane upper (2 * column) (nth it.quarters 0) above (omega (arith, less)) it.read.nw in
    let ne = shown_there old (level - 1) (2 * width) top plane upper (2 * column + 1) (nth it.quarters 1) above (omega (arith, less)) it.read.ne in
    let sw = shown_there old (level - 1) (2 * width) below plane lower (2 * column) (nth it.quarters 2) under (omega (arith, less)) it.read.sw in
    let se = shown_there old (level - 1) (2 * width) below plane lower (2 * column + 1) (nth it.quarters 3) under (omega (arith, less)) it.read.se in
    let made = joined_as old new (level - 1) it.quarters _ _ _ _ it.square nw.known.at_level nw.cells ne.cells sw.cells se.cells it.shown in
    let p = cut h ((2 * column) * h) top plane in
    let q = cut h ((2 * column + 1) * h) top plane in
    let r = cut h ((2 * column) * h) below plane in
    let s = cut h ((2 * column + 1) * h) below plane in
    let whole = joined_cuts h (column * (h + h)) top plane p q r s
    (moved_to h ((2 * column) * h) (column * (h + h)) top top plane p (left_side column h) refl (same_refl _))
    (moved_to h ((2 * column + 1) * h) (column * (h + h) + h) top top plane q (right_side column h) refl (same_refl _))
    (moved_to h ((2 * column) * h) (column * (h + h)) below (top + h) plane r (left_side column h) refl (same_refl _))
    (moved_to h ((2 * column + 1) * h) (column * (h + h) + h) below (top + h) plane s (right_side column h) refl (same_refl _)) in (
      it.square,
      it.there,
      shows_as new (level - 1 + 1) level _ _ it.square (omega (arith, least))
          (subst (λ side. IsSame (joined h p q r s) (cut side (column * side) top plane)) (sym (twice_half level least)) whole) made,
    )
