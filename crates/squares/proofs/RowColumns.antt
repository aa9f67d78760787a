-- The columns of a row that grows, and the squares that stand in them.
use Rattle.std.proofs.Common.{◌≡◌, ℕ, ◌+◌, ◌*◌, ◌^◌, ◌<◌, ◌≤◌, ℤ, pos, negsuc, ◌+ℤ◌, true, false, cond, List, [], ◌∷◌, ◌++◌, Option, Some, None, sym, ◌∙◌, ap, arith, ⊎_elim}
use Rattle.std.specs.Prelude.{◌&&◌, nat_lt, unsigned_abs}
use Rattle.std.specs.List.{AllByRecursion}
use Rattle.std.specs.Option.{option_map, option_or}
use Rattle.std.proofs.lemmas.Bool.{cases_lt}
use Rattle.std.proofs.lemmas.Bool.Decides.{nat_tests}
use Rattle.std.proofs.lemmas.List.Folds.{find-append}
use Rattle.plane.specs.Plane.{Plane}
use Rattle.plane.specs.Square.{IsSame, spans, cut, bit, bits_plane}
use Rattle.plane.proofs.Cuts.{and_case, and_left, and_right}
use Rattle.plane.proofs.Same.{same_trans}
use Rattle.squares.specs.Book.{Book, Keeps, Shows}
use Rattle.squares.specs.Spans.{in_spans, marked}
use Rattle.squares.specs.SquareRows.{EndsBy, IsRow, segment_at, square_at}
use Rattle.squares.specs.declared.spans.Span.{Span}
use Rattle.squares.specs.declared.sq.Sq.{Sq}
use Rattle.squares.specs.declared.square_rows.Segment.{Segment}
use Rattle.squares.proofs.Kept.{shows_kept}
use Rattle.squares.proofs.SpanCells.{cut_marked, left_of, marked_moved}

found_first : {X Y : Type 0} (f : X → Y) (a b : Option X) (y : Y) → option_map f a ≡ Some y → option_map f (option_or a b) ≡ Some y
found_first f (Some x) b y e = e
found_first f None b y e = absurd (none_some e)
  where
    none_some : None ≡ Some y → ⊥
    none_some e = cc

-- a column that the row has
pub had_column : (row : List Segment) (s : Segment) (column : ℕ) (sq : Sq) → square_at row column ≡ Some sq → square_at (row ++ s ∷ []) column ≡ Some sq
had_column row s column sq has = ap (option_map (λ (t : Segment). t.sq)) (find-append (λ (t : Segment). nat_lt column t.end) row (s ∷ []))
    ∙ found_first (λ (t : Segment). t.sq) (segment_at row column) (segment_at (s ∷ []) column) sq has

-- a segment that ends before the column hasn't it
pub passed_first : (t : Segment) (row : List Segment) (column : ℕ) → t.end ≤ column → square_at (t ∷ row) column ≡ square_at row column
passed_first t row column ends = ap (λ b. option_map (λ (u : Segment). u.sq) (cond b (Some t) (segment_at row column))) (let e : nat_lt column t.end ≡ false = grind (arith, nat_tests) in e)

pub has_first : (t : Segment) (row : List Segment) (column : ℕ) → column < t.end → square_at (t ∷ row) column ≡ Some t.sq
has_first t row column before = ap (λ b. option_map (λ (u : Segment). u.sq) (cond b (Some t) (segment_at row column))) (let e : nat_lt column t.end ≡ true = grind (arith, nat_tests) in e)

-- a column behind the row that one segment more has
pub new_column : (row : List Segment) (s : Segment) (from column : ℕ) → AllByRecursion (EndsBy from) row → from ≤ column → column < s.end → square_at (row ++ s ∷ []) column ≡ Some s.sq
new_column [] s from column ends low high = has_first s [] column high
new_column (t ∷ row) s from column ends low high = passed_first t (row ++ s ∷ []) column (omega (arith, ends.0, low)) ∙ new_column row s from column ends.1 low high

pub row_more : (old new : Book) (level from end top : ℕ) (plane : Plane) (row : List Segment) (s : Segment) → Keeps old new → IsRow old level from top plane row → AllByRecursion (EndsBy from) row → s.end ≡ end →
    ((column : ℕ) → from ≤ column → column < end → Shows new level (cut (2 ^ level) (column * 2 ^ level) top plane) s.sq) → IsRow new level end top plane (row ++ s ∷ [])
row_more old new level from end top plane row s keeps shown ends is here column high = ⊎_elim
    (λ before. let had = shown column before in (had.0, had_column row s column had.0 had.1, shows_kept keeps had.2))
    (λ behind. (s.sq, new_column row s from column ends behind (omega (arith, is, high)), here column behind high))
    (cases_lt column from)

pub ends_more : (from end : ℕ) (row : List Segment) (s : Segment) → AllByRecursion (EndsBy from) row → from ≤ end → s.end ≤ end → AllByRecursion (EndsBy end) (row ++ s ∷ [])
ends_more from end [] s ends h k = (k, tt)
ends_more from end (t ∷ row) s ends h k = (omega (arith, ends.0, h), ends_more from end row s ends.1 h k)

pub row_kept : (old new : Book) (level width top : ℕ) (plane : Plane) (row : List Segment) → Keeps old new → IsRow old level width top plane row → IsRow new level width top plane row
row_kept old new level width top plane row keeps shown column high = let had = shown column high in (had.0, had.1, shows_kept keeps had.2)

-- the word of a leaf, by the spans' cells there
leaf_cut : (word : ℕ) → IsSame (bits_plane word) (cut 8 0 0 (marked (λ x y. bit word (8 * y + x))))
leaf_cut word = record { same = λ x y. and_case (spans 8 x && spans 8 y) _ _ (λ e. inside x y (and_left _ _ e) (and_right _ _ e)) }
  where
    inside : (x y : ℤ) → spans 8 x ≡ true → spans 8 y ≡ true → bit word (8 * unsigned_abs y + unsigned_abs x) ≡ marked (λ x y. bit word (8 * y + x)) (x +ℤ pos 0) (y +ℤ pos 0)
    inside (pos a) (pos b) hx hy = sym (marked_moved (λ x y. bit word (8 * y + x)) a b 0 0 ∙ ap (λ n. bit word (8 * (b + 0) + n)) (let e : a + 0 ≡ a = omega arith in e) ∙ ap (λ n. bit word (8 * n + a)) (let e : b + 0 ≡ b = omega arith in e))
    inside (pos a) (negsuc b) hx hy = absurd (left_of 8 b hy)
    inside (negsuc a) y hx hy = absurd (left_of 8 a hx)

pub leaf_shown : (book : Book) (spans : List Span) (word column top : ℕ) (sq : Sq) → ((x y : ℕ) → x < 8 → y < 8 → bit word (8 * y + x) ≡ in_spans spans (x + column * 8) (y + top)) →
    Shows book 3 (bits_plane word) sq → Shows book 3 (cut 8 (column * 8) top (marked (in_spans spans))) sq
leaf_shown book spans word column top sq cells shown = record {
  known = shown.known;
  cells = same_trans shown.cells (same_trans (leaf_cut word) (cut_marked 8 (column * 8) top (λ x y. bit word (8 * y + x)) (in_spans spans) cells));
}

pub no_columns : (book : Book) (level top : ℕ) (plane : Plane) (row : List Segment) → IsRow book level 0 top plane row
no_columns book level top plane row column none = absurd (omega (arith, none))
