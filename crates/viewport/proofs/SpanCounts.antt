-- How many live cells the blocks of a span have.
use Rattle.std.proofs.Common.{◌≡◌, ◌≢◌, ℕ, ◌+◌, ◌-◌, ◌*◌, ◌^◌, ◌<◌, ◌≤◌, min, ℤ, pos, ◌+ℤ◌, List, [], ◌∷◌, ◌++◌, length, replicate, append_assoc, inl, inr, sym, ◌∙◌, ap, subst, arith}
use Rattle.std.specs.Prelude.{◌*ℤ◌}
use Rattle.std.proofs.Math.IntN.{zero-*ℤ}
use Rattle.std.proofs.lemmas.Bool.Decides.{leb_tells}
use Rattle.std.proofs.lemmas.List.{append-nil}
use Rattle.std.proofs.lemmas.Nat.{pow-add}
use Rattle.plane.specs.Plane.{Plane}
use Rattle.plane.specs.Square.{IsSquare, empty}
use Rattle.plane.specs.Window.{cells_in}
use Rattle.plane.proofs.Paddings.{twice_half}
use Rattle.plane.proofs.Populations.{empty_cells}
use Rattle.squares.specs.Book.{Book, IsBook, IsKnown}
use Rattle.squares.specs.declared.sq.Sq.{Sq}
use Rattle.viewport.specs.Blocks.{block_count, block_counts}
use Rattle.viewport.specs.Halves.{IsHalfOfBlocks}
use Rattle.viewport.specs.Picture.{coordinates}
use Rattle.viewport.specs.Population.{cell_count}
use Rattle.viewport.specs.BlockSpans.{IsInBlocks, span_counts}
use Rattle.viewport.specs.declared.block_spans.BlockSpan.{BlockSpan}
use Rattle.viewport.proofs.BlocksOfPlanes.{left_block, right_block}
use Rattle.viewport.proofs.Neighbours.{map_dead, map_halves}
use Rattle.viewport.proofs.Quarters.{known_square}

none_from : (from end : ℕ) → from ≡ end → end - from ≡ 0
none_from from end e = omega arith

no_counts : (plane : Plane) (e : ℕ) (span : BlockSpan) → span.from ≡ span.end → span_counts plane e span ≡ []
unfolding coordinates
no_counts plane e span none = ap (block_counts plane e (pos span.row) (pos span.from)) (none_from span.from span.end none)

-- a span of no blocks
pub no_blocks : (plane : Plane) (e : ℕ) (span : BlockSpan) (found : List ℕ) → span.from ≡ span.end → found ≡ found ++ span_counts plane e span
no_blocks plane e span found none = sym (ap (λ l. found ++ l) (no_counts plane e span none) ∙ append-nil found)

-- a span of a plane without live cells
pub empty_blocks : (plane : Plane) (e : ℕ) (span : BlockSpan) → plane ≡ empty → span_counts plane e span ≡ replicate (span.end - span.from) 0
empty_blocks plane e span none =
    map_dead (λ column. block_count plane e column (pos span.row)) (pos span.from) (span.end - span.from)
    (λ k low. ap (λ (p : Plane). block_count p e (pos span.from +ℤ pos k) (pos span.row)) none ∙ ap length (empty_cells _ _ (2 ^ e) (2 ^ e)))

from_corner : (plane : Plane) (e : ℕ) → block_count plane e (pos 0) (pos 0) ≡ cell_count (2 ^ e) plane
from_corner plane e =
    ap (λ x. length (cells_in x (pos 0 *ℤ pos (2 ^ e)) (2 ^ e) (2 ^ e) plane)) (zero-*ℤ (pos (2 ^ e)))
    ∙ ap (λ y. length (cells_in (pos 0) y (2 ^ e) (2 ^ e) plane)) (zero-*ℤ (pos (2 ^ e)))

one_count : (plane : Plane) (e row from count : ℕ) → row ≡ 0 → from ≡ 0 → count ≡ 1 → block_counts plane e (pos row) (pos from) count ≡ cell_count (2 ^ e) plane ∷ []
unfolding coordinates
one_count plane e row from count r f c =
    ap (λ n. block_counts plane e (pos n) (pos from) count) r ∙ ap (λ n. block_counts plane e (pos 0) (pos n) count) f ∙ ap (block_counts plane e (pos 0) (pos 0)) c
    ∙ ap (λ n. n ∷ []) (from_corner plane e)

one_side : (level e : ℕ) → level ≡ e → 2 ^ (level - e) ≡ 1
one_side level e same = let none : level - e ≡ 0 = omega arith in ap (λ n. 2 ^ n) none

-- a span of a square that is one block
pub whole_block : (plane : Plane) (level e : ℕ) (span : BlockSpan) (n : ℕ) → level ≡ e → IsInBlocks (2 ^ (level - e)) span → span.from ≢ span.end →
    n ≡ cell_count (2 ^ level) plane → span_counts plane e span ≡ n ∷ []
whole_block plane level e span n same in_blocks some count =
    let side = one_side level e same in
    let row = in_blocks.row in let order = in_blocks.order in let end = in_blocks.end in
    one_count plane e span.row span.from (span.end - span.from) (omega (arith, side, row)) (omega (arith, side, order, end, some)) (omega (arith, side, order, end, some))
    ∙ sym (ap (λ m. m ∷ []) (count ∙ ap (λ k. cell_count (2 ^ k) plane) same))

abbrev row_blocks : ℕ → Plane → ℕ → ℤ → ℕ
row_blocks e plane row column = block_count plane e column (pos row)

upper_place : (row there s : ℕ) → row ≡ there → row * s ≡ 0 + there * s
upper_place row there s e = ap (λ n. n * s) e ∙ omega arith

lower_place : (row there n s : ℕ) → row ≡ n + there → row * s ≡ n * s + there * s
lower_place row there n s e = ap (λ k. k * s) e ∙ omega arith

-- where the span's parts lie in two squares beside one another
pub record AreParts (n there : ℕ) (span left right : BlockSpan) : Type 0 where
  pub left_row : left.row ≡ there
  pub left_from : left.from ≡ min span.from n
  pub left_end : left.end ≡ min span.end n
  pub right_row : right.row ≡ there
  pub right_from : right.from ≡ span.from - n
  pub right_end : right.end ≡ span.end - n

pub parts_of : (n there : ℕ) (span left right : BlockSpan) → left.row ≡ there → left.from ≡ min span.from n → left.end ≡ min span.end n →
    right.row ≡ there → right.from ≡ span.from - n → right.end ≡ span.end - n → AreParts n there span left right
parts_of n there span left right a b c d e f = record { left_row = a; left_from = b; left_end = c; right_row = d; right_from = e; right_end = f }

-- what is added in two steps
pub joined_on : (old middle new left right whole : List ℕ) → middle ≡ old ++ left → new ≡ middle ++ right → whole ≡ left ++ right → new ≡ old ++ whole
joined_on old middle new left right whole first second both = second ∙ ap (λ l. l ++ right) first ∙ append_assoc old left right ∙ ap (λ l. old ++ l) (sym both)

module _ (n e : ℕ) (plane first second : Plane) (span : BlockSpan) (there : ℕ) (in_blocks : IsInBlocks (n + n) span)
    (in_first : IsSquare (n * 2 ^ e) first) (in_second : IsSquare (n * 2 ^ e) second) (half : IsHalfOfBlocks n (n * 2 ^ e) plane first second span.row there) where
  counts_beside : span_counts plane e span
      ≡ block_counts first e (pos there) (pos (min span.from n)) (min span.end n - min span.from n) ++ block_counts second e (pos there) (pos (span.from - n)) ((span.end - n) - (span.from - n))
  counts_beside =
      elim (leb_tells n span.row) [
        | inl q ↦
            let place = lower_place span.row there n (2 ^ e) (half.lower q.1).0 in
            let rows = (half.lower q.1).1 in
            map_halves (row_blocks e plane span.row) (row_blocks e first there) (row_blocks e second there) span.from span.end n in_blocks.order in_blocks.end
            (left_block n e plane first second (n * 2 ^ e) span.row there in_first in_second rows half.inside place)
            (right_block n e plane first second (n * 2 ^ e) span.row there in_first in_second rows half.inside place)
        | inr q ↦
            let place = upper_place span.row there (2 ^ e) (half.upper q.1).0 in
            let rows = (half.upper q.1).1 in
            map_halves (row_blocks e plane span.row) (row_blocks e first there) (row_blocks e second there) span.from span.end n in_blocks.order in_blocks.end
            (left_block n e plane first second 0 span.row there in_first in_second rows half.inside place)
            (right_block n e plane first second 0 span.row there in_first in_second rows half.inside place)
      ]

  -- a span of the upper or the lower half of a square, by its parts in two quarters
  pub halves_counts : (left right : BlockSpan) → AreParts n there span left right → span_counts plane e span ≡ span_counts first e left ++ span_counts second e right
  halves_counts left right are = rw (are.left_row, are.left_from, are.left_end, are.right_row, are.right_from, are.right_end) counts_beside

-- a quarter's side, in cells
pub side_of_blocks : (level e : ℕ) → 1 ≤ level → e ≤ level - 1 → 2 ^ (level - 1) ≡ 2 ^ (level - e - 1) * 2 ^ e
side_of_blocks level e least low = let sum : level - 1 ≡ (level - e - 1) + e = omega arith in ap (λ n. 2 ^ n) sum ∙ pow-add 2 (level - e - 1) e

pub blocks_of_half : (level e n : ℕ) → e < level → n ≡ 2 ^ (level - e - 1) → 2 ^ (level - e) ≡ n + n
blocks_of_half level e n low side =
    let twice = twice_half (level - e) (omega arith) in omega (arith, twice, side)

pub left_in_blocks : (n there : ℕ) (span left : BlockSpan) → IsInBlocks (n + n) span → there < n → left.row ≡ there → left.from ≡ min span.from n → left.end ≡ min span.end n → IsInBlocks n left
left_in_blocks n there span left in_blocks inside row from end =
    let order = in_blocks.order in
    record { row = omega (arith, row); order = omega (arith, order, from, end); end = omega (arith, end) }

module _ (n there : ℕ) (span left right : BlockSpan) (in_blocks : IsInBlocks (n + n) span) (inside : there < n) (are : AreParts n there span left right) where
  pub right_in_blocks : IsInBlocks n right
  right_in_blocks =
      let order = in_blocks.order in let most = in_blocks.end in
      let row = are.right_row in let from = are.right_from in let end = are.right_end in
      record { row = omega (arith, row); order = omega (arith, order, from, end); end = omega (arith, end, most) }

-- a span of a square, by its parts in the two quarters that have its row
pub span_in_halves : (book : Book) (level e n there : ℕ) (plane : Plane) (first second : Sq) (span left right : BlockSpan) → IsBook book → e < level → n ≡ 2 ^ (level - e - 1) →
    IsInBlocks (2 ^ (level - e)) span → IsKnown book (level - 1) first → IsKnown book (level - 1) second →
    IsHalfOfBlocks n (2 ^ (level - 1)) plane (book.cells first) (book.cells second) span.row there → AreParts n there span left right →
    span_counts plane e span ≡ span_counts (book.cells first) e left ++ span_counts (book.cells second) e right
span_in_halves book level e n there plane first second span left right laws low side in_blocks knows_first knows_second half are =
    let cells : 2 ^ (level - 1) ≡ n * 2 ^ e = side_of_blocks level e (omega arith) (omega arith) ∙ ap (λ k. k * 2 ^ e) (sym side) in
    halves_counts n e plane (book.cells first) (book.cells second) span there
    (subst (λ k. IsInBlocks k span) (blocks_of_half level e n low side) in_blocks)
    (subst (λ k. IsSquare k (book.cells first)) cells (known_square book (level - 1) first laws knows_first))
    (subst (λ k. IsSquare k (book.cells second)) cells (known_square book (level - 1) second laws knows_second))
    (subst (λ k. IsHalfOfBlocks n k plane (book.cells first) (book.cells second) span.row there) cells half)
    left right are
