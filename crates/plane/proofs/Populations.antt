-- How many live cells windows and squares have.
use Rattle.std.proofs.Common.{◌≡◌, ℕ, zero, suc, ◌+◌, ℤ, pos, ◌+ℤ◌, ◌-ℤ◌, ◌≤ℤ◌, ◌<ℤ◌, Bool, true, false, cond, ◌||◌, List, [], ◌∷◌, ◌++◌, length, map, filter, refl, sym, ◌∙◌, ap, arith, length-append, append_assoc, zero-add}
use Rattle.std.specs.declared.cmp.Ordering.TheVariants.{Less}
use Rattle.std.specs.Prelude.{int_lt}
use Rattle.std.specs.List.{list_any, AllByRecursion}
use Rattle.std.specs.List.Sorted.{IsStrictlySortedBy}
use Rattle.std.proofs.lemmas.Int.{ints}
use Rattle.std.proofs.lemmas.List.{map-append}
use Rattle.std.proofs.lemmas.List.Elements.{filter-append}
use Rattle.plane.specs.declared.cell.Cell.{Cell}
use Rattle.plane.specs.Laws.{moved}
use Rattle.plane.specs.Listing.{reading_order, is_at, plane_of, IsListing}
use Rattle.plane.specs.Plane.{Plane}
use Rattle.plane.specs.Square.{empty, joined}
use Rattle.plane.specs.Window.{row_places, places, cells_in, square_cells}
use Rattle.plane.proofs.Cells.{at}
use Rattle.plane.proofs.Cuts.{cond_true, cond_false}
use Rattle.plane.proofs.Elements.{AllByRecursion-append}

-- the cell, moved so far to the right and down
abbrev pub moved_cell : ℤ → ℤ → Cell → Cell
moved_cell right down cell = record { x = cell.x +ℤ right; y = cell.y +ℤ down }

-- how many places are live
count : Plane → List Cell → ℕ
count plane cells = length (filter (λ cell. plane cell.x cell.y) cells)

count-append : (plane : Plane) (xs ys : List Cell) → count plane (xs ++ ys) ≡ count plane xs + count plane ys
unfolding count
count-append plane xs ys =
    ap length (filter-append (λ cell. plane cell.x cell.y) xs ys)
    ∙ length-append (filter (λ cell. plane cell.x cell.y) xs) (filter (λ cell. plane cell.x cell.y) ys)

length_either : (b : Bool) (x y : Cell) (xs ys : List Cell) → length xs ≡ length ys → length (cond b (x ∷ xs) xs) ≡ length (cond b (y ∷ ys) ys)
length_either true x y xs ys same = ap suc same
length_either false x y xs ys same = same

-- as many places are live where the planes agree
count_agrees : (plane other : Plane) (right down : ℤ) (cells : List Cell) →
    AllByRecursion (λ cell. plane cell.x cell.y ≡ other (cell.x +ℤ right) (cell.y +ℤ down)) cells →
    count plane cells ≡ count other (map (moved_cell right down) cells)
unfolding count
count_agrees plane other right down [] same = refl
count_agrees plane other right down (cell ∷ cells) same =
    ap (λ b. length (cond b (cell ∷ filter (λ c. plane c.x c.y) cells) (filter (λ c. plane c.x c.y) cells))) same.0
    ∙ length_either (other (cell.x +ℤ right) (cell.y +ℤ down)) cell (moved_cell right down cell) _ _ (count_agrees plane other right down cells same.1)

further : (a b c : ℤ) → (a +ℤ b) +ℤ c ≡ (a +ℤ c) +ℤ b
further a b c = omega (arith, ints)

row_moved : (left top right down : ℤ) (wide : ℕ) → map (moved_cell right down) (row_places left top wide) ≡ row_places (left +ℤ right) (top +ℤ down) wide
unfolding row_places
row_moved left top right down zero = refl
row_moved left top right down (suc wide) =
    ap (λ cells. at (left +ℤ right) (top +ℤ down) ∷ cells)
    (row_moved (left +ℤ pos 1) top right down wide ∙ ap (λ x. row_places x (top +ℤ down) wide) (further left (pos 1) right))

places_moved : (left top right down : ℤ) (wide tall : ℕ) → map (moved_cell right down) (places left top wide tall) ≡ places (left +ℤ right) (top +ℤ down) wide tall
unfolding places
places_moved left top right down wide zero = refl
places_moved left top right down wide (suc tall) =
    map-append (moved_cell right down) (row_places left top wide) (places left (top +ℤ pos 1) wide tall)
    ∙ ap (λ cells. cells ++ map (moved_cell right down) (places left (top +ℤ pos 1) wide tall)) (row_moved left top right down wide)
    ∙ ap (λ cells. row_places (left +ℤ right) (top +ℤ down) wide ++ cells)
    (places_moved left (top +ℤ pos 1) right down wide tall ∙ ap (λ y. places (left +ℤ right) y wide tall) (further top (pos 1) down))

all_in_row : (P : Cell → Type 0) (left top : ℤ) (wide : ℕ) →
    ((x : ℤ) → left ≤ℤ x → x <ℤ (left +ℤ pos wide) → P (at x top)) → AllByRecursion P (row_places left top wide)
unfolding row_places
all_in_row P left top zero holds = tt
all_in_row P left top (suc wide) holds = (
  holds left (omega (arith, ints)) (omega (arith, ints)),
  all_in_row P (left +ℤ pos 1) top wide (λ x low high. holds x (omega (arith, ints)) (omega (arith, ints))),
)

-- what holds of each place of a window
all_in_window : (P : Cell → Type 0) (left top : ℤ) (wide tall : ℕ) →
    ((x y : ℤ) → left ≤ℤ x → x <ℤ (left +ℤ pos wide) → top ≤ℤ y → y <ℤ (top +ℤ pos tall) → P (at x y)) → AllByRecursion P (places left top wide tall)
unfolding places
all_in_window P left top wide zero holds = tt
all_in_window P left top wide (suc tall) holds =
    AllByRecursion-append P (row_places left top wide) (places left (top +ℤ pos 1) wide tall)
    (all_in_row P left top wide (λ x low high. holds x top low high (omega (arith, ints)) (omega (arith, ints))))
    (all_in_window P left (top +ℤ pos 1) wide tall (λ x y low high above below. holds x y low high (omega (arith, ints)) (omega (arith, ints))))

-- a window has as many live cells as another that shows the same, elsewhere
pub same_length : (plane other : Plane) (left top right down : ℤ) (wide tall : ℕ) →
    ((x y : ℤ) → left ≤ℤ x → x <ℤ (left +ℤ pos wide) → top ≤ℤ y → y <ℤ (top +ℤ pos tall) → plane x y ≡ other (x +ℤ right) (y +ℤ down)) →
    length (cells_in left top wide tall plane) ≡ length (cells_in (left +ℤ right) (top +ℤ down) wide tall other)
unfolding count cells_in
same_length plane other left top right down wide tall same =
    count_agrees plane other right down (places left top wide tall) (all_in_window _ left top wide tall same)
    ∙ ap (count other) (places_moved left top right down wide tall)

nowhere : (z : ℤ) → z +ℤ pos 0 ≡ z
nowhere z = omega (arith, ints)

one_more : (a b : ℕ) → suc a + b ≡ suc (a + b)
one_more a b = omega arith

past : (z : ℤ) (a : ℕ) → (z +ℤ pos 1) +ℤ pos a ≡ z +ℤ pos (suc a)
past z a = omega (arith, ints)

row_beside : (left top : ℤ) (a b : ℕ) → row_places left top (a + b) ≡ row_places left top a ++ row_places (left +ℤ pos a) top b
unfolding row_places
row_beside left top zero b = ap (row_places left top) (zero-add b) ∙ sym (ap (λ x. row_places x top b) (nowhere left))
row_beside left top (suc a) b =
    ap (row_places left top) (one_more a b)
    ∙ ap (λ cells. at left top ∷ cells) (row_beside (left +ℤ pos 1) top a b ∙ ap (λ x. row_places (left +ℤ pos 1) top a ++ row_places x top b) (past left a))

places_below : (left top : ℤ) (wide a b : ℕ) → places left top wide (a + b) ≡ places left top wide a ++ places left (top +ℤ pos a) wide b
unfolding places
places_below left top wide zero b = ap (places left top wide) (zero-add b) ∙ sym (ap (λ y. places left y wide b) (nowhere top))
places_below left top wide (suc a) b =
    ap (places left top wide) (one_more a b)
    ∙ ap (λ cells. row_places left top wide ++ cells) (places_below left (top +ℤ pos 1) wide a b ∙ ap (λ y. places left (top +ℤ pos 1) wide a ++ places left y wide b) (past top a))
    ∙ sym (append_assoc (row_places left top wide) (places left (top +ℤ pos 1) wide a) (places left (top +ℤ pos (suc a)) wide b))

-- the cells of one window above another
pub cells_below : (left top : ℤ) (wide a b : ℕ) (plane : Plane) →
    cells_in left top wide (a + b) plane ≡ cells_in left top wide a plane ++ cells_in left (top +ℤ pos a) wide b plane
unfolding cells_in
cells_below left top wide a b plane =
    ap (filter (λ cell. plane cell.x cell.y)) (places_below left top wide a b)
    ∙ filter-append (λ cell. plane cell.x cell.y) (places left top wide a) (places left (top +ℤ pos a) wide b)

rows_add : (a b c d r s : ℕ) → r ≡ a + b → s ≡ c + d → r + s ≡ (a + c) + (b + d)
rows_add a b c d r s e h = omega arith

count_beside : (plane : Plane) (left top : ℤ) (a b tall : ℕ) →
    count plane (places left top (a + b) tall) ≡ count plane (places left top a tall) + count plane (places (left +ℤ pos a) top b tall)
unfolding count places
count_beside plane left top a b zero = refl
count_beside plane left top a b (suc tall) =
    let whole = count-append plane (row_places left top (a + b)) (places left (top +ℤ pos 1) (a + b) tall) in
    let row = ap (count plane) (row_beside left top a b) ∙ count-append plane (row_places left top a) (row_places (left +ℤ pos a) top b) in
    let one = count-append plane (row_places left top a) (places left (top +ℤ pos 1) a tall) in
    let other = count-append plane (row_places (left +ℤ pos a) top b) (places (left +ℤ pos a) (top +ℤ pos 1) b tall) in
    whole ∙ rows_add _ _ _ _ _ _ row (count_beside plane left (top +ℤ pos 1) a b tall)
    ∙ sym (ap (λ n. n + count plane (row_places (left +ℤ pos a) top b ++ places (left +ℤ pos a) (top +ℤ pos 1) b tall)) one ∙ ap (λ n. (count plane (row_places left top a) + count plane (places left (top +ℤ pos 1) a tall)) + n) other)

-- the cells of two windows beside one another, as a number
pub length_beside : (left top : ℤ) (a b tall : ℕ) (plane : Plane) →
    length (cells_in left top (a + b) tall plane) ≡ length (cells_in left top a tall plane) + length (cells_in (left +ℤ pos a) top b tall plane)
unfolding count cells_in
length_beside left top a b tall plane = count_beside plane left top a b tall

pub length_below : (left top : ℤ) (wide a b : ℕ) (plane : Plane) →
    length (cells_in left top wide (a + b) plane) ≡ length (cells_in left top wide a plane) + length (cells_in left (top +ℤ pos a) wide b plane)
length_below left top wide a b plane =
    ap length (cells_below left top wide a b plane) ∙ length-append (cells_in left top wide a plane) (cells_in left (top +ℤ pos a) wide b plane)

less_in : (s : ℕ) (z : ℤ) → z <ℤ (pos 0 +ℤ pos s) → int_lt z (pos s) ≡ true
less_in s z less = grind (arith, ints)

less_out : (s : ℕ) (z : ℤ) → pos s ≤ℤ z → int_lt z (pos s) ≡ false
less_out s z more = grind (arith, ints)

abbrev gone_back : ℕ → ℤ
gone_back s = pos 0 -ℤ pos s

going_back : (s : ℕ) (z : ℤ) → z -ℤ pos s ≡ z +ℤ gone_back s
going_back s z = omega (arith, ints)

from_start : (s : ℕ) → pos 0 +ℤ pos s ≡ pos s
from_start s = omega (arith, ints)

back_to_start : (s : ℕ) → pos s +ℤ gone_back s ≡ pos 0
back_to_start s = omega (arith, ints)

sum_of_four : (a b c d whole upper lower nw ne sw se : ℕ) → whole ≡ upper + lower → upper ≡ a + b → lower ≡ c + d → a ≡ nw → b ≡ ne → c ≡ sw → d ≡ se → whole ≡ nw + ne + sw + se
sum_of_four a b c d whole upper lower nw ne sw se e f g h i j k = omega arith

none_pass : (cells : List Cell) → filter (λ cell. empty cell.x cell.y) cells ≡ []
none_pass [] = refl
none_pass (cell ∷ cells) = none_pass cells

-- the windows of four joined squares, as many live cells as each has
module _ (s : ℕ) (nw ne sw se : Plane) where
  at_nw : length (cells_in (pos 0) (pos 0) s s (joined s nw ne sw se)) ≡ length (square_cells s nw)
  at_nw = same_length (joined s nw ne sw se) nw (pos 0) (pos 0) (pos 0) (pos 0) s s (λ x y _ right _ low.
      cond_true (int_lt y (pos s)) _ _ (less_in s y low) ∙ cond_true (int_lt x (pos s)) _ _ (less_in s x right)
      ∙ ap (λ u. nw u y) (sym (nowhere x)) ∙ ap (nw (x +ℤ pos 0)) (sym (nowhere y)))

  at_ne : length (cells_in (pos s) (pos 0) s s (joined s nw ne sw se)) ≡ length (square_cells s ne)
  at_ne = same_length (joined s nw ne sw se) ne (pos s) (pos 0) (gone_back s) (pos 0) s s (λ x y left _ _ low.
      cond_true (int_lt y (pos s)) _ _ (less_in s y low) ∙ cond_false (int_lt x (pos s)) _ _ (less_out s x left)
      ∙ ap (λ u. ne u y) (going_back s x) ∙ ap (ne (x +ℤ gone_back s)) (sym (nowhere y)))
      ∙ ap (λ x. length (cells_in x (pos 0) s s ne)) (back_to_start s)

  at_sw : length (cells_in (pos 0) (pos s) s s (joined s nw ne sw se)) ≡ length (square_cells s sw)
  at_sw = same_length (joined s nw ne sw se) sw (pos 0) (pos s) (pos 0) (gone_back s) s s (λ x y _ right top _.
      cond_false (int_lt y (pos s)) _ _ (less_out s y top) ∙ cond_true (int_lt x (pos s)) _ _ (less_in s x right)
      ∙ ap (λ u. sw u (y -ℤ pos s)) (sym (nowhere x)) ∙ ap (sw (x +ℤ pos 0)) (going_back s y))
      ∙ ap (λ y. length (cells_in (pos 0) y s s sw)) (back_to_start s)

  at_se : length (cells_in (pos s) (pos s) s s (joined s nw ne sw se)) ≡ length (square_cells s se)
  at_se = same_length (joined s nw ne sw se) se (pos s) (pos s) (gone_back s) (gone_back s) s s (λ x y left _ top _.
      cond_false (int_lt y (pos s)) _ _ (less_out s y top) ∙ cond_false (int_lt x (pos s)) _ _ (less_out s x left)
      ∙ ap (λ u. se u (y -ℤ pos s)) (going_back s x) ∙ ap (se (x +ℤ gone_back s)) (going_back s y))
      ∙ ap (λ x. length (cells_in x (pos s +ℤ gone_back s) s s se)) (back_to_start s) ∙ ap (λ y. length (cells_in (pos 0) y s s se)) (back_to_start s)

  -- four joined squares have as many live cells as all of them
  pub joined_length :
      length (square_cells (s + s) (joined s nw ne sw se)) ≡ length (square_cells s nw) + length (square_cells s ne) + length (square_cells s sw) + length (square_cells s se)
  joined_length =
      let whole = length_below (pos 0) (pos 0) (s + s) s s (joined s nw ne sw se) in
      let upper = length_beside (pos 0) (pos 0) s s s (joined s nw ne sw se) in
      let lower = length_beside (pos 0) (pos 0 +ℤ pos s) s s s (joined s nw ne sw se) in
      let two = ap (λ x. length (cells_in x (pos 0) s s (joined s nw ne sw se))) (from_start s) ∙ at_ne in
      let three = ap (λ y. length (cells_in (pos 0) y s s (joined s nw ne sw se))) (from_start s) ∙ at_sw in
      let four =
      ap (λ x. length (cells_in x (pos 0 +ℤ pos s) s s (joined s nw ne sw se))) (from_start s)
      ∙ ap (λ y. length (cells_in (pos s) y s s (joined s nw ne sw se))) (from_start s) ∙ at_se in
      sum_of_four _ _ _ _ _ _ _ _ _ _ _ whole upper lower at_nw two three four

-- no cells
pub empty_cells : (left top : ℤ) (wide tall : ℕ) → cells_in left top wide tall empty ≡ []
unfolding cells_in
empty_cells left top wide tall = none_pass (places left top wide tall)

is_at_moved : (x y right down : ℤ) (cell : Cell) → is_at x y (moved_cell right down cell) ≡ is_at (x -ℤ right) (y -ℤ down) cell
is_at_moved x y right down cell = grind (arith, ints)

any_moved : (x y right down : ℤ) (cells : List Cell) → list_any (is_at x y) (map (moved_cell right down) cells) ≡ list_any (is_at (x -ℤ right) (y -ℤ down)) cells
any_moved x y right down [] = refl
any_moved x y right down (cell ∷ cells) =
    ap (λ b. b || list_any (is_at x y) (map (moved_cell right down) cells)) (is_at_moved x y right down cell)
    ∙ ap (λ b. is_at (x -ℤ right) (y -ℤ down) cell || b) (any_moved x y right down cells)

still_less : (right down : ℤ) (a b : Cell) → reading_order a b ≡ Less → reading_order (moved_cell right down a) (moved_cell right down b) ≡ Less
still_less right down a b less = grind (arith, ints)

all_still_less : (right down : ℤ) (a : Cell) (cells : List Cell) → AllByRecursion (λ b. reading_order a b ≡ Less) cells →
    AllByRecursion (λ b. reading_order (moved_cell right down a) b ≡ Less) (map (moved_cell right down) cells)
all_still_less right down a [] less = tt
all_still_less right down a (b ∷ cells) less = (still_less right down a b less.0, all_still_less right down a cells less.1)

rising_moved : (right down : ℤ) (cells : List Cell) → IsStrictlySortedBy reading_order cells → IsStrictlySortedBy reading_order (map (moved_cell right down) cells)
unfolding IsStrictlySortedBy
rising_moved right down [] rising = tt
rising_moved right down (cell ∷ cells) rising = (all_still_less right down cell cells rising.0, rising_moved right down cells rising.1)

-- the cells of a plane that was moved
pub moved_listing : (right down : ℤ) (cells : List Cell) (plane : Plane) → IsListing cells plane → IsListing (map (moved_cell right down) cells) (moved right down plane)
unfolding plane_of
moved_listing right down cells plane is = record {
  rising = rising_moved right down cells is.rising;
  live = λ x y. any_moved x y right down cells ∙ is.live (x -ℤ right) (y -ℤ down);
}
