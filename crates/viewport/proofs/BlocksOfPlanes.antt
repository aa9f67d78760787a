-- How many live cells blocks of planes have, where planes show the same.
use Rattle.std.proofs.Common.{◌≡◌, ℕ, ◌+◌, ◌*◌, ◌^◌, ◌<◌, ◌≤◌, ℤ, pos, ◌+ℤ◌, ◌-ℤ◌, ◌≤ℤ◌, ◌<ℤ◌, false, ◌||◌, length, sym, ◌∙◌, ap, arith}
use Rattle.std.specs.Prelude.{◌*ℤ◌, nat_abs}
use Rattle.std.proofs.Math.IntN.{pos-*ℤ-pos}
use Rattle.std.proofs.lemmas.Int.{ints}
use Rattle.plane.specs.Plane.{Plane}
use Rattle.plane.specs.Square.{IsSquare, empty, spans}
use Rattle.plane.specs.Window.{cells_in}
use Rattle.plane.proofs.Populations.{empty_cells, same_length}
use Rattle.viewport.specs.Blocks.{block_count}
use Rattle.viewport.specs.Halves.{AreRowsFrom, side_by_side}
use Rattle.viewport.proofs.BoxesOfPlanes.{or_false}
use Rattle.viewport.proofs.Quarters.{dead_column, from_nothing}

-- a window without live cells
pub dead_window : (plane : Plane) (left top : ℤ) (wide tall : ℕ) →
    ((x y : ℤ) → left ≤ℤ x → x <ℤ (left +ℤ pos wide) → top ≤ℤ y → y <ℤ (top +ℤ pos tall) → plane x y ≡ false) →
    length (cells_in left top wide tall plane) ≡ 0
dead_window plane left top wide tall dead =
    same_length plane empty left top (pos 0) (pos 0) wide tall dead ∙ ap length (empty_cells (left +ℤ pos 0) (top +ℤ pos 0) wide tall)

taken : (x right : ℤ) → x -ℤ right ≡ x +ℤ (pos 0 -ℤ right)
taken x right = omega (arith, ints)

back_to : (at to right : ℤ) → at ≡ to +ℤ right → at +ℤ (pos 0 -ℤ right) ≡ to
back_to at to right e = omega (arith, ints)

-- a block of a plane that shows another one there, moved so far to the right and down
pub moved_block : (plane other : Plane) (e : ℕ) (i j k l right down : ℤ) →
    i *ℤ pos (2 ^ e) ≡ (k *ℤ pos (2 ^ e)) +ℤ right → j *ℤ pos (2 ^ e) ≡ (l *ℤ pos (2 ^ e)) +ℤ down →
    ((x y : ℤ) → (i *ℤ pos (2 ^ e)) ≤ℤ x → x <ℤ ((i *ℤ pos (2 ^ e)) +ℤ pos (2 ^ e)) → (j *ℤ pos (2 ^ e)) ≤ℤ y → y <ℤ ((j *ℤ pos (2 ^ e)) +ℤ pos (2 ^ e)) →
    plane x y ≡ other (x -ℤ right) (y -ℤ down)) →
    block_count plane e i j ≡ block_count other e k l
moved_block plane other e i j k l right down column row same =
    same_length plane other (i *ℤ pos (2 ^ e)) (j *ℤ pos (2 ^ e)) (pos 0 -ℤ right) (pos 0 -ℤ down) (2 ^ e) (2 ^ e)
    (λ x y a b c d. same x y a b c d ∙ ap (λ u. other u (y -ℤ down)) (taken x right) ∙ ap (other (x +ℤ (pos 0 -ℤ right))) (taken y down))
    ∙ ap (λ u. length (cells_in u ((j *ℤ pos (2 ^ e)) +ℤ (pos 0 -ℤ down)) (2 ^ e) (2 ^ e) other)) (back_to _ _ right column)
    ∙ ap (λ v. length (cells_in (k *ℤ pos (2 ^ e)) v (2 ^ e) (2 ^ e) other)) (back_to _ _ down row)

-- a block at natural coordinates
pub block_at : (plane : Plane) (e c r : ℕ) → block_count plane e (pos c) (pos r) ≡ length (cells_in (pos (c * 2 ^ e)) (pos (r * 2 ^ e)) (2 ^ e) (2 ^ e) plane)
block_at plane e c r =
    ap (λ x. length (cells_in x (pos r *ℤ pos (2 ^ e)) (2 ^ e) (2 ^ e) plane)) (pos-*ℤ-pos c (2 ^ e))
    ∙ ap (λ y. length (cells_in (pos (c * 2 ^ e)) y (2 ^ e) (2 ^ e) plane)) (pos-*ℤ-pos r (2 ^ e))

pub room : (c n s : ℕ) → c < n → c * s + s ≤ n * s
room c n s low = grind arith

left_of : (h : ℕ) (x : ℤ) → x <ℤ pos h → spans h (x -ℤ pos h) ≡ false
left_of h x low = grind (arith, ints)

right_of : (h : ℕ) (x : ℤ) → pos h ≤ℤ x → spans h x ≡ false
right_of h x high = grind (arith, ints)

module _ (h : ℕ) (first second : Plane) (in_first : IsSquare h first) (in_second : IsSquare h second) where
  left_cells : (x y : ℤ) → x <ℤ pos h → side_by_side h first second x y ≡ first x y
  left_cells x y low = or_false _ _ (dead_column h second in_second _ _ (left_of h x low))

  right_cells : (x y : ℤ) → pos h ≤ℤ x → side_by_side h first second x y ≡ second (x -ℤ pos h) y
  right_cells x y high =
      ap (λ t. t || second (x -ℤ pos h) (y -ℤ pos 0)) (dead_column h first in_first _ _ (right_of h x high)) ∙ ap (second (x -ℤ pos h)) (from_nothing y)

row_at : (y : ℤ) (top k : ℕ) → pos top ≤ℤ y → k ≡ nat_abs (y -ℤ pos top) → y ≡ pos (top + k)
row_at y top k high e = grind (arith, ints)

row_in : (y : ℤ) (top h k : ℕ) → pos top ≤ℤ y → y <ℤ pos (top + h) → k ≡ nat_abs (y -ℤ pos top) → k < h
row_in y top h k high low e = grind (arith, ints)

row_back : (y : ℤ) (top k : ℕ) → y ≡ pos (top + k) → pos k ≡ y -ℤ pos top
row_back y top k e = omega (arith, ints)

-- blocks of the upper or the lower half of a plane, which its two squares show
module _ (n e : ℕ) (plane first second : Plane) (top row there : ℕ) (in_first : IsSquare (n * 2 ^ e) first) (in_second : IsSquare (n * 2 ^ e) second)
    (rows : AreRowsFrom top (n * 2 ^ e) plane first second) (inside : there < n) (place : row * 2 ^ e ≡ top + there * 2 ^ e) where
  row_shown : (x y : ℤ) → (pos row *ℤ pos (2 ^ e)) ≤ℤ y → y <ℤ ((pos row *ℤ pos (2 ^ e)) +ℤ pos (2 ^ e)) → plane x y ≡ side_by_side (n * 2 ^ e) first second x (y -ℤ pos top)
  row_shown x y above below =
      let k = nat_abs (y -ℤ pos top) in
      let product = pos-*ℤ-pos row (2 ^ e) in
      let fits = room there n (2 ^ e) inside in
      let high : pos top ≤ℤ y = omega (arith, ints, product) in
      let low : y <ℤ pos (top + n * 2 ^ e) = omega (arith, ints, product, fits) in
      let at = row_at y top k high (λ i. k) in
      ap (plane x) at ∙ rows.cells x k (row_in y top (n * 2 ^ e) k high low (λ i. k)) ∙ ap (side_by_side (n * 2 ^ e) first second x) (row_back y top k at)

  row_place : pos row *ℤ pos (2 ^ e) ≡ (pos there *ℤ pos (2 ^ e)) +ℤ pos top
  row_place = let one = pos-*ℤ-pos row (2 ^ e) in let two = pos-*ℤ-pos there (2 ^ e) in omega (arith, ints, one, two)

  pub left_block : (c : ℕ) → c < n → block_count plane e (pos c) (pos row) ≡ block_count first e (pos c) (pos there)
  left_block c low =
      let product = pos-*ℤ-pos c (2 ^ e) in
      let fits = room c n (2 ^ e) low in
      moved_block plane first e (pos c) (pos row) (pos c) (pos there) (pos 0) (pos top) (omega (arith, ints)) row_place
      (λ x y left right above below.
      row_shown x y above below ∙ left_cells (n * 2 ^ e) first second in_first in_second x (y -ℤ pos top) (omega (arith, ints, product, fits))
      ∙ ap (λ u. first u (y -ℤ pos top)) (sym (from_nothing x)))

  pub right_block : (c : ℕ) → c < n → block_count plane e (pos (n + c)) (pos row) ≡ block_count second e (pos c) (pos there)
  right_block c low =
      let product = pos-*ℤ-pos (n + c) (2 ^ e) in
      let other = pos-*ℤ-pos c (2 ^ e) in
      moved_block plane second e (pos (n + c)) (pos row) (pos c) (pos there) (pos (n * 2 ^ e)) (pos top) (omega (arith, ints, product, other)) row_place
      (λ x y left right above below.
      row_shown x y above below ∙ right_cells (n * 2 ^ e) first second in_first in_second x (y -ℤ pos top) (omega (arith, ints, product)))
