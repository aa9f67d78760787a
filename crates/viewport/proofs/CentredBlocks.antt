-- Blocks of a square around (0,0).
use Rattle.std.proofs.Common.{◌≡◌, ℕ, zero, suc, ◌+◌, ◌-◌, ◌*◌, ◌^◌, ◌≤◌, pow_mono, min, ℤ, pos, ◌+ℤ◌, ◌-ℤ◌, ◌≤ℤ◌, ◌<ℤ◌, false, length, inl, inr, sym, ◌∙◌, ap, arith}
use Rattle.std.specs.Prelude.{◌*ℤ◌, ◌⊎◌, negsuc}
use Rattle.std.proofs.Math.IntN.{zero-*ℤ}
use Rattle.std.proofs.lemmas.Bool.Decides.{leb_tells}
use Rattle.std.proofs.lemmas.Int.{ints}
use Rattle.plane.specs.Centred.{centred}
use Rattle.plane.specs.Plane.{Plane}
use Rattle.plane.specs.Square.{IsSquare, spans}
use Rattle.plane.specs.Window.{cells_in}
use Rattle.plane.proofs.Paddings.{twice_half}
use Rattle.plane.proofs.Populations.{length_beside, length_below}
use Rattle.viewport.specs.Blocks.{block_count}
use Rattle.viewport.proofs.BlocksOfPlanes.{dead_window, moved_block}
use Rattle.viewport.proofs.Products.{above_times, below_times, less_times}
use Rattle.viewport.proofs.Quarters.{dead_column, dead_row}

-- the plane has no live cell further than this from (0,0), to the left and up, or this far, to the
-- right and down
pub record IsWithin (half : ℕ) (plane : Plane) : Type 0 where
  pub left : (x y : ℤ) → x <ℤ (pos 0 -ℤ pos half) → plane x y ≡ false
  pub right : (x y : ℤ) → pos half ≤ℤ x → plane x y ≡ false
  pub above : (x y : ℤ) → y <ℤ (pos 0 -ℤ pos half) → plane x y ≡ false
  pub below : (x y : ℤ) → pos half ≤ℤ y → plane x y ≡ false

out_before : (half side : ℕ) (z : ℤ) → z <ℤ (pos 0 -ℤ pos half) → spans side (z +ℤ pos half) ≡ false
out_before half side z low = grind (arith, ints)

out_behind : (half side : ℕ) (z : ℤ) → side ≡ half + half → pos half ≤ℤ z → spans side (z +ℤ pos half) ≡ false
out_behind half side z twice high = grind (arith, ints)

pub centred_within : (level : ℕ) (cells : Plane) → 1 ≤ level → IsSquare (2 ^ level) cells → IsWithin (2 ^ (level - 1)) (centred level cells)
centred_within level cells least is =
    let twice = twice_half level least in
    record {
      left = λ x y low. dead_column _ cells is _ _ (out_before _ (2 ^ level) x low);
      right = λ x y high. dead_column _ cells is _ _ (out_behind _ (2 ^ level) x twice high);
      above = λ x y low. dead_row _ cells is _ _ (out_before _ (2 ^ level) y low);
      below = λ x y high. dead_row _ cells is _ _ (out_behind _ (2 ^ level) y twice high);
    }

-- blocks beside such a plane, whose half holds so many of them
module _ (half n e : ℕ) (plane : Plane) (is : IsWithin half plane) (fits : half ≡ n * 2 ^ e) (i j : ℤ) where
  pub block_left : i <ℤ (pos 0 -ℤ pos n) → block_count plane e i j ≡ 0
  block_left low =
      let end = below_times i n (2 ^ e) low in
      dead_window plane _ _ (2 ^ e) (2 ^ e) (λ x y a b c d. is.left x y (omega (arith, ints, end, fits)))

  pub block_right : pos n ≤ℤ i → block_count plane e i j ≡ 0
  block_right high =
      let begin = above_times i n (2 ^ e) high in
      dead_window plane _ _ (2 ^ e) (2 ^ e) (λ x y a b c d. is.right x y (omega (arith, ints, begin, fits)))

  pub block_above : j <ℤ (pos 0 -ℤ pos n) → block_count plane e i j ≡ 0
  block_above low =
      let end = below_times j n (2 ^ e) low in
      dead_window plane _ _ (2 ^ e) (2 ^ e) (λ x y a b c d. is.above x y (omega (arith, ints, end, fits)))

  pub block_below : pos n ≤ℤ j → block_count plane e i j ≡ 0
  block_below high =
      let begin = above_times j n (2 ^ e) high in
      dead_window plane _ _ (2 ^ e) (2 ^ e) (λ x y a b c d. is.below x y (omega (arith, ints, begin, fits)))

moved_back : (x : ℤ) (half : ℕ) → x +ℤ pos half ≡ x -ℤ (pos 0 -ℤ pos half)
moved_back x half = omega (arith, ints)

corner : (c n s half : ℕ) → half ≡ n * s → (pos c -ℤ pos n) *ℤ pos s ≡ (pos c *ℤ pos s) +ℤ (pos 0 -ℤ pos half)
corner c n s half fits = let product = less_times (pos c) n s in omega (arith, ints, product, fits)

-- a block of a square around (0,0), counted from its upper left corner
pub centred_block : (level n e : ℕ) (cells : Plane) → 2 ^ (level - 1) ≡ n * 2 ^ e → (c r : ℕ) →
    block_count (centred level cells) e (pos c -ℤ pos n) (pos r -ℤ pos n) ≡ block_count cells e (pos c) (pos r)
centred_block level n e cells fits c r =
    moved_block (centred level cells) cells e (pos c -ℤ pos n) (pos r -ℤ pos n) (pos c) (pos r) (pos 0 -ℤ pos (2 ^ (level - 1))) (pos 0 -ℤ pos (2 ^ (level - 1)))
    (corner c n (2 ^ e) (2 ^ (level - 1)) fits) (corner r n (2 ^ e) (2 ^ (level - 1)) fits)
    (λ x y a b d f. ap (λ u. cells u (y +ℤ pos (2 ^ (level - 1)))) (moved_back x (2 ^ (level - 1))) ∙ ap (cells (x -ℤ (pos 0 -ℤ pos (2 ^ (level - 1))))) (moved_back y (2 ^ (level - 1))))

minus_one : (s : ℕ) → negsuc 0 *ℤ pos s ≡ pos 0 -ℤ pos s
minus_one s = omega (arith, ints)

one_before : (m d : ℕ) → (pos 0 -ℤ pos (d + m)) +ℤ pos d ≡ pos 0 -ℤ pos m
one_before m d = omega (arith, ints)

wide_first : (d m : ℕ) → d + m ≡ m + d
wide_first d m = omega arith

-- windows as wide or as tall as a block that is larger than half of the plane
module _ (m d : ℕ) (plane : Plane) (is : IsWithin m plane) where
  wide_window : (i top : ℤ) (tall : ℕ) → length (cells_in (i *ℤ pos (d + m)) top (d + m) tall plane) ≡ length (cells_in (i *ℤ pos m) top m tall plane)
  wide_window (pos zero) top tall =
      let parts = length_beside (pos 0) top m d tall plane in
      let dead = dead_window plane (pos 0 +ℤ pos m) top d tall (λ x y a b c e. is.right x y (omega (arith, ints))) in
      ap (λ x. length (cells_in x top (d + m) tall plane)) (zero-*ℤ (pos (d + m)))
      ∙ ap (λ n. length (cells_in (pos 0) top n tall plane)) (wide_first d m)
      ∙ omega (arith, parts, dead)
      ∙ sym (ap (λ x. length (cells_in x top m tall plane)) (zero-*ℤ (pos m)))
  wide_window (pos (suc k)) top tall =
      let one = above_times (pos (suc k)) 1 (d + m) (omega (arith, ints)) in
      let other = above_times (pos (suc k)) 1 m (omega (arith, ints)) in
      dead_window plane _ top (d + m) tall (λ x y a b c e. is.right x y (omega (arith, ints, one)))
      ∙ sym (dead_window plane _ top m tall (λ x y a b c e. is.right x y (omega (arith, ints, other))))
  wide_window (negsuc zero) top tall =
      let parts = length_beside (pos 0 -ℤ pos (d + m)) top d m tall plane in
      let dead = dead_window plane (pos 0 -ℤ pos (d + m)) top d tall (λ x y a b c e. is.left x y (omega (arith, ints))) in
      let there = ap (λ x. length (cells_in x top m tall plane)) (one_before m d) in
      ap (λ x. length (cells_in x top (d + m) tall plane)) (minus_one (d + m))
      ∙ omega (arith, parts, dead, there)
      ∙ sym (ap (λ x. length (cells_in x top m tall plane)) (minus_one m))
  wide_window (negsuc (suc k)) top tall =
      let one = below_times (negsuc (suc k)) 1 (d + m) (omega (arith, ints)) in
      let other = below_times (negsuc (suc k)) 1 m (omega (arith, ints)) in
      dead_window plane _ top (d + m) tall (λ x y a b c e. is.left x y (omega (arith, ints, one)))
      ∙ sym (dead_window plane _ top m tall (λ x y a b c e. is.left x y (omega (arith, ints, other))))

  tall_window : (left j : ℤ) (wide : ℕ) → length (cells_in left (j *ℤ pos (d + m)) wide (d + m) plane) ≡ length (cells_in left (j *ℤ pos m) wide m plane)
  tall_window left (pos zero) wide =
      let parts = length_below left (pos 0) wide m d plane in
      let dead = dead_window plane left (pos 0 +ℤ pos m) wide d (λ x y a b c e. is.below x y (omega (arith, ints))) in
      ap (λ y. length (cells_in left y wide (d + m) plane)) (zero-*ℤ (pos (d + m)))
      ∙ ap (λ n. length (cells_in left (pos 0) wide n plane)) (wide_first d m)
      ∙ omega (arith, parts, dead)
      ∙ sym (ap (λ y. length (cells_in left y wide m plane)) (zero-*ℤ (pos m)))
  tall_window left (pos (suc k)) wide =
      let one = above_times (pos (suc k)) 1 (d + m) (omega (arith, ints)) in
      let other = above_times (pos (suc k)) 1 m (omega (arith, ints)) in
      dead_window plane left _ wide (d + m) (λ x y a b c e. is.below x y (omega (arith, ints, one)))
      ∙ sym (dead_window plane left _ wide m (λ x y a b c e. is.below x y (omega (arith, ints, other))))
  tall_window left (negsuc zero) wide =
      let parts = length_below left (pos 0 -ℤ pos (d + m)) wide d m plane in
      let dead = dead_window plane left (pos 0 -ℤ pos (d + m)) wide d (λ x y a b c e. is.above x y (omega (arith, ints))) in
      let there = ap (λ y. length (cells_in left y wide m plane)) (one_before m d) in
      ap (λ y. length (cells_in left y wide (d + m) plane)) (minus_one (d + m))
      ∙ omega (arith, parts, dead, there)
      ∙ sym (ap (λ y. length (cells_in left y wide m plane)) (minus_one m))
  tall_window left (negsuc (suc k)) wide =
      let one = below_times (negsuc (suc k)) 1 (d + m) (omega (arith, ints)) in
      let other = below_times (negsuc (suc k)) 1 m (omega (arith, ints)) in
      dead_window plane left _ wide (d + m) (λ x y a b c e. is.above x y (omega (arith, ints, one)))
      ∙ sym (dead_window plane left _ wide m (λ x y a b c e. is.above x y (omega (arith, ints, other))))

  larger_window : (i j : ℤ) → length (cells_in (i *ℤ pos (d + m)) (j *ℤ pos (d + m)) (d + m) (d + m) plane) ≡ length (cells_in (i *ℤ pos m) (j *ℤ pos m) m m plane)
  larger_window i j = wide_window i (j *ℤ pos (d + m)) (d + m) ∙ tall_window (i *ℤ pos m) j m

with_rest : (m n : ℕ) → m ≤ n → n ≡ (n - m) + m
with_rest m n low = omega arith

-- a block that is larger than half of the plane has the cells of a block of that size
larger_block : (plane : Plane) (e f : ℕ) → IsWithin (2 ^ f) plane → f ≤ e → (i j : ℤ) → block_count plane e i j ≡ block_count plane f i j
larger_block plane e f is low i j =
    let size = with_rest (2 ^ f) (2 ^ e) (pow_mono low) in
    ap (λ n. length (cells_in (i *ℤ pos n) (j *ℤ pos n) n n plane)) size ∙ larger_window (2 ^ f) (2 ^ e - 2 ^ f) plane is i j

fitted_is : (e f least : ℕ) → least ≡ min e f → ((e ≤ f) × (least ≡ e)) ⊎ ((f ≤ e) × (least ≡ f))
fitted_is e f least is = elim (leb_tells e f) [ inl p ↦ inl (p.1, omega (arith, p.1)) | inr p ↦ inr (omega (arith, p.1), omega (arith, p.1)) ]

pub fitted_block : (plane : Plane) (e f least : ℕ) → least ≡ min e f → IsWithin (2 ^ f) plane → (i j : ℤ) → block_count plane e i j ≡ block_count plane least i j
fitted_block plane e f least fits is i j =
    elim (fitted_is e f least fits) [
      | inl p ↦ ap (λ n. block_count plane n i j) (sym p.1)
      | inr p ↦ larger_block plane e f is p.0 i j ∙ ap (λ n. block_count plane n i j) (sym p.1)
    ]
