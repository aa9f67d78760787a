-- Cells added as numbers: what half adders and full adders of rows show at each cell.
use mir.Syntax.{Width}
use mir.Val.{bits}
use Rattle.std.proofs.Common.{◌≡◌, ℕ, ◌+◌, ◌*◌, ℤ, Bool, true, false, List, length, refl, ◌∙◌, ap, arith, bit_and, bit_or}
use Rattle.std.specs.Prelude.{bit_xor, ◌&&◌, ◌||◌}
use lib.Lanes.{zip2}
use Rattle.leaf_kernels.specs.Rows.{cells_of_rows}
use Rattle.leaf_kernels.specs.Sums.{number}
use Rattle.plane.proofs.WordBits.{differ}
use Rattle.leaf_kernels.proofs.Lanes.{zip_length, cells-and, cells-or, cells-xor}

add_two : (p q : Bool) → number (differ p q) + 2 * number (p && q) ≡ number p + number q
add_two true true = refl
add_two true false = refl
add_two false true = refl
add_two false false = refl

add_three : (p q r : Bool) → number (differ (differ p q) r) + 2 * number ((p && q) || (differ p q && r)) ≡ number p + number q + number r
add_three true true true = refl
add_three true true false = refl
add_three true false true = refl
add_three true false false = refl
add_three false true true = refl
add_three false true false = refl
add_three false false true = refl
add_three false false false = refl

-- carries added on: each power of two from the one below
pub carried_on : (a b c d e f one one' two two' carried carried' high high' : ℕ) → one + 2 * one' ≡ a + b + c → two + 2 * two' ≡ d + e + f →
    carried + 2 * carried' ≡ one' + two → high + 2 * high' ≡ carried' + two' → one + 2 * carried + 4 * high + 8 * high' ≡ (a + 2 * d) + (b + 2 * e) + (c + 2 * f)
carried_on a b c d e f one one' two two' carried carried' high high' h k l m = omega arith

module _ (w : Width) (n : ℕ) where
  pub half_adder : (a b : List ℕ) → length a ≡ n → length b ≡ n → (x y : ℤ) →
      number (cells_of_rows (bits w) n (zip2 bit_xor a b) x y) + 2 * number (cells_of_rows (bits w) n (zip2 bit_and a b) x y) ≡ number (cells_of_rows (bits w) n a x y) + number (cells_of_rows (bits w) n b x y)
  half_adder a b la lb x y =
      ap (λ t. number t + 2 * number (cells_of_rows (bits w) n (zip2 bit_and a b) x y)) (cells-xor w n a b la lb x y)
      ∙ ap (λ t. number (differ (cells_of_rows (bits w) n a x y) (cells_of_rows (bits w) n b x y)) + 2 * number t) (cells-and w n a b la lb x y)
      ∙ add_two (cells_of_rows (bits w) n a x y) (cells_of_rows (bits w) n b x y)

  pub full_adder : (a b c : List ℕ) → length a ≡ n → length b ≡ n → length c ≡ n → (x y : ℤ) →
      number (cells_of_rows (bits w) n (zip2 bit_xor (zip2 bit_xor a b) c) x y) + 2 * number (cells_of_rows (bits w) n (zip2 bit_or (zip2 bit_and a b) (zip2 bit_and (zip2 bit_xor a b) c)) x y)
      ≡ number (cells_of_rows (bits w) n a x y) + number (cells_of_rows (bits w) n b x y) + number (cells_of_rows (bits w) n c x y)
  full_adder a b c la lb lc x y =
      let odd = zip2 bit_xor a b in
      let odd_length = zip_length w n bit_xor a b la lb in
      let differ_cells = cells-xor w n a b la lb x y in
      let sum : cells_of_rows (bits w) n (zip2 bit_xor odd c) x y ≡ differ (differ (cells_of_rows (bits w) n a x y) (cells_of_rows (bits w) n b x y)) (cells_of_rows (bits w) n c x y) =
      cells-xor w n odd c odd_length lc x y ∙ ap (λ t. differ t (cells_of_rows (bits w) n c x y)) differ_cells in
      let carry : cells_of_rows (bits w) n (zip2 bit_or (zip2 bit_and a b) (zip2 bit_and odd c)) x y ≡ ((cells_of_rows (bits w) n a x y && cells_of_rows (bits w) n b x y) || (differ (cells_of_rows (bits w) n a x y) (cells_of_rows (bits w) n b x y) && cells_of_rows (bits w) n c x y)) =
      cells-or w n (zip2 bit_and a b) (zip2 bit_and odd c) (zip_length w n bit_and a b la lb) (zip_length w n bit_and odd c odd_length lc) x y
      ∙ ap (λ t. t || cells_of_rows (bits w) n (zip2 bit_and odd c) x y) (cells-and w n a b la lb x y)
      ∙ ap (λ t. (cells_of_rows (bits w) n a x y && cells_of_rows (bits w) n b x y) || t) (cells-and w n odd c odd_length lc x y ∙ ap (λ t. t && cells_of_rows (bits w) n c x y) differ_cells) in
      ap (λ t. number t + 2 * number (cells_of_rows (bits w) n (zip2 bit_or (zip2 bit_and a b) (zip2 bit_and odd c)) x y)) sum
      ∙ ap (λ t. number (differ (differ (cells_of_rows (bits w) n a x y) (cells_of_rows (bits w) n b x y)) (cells_of_rows (bits w) n c x y)) + 2 * number t) carry
      ∙ add_three (cells_of_rows (bits w) n a x y) (cells_of_rows (bits w) n b x y) (cells_of_rows (bits w) n c x y)
