-- The bits of a leaf are its cells.
use Rattle.std.proofs.Common.{◌≡◌, ℕ, zero, suc, ◌+◌, ◌*◌, ◌/◌, ◌%◌, ◌^◌, ◌<◌, ◌≤◌, Bool, true, false, cond, nat_le, List, [], ◌∷◌, length, Some, None, refl, ap, sym, ◌∙◌, arith, zero-add}
use Rattle.std.specs.Prelude.{◌==◌, ◌&&◌, slice_index}
use Rattle.std.specs.Int.{bit_at}
use Rattle.std.specs.List.{list_all}
use Rattle.std.specs.Str.{byte}
use Rattle.std.proofs.lemmas.Bool.Decides.{nat_tests}
use Rattle.std.proofs.lemmas.Nat.{pow_pos}
use Rattle.std.proofs.lemmas.Nat.Bits.{bit_at-zero, bit_at-suc, bit_at_lowest}
use Rattle.text_lines.specs.Bytes.{trimmed_end}
use Rattle.macrocell_reader.specs.Leaf.{is_cell, cell_bit, is_row, are_rows, rows_of, row_bits, leaf_bits, leaf_of, bits_of, is_live_at}

-- the lowest bit before others
low_bit : (b n : ℕ) → b < 2 → bit_at (b + 2 * n) 0 ≡ b
low_bit b n small = bit_at_lowest (b + 2 * n) ∙ omega arith

next_bit : (b n i : ℕ) → b < 2 → bit_at (b + 2 * n) (suc i) ≡ bit_at n i
next_bit b n i small =
    let half : (b + 2 * n) / 2 ≡ n = omega arith in
    bit_at-suc (b + 2 * n) i ∙ ap (λ m. bit_at m i) half

is_one : (b : Bool) → (cond b 1 0 == 1) ≡ b
is_one true = refl
is_one false = refl

small_bit : (b : Bool) → cond b 1 0 < 2
small_bit true = omega arith
small_bit false = omega arith

-- bit x of a row, and none past its end
row_bit : (row : List ℕ) (x : ℕ) → (bit_at (row_bits row) x == 1) ≡ (slice_index row x == byte "*")
unfolding row_bits
row_bit [] x = ap (λ n. n == 1) (bit_at-zero x)
row_bit (cell ∷ cells) zero = ap (λ n. n == 1) (low_bit (cell_bit cell) (row_bits cells) (small_bit (cell == byte "*"))) ∙ is_one (cell == byte "*")
row_bit (cell ∷ cells) (suc x) = ap (λ n. n == 1) (next_bit (cell_bit cell) (row_bits cells) x (small_bit (cell == byte "*"))) ∙ row_bit cells x

row_small : (row : List ℕ) (k : ℕ) → length row ≤ k → row_bits row < 2 ^ k
unfolding row_bits
row_small [] k short = pow_pos k
row_small (cell ∷ cells) zero short = absurd (omega arith)
row_small (cell ∷ cells) (suc k) short =
    let later = row_small cells k (omega arith) in
    let small = small_bit (cell == byte "*") in
    let double : 2 ^ suc k ≡ 2 * 2 ^ k = omega arith in
    omega arith

halves : (k low high : ℕ) → low + 2 ^ suc k * high ≡ low % 2 + 2 * (low / 2 + 2 ^ k * high)
halves k low high =
    let double : 2 ^ suc k ≡ 2 * 2 ^ k = omega arith in
    ap (λ n. low + n * high) double ∙ omega arith

half_small : (k low : ℕ) → low < 2 ^ suc k → low / 2 < 2 ^ k
half_small k low small =
    let double : 2 ^ suc k ≡ 2 * 2 ^ k = omega arith in
    omega arith

-- the lowest k bits
low_bits : (k low high x : ℕ) → low < 2 ^ k → x < k → bit_at (low + 2 ^ k * high) x ≡ bit_at low x
low_bits zero low high x small below = absurd (omega arith)
low_bits (suc k) low high zero small below =
    ap (λ n. bit_at n 0) (halves k low high) ∙ low_bit (low % 2) (low / 2 + 2 ^ k * high) (omega arith) ∙ sym (bit_at_lowest low)
low_bits (suc k) low high (suc x) small below =
    ap (λ n. bit_at n (suc x)) (halves k low high) ∙ next_bit (low % 2) (low / 2 + 2 ^ k * high) x (omega arith)
    ∙ low_bits k (low / 2) high x (half_small k low small) (omega arith) ∙ sym (bit_at-suc low x)

-- the bits above them
high_bits : (k low high i : ℕ) → low < 2 ^ k → bit_at (low + 2 ^ k * high) (k + i) ≡ bit_at high i
high_bits zero low high i small =
    let none : low + 2 ^ 0 * high ≡ high = omega arith in
    ap (λ n. bit_at n (0 + i)) none ∙ ap (bit_at high) (zero-add i)
high_bits (suc k) low high i small =
    let place : suc k + i ≡ suc (k + i) = omega arith in
    ap (λ n. bit_at n (suc k + i)) (halves k low high) ∙ ap (bit_at (low % 2 + 2 * (low / 2 + 2 ^ k * high))) place
    ∙ next_bit (low % 2) (low / 2 + 2 ^ k * high) (k + i) (omega arith)
    ∙ high_bits k (low / 2) high i (half_small k low small)

both_true : (a b : Bool) → (a && b) ≡ true → (a ≡ true) × (b ≡ true)
both_true true b h = (refl, h)
both_true false b h = cc

fits_row : (row : List ℕ) → is_row row ≡ true → row_bits row < 2 ^ 8
fits_row row is =
    let few = (both_true (nat_le (length row) 8) (list_all is_cell row) is).0 in
    row_small row 8 (grind (arith, nat_tests))

rows_bits : (rows : List (List ℕ)) (x y : ℕ) → list_all is_row rows ≡ true → x < 8 → (bit_at (leaf_bits rows) (8 * y + x) == 1) ≡ is_live_at rows x y
unfolding leaf_bits
rows_bits [] x y all below = ap (λ n. n == 1) (bit_at-zero (8 * y + x))
rows_bits (row ∷ rows) x zero all below =
    let place : 8 * 0 + x ≡ x = omega arith in
    let is = both_true (is_row row) (list_all is_row rows) all in
    ap (λ k. bit_at (row_bits row + 256 * leaf_bits rows) k == 1) place
    ∙ ap (λ n. n == 1) (low_bits 8 (row_bits row) (leaf_bits rows) x (fits_row row is.0) below) ∙ row_bit row x
rows_bits (row ∷ rows) x (suc y) all below =
    let place : 8 * suc y + x ≡ 8 + (8 * y + x) = omega arith in
    let is = both_true (is_row row) (list_all is_row rows) all in
    ap (λ k. bit_at (row_bits row + 256 * leaf_bits rows) k == 1) place
    ∙ ap (λ n. n == 1) (high_bits 8 (row_bits row) (leaf_bits rows) (8 * y + x) (fits_row row is.0)) ∙ rows_bits rows x y is.1 below

bits_step : (b : Bool) (rows : List (List ℕ)) (bits : ℕ) → are_rows rows ≡ b → cond b (Some (leaf_bits rows)) None ≡ Some bits → (are_rows rows ≡ true) × (leaf_bits rows ≡ bits)
bits_step true rows bits is some = (is, cc)
bits_step false rows bits is some = cc

pub leaf_bit : (line : List ℕ) (bits : ℕ) → leaf_of line ≡ Some bits → (x y : ℕ) → x < 8 → (bit_at bits (8 * y + x) == 1) ≡ is_live_at (rows_of (trimmed_end line)) x y
unfolding leaf_of bits_of
leaf_bit line bits some x y below =
    let rows = rows_of (trimmed_end line) in
    let is = bits_step (are_rows rows) rows bits refl some in
    ap (λ n. bit_at n (8 * y + x) == 1) (sym is.1) ∙ rows_bits rows x y (both_true (nat_le (length rows) 8) (list_all is_row rows) is.0).1 below
