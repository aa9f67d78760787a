-- How many live cells a block of a leaf has: row by row, those under a mask.
use Rattle.std.proofs.Common.{◌≡◌, ℕ, ◌+◌, ◌-◌, ◌*◌, ◌/◌, ◌%◌, ◌^◌, ◌<◌, ◌≤◌, ℤ, pos, ◌+ℤ◌, List, [], ◌∷◌, ◌++◌, length, filter, append_assoc, refl, sym, ◌∙◌, ap, arith}
use Rattle.std.specs.Prelude.{bit_and}
use Rattle.std.specs.Int.RustNames.{count_ones}
use Rattle.std.proofs.lemmas.Int.{ints}
use Rattle.std.proofs.lemmas.List.{append-nil}
use Rattle.std.proofs.lemmas.Nat.{and_mask, ones-le, ones_cat, pow-add, pow_pos, shr-shr, shr_split}
use Rattle.plane.specs.Square.{bits_plane}
use Rattle.plane.specs.Window.{cells_in, places, row_places}
use Rattle.plane.proofs.Populations.{length_below}
use Rattle.viewport.specs.Blocks.{block_count, block_counts}
use Rattle.viewport.specs.Picture.{coordinates}
use Rattle.viewport.proofs.BlocksOfPlanes.{room}
use Rattle.viewport.proofs.Leaves.{bits_from, live, ones_from, row_count}
use Rattle.viewport.proofs.Neighbours.{map_one_more}

rest_below : (n k : ℕ) → n % 2 ^ k < 2 ^ k
rest_below n k = let some = pow_pos k in omega (arith, some)

-- the lowest bits and the others
ones_split : (n k : ℕ) → count_ones n ≡ count_ones (n / 2 ^ k) + count_ones (n % 2 ^ k)
ones_split n k = ap count_ones (sym (shr_split n k)) ∙ ones_cat k (n / 2 ^ k) (n % 2 ^ k) (rest_below n k)

masked : (word first wide : ℕ) → count_ones (bit_and (word / 2 ^ first) (2 ^ wide - 1)) ≡ bits_from word first wide
masked word first wide =
    let mask = ap count_ones (and_mask (word / 2 ^ first) wide) in
    let split = ones_split (word / 2 ^ first) wide in
    let from = ones_from word first wide in
    let above = ap count_ones (shr-shr word first wide) in
    omega (arith, mask, split, from, above)

pub masked_few : (word first wide : ℕ) → count_ones (bit_and (word / 2 ^ first) (2 ^ wide - 1)) ≤ wide
masked_few word first wide =
    let mask = ap count_ones (and_mask (word / 2 ^ first) wide) in
    let few = ones-le wide ((word / 2 ^ first) % 2 ^ wide) (rest_below (word / 2 ^ first) wide) in omega (arith, mask, few)

one_row : (word x y wide : ℕ) → x + wide ≤ 8 → y < 8 → length (cells_in (pos x) (pos y) wide 1 (bits_plane word)) ≡ bits_from word (8 * y + x) wide
unfolding cells_in places
one_row word x y wide fits tall = ap (λ l. length (filter (live word) l)) (append-nil (row_places (pos x) (pos y) wide)) ∙ row_count word x y wide fits tall

next_row : (top step : ℕ) → pos top +ℤ pos step ≡ pos (top + step)
next_row top step = omega (arith, ints)

-- one row of a block more
pub row_more : (word x top wide step sum : ℕ) → x + wide ≤ 8 → top + step < 8 → sum ≡ length (cells_in (pos x) (pos top) wide step (bits_plane word)) →
    sum + count_ones (bit_and (word / 2 ^ (8 * (top + step) + x)) (2 ^ wide - 1)) ≡ length (cells_in (pos x) (pos top) wide (step + 1) (bits_plane word))
row_more word x top wide step sum fits tall so_far =
    let whole = length_below (pos x) (pos top) wide step 1 (bits_plane word) in
    let there = ap (λ y. length (cells_in (pos x) y wide 1 (bits_plane word))) (next_row top step) in
    let row = one_row word x (top + step) wide fits tall in
    let mask = masked word (8 * (top + step) + x) wide in
    omega (arith, so_far, whole, there, row, mask)

pub no_rows : (word x top wide : ℕ) → 0 ≡ length (cells_in (pos x) (pos top) wide 0 (bits_plane word))
unfolding cells_in places
no_rows word x top wide = refl

-- a block of a leaf lies in it
pub block_fits : (e c : ℕ) → e < 3 → c < 2 ^ (3 - e) → c * 2 ^ e + 2 ^ e ≤ 8
block_fits e c small low =
    let sum : 3 ≡ (3 - e) + e = omega arith in
    let whole = ap (λ n. 2 ^ n) sum ∙ pow-add 2 (3 - e) e in
    let fits = room c (2 ^ (3 - e)) (2 ^ e) low in omega (arith, whole, fits)

-- a span of a leaf with one block more
pub span_more : (word e row from column count : ℕ) (old found : List ℕ) → from ≤ column → found ≡ old ++ block_counts (bits_plane word) e (pos row) (pos from) (column - from) →
    count ≡ block_count (bits_plane word) e (pos column) (pos row) → found ++ count ∷ [] ≡ old ++ block_counts (bits_plane word) e (pos row) (pos from) (column + 1 - from)
span_more word e row from column count old found order so_far is =
    let f = λ (z : ℤ). block_count (bits_plane word) e z (pos row) in
    let before : column + 1 - from ≡ (column - from) + 1 = omega arith in
    let there : pos column ≡ pos from +ℤ pos (column - from) = omega (arith, ints) in
    ap (λ l. l ++ count ∷ []) so_far ∙ ap (λ n. (old ++ block_counts (bits_plane word) e (pos row) (pos from) (column - from)) ++ n ∷ []) (is ∙ ap f there)
    ∙ append_assoc old (block_counts (bits_plane word) e (pos row) (pos from) (column - from)) (f (pos from +ℤ pos (column - from)) ∷ [])
    ∙ ap (λ l. old ++ l) (sym (map_one_more f (pos from) (column - from)) ∙ ap (block_counts (bits_plane word) e (pos row) (pos from)) (sym before))

pub span_begun : (word e row from : ℕ) (old : List ℕ) → old ≡ old ++ block_counts (bits_plane word) e (pos row) (pos from) (from - from)
unfolding coordinates
span_begun word e row from old = let none : from - from ≡ 0 = omega arith in sym (ap (λ n. old ++ block_counts (bits_plane word) e (pos row) (pos from) n) none ∙ append-nil old)
