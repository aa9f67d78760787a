-- The bits of a leaf: how many are set, and which cells they are.
use Rattle.std.proofs.Common.{◌≡◌, ℕ, zero, suc, ◌+◌, ◌*◌, ◌/◌, ◌^◌, ◌<◌, ◌≤◌, pos, ◌+ℤ◌, Bool, true, cond, ◌&&◌, List, ◌∷◌, length, filter, refl, sym, ◌∙◌, ap, arith, length-append}
use Rattle.std.specs.Prelude.{◌==◌, nat_eq, bit_and}
use Rattle.std.specs.Int.{bit_at}
use Rattle.std.specs.Int.RustNames.{count_ones}
use lib.Count.{ones_step}
use Rattle.std.proofs.lemmas.Int.{ints}
use Rattle.std.proofs.lemmas.List.Elements.{filter-append}
use Rattle.std.proofs.lemmas.Nat.Bits.{bit_at-lt, shr_and_one}
use Rattle.std.proofs.Math.Nat.{pow-suc}
use native.Mathlib.Nat.{div-div-eq-div-mul}
use Rattle.plane.specs.declared.cell.Cell.{Cell}
use Rattle.plane.specs.Plane.{Plane}
use Rattle.plane.specs.Square.{IsSame, bits_plane, spans, bit}
use Rattle.plane.specs.Window.{row_places, places, cells_in}
use Rattle.plane.proofs.Cells.{at}
use Rattle.viewport.specs.Population.{cell_count}

-- how many of so many bits are set, from this place on
pub bits_from : ℕ → ℕ → ℕ → ℕ
bits_from word i zero = 0
bits_from word i (suc n) = bit_at word i + bits_from word (suc i) n

bits_from-add : (word i a b : ℕ) → bits_from word i (a + b) ≡ bits_from word i a + bits_from word (i + a) b
unfolding bits_from
bits_from-add word i zero b = let e : zero + b ≡ b = omega arith in let f : i + zero ≡ i = omega arith in
    let p = ap (bits_from word i) e in let q = ap (λ k. bits_from word k b) f in omega (arith, p, q)
bits_from-add word i (suc a) b =
    let e : suc a + b ≡ suc (a + b) = omega arith in let f : suc i + a ≡ i + suc a = omega arith in
    let g = bits_from-add word (suc i) a b in let k = ap (λ j. bits_from word j b) f in
    ap (bits_from word i) e ∙ omega (arith, g, k)

halved : (word i : ℕ) → word / 2 ^ i / 2 ≡ word / 2 ^ suc i
halved word i = div-div-eq-div-mul word (2 ^ i) 2 ∙ ap (λ n. word / n) (sym (pow-suc 2 i))

pub ones_from : (word i n : ℕ) → count_ones (word / 2 ^ i) ≡ bits_from word i n + count_ones (word / 2 ^ (i + n))
unfolding bits_from
ones_from word i zero = let f : i + zero ≡ i = omega arith in let there = ap (λ k. count_ones (word / 2 ^ k)) f in omega (arith, there)
ones_from word i (suc n) =
    let f : suc i + n ≡ i + suc n = omega arith in
    let step = ones_step (word / 2 ^ i) in let next = ap count_ones (halved word i) in let more = ones_from word (suc i) n in
    let there = ap (λ k. count_ones (word / 2 ^ k)) f in omega (arith, step, next, more, there)

gone : (word : ℕ) → word < 2 ^ 64 → word / 2 ^ 64 ≡ 0
gone word low = omega arith

no_ones : count_ones 0 ≡ 0
unfolding count_ones
no_ones = refl

all_ones : (word : ℕ) → word < 2 ^ 64 → count_ones word ≡ bits_from word 0 64
all_ones word low =
    let start : word / 2 ^ 0 ≡ word = omega arith in
    let whole = ones_from word 0 64 in let end = ap count_ones (gone word low) in
    let from = ap count_ones start in omega (arith, whole, end, from, no_ones)

abbrev pub live : ℕ → Cell → Bool
live word cell = bits_plane word cell.x cell.y

pub in_leaf : (n : ℕ) → n < 8 → spans 8 (pos n) ≡ true
in_leaf n h = grind (arith, ints)

-- the cell of a bit
pub shows : (word x y : ℕ) → x < 8 → y < 8 → bits_plane word (pos x) (pos y) ≡ bit word (8 * y + x)
shows word x y wide tall =
    ap (λ b. (b && spans 8 (pos y)) && bit word (8 * y + x)) (in_leaf x wide) ∙ ap (λ b. b && bit word (8 * y + x)) (in_leaf y tall)

-- a cell of a leaf, as its bit is read
pub leaf_cell : (word x y : ℕ) (p : Plane) → x < 8 → y < 8 → IsSame p (bits_plane word) → nat_eq (bit_and (word / 2 ^ (8 * y + x)) 1) 1 ≡ p (pos x) (pos y)
leaf_cell word x y p wide tall same = sym (same.same (pos x) (pos y) ∙ shows word x y wide tall ∙ ap (λ b. b == 1) (sym (shr_and_one word (8 * y + x))))

one_or_none : (b : ℕ) (c : Cell) (cs : List Cell) → b < 2 → length (cond (b == 1) (c ∷ cs) cs) ≡ b + length cs
one_or_none zero c cs low = let e : zero + length cs ≡ length cs = omega arith in sym e
one_or_none (suc zero) c cs low = let e : suc zero + length cs ≡ suc (length cs) = omega arith in sym e
one_or_none (suc (suc b)) c cs low = absurd (omega arith)

pub row_count : (word x y wide : ℕ) → x + wide ≤ 8 → y < 8 → length (filter (live word) (row_places (pos x) (pos y) wide)) ≡ bits_from word (8 * y + x) wide
unfolding row_places bits_from
row_count word x y zero fits tall = refl
row_count word x y (suc wide) fits tall =
    let rest = row_count word (suc x) y wide (omega arith) tall in
    let step : 8 * y + suc x ≡ suc (8 * y + x) = omega arith in
    let next : pos x +ℤ pos 1 ≡ pos (suc x) = omega (arith, ints) in
    let others = filter (live word) (row_places (pos x +ℤ pos 1) (pos y) wide) in
    let same = ap (λ u. length (filter (live word) (row_places u (pos y) wide))) next in
    let end = ap (λ k. bits_from word k wide) step in
    ap (λ b. length (cond b (at (pos x) (pos y) ∷ others) others)) (shows word x y (omega arith) tall)
    ∙ one_or_none (bit_at word (8 * y + x)) (at (pos x) (pos y)) others (bit_at-lt word (8 * y + x))
    ∙ ap (λ n. bit_at word (8 * y + x) + n) (same ∙ rest ∙ end)

rows_count : (word y tall : ℕ) → y + tall ≤ 8 → length (filter (live word) (places (pos 0) (pos y) 8 tall)) ≡ bits_from word (8 * y) (8 * tall)
unfolding places bits_from
rows_count word y zero fits = refl
rows_count word y (suc tall) fits =
    let rest = rows_count word (suc y) tall (omega arith) in
    let next : pos y +ℤ pos 1 ≡ pos (suc y) = omega (arith, ints) in
    let here : 8 * y + 0 ≡ 8 * y = omega arith in
    let below : 8 * suc y ≡ 8 * y + 8 = omega arith in
    let all : 8 * suc tall ≡ 8 + 8 * tall = omega arith in
    let row = row_count word 0 y 8 (omega arith) (omega arith) in
    ap length (filter-append (live word) (row_places (pos 0) (pos y) 8) (places (pos 0) (pos y +ℤ pos 1) 8 tall))
    ∙ length-append (filter (live word) (row_places (pos 0) (pos y) 8)) (filter (live word) (places (pos 0) (pos y +ℤ pos 1) 8 tall))
    ∙ ap (λ n. n + length (filter (live word) (places (pos 0) (pos y +ℤ pos 1) 8 tall))) (row ∙ ap (λ k. bits_from word k 8) here)
    ∙ ap (λ n. bits_from word (8 * y) 8 + n) (ap (λ v. length (filter (live word) (places (pos 0) v 8 tall))) next ∙ rest ∙ ap (λ k. bits_from word k (8 * tall)) below)
    ∙ sym (ap (bits_from word (8 * y)) all ∙ bits_from-add word (8 * y) 8 (8 * tall))

-- the live cells of a leaf are its bits that are set
pub leaf_count_lem : (word : ℕ) → word < 2 ^ 64 → count_ones word ≡ cell_count 8 (bits_plane word)
unfolding cells_in
leaf_count_lem word low = all_ones word low ∙ sym (rows_count word 0 8 (omega arith))
