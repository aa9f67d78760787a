-- A leaf line, cell by cell.
use Rattle.std.proofs.Common.{◌≡◌, ℕ, suc, ◌+◌, ◌*◌, ◌^◌, ◌<◌, ◌≤◌, Bool, true, false, cond, nat_le, List, [], ◌∷◌, length, drop, get_or, Option, Some, None, refl, ap, sym, ◌∙◌, arith, zero-add, mul_assoc, mul_comm, pow_mono, subst}
use Rattle.std.specs.Prelude.{◌==◌, ◌&&◌, if◌then◌else◌}
use Rattle.std.specs.List.{list_all, onto_first}
use Rattle.std.specs.Str.{byte}
use Rattle.std.proofs.lemmas.Bool.Decides.{nat_tests}
use Rattle.std.proofs.lemmas.Nat.{pow-add}
use Rattle.std.proofs.lemmas.List.{at_drop_more, at_drop_all}
use Rattle.text_lines.specs.Bytes.{ended_parts}
use Rattle.macrocell_reader.specs.Leaf.{is_cell, cell_bit, is_row, rows_of, row_bits, leaf_bits, bits_of}

-- ---- rows of which the first has begun before

-- the first of these rows is the rest of one with so many cells before it
pub fits_behind : ℕ → List (List ℕ) → Bool
fits_behind column [] = true
fits_behind column (row ∷ rows) = (nat_le (column + length row) 8 && list_all is_cell row) && list_all is_row rows

pub bits_behind : ℕ → List (List ℕ) → ℕ
bits_behind column [] = 0
bits_behind column (row ∷ rows) = 2 ^ column * row_bits row + 256 * leaf_bits rows

-- the bits, where so many rows and cells of the next row were read before, and this text is left
unfoldable pub bits_on : ℕ → ℕ → ℕ → List ℕ → Option ℕ
bits_on row column bits text =
    if nat_le (row + length (rows_of text)) 8 && fits_behind column (rows_of text)
    then Some (bits + 2 ^ (8 * row) * bits_behind column (rows_of text)) else None

same_answer : (a b : Bool) (n m : ℕ) → a ≡ b → n ≡ m → cond a (Some n) None ≡ cond b (Some m) None
same_answer a b n m tests values = rw (tests, values) refl

fits_behind-zero : (rows : List (List ℕ)) → fits_behind 0 rows ≡ list_all is_row rows
unfolding fits_behind
fits_behind-zero [] = refl
fits_behind-zero (row ∷ rows) = ap (λ n. (nat_le n 8 && list_all is_cell row) && list_all is_row rows) (zero-add (length row))

bits_behind-zero : (rows : List (List ℕ)) → bits_behind 0 rows ≡ leaf_bits rows
unfolding bits_behind leaf_bits
bits_behind-zero [] = refl
bits_behind-zero (row ∷ rows) = omega arith

module _ (text : List ℕ) where
  pub bits_on-start : bits_on 0 0 0 text ≡ bits_of text
  unfolding bits_on bits_of
  bits_on-start =
      let rows = rows_of text in
      same_answer _ _ _ _
      (ap (λ n. nat_le n 8 && fits_behind 0 rows) (zero-add (length rows)) ∙ ap (λ b. nat_le (length rows) 8 && b) (fits_behind-zero rows))
      (ap (λ n. 0 + 2 ^ (8 * 0) * n) (bits_behind-zero rows) ∙ omega arith)

pub bits_on-end : (row column bits : ℕ) → row ≤ 8 → bits_on row column bits [] ≡ Some bits
unfolding bits_on ended_parts fits_behind bits_behind
bits_on-end row column bits within =
    let fits : nat_le (row + 0) 8 ≡ true = grind (arith, nat_tests) in
    rw fits (ap Some (omega arith))

row_fits : (column : ℕ) (b : Bool) → column ≤ 8 → ((nat_le (column + 0) 8 && true) && b) ≡ b
row_fits column b within =
    let fits : nat_le (column + 0) 8 ≡ true = grind (arith, nat_tests) in
    rw fits refl

next_row : (row bits : ℕ) → 2 ^ (8 * (row + 1)) * bits ≡ 2 ^ (8 * row) * (256 * bits)
next_row row bits =
    let place : 8 * (row + 1) ≡ 8 * row + 8 = omega arith in
    ap (λ n. 2 ^ n * bits) place ∙ ap (λ n. n * bits) (pow-add 2 (8 * row) 8) ∙ mul_assoc (2 ^ (8 * row)) 256 bits

-- the end of a row
pub bits_on-row_end : (row column bits : ℕ) (rest : List ℕ) → column ≤ 8 → bits_on row column bits (byte "$" ∷ rest) ≡ bits_on (row + 1) 0 bits rest
unfolding bits_on ended_parts fits_behind bits_behind row_bits
bits_on-row_end row column bits rest within =
    let rows = rows_of rest in
    same_answer _ _ _ _
    (ap (λ n. nat_le n 8 && ((nat_le (column + 0) 8 && true) && list_all is_row rows)) (omega arith)
    ∙ ap (λ b. nat_le (row + 1 + length rows) 8 && b) (row_fits column (list_all is_row rows) within ∙ sym (fits_behind-zero rows)))
    (ap (λ n. bits + 2 ^ (8 * row) * n) (omega arith)
    ∙ ap (λ n. bits + n) (sym (next_row row (leaf_bits rows)))
    ∙ ap (λ n. bits + 2 ^ (8 * (row + 1)) * n) (sym (bits_behind-zero rows)))

-- ---- a cell

spread : (P Q bit bits others : ℕ) → P * (Q * (bit + 2 * bits) + 256 * others) ≡ bit * (P * Q) + P * ((2 * Q) * bits + 256 * others)
spread P Q bit bits others = omega arith

first_cell_fits : (row column : ℕ) → row < 8 → column < 8 → (nat_le (row + 1) 8 && ((nat_le (column + 1) 8 && true) && true)) ≡ (nat_le (row + 0) 8 && true)
first_cell_fits row column low left =
    let a : nat_le (row + 1) 8 ≡ true = grind (arith, nat_tests) in
    let b : nat_le (column + 1) 8 ≡ true = grind (arith, nat_tests) in
    let d : nat_le (row + 0) 8 ≡ true = grind (arith, nat_tests) in
    rw (a, b, d) refl

spread_row : (row column bit bits others : ℕ) → 2 ^ (8 * row) * (2 ^ column * (bit + 2 * bits) + 256 * others) ≡ bit * 2 ^ (8 * row + column) + 2 ^ (8 * row) * (2 ^ (column + 1) * bits + 256 * others)
spread_row row column bit bits others =
    spread (2 ^ (8 * row)) (2 ^ column) bit bits others
    ∙ ap (λ n. bit * n + 2 ^ (8 * row) * ((2 * 2 ^ column) * bits + 256 * others)) (sym (pow-add 2 (8 * row) column))
    ∙ ap (λ n. bit * 2 ^ (8 * row + column) + 2 ^ (8 * row) * (n * bits + 256 * others)) (mul_comm 2 (2 ^ column) ∙ sym (pow-add 2 column 1))

-- the answer, where these rows are left
abbrev pub answer : ℕ → ℕ → ℕ → List (List ℕ) → Option ℕ
answer row column bits rows =
    if nat_le (row + length rows) 8 && fits_behind column rows then Some (bits + 2 ^ (8 * row) * bits_behind column rows) else None

cell_step : (row column bits cell : ℕ) (rows : List (List ℕ)) → row < 8 → column < 8 → is_cell cell ≡ true →
    answer row column bits (onto_first cell rows) ≡ answer row (column + 1) (bits + cell_bit cell * 2 ^ (8 * row + column)) rows
unfolding fits_behind bits_behind row_bits leaf_bits
cell_step row column bits cell [] low left is =
    same_answer _ _ _ _
    (ap (λ b. nat_le (row + 1) 8 && ((nat_le (column + 1) 8 && (b && true)) && true)) is ∙ first_cell_fits row column low left)
    (ap (λ n. bits + n) (spread_row row column (cell_bit cell) 0 0) ∙ omega arith)
cell_step row column bits cell (first ∷ others) low left is =
    same_answer _ _ _ _
    (ap (λ b. nat_le (row + suc (length others)) 8 && ((nat_le (column + suc (length first)) 8 && (b && list_all is_cell first)) && list_all is_row others)) is
    ∙ ap (λ n. nat_le (row + suc (length others)) 8 && ((nat_le n 8 && list_all is_cell first) && list_all is_row others)) (omega arith))
    (ap (λ n. bits + n) (spread_row row column (cell_bit cell) (row_bits first) (leaf_bits others)) ∙ omega arith)

-- a cell of a row
pub bits_on-cell : (row column bits cell : ℕ) (rest : List ℕ) → row < 8 → column < 8 → (cell == byte "$") ≡ false → is_cell cell ≡ true →
    bits_on row column bits (cell ∷ rest) ≡ bits_on row (column + 1) (bits + cell_bit cell * 2 ^ (8 * row + column)) rest
unfolding bits_on ended_parts
bits_on-cell row column bits cell rest low left no_end is = rw no_end (cell_step row column bits cell (rows_of rest) low left is)

no_answer : (a : Bool) (n : ℕ) → a ≡ false → cond a (Some n) None ≡ None
no_answer a n tests = rw tests refl

not_both : (a b : Bool) → b ≡ false → (a && b) ≡ false
not_both true b h = h
not_both false b h = refl

over_step : (row bits cell : ℕ) (rows : List (List ℕ)) → answer row 8 bits (onto_first cell rows) ≡ None
unfolding fits_behind
over_step row bits cell [] = no_answer _ _ (not_both _ _ refl)
over_step row bits cell (first ∷ others) =
    let past : nat_le (8 + suc (length first)) 8 ≡ false = grind (arith, nat_tests) in
    no_answer _ _ (not_both _ _ (ap (λ b. (b && (is_cell cell && list_all is_cell first)) && list_all is_row others) past))

-- a ninth cell of a row
pub bits_on-over : (row bits cell : ℕ) (rest : List ℕ) → (cell == byte "$") ≡ false → bits_on row 8 bits (cell ∷ rest) ≡ None
unfolding bits_on ended_parts
bits_on-over row bits cell rest no_end = rw no_end (over_step row bits cell (rows_of rest))

past_step : (b : Bool) (column bits first : ℕ) (rows : List (List ℕ)) → answer 8 column bits (cond b ([] ∷ rows) (onto_first first rows)) ≡ None
past_step true column bits first rows =
    let past : nat_le (8 + suc (length rows)) 8 ≡ false = grind (arith, nat_tests) in
    no_answer _ _ (ap (λ b. b && fits_behind column ([] ∷ rows)) past)
past_step false column bits first [] = refl
past_step false column bits first (row ∷ rows) =
    let past : nat_le (8 + suc (length rows)) 8 ≡ false = grind (arith, nat_tests) in
    no_answer _ _ (ap (λ b. b && fits_behind column ((first ∷ row) ∷ rows)) past)

-- a ninth row
pub bits_on-past : (column bits first : ℕ) (rest : List ℕ) → bits_on 8 column bits (first ∷ rest) ≡ None
unfolding bits_on ended_parts
bits_on-past column bits first rest = past_step (first == byte "$") column bits first (rows_of rest)

other_step : (row column bits other : ℕ) (rows : List (List ℕ)) → is_cell other ≡ false → answer row column bits (onto_first other rows) ≡ None
unfolding fits_behind
other_step row column bits other [] is = no_answer _ _ (not_both _ _ (ap (λ b. (nat_le (column + 1) 8 && (b && true)) && true) is ∙ no_row _ true))
  where
    no_row : (a b : Bool) → ((a && false) && b) ≡ false
    no_row true b = refl
    no_row false b = refl
other_step row column bits other (first ∷ others) is =
    no_answer _ _ (not_both _ _ (ap (λ b. (nat_le (column + suc (length first)) 8 && (b && list_all is_cell first)) && list_all is_row others) is ∙ no_row _ (list_all is_row others)))
  where
    no_row : (a b : Bool) → ((a && false) && b) ≡ false
    no_row true b = refl
    no_row false b = refl

-- a byte that is not a cell and ends no row
pub bits_on-other : (row column bits other : ℕ) (rest : List ℕ) → (other == byte "$") ≡ false → is_cell other ≡ false → bits_on row column bits (other ∷ rest) ≡ None
unfolding bits_on ended_parts
bits_on-other row column bits other rest no_end is = rw no_end (other_step row column bits other (rows_of rest) is)

same_byte : {other wanted : ℕ} → (other == wanted) ≡ true → other ≡ wanted
same_byte is = grind (arith, nat_tests)

-- a loop that has read the bytes before place i, and reads the byte there
module _ (text : List ℕ) (row column bits i : ℕ) (so_far : bits_on row column bits (drop i text) ≡ bits_of text) (within : i < length text) where
  here : bits_on row column bits (get_or text i 0 ∷ drop (i + 1) text) ≡ bits_of text
  here = sym (at_drop_more (bits_on row column bits) text i 0 within) ∙ so_far

  pub stops-past : row ≡ 8 → None ≡ bits_of text
  stops-past full = sym (ap (λ r. bits_on r column bits (get_or text i 0 ∷ drop (i + 1) text)) full ∙ bits_on-past column bits (get_or text i 0) (drop (i + 1) text)) ∙ here

  pub goes_on-row_end : column ≤ 8 → (get_or text i 0 == byte "$") ≡ true → bits_on (row + 1) 0 bits (drop (i + 1) text) ≡ bits_of text
  goes_on-row_end fits is =
      sym (bits_on-row_end row column bits (drop (i + 1) text) fits)
      ∙ ap (λ b. bits_on row column bits (b ∷ drop (i + 1) text)) (sym (same_byte is)) ∙ here

  module _ (no_end : (get_or text i 0 == byte "$") ≡ false) where
    pub stops-over : column ≡ 8 → None ≡ bits_of text
    stops-over full = sym (ap (λ k. bits_on row k bits (get_or text i 0 ∷ drop (i + 1) text)) full ∙ bits_on-over row bits (get_or text i 0) (drop (i + 1) text) no_end) ∙ here

    pub stops-other : is_cell (get_or text i 0) ≡ false → None ≡ bits_of text
    stops-other other = sym (bits_on-other row column bits (get_or text i 0) (drop (i + 1) text) no_end other) ∙ here

    pub goes_on-cell : (next : ℕ) → row < 8 → column < 8 → is_cell (get_or text i 0) ≡ true → next ≡ bits + cell_bit (get_or text i 0) * 2 ^ (8 * row + column) →
        bits_on row (column + 1) next (drop (i + 1) text) ≡ bits_of text
    goes_on-cell next low left is step =
        ap (λ w. bits_on row (column + 1) w (drop (i + 1) text)) step
        ∙ sym (bits_on-cell row column bits (get_or text i 0) (drop (i + 1) text) low left no_end is) ∙ here

pub ends : (text : List ℕ) (row column bits i : ℕ) → bits_on row column bits (drop i text) ≡ bits_of text → length text ≤ i → row ≤ 8 → Some bits ≡ bits_of text
ends text row column bits i so_far all within =
    sym (bits_on-end row column bits within) ∙ sym (at_drop_all (bits_on row column bits) text i all) ∙ so_far

pub row_end-small : (row column bits : ℕ) → column ≤ 8 → bits < 2 ^ (8 * row + column) → bits < 2 ^ (8 * (row + 1) + 0)
row_end-small row column bits fits small =
    let more : 2 ^ (8 * row + column) ≤ 2 ^ (8 * (row + 1) + 0) = pow_mono {i = 8 * row + column} {j = 8 * (row + 1) + 0} (omega arith) in
    omega arith

pub cell-small : (row column bits : ℕ) → bits < 2 ^ (8 * row + column + 1) → bits < 2 ^ (8 * row + (column + 1))
cell-small row column bits small =
    let place : 8 * row + column + 1 ≡ 8 * row + (column + 1) = omega arith in
    let P : ℕ → Type 0 = λ n. bits < 2 ^ n in subst P place small
