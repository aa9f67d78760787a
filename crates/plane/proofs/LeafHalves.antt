-- The halves of leaves: words of which some bits are those of one word, and the others those of
-- another.
use Rattle.std.proofs.Common.{◌≡◌, ℕ, ◌+◌, ◌*◌, ◌/◌, ◌%◌, ◌^◌, ◌<◌, Bool, true, false, [], ◌∷◌, get_or, refl, ◌∙◌, ap, arith, bit_and, bit_or, w64}
use Rattle.std.specs.Prelude.{◌==◌, ◌&&◌, ◌||◌}
use Rattle.std.proofs.lemmas.Nat.Bits.{bit_at_mask_above, bit_at_mask_below, bit_at_mask_inside}
use lib.Lanes.{number_l}
use Rattle.plane.specs.Square.{bit}
use Rattle.plane.proofs.WordBits.{bit-above, bit-and, bit-or, bit-shl, bit-shl_below, bit-shr}
use Rattle.plane.proofs.WordBytes.{bit-number, each_of_eight}

or_none : (b : Bool) → (b || false) ≡ b
or_none true = refl
or_none false = refl

-- the bits 32 to 63 of a word, and above them the bits 0 to 31 of another
pub rows_of_above : (above below place : ℕ) → place < 32 → bit (bit_or (above / 2 ^ 32) (below * 2 ^ 32 % 2 ^ 64)) place ≡ bit above (32 + place)
rows_of_above above below place h =
    bit-or (above / 2 ^ 32) (below * 2 ^ 32 % 2 ^ 64) place
    ∙ ap (λ t. t || bit (below * 2 ^ 32 % 2 ^ 64) place) (bit-shr above 32 place)
    ∙ ap (λ t. bit above (32 + place) || t) (bit-shl_below w64 below 32 place h (omega arith))
    ∙ or_none (bit above (32 + place))

pub rows_of_below : (above below : ℕ) → above < 2 ^ 64 → (place : ℕ) → place < 32 → bit (bit_or (above / 2 ^ 32) (below * 2 ^ 32 % 2 ^ 64)) (32 + place) ≡ bit below place
rows_of_below above below fits place h =
    bit-or (above / 2 ^ 32) (below * 2 ^ 32 % 2 ^ 64) (32 + place)
    ∙ ap (λ t. t || bit (below * 2 ^ 32 % 2 ^ 64) (32 + place)) (bit-shr above 32 (32 + place) ∙ bit-above above 64 (32 + (32 + place)) fits (omega arith))
    ∙ bit-shl w64 below 32 place (32 + place) refl (omega arith)

-- a word of eight equal bytes
bit_of_byte : (byte row column : ℕ) → byte < 256 → row < 8 → column < 8 →
    bit (number_l 256 (byte ∷ byte ∷ byte ∷ byte ∷ byte ∷ byte ∷ byte ∷ byte ∷ [])) (8 * row + column) ≡ bit byte column
bit_of_byte byte row column small h k =
    bit-number (byte ∷ byte ∷ byte ∷ byte ∷ byte ∷ byte ∷ byte ∷ byte ∷ []) row column (small, (small, (small, (small, (small, (small, (small, (small, tt)))))))) h k
    ∙ ap (λ n. bit n column) (each_of_eight (λ k. get_or (byte ∷ byte ∷ byte ∷ byte ∷ byte ∷ byte ∷ byte ∷ byte ∷ []) k 0) (λ _. byte) refl refl refl refl refl refl refl refl row h)

left_in_left : (row column : ℕ) → row < 8 → column < 4 → bit 0x0f0f0f0f0f0f0f0f (8 * row + column) ≡ true
left_in_left row column h k = bit_of_byte 15 row column (omega arith) h (omega arith) ∙ ap (λ n. n == 1) (bit_at_mask_inside 0 4 column (omega arith) k)

right_in_left : (row column : ℕ) → row < 8 → column < 4 → bit 0x0f0f0f0f0f0f0f0f (8 * row + (4 + column)) ≡ false
right_in_left row column h k = bit_of_byte 15 row (4 + column) (omega arith) h (omega arith) ∙ ap (λ n. n == 1) (bit_at_mask_above 0 4 (4 + column) (omega arith))

left_in_right : (row column : ℕ) → row < 8 → column < 4 → bit 0xf0f0f0f0f0f0f0f0 (8 * row + column) ≡ false
left_in_right row column h k = bit_of_byte 240 row column (omega arith) h (omega arith) ∙ ap (λ n. n == 1) (bit_at_mask_below 4 8 column k)

right_in_right : (row column : ℕ) → row < 8 → column < 4 → bit 0xf0f0f0f0f0f0f0f0 (8 * row + (4 + column)) ≡ true
right_in_right row column h k = bit_of_byte 240 row (4 + column) (omega arith) h (omega arith) ∙ ap (λ n. n == 1) (bit_at_mask_inside 4 8 (4 + column) (omega arith) (omega arith))

-- bits of the one word where the one mask has them, and bits of the other where the other has them
masked : (x y a b place : ℕ) → bit a place ≡ true → bit b place ≡ false → bit (bit_or (bit_and x a) (bit_and y b)) place ≡ bit x place
masked x y a b place set unset =
    bit-or (bit_and x a) (bit_and y b) place
    ∙ ap (λ t. t || bit (bit_and y b) place) (bit-and x a place ∙ ap (λ t. bit x place && t) set)
    ∙ ap (λ t. (bit x place && true) || t) (bit-and y b place ∙ ap (λ t. bit y place && t) unset)
    ∙ first (bit x place) (bit y place)
  where
    first : (p q : Bool) → ((p && true) || (q && false)) ≡ p
    first true true = refl
    first true false = refl
    first false true = refl
    first false false = refl

masked_other : (x y a b place : ℕ) → bit a place ≡ false → bit b place ≡ true → bit (bit_or (bit_and x a) (bit_and y b)) place ≡ bit y place
masked_other x y a b place unset set =
    bit-or (bit_and x a) (bit_and y b) place
    ∙ ap (λ t. t || bit (bit_and y b) place) (bit-and x a place ∙ ap (λ t. bit x place && t) unset)
    ∙ ap (λ t. (bit x place && false) || t) (bit-and y b place ∙ ap (λ t. bit y place && t) set)
    ∙ second (bit x place) (bit y place)
  where
    second : (p q : Bool) → ((p && false) || (q && true)) ≡ q
    second true true = refl
    second true false = refl
    second false true = refl
    second false false = refl

-- the columns 4 to 7 of a leaf, and beside them the columns 0 to 3 of another
pub columns_of_left : (left right row column : ℕ) → row < 8 → column < 4 →
    bit (bit_or (bit_and (left / 2 ^ 4) 0x0f0f0f0f0f0f0f0f) (bit_and (right * 2 ^ 4 % 2 ^ 64) 0xf0f0f0f0f0f0f0f0)) (8 * row + column) ≡ bit left (8 * row + (4 + column))
columns_of_left left right row column h k =
    masked (left / 2 ^ 4) (right * 2 ^ 4 % 2 ^ 64) 0x0f0f0f0f0f0f0f0f 0xf0f0f0f0f0f0f0f0 (8 * row + column) (left_in_left row column h k) (left_in_right row column h k)
    ∙ bit-shr left 4 (8 * row + column) ∙ ap (bit left) (further row column)
  where
    further : (row column : ℕ) → 4 + (8 * row + column) ≡ 8 * row + (4 + column)
    further row column = omega arith

pub columns_of_right : (left right row column : ℕ) → row < 8 → column < 4 →
    bit (bit_or (bit_and (left / 2 ^ 4) 0x0f0f0f0f0f0f0f0f) (bit_and (right * 2 ^ 4 % 2 ^ 64) 0xf0f0f0f0f0f0f0f0)) (8 * row + (4 + column)) ≡ bit right (8 * row + column)
columns_of_right left right row column h k =
    masked_other (left / 2 ^ 4) (right * 2 ^ 4 % 2 ^ 64) 0x0f0f0f0f0f0f0f0f 0xf0f0f0f0f0f0f0f0 (8 * row + (4 + column)) (right_in_left row column h k) (right_in_right row column h k)
    ∙ bit-shl w64 right 4 (8 * row + column) (8 * row + (4 + column)) (omega arith) (omega arith)
