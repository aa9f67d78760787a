-- The cells of spans.
use Rattle.std.proofs.Common.{◌≡◌, ℕ, zero, suc, ◌+◌, ◌-◌, ◌*◌, ◌%◌, ◌^◌, ◌<◌, ◌≤◌, ◌≢◌, ℤ, pos, negsuc, ◌+ℤ◌, Bool, true, false, List, [], ◌∷◌, take, get_or, length, sym, ◌∙◌, ap, arith, refl, ⊎_elim}
use Rattle.std.specs.Prelude.{◌&&◌, ◌||◌, ◌==◌, nat_le, nat_lt, int_le, bit_or, min, max}
use Rattle.std.specs.Int.{bit_at}
use Rattle.std.specs.List.{list_any}
use Rattle.std.proofs.lemmas.Bool.{cases_lt}
use Rattle.std.proofs.lemmas.Bool.Decides.{nat_tests}
use Rattle.std.proofs.lemmas.Int.{ints}
use Rattle.std.proofs.lemmas.List.Folds.{list_any_more}
use Rattle.std.proofs.lemmas.Nat.{one_shl, shl_whole}
use Rattle.std.proofs.lemmas.Nat.Bits.{bit_at_or, bit_at-lt, bit_at-zero, bit_at_cat_low, bit_at_cat_high, bit_at_ones, bit_at_ones_above}
use Rattle.std.proofs.Math.Pow.{pow_mono}
use Rattle.plane.specs.Square.{IsSame, spans, cut, bit}
use Rattle.plane.proofs.Cuts.{and_case, and_left, and_right}
use Rattle.squares.specs.Spans.{in_span, in_spans, marked}
use Rattle.squares.specs.declared.spans.Span.{Span}

pub none_in : (x y : ℕ) → in_spans [] x y ≡ false
unfolding in_spans
none_in x y = refl

pub first_in : (s : Span) (rest : List Span) (x y : ℕ) → in_spans (s ∷ rest) x y ≡ (in_span x y s || in_spans rest x y)
unfolding in_spans
first_in s rest x y = refl

pub or_none : (b : Bool) → (b || false) ≡ b
or_none true = refl
or_none false = refl

-- one span more, in a list that is read and in one that is made
pub more_in : (xs : List Span) (i : ℕ) (s d : Span) (x y : ℕ) → i < length xs → s ≡ get_or xs i d → in_spans (take (i + 1) xs) x y ≡ (in_spans (take i xs) x y || in_span x y s)
unfolding in_spans
more_in xs i s d x y h e = list_any_more (in_span x y) xs i d h ∙ ap (λ (t : Span). list_any (in_span x y) (take i xs) || in_span x y t) (sym e)

-- a bit of two words
one_or : (m n : ℕ) → m < 2 → n < 2 → (max m n == 1) ≡ ((m == 1) || (n == 1))
one_or zero zero h k = refl
one_or zero (suc zero) h k = refl
one_or zero (suc (suc n)) h k = absurd (omega arith)
one_or (suc zero) zero h k = refl
one_or (suc zero) (suc zero) h k = refl
one_or (suc zero) (suc (suc n)) h k = absurd (omega arith)
one_or (suc (suc m)) n h k = absurd (omega arith)

pub bit_or_is : (a b i : ℕ) → bit (bit_or a b) i ≡ (bit a i || bit b i)
bit_or_is a b i = ap (λ t. t == 1) (bit_at_or a b i) ∙ one_or (bit_at a i) (bit_at b i) (bit_at-lt a i) (bit_at-lt b i)

pub bit_none : (i : ℕ) → bit 0 i ≡ false
bit_none i = ap (λ t. t == 1) (bit_at-zero i)

-- the bits of as many ones as a span has cells, at its place
below_ones : (k s i : ℕ) → i < s → bit_at ((2 ^ k - 1) * 2 ^ s) i ≡ 0
below_ones k s i h = ap (λ n. bit_at n i) (let e : (2 ^ k - 1) * 2 ^ s ≡ (2 ^ k - 1) * 2 ^ s + 0 = omega arith in e) ∙ bit_at_cat_low (2 ^ k - 1) s 0 i h ∙ bit_at-zero i

positive : (s : ℕ) → 0 < 2 ^ s
positive s = let p : 2 ^ 0 ≤ 2 ^ s = pow_mono {i = 0} {j = s} (omega arith) in omega arith

at_ones : (k s i : ℕ) → s ≤ i → bit_at ((2 ^ k - 1) * 2 ^ s) i ≡ bit_at (2 ^ k - 1) (i - s)
at_ones k s i h = ap (λ n. bit_at n i) (let e : (2 ^ k - 1) * 2 ^ s ≡ (2 ^ k - 1) * 2 ^ s + 0 = omega arith in e) ∙ bit_at_cat_high (2 ^ k - 1) s 0 i (positive s) h

inside_ones : (k s i : ℕ) → s ≤ i → i < s + k → bit_at ((2 ^ k - 1) * 2 ^ s) i ≡ 1
inside_ones k s i h l = at_ones k s i h ∙ bit_at_ones k (i - s) (omega arith)

above_ones : (k s i : ℕ) → s + k ≤ i → bit_at ((2 ^ k - 1) * 2 ^ s) i ≡ 0
above_ones k s i h = at_ones k s i (omega arith) ∙ bit_at_ones_above k (i - s) (omega arith)

in_true : (row first end x y : ℕ) → y ≡ row → first ≤ x → x < end → ((y == row) && (nat_le first x && nat_lt x end)) ≡ true
in_true row first end x y e f l = grind (arith, nat_tests)

in_false_row : (row first end x y : ℕ) → y ≢ row → ((y == row) && (nat_le first x && nat_lt x end)) ≡ false
in_false_row row first end x y e = grind (arith, nat_tests)

in_false_left : (row first end x y : ℕ) → x < first → ((y == row) && (nat_le first x && nat_lt x end)) ≡ false
in_false_left row first end x y e = grind (arith, nat_tests)

in_false_right : (row first end x y : ℕ) → end ≤ x → ((y == row) && (nat_le first x && nat_lt x end)) ≡ false
in_false_right row first end x y e = grind (arith, nat_tests)

-- the places of a leaf: in the row, on its left, on its right, or in another row
pub span_bit : (row first last end x y : ℕ) → row < 8 → first < last → last ≡ min end 8 → x < 8 → y < 8 →
    bit ((2 ^ (last - first) - 1) * 2 ^ (8 * row + first)) (8 * y + x) ≡ ((y == row) && (nat_le first x && nat_lt x end))
span_bit row first last end x y h f l hx hy = ⊎_elim
    (λ left. ap (λ n. n == 1) (below_ones (last - first) (8 * row + first) (8 * y + x) left) ∙ sym (⊎_elim (λ a. in_false_row row first end x y (omega arith)) (λ a. ⊎_elim (λ b. in_false_left row first end x y b) (λ b. in_false_row row first end x y (omega arith)) (cases_lt x first)) (cases_lt y row)))
    (λ right. ⊎_elim
    (λ inside. ap (λ n. n == 1) (inside_ones (last - first) (8 * row + first) (8 * y + x) right inside) ∙ sym (in_true row first end x y (omega arith) (omega arith) (omega arith)))
    (λ behind. ap (λ n. n == 1) (above_ones (last - first) (8 * row + first) (8 * y + x) behind) ∙ sym (⊎_elim (λ a. in_false_row row first end x y (omega arith)) (λ a. in_false_right row first end x y (omega arith)) (cases_lt row y)))
    (cases_lt (8 * y + x) (8 * row + first + (last - first))))
    (cases_lt (8 * y + x) (8 * row + first))

-- the word that the shifts make
pub ones_shifted : (k s : ℕ) → k ≤ 8 → s + k ≤ 64 → (((1 * 2 ^ k) % 2 ^ 64 - 1) * 2 ^ s) % 2 ^ 64 ≡ (2 ^ k - 1) * 2 ^ s
ones_shifted k s h f =
    ap (λ n. ((n - 1) * 2 ^ s) % 2 ^ 64) (one_shl k 64 (omega arith))
    ∙ shl_whole (2 ^ k - 1) k s 64 (let p = positive k in omega arith) (omega arith)

-- what is marked, seen in a cut
at_least : (n : ℕ) → int_le (pos 0) (pos n) ≡ true
at_least n = grind (arith, ints)

pub in_pos : (n k : ℕ) → spans n (pos k) ≡ true → k < n
in_pos n k h = grind (arith, ints)

marked_at : (f : ℕ → ℕ → Bool) (a b : ℕ) → marked f (pos a) (pos b) ≡ f a b
marked_at f a b = ap (λ t. (t && int_le (pos 0) (pos b)) && f a b) (at_least a) ∙ ap (λ t. t && f a b) (at_least b)

moved : (a b : ℕ) → pos a +ℤ pos b ≡ pos (a + b)
moved a b = omega (arith, ints)

pub marked_moved : (f : ℕ → ℕ → Bool) (a b left top : ℕ) → marked f (pos a +ℤ pos left) (pos b +ℤ pos top) ≡ f (a + left) (b + top)
marked_moved f a b left top = ap (λ x. marked f x (pos b +ℤ pos top)) (moved a left) ∙ ap (marked f (pos (a + left))) (moved b top) ∙ marked_at f (a + left) (b + top)

pub left_of : (n k : ℕ) → spans n (negsuc k) ≡ true → ⊥
left_of n k h = grind (arith, ints)

pub cut_marked : (side left top : ℕ) (f g : ℕ → ℕ → Bool) → ((x y : ℕ) → x < side → y < side → f x y ≡ g (x + left) (y + top)) → IsSame (cut side 0 0 (marked f)) (cut side left top (marked g))
cut_marked side left top f g h = record { same = λ x y. and_case (spans side x && spans side y) _ _ (λ e. inside x y (and_left _ _ e) (and_right _ _ e)) }
  where
    inside : (x y : ℤ) → spans side x ≡ true → spans side y ≡ true → marked f (x +ℤ pos 0) (y +ℤ pos 0) ≡ marked g (x +ℤ pos left) (y +ℤ pos top)
    inside (pos a) (pos b) hx hy = marked_moved f a b 0 0 ∙ ap (λ n. f n (b + 0)) (let e : a + 0 ≡ a = omega arith in e) ∙ ap (f a) (let e : b + 0 ≡ b = omega arith in e)
        ∙ h a b (in_pos side a hx) (in_pos side b hy) ∙ sym (marked_moved g a b left top)
    inside (pos a) (negsuc b) hx hy = absurd (left_of side b hy)
    inside (negsuc a) y hx hy = absurd (left_of side a hx)

-- what is marked at a place of the square
pub marked_inside : (side : ℕ) (f : ℕ → ℕ → Bool) (a b : ℕ) → spans side (pos a) ≡ true → spans side (pos b) ≡ true → cut side 0 0 (marked f) (pos a) (pos b) ≡ f a b
marked_inside side f a b hx hy = ap (λ t. (t && spans side (pos b)) && marked f (pos a +ℤ pos 0) (pos b +ℤ pos 0)) hx ∙ ap (λ t. t && marked f (pos a +ℤ pos 0) (pos b +ℤ pos 0)) hy
    ∙ marked_moved f a b 0 0 ∙ ap (λ n. f n (b + 0)) (let e : a + 0 ≡ a = omega arith in e) ∙ ap (f a) (let e : b + 0 ≡ b = omega arith in e)
