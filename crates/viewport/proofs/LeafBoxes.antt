-- The box of a leaf's cells, one bit after the other.
use Rattle.std.proofs.Common.{◌≡◌, ◌≢◌, ℕ, suc, ◌+◌, ◌*◌, ◌/◌, ◌%◌, ◌<◌, ℤ, pos, ◌≤ℤ◌, Bool, true, false, ◌&&◌, ◌||◌, refl, sym, ◌∙◌, ap, subst, arith}
use Rattle.std.specs.Prelude.{◌==◌, nat_lt, unsigned_abs, Option, Some, None}
use Rattle.std.specs.Int.{bit_at}
use Rattle.std.specs.Ordering.{int_eq}
use Rattle.std.proofs.lemmas.Bool.{eqb-true, eqb-false}
use Rattle.std.proofs.lemmas.Bool.Decides.{nat_tests}
use Rattle.std.proofs.lemmas.Int.{ints}
use Rattle.plane.specs.declared.cell.Bounds.{Bounds}
use Rattle.plane.specs.Plane.{Plane}
use Rattle.plane.specs.Square.{bits_plane, bit, spans}
use Rattle.plane.proofs.Cuts.{and_left, and_right}
use Rattle.plane.proofs.Same.{plane_equal}
use Rattle.viewport.specs.BoundingBox.{box_of_both}
use Rattle.viewport.proofs.BoxesOfPlanes.{BoxMatches, either_box}
use Rattle.squares.proofs.NumberMaps.{by_cases}
use Rattle.viewport.specs.Halves.{either}
use Rattle.viewport.proofs.Quarters.{and_dead_right}

abbrev pub place_of : ℤ → ℤ → ℕ
place_of x y = 8 * unsigned_abs y + unsigned_abs x

-- a leaf's cells whose bits stand below this place
abbrev pub up_to : ℕ → ℕ → Plane
up_to word n x y = bits_plane word x y && nat_lt (place_of x y) n

-- the cell of one bit
abbrev pub point : ℕ → Plane
point i x y = int_eq x (pos (i % 8)) && int_eq y (pos (i / 8))

abbrev pub point_box : ℕ → Bounds
point_box i = record { left = pos (i % 8); top = pos (i / 8); right = pos (i % 8); bottom = pos (i / 8) }

pub eq_true : (a b : ℤ) → int_eq a b ≡ true → a ≡ b
eq_true a b e = grind (arith, ints)

eq_refl : (a : ℤ) → int_eq a a ≡ true
eq_refl a = grind (arith, ints)

nearly : (a b : ℤ) → a ≡ b → (b ≤ℤ a) × (a ≤ℤ b)
nearly a b e = (omega (arith, ints), omega (arith, ints))

pub point_matches : (i : ℕ) → BoxMatches (point i) (Some (point_box i))
point_matches i = record {
  columns = λ x y e. nearly x _ (eq_true _ _ (and_left _ _ e));
  rows = λ x y e. nearly y _ (eq_true _ _ (and_right _ _ e));
  at_left = (pos (i / 8), ap (λ b. b && int_eq (pos (i / 8)) (pos (i / 8))) (eq_refl (pos (i % 8))) ∙ eq_refl (pos (i / 8)));
  at_right = (pos (i / 8), ap (λ b. b && int_eq (pos (i / 8)) (pos (i / 8))) (eq_refl (pos (i % 8))) ∙ eq_refl (pos (i / 8)));
  at_top = (pos (i % 8), ap (λ b. b && int_eq (pos (i / 8)) (pos (i / 8))) (eq_refl (pos (i % 8))) ∙ eq_refl (pos (i / 8)));
  at_bottom = (pos (i % 8), ap (λ b. b && int_eq (pos (i / 8)) (pos (i / 8))) (eq_refl (pos (i % 8))) ∙ eq_refl (pos (i / 8)));
}

point_outside : (i : ℕ) → i < 64 → (x y : ℤ) → (spans 8 x && spans 8 y) ≡ false → point i x y ≡ false
point_outside i h x y e = grind (arith, ints)

point_here : (i : ℕ) (x y : ℤ) → (spans 8 x && spans 8 y) ≡ true → place_of x y ≡ i → point i x y ≡ true
point_here i x y e f = grind (arith, ints)

point_elsewhere : (i : ℕ) (x y : ℤ) → (spans 8 x && spans 8 y) ≡ true → place_of x y ≢ i → point i x y ≡ false
point_elsewhere i x y e f = grind (arith, ints)

below_next : (k i : ℕ) → k ≢ i → nat_lt k (suc i) ≡ nat_lt k i
below_next k i h = grind (arith, nat_tests)

at_next : (k i : ℕ) → k ≡ i → (nat_lt k (suc i) ≡ true) × (nat_lt k i ≡ false)
at_next k i h = (grind (arith, nat_tests), grind (arith, nat_tests))

last_bit : (b t u p c : Bool) → b ≡ c → t ≡ true → u ≡ false → p ≡ true → (b && t) ≡ ((b && u) || (c && p))
last_bit true t u p c e f g h = f ∙ sym (ap (λ v. v || (c && p)) g ∙ ap (λ v. v && p) (sym e) ∙ h)
last_bit false t u p c e f g h = sym (ap (λ v. v && p) (sym e))

other_bit : (b t u p c : Bool) → t ≡ u → p ≡ false → (b && t) ≡ ((b && u) || (c && p))
other_bit b t u p c e h = ap (λ v. b && v) e ∙ sym (or_nothing (b && u) (c && p) (and_dead_right c p h)) where
  or_nothing : (v w : Bool) → w ≡ false → (v || w) ≡ v
  or_nothing true w k = refl
  or_nothing false w k = k

no_bit : (s b t u p c : Bool) → s ≡ false → p ≡ false → ((s && b) && t) ≡ (((s && b) && u) || (c && p))
no_bit s b t u p c e h = ap (λ v. (v && b) && t) e ∙ sym (ap (λ v. ((v && b) && u) || (c && p)) e ∙ and_dead_right c p h)

is_bit : (word k i : ℕ) (s : Bool) → s ≡ true → k ≡ i → (s && bit word k) ≡ bit word i
is_bit word k i s e f = ap (λ v. v && bit word k) e ∙ ap (bit word) f

-- one bit more
pub one_bit : (word i : ℕ) → i < 64 → (x y : ℤ) → up_to word (suc i) x y ≡ (up_to word i x y || (bit word i && point i x y))
one_bit word i h x y =
    by_cases (spans 8 x && spans 8 y)
    (λ e. by_cases (place_of x y == i)
    (λ f. let k = eqb-true (place_of x y) i f in
    last_bit _ _ _ _ _ (is_bit word (place_of x y) i _ e k) (at_next _ _ k).0 (at_next _ _ k).1 (point_here i x y e k))
    (λ f. let k : place_of x y ≢ i = eqb-false (place_of x y) i f in
    other_bit (bits_plane word x y) _ _ (point i x y) (bit word i) (below_next _ _ k) (point_elsewhere i x y e k)))
    (λ e. no_bit _ (bit word (place_of x y)) _ _ (point i x y) (bit word i) e (point_outside i h x y e))

live_bit : (a b : Bool) → b ≡ true → (c : Bool) → (a || (b && c)) ≡ (a || c)
live_bit a b e c = ap (λ v. a || (v && c)) e

dead_bit : (a b : Bool) → b ≡ false → (c : Bool) → (a || (b && c)) ≡ a
dead_bit true b e c = refl
dead_bit false b e c = ap (λ v. v && c) e

pub bit_taken : (word i : ℕ) (o : Option Bounds) → i < 64 → bit_at word i ≡ 1 → BoxMatches (up_to word i) o → BoxMatches (up_to word (suc i)) (box_of_both o (Some (point_box i)))
bit_taken word i o h e is =
    let set : bit word i ≡ true = ap (λ n. n == 1) e in
    subst (λ p. BoxMatches p (box_of_both o (Some (point_box i))))
    (plane_equal (either (up_to word i) (point i)) (up_to word (suc i)) (record { same = λ x y. sym (one_bit word i h x y ∙ live_bit (up_to word i x y) (bit word i) set (point i x y)) }))
    (either_box (up_to word i) (point i) o (Some (point_box i)) is (point_matches i))

not_one : (n : ℕ) → n ≢ 1 → (n == 1) ≡ false
not_one n h = grind (arith, nat_tests)

pub bit_passed : (word i : ℕ) (o : Option Bounds) → i < 64 → bit_at word i ≢ 1 → BoxMatches (up_to word i) o → BoxMatches (up_to word (suc i)) o
bit_passed word i o h e is =
    subst (λ p. BoxMatches p o)
    (plane_equal (up_to word i) (up_to word (suc i)) (record { same = λ x y. sym (one_bit word i h x y ∙ dead_bit (up_to word i x y) (bit word i) (not_one _ e) (point i x y)) }))
    is

none_below : (k : ℕ) → nat_lt k 0 ≡ false
none_below k = grind (arith, nat_tests)

pub no_bits : (word : ℕ) → BoxMatches (up_to word 0) None
no_bits word = record { same = λ x y. and_dead_right (bits_plane word x y) _ (none_below (place_of x y)) }

place_low : (x y : ℤ) → (spans 8 x && spans 8 y) ≡ true → nat_lt (place_of x y) 64 ≡ true
place_low x y e = grind (arith, ints, nat_tests)

all_there : (s b t : Bool) → (s ≡ true → t ≡ true) → ((s && b) && t) ≡ (s && b)
all_there true true t h = h refl
all_there true false t h = refl
all_there false b t h = refl

pub all_bits : (word : ℕ) (o : Option Bounds) → BoxMatches (up_to word 64) o → BoxMatches (bits_plane word) o
all_bits word o is =
    subst (λ p. BoxMatches p o) (plane_equal (up_to word 64) (bits_plane word) (record { same = λ x y. all_there (spans 8 x && spans 8 y) (bit word (place_of x y)) _ (place_low x y) })) is

-- a leaf's cells lie in it
pub leaf_square : (word : ℕ) (x y : ℤ) → (spans 8 x && spans 8 y) ≡ false → bits_plane word x y ≡ false
leaf_square word x y e = ap (λ b. b && bit word (place_of x y)) e

-- the cell of a bit as a box
pub cell_box : (x y : ℤ) (i : ℕ) → x ≡ pos (i % 8) → y ≡ pos (i / 8) → (the_box : Bounds) → the_box ≡ record { left = x; top = y; right = x; bottom = y } → the_box ≡ point_box i
cell_box x y i e f b is = is ∙ (λ j. record { left = e j; top = f j; right = e j; bottom = f j })
