-- Where the cells of a square around (0,0) may lie some generations on.
use Rattle.std.proofs.Common.{◌≡◌, ℕ, zero, suc, ◌+◌, ◌-◌, ◌^◌, ◌≤◌, min, pow_mono, ℤ, pos, ◌+ℤ◌, ◌-ℤ◌, Bool, true, false, count_by, List, [], ◌∷◌, subst, sym, ◌∙◌, ap, arith, refl}
use Rattle.std.specs.Prelude.{◌&&◌}
use Rattle.std.proofs.lemmas.Bool.{false≢true}
use Rattle.std.proofs.lemmas.Int.{ints}
use Rattle.rule_text.specs.declared.neighbourhood.Offset.{Offset}
use Rattle.rule_text.specs.Neighbourhood.{offsets}
use Rattle.rule_text.specs.CountRule.{CountRule, has}
use Rattle.plane.specs.Centred.{centred, is_in_root, Holds}
use Rattle.plane.specs.Laws.{IsNear, moved}
use Rattle.plane.specs.Plane.{Plane, after}
use Rattle.plane.specs.Square.{IsSame, IsSquare, empty, spans, centre_of, future}
use Rattle.plane.proofs.Cones.{light_cone_lem, next_same, translation_lem}
use Rattle.plane.proofs.Cuts.{cut_case}
use Rattle.plane.proofs.Subsquares.{half_of}
use Rattle.plane.proofs.Parts.{after_same}
use Rattle.plane.proofs.Same.{same_trans, same_sym}

count_none : (offsets : List Offset) → count_by (λ offset. false) offsets ≡ 0
count_none [] = refl
count_none (offset ∷ offsets) = count_none offsets

-- no cell comes from nothing
pub empty_after : (rule : CountRule) → has rule.birth 0 ≡ false → (n : ℕ) (x y : ℤ) → after rule empty n x y ≡ false
empty_after rule none zero x y = refl
empty_after rule none (suc n) x y =
    next_same rule (after rule empty n) empty (empty_after rule none n) x y ∙ ap (has rule.birth) (count_none (offsets rule.neighbourhood)) ∙ none

-- a cell is dead where no cell was live near it
pub quiet : (rule : CountRule) → has rule.birth 0 ≡ false → (plane : Plane) (n : ℕ) (x y : ℤ) →
    ((u v : ℤ) → IsNear n x u → IsNear n y v → plane u v ≡ false) → after rule plane n x y ≡ false
quiet rule none plane n x y dead = light_cone_lem rule plane empty n x y dead ∙ empty_after rule none n x y

-- what is live near a place outside the wider one lies outside
pub both_outside : (a b c d : Bool) → (c ≡ true → a ≡ true) → (d ≡ true → b ≡ true) → (a && b) ≡ false → (c && d) ≡ false
both_outside a b true true h k e = let f = ap (λ t. t && b) (h refl) ∙ k refl in absurd (false≢true (sym e ∙ f))
both_outside a b true false h k e = refl
both_outside a b false d h k e = refl

near_in_root : (side half other outer n : ℕ) (x u : ℤ) → side ≡ half + half → other ≡ outer + outer → half + n ≤ outer → IsNear n x u → spans side (u +ℤ pos half) ≡ true → spans other (x +ℤ pos outer) ≡ true
near_in_root side half other outer n x u e f less near here = grind (arith, ints)

pub twice_half : (level : ℕ) → 1 ≤ level → 2 ^ level ≡ 2 ^ (level - 1) + 2 ^ (level - 1)
twice_half level least =
    let e : level ≡ (suc level) - 1 = omega arith in let f : (suc level) - 2 ≡ level - 1 = omega arith in
    ap (λ n. 2 ^ n) e ∙ half_of (suc level) (omega arith) ∙ ap (λ n. 2 ^ n + 2 ^ n) f

-- the cells of a square around (0,0) stay in one that reaches so much further
pub holds_after : (rule : CountRule) → has rule.birth 0 ≡ false → (level other n : ℕ) (plane : Plane) → 1 ≤ level → 1 ≤ other → 2 ^ (level - 1) + n ≤ 2 ^ (other - 1) →
    Holds level plane → Holds other (after rule plane n)
holds_after rule none level other n plane least least_other fits is = record {
  dead = λ x y e. quiet rule none plane n x y (λ u v near_u near_v. is.dead u v (both_outside
      (spans (2 ^ other) (x +ℤ pos (2 ^ (other - 1)))) (spans (2 ^ other) (y +ℤ pos (2 ^ (other - 1)))) (spans (2 ^ level) (u +ℤ pos (2 ^ (level - 1)))) (spans (2 ^ level) (v +ℤ pos (2 ^ (level - 1))))
      (near_in_root _ _ _ _ n x u (twice_half level least) (twice_half other least_other) fits near_u) (near_in_root _ _ _ _ n y v (twice_half level least) (twice_half other least_other) fits near_v) e));
}

fits_padded : (level exponent padded : ℕ) → 1 ≤ level → level + 2 ≤ padded → exponent + 3 ≤ padded → 2 ^ (level - 1) + 2 ^ exponent ≤ 2 ^ ((padded - 1) - 1)
fits_padded level exponent padded least wide long =
    let one = pow_mono {i = level - 1} {j = padded - 3} (omega arith) in
    let two = pow_mono {i = exponent} {j = padded - 3} (omega arith) in
    let e : (padded - 1) - 2 ≡ padded - 3 = omega arith in
    let sum = half_of (padded - 1) (omega arith) ∙ ap (λ n. 2 ^ n + 2 ^ n) e in
    omega (arith, one, two, sum)

-- a square that is padded by enough has all its cells in its centre some generations on
pub padded_after : (rule : CountRule) → has rule.birth 0 ≡ false → (level exponent padded : ℕ) (plane : Plane) → 1 ≤ level → level + 2 ≤ padded → exponent + 3 ≤ padded →
    Holds level plane → Holds (padded - 1) (after rule plane (2 ^ exponent))
padded_after rule none level exponent padded plane least wide long is =
    holds_after rule none level (padded - 1) (2 ^ exponent) plane least (omega arith) (fits_padded level exponent padded least wide long) is

-- a square around (0,0) holds its own cells
pub square_held : (level : ℕ) (plane : Plane) → IsSquare (2 ^ level) plane → Holds level (centred level plane)
square_held level plane is = record { dead = λ x y e. is.dead (x +ℤ pos (2 ^ (level - 1))) (y +ℤ pos (2 ^ (level - 1))) e }

-- a larger square holds what a smaller one does
pub holds_more : (level other : ℕ) (plane : Plane) → 1 ≤ level → level ≤ other → Holds level plane → Holds other plane
holds_more level other plane least more is =
    let at_itself = λ (x : ℤ). let near : IsNear 0 x x = record { before = omega (arith, ints); behind = omega (arith, ints) } in near in
    let grows = pow_mono {i = level - 1} {j = other - 1} (omega arith) in
    record {
      dead = λ x y e. is.dead x y (both_outside
          (spans (2 ^ other) (x +ℤ pos (2 ^ (other - 1)))) (spans (2 ^ other) (y +ℤ pos (2 ^ (other - 1)))) (spans (2 ^ level) (x +ℤ pos (2 ^ (level - 1)))) (spans (2 ^ level) (y +ℤ pos (2 ^ (level - 1))))
          (near_in_root _ _ _ _ 0 x x (twice_half level least) (twice_half other (omega arith)) (omega (arith, grows)) (at_itself x))
          (near_in_root _ _ _ _ 0 y y (twice_half level least) (twice_half other (omega arith)) (omega (arith, grows)) (at_itself y)) e);
    }

here_and_there : (half : ℕ) (z : ℤ) → z +ℤ pos half ≡ z -ℤ (pos 0 -ℤ pos half)
here_and_there half z = omega (arith, ints)

-- a square around (0,0) is a plane that was moved
pub centred_moved : (level : ℕ) (plane : Plane) → IsSame (centred level plane) (moved (pos 0 -ℤ pos (2 ^ (level - 1))) (pos 0 -ℤ pos (2 ^ (level - 1))) plane)
centred_moved level plane = record {
  same = λ x y.
      ap (λ u. plane u (y +ℤ pos (2 ^ (level - 1)))) (here_and_there (2 ^ (level - 1)) x)
      ∙ ap (plane (x -ℤ (pos 0 -ℤ pos (2 ^ (level - 1))))) (here_and_there (2 ^ (level - 1)) y);
}

-- generations of a square around (0,0)
pub centred_after : (rule : CountRule) (level : ℕ) (plane : Plane) (n : ℕ) → IsSame (after rule (centred level plane) n) (centred level (after rule plane n))
centred_after rule level plane n =
    same_trans (after_same rule (centred level plane) (moved (pos 0 -ℤ pos (2 ^ (level - 1))) (pos 0 -ℤ pos (2 ^ (level - 1))) plane) n (centred_moved level plane))
    (same_trans (record { same = translation_lem rule plane (pos 0 -ℤ pos (2 ^ (level - 1))) (pos 0 -ℤ pos (2 ^ (level - 1))) n })
    (same_sym (centred_moved level (after rule plane n))))

twice_moved : (a b c : ℕ) (z : ℤ) → c ≡ a + b → (z +ℤ pos a) +ℤ pos b ≡ z +ℤ pos c
twice_moved a b c z e = omega (arith, ints)

-- the centre of a square is the part around (0,0), where it holds all
pub centred_centre : (level : ℕ) (plane : Plane) → 2 ≤ level → Holds (level - 1) (centred level plane) → IsSame (centred (level - 1) (centre_of level plane)) (centred level plane)
centred_centre level plane least is =
    let same_quarter : (level - 1) - 1 ≡ level - 2 = omega arith in
    let sum : 2 ^ (level - 1) ≡ 2 ^ ((level - 1) - 1) + 2 ^ (level - 2) = half_of level least ∙ ap (λ n. 2 ^ n + 2 ^ (level - 2)) (sym same_quarter) in
    record {
      same = λ x y. sym (cut_case (is_in_root (level - 1) x y) (centred level plane x y)
          (plane ((x +ℤ pos (2 ^ ((level - 1) - 1))) +ℤ pos (2 ^ (level - 2))) ((y +ℤ pos (2 ^ ((level - 1) - 1))) +ℤ pos (2 ^ (level - 2))))
          (is.dead x y)
          (λ _. sym (ap (λ u. plane u ((y +ℤ pos (2 ^ ((level - 1) - 1))) +ℤ pos (2 ^ (level - 2)))) (twice_moved _ _ (2 ^ (level - 1)) x sum)
          ∙ ap (plane (x +ℤ pos (2 ^ (level - 1)))) (twice_moved _ _ (2 ^ (level - 1)) y sum))));
    }

pub holds_same : (level : ℕ) (plane other : Plane) → IsSame plane other → Holds level plane → Holds level other
holds_same level plane other same is = record { dead = λ x y e. sym (same.same x y) ∙ is.dead x y e }

-- the future of a padded square, around (0,0), is what its cells become
pub centred_future : (rule : CountRule) (exponent level : ℕ) (plane : Plane) → 2 ≤ level → exponent ≤ level - 2 → Holds (level - 1) (after rule (centred level plane) (2 ^ exponent)) →
    IsSame (centred (level - 1) (future rule exponent level plane)) (after rule (centred level plane) (2 ^ exponent))
centred_future rule exponent level plane least soon is =
    let e : min exponent (level - 2) ≡ exponent = omega arith in
    let later = centred_after rule level plane (2 ^ exponent) in
    subst (λ n. IsSame (centred (level - 1) (centre_of level (after rule plane (2 ^ n)))) (after rule (centred level plane) (2 ^ exponent))) (sym e)
    (same_trans (centred_centre level (after rule plane (2 ^ exponent)) least (holds_same (level - 1) _ _ later is)) (same_sym later))
