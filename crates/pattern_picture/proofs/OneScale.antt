-- A rectangle has one scale for a size.
use Rattle.std.proofs.Common.{◌≡◌, ℕ, ◌+◌, ◌*◌, ◌<◌, ◌≤◌, ap, arith, subst, sym, ◌∙◌}
use Rattle.std.proofs.Math.Logic.{⊎_elim}
use Rattle.std.proofs.Math.Nat.{eq-or-lt_of_le, eq-zero-or-pos, mul-le-mul_right}
use Rattle.std.proofs.lemmas.Bool.{cases_lt}
use Rattle.plane.specs.declared.cell.Bounds.{Bounds}
use Rattle.pattern_picture.specs.declared.scale.Scale.{Scale}
use Rattle.pattern_picture.specs.Scale.{IsScale, OneScale, longer_side}

-- of two numbers neither of which is below the other
same_from_neither : (a b : ℕ) → ¬ (a < b) → ¬ (b < a) → a ≡ b
same_from_neither a b first second =
    ⊎_elim
    (λ (below : a < b). absurd (first below))
    (λ (above : b ≤ a). ⊎_elim (λ (same : b ≡ a). sym same) (λ (over : b < a). absurd (second over)) (eq-or-lt_of_le above))
    (cases_lt a b)

-- a scale with larger blocks is not the scale
not_smaller : (shown : Bounds) (size : ℕ) (scale other : Scale) → IsScale shown size scale → IsScale shown size other → ¬ (scale.exponent < other.exponent)
not_smaller shown size scale other is_scale is_other smaller =
    let over = is_other.smallest_blocks scale.exponent smaller in
    let within = mul-le-mul_right (longer_side scale.exponent shown) is_scale.pixels.0 in
    absurd (omega (arith, over, within, is_scale.fits))

-- nor is one with smaller cells
not_fewer : (shown : Bounds) (size : ℕ) (scale other : Scale) → IsScale shown size scale → IsScale shown size other → scale.exponent ≡ 0 → other.exponent ≡ 0 → ¬ (scale.zoom < other.zoom)
not_fewer shown size scale other is_scale is_other none other_none fewer =
    let over = is_scale.largest_cells none (omega (arith, fewer, is_other.pixels.1)) in
    let more : scale.zoom + 1 ≤ other.zoom = omega (arith, fewer) in
    let within = mul-le-mul_right (longer_side 0 shown) more in
    let fits : other.zoom * longer_side 0 shown ≤ size = subst (λ e. other.zoom * longer_side e shown ≤ size) other_none is_other.fits in
    absurd (omega (arith, over, within, fits))

pub one_scale_lem : OneScale
one_scale_lem shown size scale other is_scale is_other =
    let exponents : scale.exponent ≡ other.exponent =
    same_from_neither scale.exponent other.exponent (not_smaller shown size scale other is_scale is_other) (not_smaller shown size other scale is_other is_scale) in
    let one : (some : 0 < scale.exponent) → scale.zoom ≡ other.zoom =
    λ some. is_scale.one_pixel some ∙ sym (is_other.one_pixel (subst (λ e. 0 < e) exponents some)) in
    let none : (none : scale.exponent ≡ 0) → scale.zoom ≡ other.zoom =
    λ none. let other_none = sym exponents ∙ none in
    same_from_neither scale.zoom other.zoom (not_fewer shown size scale other is_scale is_other none other_none) (not_fewer shown size other scale is_other is_scale other_none none) in
    let zooms : scale.zoom ≡ other.zoom = ⊎_elim none one (eq-zero-or-pos scale.exponent) in
    ap (λ e. record { exponent = e; zoom = scale.zoom }) exponents ∙ ap (λ z. record { exponent = other.exponent; zoom = z }) zooms
