-- The border of a square, a quarter of its side wide: twelve pieces of its quarters.
use Rattle.std.proofs.Common.{◌≡◌, ℕ, ◌+◌, ◌-◌, ◌^◌, ◌≤◌, pos, ◌+ℤ◌, Bool, false, subst, sym, ◌∙◌, ap, arith}
use Rattle.std.specs.Prelude.{◌&&◌}
use Rattle.plane.specs.Centred.{centred, Holds}
use Rattle.plane.specs.Plane.{Plane}
use Rattle.plane.specs.Square.{IsSame, IsSquare, empty, spans, cut, joined}
use Rattle.plane.proofs.Cuts.{joined_same, joined_within}
use Rattle.plane.proofs.Subsquares.{half_of}
use Rattle.plane.proofs.Paddings.{square_held, holds_same}
use Rattle.plane.proofs.Middles.{Border, border_piece, inner_centred, whole_joined}
use Rattle.plane.proofs.Middles.Border.{at_left, at_right, at_top, at_bottom}
use Rattle.plane.proofs.Same.{same_trans, same_sym, same_refl}

-- of each quarter, all but the piece at the centre is empty
pub record HasDeadBorder (half quarter : ℕ) (plane : Plane) : Type 0 where
  pub nw_nw : IsSame (cut quarter 0 0 (cut half 0 0 plane)) empty
  pub nw_ne : IsSame (cut quarter quarter 0 (cut half 0 0 plane)) empty
  pub nw_sw : IsSame (cut quarter 0 quarter (cut half 0 0 plane)) empty
  pub ne_nw : IsSame (cut quarter 0 0 (cut half half 0 plane)) empty
  pub ne_ne : IsSame (cut quarter quarter 0 (cut half half 0 plane)) empty
  pub ne_se : IsSame (cut quarter quarter quarter (cut half half 0 plane)) empty
  pub sw_nw : IsSame (cut quarter 0 0 (cut half 0 half plane)) empty
  pub sw_sw : IsSame (cut quarter 0 quarter (cut half 0 half plane)) empty
  pub sw_se : IsSame (cut quarter quarter quarter (cut half 0 half plane)) empty
  pub se_ne : IsSame (cut quarter quarter 0 (cut half half half plane)) empty
  pub se_sw : IsSame (cut quarter 0 quarter (cut half half half plane)) empty
  pub se_se : IsSame (cut quarter quarter quarter (cut half half half plane)) empty

false_and : (b : Bool) → b ≡ false → (u : Bool) → (b && u) ≡ false
false_and b e u = ap (λ t. t && u) e

pub cut_within : (side left top : ℕ) (plane : Plane) → IsSquare side (cut side left top plane)
cut_within side left top plane = record { dead = λ x y e. false_and (spans side x && spans side y) e (plane (x +ℤ pos left) (y +ℤ pos top)) }

module _ (level q : ℕ) (plane : Plane) (least : 2 ≤ level) (is_q : q ≡ 2 ^ (level - 2)) where
  half_is : 2 ^ (level - 1) ≡ q + q
  half_is = half_of level least ∙ ap (λ n. n + n) (sym is_q)

  -- where the centre holds all
  pub dead_border : Holds (level - 1) (centred level plane) → HasDeadBorder (2 ^ (level - 1)) q plane
  dead_border held =
      let half : ℕ = 2 ^ (level - 1) in
      let two = half_is in
      let piece = λ (left top over down : ℕ) (fits_x : over + q ≤ half) (fits_y : down + q ≤ half) (border : Border q (left + over) (top + down)).
      border_piece level q plane least is_q held left top over down (cut half left top plane) (cut q over down (cut half left top plane)) fits_x fits_y border (same_refl _) (same_refl _) in
      record {
        nw_nw = piece 0 0 0 0 (omega arith) (omega arith) (at_left (omega arith));
        nw_ne = piece 0 0 q 0 (omega arith) (omega arith) (at_top (omega arith));
        nw_sw = piece 0 0 0 q (omega arith) (omega arith) (at_left (omega arith));
        ne_nw = piece half 0 0 0 (omega arith) (omega arith) (at_top (omega arith));
        ne_ne = piece half 0 q 0 (omega arith) (omega arith) (at_top (omega arith));
        ne_se = piece half 0 q q (omega arith) (omega arith) (at_right (omega arith));
        sw_nw = piece 0 half 0 0 (omega arith) (omega arith) (at_left (omega arith));
        sw_sw = piece 0 half 0 q (omega arith) (omega arith) (at_left (omega arith));
        sw_se = piece 0 half q q (omega arith) (omega arith) (at_bottom (omega arith));
        se_ne = piece half half q 0 (omega arith) (omega arith) (at_right (omega arith));
        se_sw = piece half half 0 q (omega arith) (omega arith) (at_bottom (omega arith));
        se_se = piece half half q q (omega arith) (omega arith) (at_bottom (omega arith));
      }

  -- a quarter is its pieces
  pieces : (left top : ℕ) (p q' r s : Plane) → (let part : Plane = cut (2 ^ (level - 1)) left top plane in
      IsSame (cut q 0 0 part) p → IsSame (cut q q 0 part) q' → IsSame (cut q 0 q part) r → IsSame (cut q q q part) s → IsSame part (joined q p q' r s))
  pieces left top p q' r s is_p is_q' is_r is_s =
      let part : Plane = cut (2 ^ (level - 1)) left top plane in
      let square : IsSquare (q + q) part = subst (λ n. IsSquare n part) half_is (cut_within (2 ^ (level - 1)) left top plane) in
      same_trans (same_sym (whole_joined q part _ _ _ _ square (same_refl _) (same_refl _) (same_refl _) (same_refl _)))
      (joined_same q _ _ _ _ p q' r s is_p is_q' is_r is_s)

  -- then the centre holds all
  pub holds_inside : IsSquare (2 ^ level) plane → HasDeadBorder (2 ^ (level - 1)) q plane → Holds (level - 1) (centred level plane)
  holds_inside is dead =
      let half : ℕ = 2 ^ (level - 1) in
      let a : Plane = cut q q q (cut half 0 0 plane) in let b : Plane = cut q 0 q (cut half half 0 plane) in
      let c : Plane = cut q q 0 (cut half 0 half plane) in let d : Plane = cut q 0 0 (cut half half half plane) in
      let sq_a = cut_within q q q (cut half 0 0 plane) in let sq_b = cut_within q 0 q (cut half half 0 plane) in
      let sq_c = cut_within q q 0 (cut half 0 half plane) in let sq_d = cut_within q 0 0 (cut half half half plane) in
      let in_nw = pieces 0 0 empty empty empty a dead.nw_nw dead.nw_ne dead.nw_sw (same_refl a) in
      let in_ne = pieces half 0 empty empty b empty dead.ne_nw dead.ne_ne (same_refl b) dead.ne_se in
      let in_sw = pieces 0 half empty c empty empty dead.sw_nw (same_refl c) dead.sw_sw dead.sw_se in
      let in_se = pieces half half d empty empty empty (same_refl d) dead.se_ne dead.se_sw dead.se_se in
      let Inner : ℕ → Type 0 = λ n. IsSquare n a → IsSquare n b → IsSquare n c → IsSquare n d →
      IsSame (cut half 0 0 plane) (joined n empty empty empty a) → IsSame (cut half half 0 plane) (joined n empty empty b empty) →
      IsSame (cut half 0 half plane) (joined n empty c empty empty) → IsSame (cut half half half plane) (joined n d empty empty empty) →
      IsSame (centred (level - 1) (joined n a b c d)) (centred level plane) in
      let from_inner : Inner (2 ^ (level - 2)) = λ sa sb sc sd ia ib ic id.
      inner_centred level plane (cut half 0 0 plane) (cut half half 0 plane) (cut half 0 half plane) (cut half half half plane) a b c d least is sa sb sc sd (same_refl _) (same_refl _) (same_refl _) (same_refl _) ia ib ic id in
      let inner : Inner q = subst Inner (sym is_q) from_inner in
      let whole : IsSquare half (joined q a b c d) = subst (λ n. IsSquare n (joined q a b c d)) (sym half_is) (joined_within q a b c d sq_a sq_b sq_c sq_d) in
      holds_same (level - 1) (centred (level - 1) (joined q a b c d)) (centred level plane) (inner sq_a sq_b sq_c sq_d in_nw in_ne in_sw in_se) (square_held (level - 1) (joined q a b c d) whole)
