-- A square put in the middle of one of twice its side, and taken out of it.
use Rattle.std.proofs.Common.{◌≡◌, ℕ, ◌+◌, ◌-◌, ◌^◌, ◌≤◌, ℤ, pos, ◌+ℤ◌, ◌-ℤ◌, Bool, true, false, subst, sym, ◌∙◌, ap, arith, refl}
use Rattle.std.specs.Prelude.{◌&&◌}
use Rattle.std.proofs.lemmas.Int.{ints}
use Rattle.plane.specs.Centred.{centred, Holds}
use Rattle.plane.specs.Plane.{Plane}
use Rattle.plane.specs.Square.{IsSame, IsSquare, empty, spans, cut, joined}
use Rattle.plane.specs.Laws.{moved}
use Rattle.plane.proofs.Cuts.{cut_case, joined_cuts, joined_nw, joined_ne, joined_sw, joined_se, joined_within, moved_to}
use Rattle.plane.proofs.Subsquares.{half_of, part_of}
use Rattle.plane.proofs.Paddings.{both_outside, twice_half}
use Rattle.plane.proofs.Same.{same_trans, same_sym, plane_equal}

-- whether the columns of a cut lie outside a square that was moved
IsBeside : ℕ → ℕ → Type 0
IsBeside half from = (z : ℤ) → spans half z ≡ true → spans (half + half) ((z +ℤ pos from) -ℤ pos half) ≡ false

beside_low : (half from : ℕ) → from ≡ 0 → IsBeside half from
unfolding IsBeside
beside_low half from low z e = grind (arith, ints)

beside_high : (half from : ℕ) → from ≡ (half + half) + half → IsBeside half from
unfolding IsBeside
beside_high half from high z e = grind (arith, ints)

shift : (half from part : ℕ) (z : ℤ) → from ≡ half + part → z +ℤ pos part ≡ (z +ℤ pos from) -ℤ pos half
shift half from part z e = omega (arith, ints)

nowhere : (z : ℤ) → z +ℤ pos 0 ≡ z
nowhere z = omega (arith, ints)

in_larger : (half : ℕ) (z : ℤ) → spans (half + half) (z -ℤ pos half) ≡ true → spans ((half + half) + (half + half)) z ≡ true
in_larger half z e = grind (arith, ints)

dead_and : (a b c : Bool) → (a ≡ true → b ≡ true → c ≡ false) → false ≡ ((a && b) && c)
dead_and true true c h = sym (h refl refl)
dead_and true false c h = refl
dead_and false b c h = refl

and_dead_left : (a b : Bool) → a ≡ false → (a && b) ≡ false
and_dead_left a b e = ap (λ t. t && b) e

and_dead_right : (a b : Bool) → b ≡ false → (a && b) ≡ false
and_dead_right true b e = e
and_dead_right false b e = refl

module _ (half : ℕ) (plane : Plane) (is : IsSquare (half + half) plane) where
  abbrev shifted : Plane
  shifted = moved (pos half) (pos half) plane

  columns_beside : (left top : ℕ) → IsBeside half left → IsSame empty (cut half left top shifted)
  unfolding IsBeside
  columns_beside left top beside = record {
    same = λ x y. dead_and (spans half x) (spans half y) _ (λ ex ey.
        is.dead ((x +ℤ pos left) -ℤ pos half) ((y +ℤ pos top) -ℤ pos half) (and_dead_left _ (spans (half + half) ((y +ℤ pos top) -ℤ pos half)) (beside x ex)));
  }

  rows_beside : (left top : ℕ) → IsBeside half top → IsSame empty (cut half left top shifted)
  unfolding IsBeside
  rows_beside left top beside = record {
    same = λ x y. dead_and (spans half x) (spans half y) _ (λ ex ey.
        is.dead ((x +ℤ pos left) -ℤ pos half) ((y +ℤ pos top) -ℤ pos half) (and_dead_right (spans (half + half) ((x +ℤ pos left) -ℤ pos half)) _ (beside y ey)));
  }

  inside : (part : Plane) (over down left top : ℕ) → left ≡ half + over → top ≡ half + down → IsSame part (cut half over down plane) → IsSame part (cut half left top shifted)
  inside part over down left top e_x e_y here = same_trans here (record {
    same = λ x y.
        ap (λ u. (spans half x && spans half y) && plane u (y +ℤ pos down)) (shift half left over x e_x)
        ∙ ap (λ v. (spans half x && spans half y) && plane ((x +ℤ pos left) -ℤ pos half) v) (shift half top down y e_y);
  })

  whole_shifted : IsSame (cut ((half + half) + (half + half)) 0 0 shifted) shifted
  whole_shifted = record {
    same = λ x y. sym (cut_case (spans ((half + half) + (half + half)) x && spans ((half + half) + (half + half)) y) (shifted x y) (shifted (x +ℤ pos 0) (y +ℤ pos 0))
        (λ e. is.dead (x -ℤ pos half) (y -ℤ pos half) (both_outside (spans ((half + half) + (half + half)) x) (spans ((half + half) + (half + half)) y) (spans (half + half) (x -ℤ pos half)) (spans (half + half) (y -ℤ pos half)) (in_larger half x) (in_larger half y) e))
        (λ _. sym (ap (λ u. shifted u (y +ℤ pos 0)) (nowhere x) ∙ ap (shifted x) (nowhere y))));
  }

  module _ (nw ne sw se : Plane) (is_nw : IsSame nw (cut half 0 0 plane)) (is_ne : IsSame ne (cut half half 0 plane)) (is_sw : IsSame sw (cut half 0 half plane)) (is_se : IsSame se (cut half half half plane)) where
    -- the square's quarters in the inner corners of four squares of its side
    abbrev pub surrounded : Plane
    surrounded = joined (half + half) (joined half empty empty empty nw) (joined half empty empty ne empty) (joined half empty sw empty empty) (joined half se empty empty empty)

    surrounded_shifted : IsSame surrounded shifted
    surrounded_shifted =
        let two : ℕ = half + half in
        same_trans (joined_cuts two 0 0 shifted _ _ _ _
        (joined_cuts half 0 0 shifted empty empty empty nw
        (columns_beside 0 0 (beside_low half 0 refl)) (rows_beside (0 + half) 0 (beside_low half 0 refl)) (columns_beside 0 (0 + half) (beside_low half 0 refl))
        (inside nw 0 0 (0 + half) (0 + half) (omega arith) (omega arith) is_nw))
        (joined_cuts half (0 + two) 0 shifted empty empty ne empty
        (rows_beside (0 + two) 0 (beside_low half 0 refl)) (rows_beside ((0 + two) + half) 0 (beside_low half 0 refl))
        (inside ne half 0 (0 + two) (0 + half) (omega arith) (omega arith) is_ne) (columns_beside ((0 + two) + half) (0 + half) (beside_high half ((0 + two) + half) (omega arith))))
        (joined_cuts half 0 (0 + two) shifted empty sw empty empty
        (columns_beside 0 (0 + two) (beside_low half 0 refl)) (inside sw 0 half (0 + half) (0 + two) (omega arith) (omega arith) is_sw)
        (columns_beside 0 ((0 + two) + half) (beside_low half 0 refl)) (rows_beside (0 + half) ((0 + two) + half) (beside_high half ((0 + two) + half) (omega arith))))
        (joined_cuts half (0 + two) (0 + two) shifted se empty empty empty
        (inside se half half (0 + two) (0 + two) (omega arith) (omega arith) is_se) (columns_beside ((0 + two) + half) (0 + two) (beside_high half ((0 + two) + half) (omega arith)))
        (rows_beside (0 + two) ((0 + two) + half) (beside_high half ((0 + two) + half) (omega arith))) (rows_beside ((0 + two) + half) ((0 + two) + half) (beside_high half ((0 + two) + half) (omega arith)))))
        whole_shifted

shift_to_centre : (half whole : ℕ) (z : ℤ) → whole ≡ half + half → (z +ℤ pos whole) -ℤ pos half ≡ z +ℤ pos half
shift_to_centre half whole z e = omega (arith, ints)

-- one level up, around (0,0): the square's quarters go to the inner corners, and the cells stay the
-- same
pub surrounded_centred : (level : ℕ) (plane nw ne sw se : Plane) → 1 ≤ level → IsSquare (2 ^ level) plane →
    IsSame nw (cut (2 ^ (level - 1)) 0 0 plane) → IsSame ne (cut (2 ^ (level - 1)) (2 ^ (level - 1)) 0 plane) →
    IsSame sw (cut (2 ^ (level - 1)) 0 (2 ^ (level - 1)) plane) → IsSame se (cut (2 ^ (level - 1)) (2 ^ (level - 1)) (2 ^ (level - 1)) plane) →
    IsSame (centred (level + 1) (joined (2 ^ level) (joined (2 ^ (level - 1)) empty empty empty nw) (joined (2 ^ (level - 1)) empty empty ne empty)
    (joined (2 ^ (level - 1)) empty sw empty empty) (joined (2 ^ (level - 1)) se empty empty empty))) (centred level plane)
surrounded_centred level plane nw ne sw se least is is_nw is_ne is_sw is_se =
    let half : ℕ = 2 ^ (level - 1) in
    let twice : 2 ^ level ≡ half + half = twice_half level least in
    let level_is : (level + 1) - 1 ≡ level = omega arith in
    let square : IsSquare (half + half) plane = subst (λ n. IsSquare n plane) twice is in
    let P : ℕ → Type 0 = λ n. IsSame (joined n (joined half empty empty empty nw) (joined half empty empty ne empty) (joined half empty sw empty empty) (joined half se empty empty empty)) (moved (pos half) (pos half) plane) in
    let shifted_is : P (2 ^ level) = subst P (sym twice) (surrounded_shifted half plane square nw ne sw se is_nw is_ne is_sw is_se) in
    let whole : 2 ^ ((level + 1) - 1) ≡ half + half = ap (λ n. 2 ^ n) level_is ∙ twice in
    record {
      same = λ x y.
          shifted_is.same (x +ℤ pos (2 ^ ((level + 1) - 1))) (y +ℤ pos (2 ^ ((level + 1) - 1)))
          ∙ ap (λ u. plane u ((y +ℤ pos (2 ^ ((level + 1) - 1))) -ℤ pos half)) (shift_to_centre half (2 ^ ((level + 1) - 1)) x whole)
          ∙ ap (plane (x +ℤ pos half)) (shift_to_centre half (2 ^ ((level + 1) - 1)) y whole);
    }

-- a square is its quarters joined
pub whole_joined : (half : ℕ) (plane nw ne sw se : Plane) → IsSquare (half + half) plane →
    IsSame nw (cut half 0 0 plane) → IsSame ne (cut half half 0 plane) → IsSame sw (cut half 0 half plane) → IsSame se (cut half half half plane) →
    IsSame (joined half nw ne sw se) plane
whole_joined half plane nw ne sw se is is_nw is_ne is_sw is_se =
    same_trans (joined_cuts half 0 0 plane nw ne sw se is_nw
    (moved_to half half (0 + half) 0 0 plane ne (omega arith) refl is_ne) (moved_to half 0 0 half (0 + half) plane sw refl (omega arith) is_sw)
    (moved_to half half (0 + half) half (0 + half) plane se (omega arith) (omega arith) is_se))
    (record {
      same = λ x y. sym (cut_case (spans (half + half) x && spans (half + half) y) (plane x y) (plane (x +ℤ pos 0) (y +ℤ pos 0)) (is.dead x y)
          (λ _. sym (ap (λ u. plane u (y +ℤ pos 0)) (nowhere x) ∙ ap (plane x) (nowhere y))));
    })

-- one level down, around (0,0): the inner corners of the quarters, where all else is empty
pub inner_centred : (level : ℕ) (plane nw ne sw se a b c d : Plane) → 2 ≤ level → IsSquare (2 ^ level) plane →
    IsSquare (2 ^ (level - 2)) a → IsSquare (2 ^ (level - 2)) b → IsSquare (2 ^ (level - 2)) c → IsSquare (2 ^ (level - 2)) d →
    IsSame nw (cut (2 ^ (level - 1)) 0 0 plane) → IsSame ne (cut (2 ^ (level - 1)) (2 ^ (level - 1)) 0 plane) →
    IsSame sw (cut (2 ^ (level - 1)) 0 (2 ^ (level - 1)) plane) → IsSame se (cut (2 ^ (level - 1)) (2 ^ (level - 1)) (2 ^ (level - 1)) plane) →
    IsSame nw (joined (2 ^ (level - 2)) empty empty empty a) → IsSame ne (joined (2 ^ (level - 2)) empty empty b empty) →
    IsSame sw (joined (2 ^ (level - 2)) empty c empty empty) → IsSame se (joined (2 ^ (level - 2)) d empty empty empty) →
    IsSame (centred (level - 1) (joined (2 ^ (level - 2)) a b c d)) (centred level plane)
inner_centred level plane nw ne sw se a b c d least is sq_a sq_b sq_c sq_d is_nw is_ne is_sw is_se in_nw in_ne in_sw in_se =
    let quarter : ℕ = 2 ^ (level - 2) in
    let inner : Plane = joined quarter a b c d in
    let e : (level - 1) - 1 ≡ level - 2 = omega arith in
    let f : (level - 1) + 1 ≡ level = omega arith in
    let half_is : 2 ^ (level - 1) ≡ quarter + quarter = half_of level least in
    let square : IsSquare (2 ^ (level - 1)) inner = subst (λ n. IsSquare n inner) (sym half_is) (joined_within quarter a b c d sq_a sq_b sq_c sq_d) in
    let Grown : ℕ → Plane → Type 0 = λ n whole. IsSame (centred n whole) (centred (level - 1) inner) in
    let Surrounds : ℕ → Type 0 = λ q.
    IsSame a (cut q 0 0 inner) → IsSame b (cut q q 0 inner) → IsSame c (cut q 0 q inner) → IsSame d (cut q q q inner) →
    Grown ((level - 1) + 1) (joined (2 ^ (level - 1)) (joined q empty empty empty a) (joined q empty empty b empty) (joined q empty c empty empty) (joined q d empty empty empty)) in
    let grown : Surrounds quarter = subst Surrounds (ap (λ n. 2 ^ n) e) (surrounded_centred (level - 1) inner a b c d (omega arith) square) in
    let whole = grown (joined_nw quarter a b c d sq_a sq_b sq_c sq_d) (joined_ne quarter a b c d sq_a sq_b sq_c sq_d) (joined_sw quarter a b c d sq_a sq_b sq_c sq_d) (joined_se quarter a b c d sq_a sq_b sq_c sq_d) in
    let parts : IsSame (joined (2 ^ (level - 1)) (joined quarter empty empty empty a) (joined quarter empty empty b empty) (joined quarter empty c empty empty) (joined quarter d empty empty empty)) plane =
    whole_joined (2 ^ (level - 1)) plane _ _ _ _ (subst (λ n. IsSquare n plane) (twice_half level (omega arith)) is)
    (same_trans (same_sym in_nw) is_nw) (same_trans (same_sym in_ne) is_ne) (same_trans (same_sym in_sw) is_sw) (same_trans (same_sym in_se) is_se) in
    let at_level : Grown level (joined (2 ^ (level - 1)) (joined quarter empty empty empty a) (joined quarter empty empty b empty) (joined quarter empty c empty empty) (joined quarter d empty empty empty)) =
    subst (λ n. Grown n (joined (2 ^ (level - 1)) (joined quarter empty empty empty a) (joined quarter empty empty b empty) (joined quarter empty c empty empty) (joined quarter d empty empty empty))) f whole in
    same_sym (subst (Grown level) (plane_equal _ _ parts) at_level)

back_to_centre : (half quarter : ℕ) (z : ℤ) → half ≡ quarter + quarter → (z -ℤ pos half) +ℤ pos quarter ≡ z -ℤ pos quarter
back_to_centre half quarter z e = omega (arith, ints)

there_and_back : (half : ℕ) (z : ℤ) → z ≡ (z -ℤ pos half) +ℤ pos half
there_and_back half z = omega (arith, ints)

-- what lies beside the centre is dead, where the centre holds all
held_dead : (level : ℕ) (plane : Plane) → 2 ≤ level → Holds (level - 1) (centred level plane) → (x y : ℤ) →
    (spans (2 ^ (level - 1)) (x -ℤ pos (2 ^ (level - 2))) && spans (2 ^ (level - 1)) (y -ℤ pos (2 ^ (level - 2)))) ≡ false → plane x y ≡ false
held_dead level plane least is x y out =
    let half : ℕ = 2 ^ (level - 1) in
    let e : (level - 1) - 1 ≡ level - 2 = omega arith in
    let half_is : half ≡ 2 ^ ((level - 1) - 1) + 2 ^ ((level - 1) - 1) = half_of level least ∙ ap (λ n. 2 ^ n + 2 ^ n) (sym e) in
    let place = λ (z : ℤ). back_to_centre half (2 ^ ((level - 1) - 1)) z half_is ∙ ap (λ n. z -ℤ pos (2 ^ n)) e in
    ap (λ u. plane u y) (there_and_back half x) ∙ ap (plane ((x -ℤ pos half) +ℤ pos half)) (there_and_back half y)
    ∙ is.dead (x -ℤ pos half) (y -ℤ pos half)
    (ap (λ u. spans half u && spans half ((y -ℤ pos half) +ℤ pos (2 ^ ((level - 1) - 1)))) (place x) ∙ ap (λ v. spans half (x -ℤ pos (2 ^ (level - 2))) && spans half v) (place y) ∙ out)

-- a piece at the border, where the centre holds all
border_columns : (level : ℕ) (plane : Plane) → 2 ≤ level → Holds (level - 1) (centred level plane) → (left top : ℕ) → IsBeside (2 ^ (level - 2)) left → IsSame (cut (2 ^ (level - 2)) left top plane) empty
unfolding IsBeside
border_columns level plane least is left top beside = record {
  same = λ x y. sym (dead_and (spans (2 ^ (level - 2)) x) (spans (2 ^ (level - 2)) y) _ (λ ex ey.
      held_dead level plane least is (x +ℤ pos left) (y +ℤ pos top)
      (and_dead_left _ _ (ap (λ n. spans n ((x +ℤ pos left) -ℤ pos (2 ^ (level - 2)))) (half_of level least) ∙ beside x ex))));
}

border_rows : (level : ℕ) (plane : Plane) → 2 ≤ level → Holds (level - 1) (centred level plane) → (left top : ℕ) → IsBeside (2 ^ (level - 2)) top → IsSame (cut (2 ^ (level - 2)) left top plane) empty
unfolding IsBeside
border_rows level plane least is left top beside = record {
  same = λ x y. sym (dead_and (spans (2 ^ (level - 2)) x) (spans (2 ^ (level - 2)) y) _ (λ ex ey.
      held_dead level plane least is (x +ℤ pos left) (y +ℤ pos top)
      (and_dead_right _ _ (ap (λ n. spans n ((y +ℤ pos top) -ℤ pos (2 ^ (level - 2)))) (half_of level least) ∙ beside y ey))));
}

-- where a piece of a quarter begins, in quarters of the side: at the border
pub data Border (quarter across down : ℕ) : Type 0 where
  at_left : across ≡ 0 → Border quarter across down
  at_right : across ≡ (quarter + quarter) + quarter → Border quarter across down
  at_top : down ≡ 0 → Border quarter across down
  at_bottom : down ≡ (quarter + quarter) + quarter → Border quarter across down

-- a piece of a quarter, at the border of the whole
module _ (level q : ℕ) (plane : Plane) (least : 2 ≤ level) (is_q : q ≡ 2 ^ (level - 2)) (is : Holds (level - 1) (centred level plane)) where
  border_cut : (across down : ℕ) → Border q across down → IsSame (cut q across down plane) empty
  border_cut across down (at_left e) = let P : ℕ → Type 0 = λ n. IsSame (cut n across down plane) empty in subst P (sym is_q) (border_columns level plane least is across down (beside_low _ across e))
  border_cut across down (at_right e) = let P : ℕ → Type 0 = λ n. IsSame (cut n across down plane) empty in subst P (sym is_q) (border_columns level plane least is across down (beside_high _ across (e ∙ ap (λ n. (n + n) + n) is_q)))
  border_cut across down (at_top e) = let P : ℕ → Type 0 = λ n. IsSame (cut n across down plane) empty in subst P (sym is_q) (border_rows level plane least is across down (beside_low _ down e))
  border_cut across down (at_bottom e) = let P : ℕ → Type 0 = λ n. IsSame (cut n across down plane) empty in subst P (sym is_q) (border_rows level plane least is across down (beside_high _ down (e ∙ ap (λ n. (n + n) + n) is_q)))

  pub border_piece : (left top over down : ℕ) (quarter piece : Plane) → over + q ≤ 2 ^ (level - 1) → down + q ≤ 2 ^ (level - 1) → Border q (left + over) (top + down) →
      IsSame quarter (cut (2 ^ (level - 1)) left top plane) → IsSame piece (cut q over down quarter) → IsSame piece empty
  border_piece left top over down quarter piece fits_x fits_y border is_quarter is_piece =
      same_trans (part_of (2 ^ (level - 1)) q left top over down (left + over) (top + down) plane quarter piece fits_x fits_y refl refl is_quarter is_piece) (border_cut (left + over) (top + down) border)
