-- The nine overlapping squares of a square, made of its quarters and of their quarters.
use Rattle.std.proofs.Common.{◌≡◌, ℕ, suc, ◌+◌, ◌-◌, ◌*◌, ◌^◌, ◌≤◌, sym, ◌∙◌, ap, subst, arith}
use Rattle.plane.specs.Plane.{Plane}
use Rattle.plane.specs.Square.{IsSame, cut, joined, subsquare}
use Rattle.plane.proofs.Cuts.{cut_cut, joined_cuts, moved_to}
use Rattle.plane.proofs.Same.{same_trans}
use Rattle.std.proofs.Math.Nat.{pow-suc}

power_twice : (n : ℕ) → 2 ^ suc n ≡ 2 ^ n + 2 ^ n
power_twice n = omega (arith, pow-suc 2 n)

-- half a side is two quarters of it
pub half_of : (level : ℕ) → 2 ≤ level → 2 ^ (level - 1) ≡ 2 ^ (level - 2) + 2 ^ (level - 2)
half_of level h =
    let e : level - 1 ≡ suc (level - 2) = omega arith in
    ap (λ n. 2 ^ n) e ∙ power_twice (level - 2)

-- a part of a part, where it begins in the whole
pub part_of : (half quarter left top over down across below : ℕ) (plane part piece : Plane) → over + quarter ≤ half → down + quarter ≤ half →
    left + over ≡ across → top + down ≡ below → IsSame part (cut half left top plane) → IsSame piece (cut quarter over down part) → IsSame piece (cut quarter across below plane)
part_of half quarter left top over down across below plane part piece fits_x fits_y e_x e_y is_part is_piece =
    moved_to quarter (left + over) across (top + down) below plane piece e_x e_y
    (same_trans is_piece (cut_cut quarter half left top over down plane part fits_x fits_y is_part))

module _ (level q : ℕ) (plane : Plane) (least : 2 ≤ level) (is_q : q ≡ 2 ^ (level - 2)) where
  whole_half : 2 ^ (level - 1) ≡ q + q
  whole_half = half_of level least ∙ ap (λ n. n + n) (sym is_q)

  -- four squares of a quarter of the side, joined, are one of the nine
  joined_subsquare : (row column : ℕ) (a b c d : Plane) →
      IsSame a (cut q (column * q) (row * q) plane) → IsSame b (cut q (column * q + q) (row * q) plane) →
      IsSame c (cut q (column * q) (row * q + q) plane) → IsSame d (cut q (column * q + q) (row * q + q) plane) →
      IsSame (joined q a b c d) (subsquare level row column plane)
  joined_subsquare row column a b c d is_a is_b is_c is_d =
      let P : ℕ → ℕ → Type 0 = λ half n. IsSame (joined q a b c d) (cut half (column * n) (row * n) plane) in
      let one : P (q + q) q = joined_cuts q (column * q) (row * q) plane a b c d is_a is_b is_c is_d in
      let two : P (2 ^ (level - 1)) q = subst (λ half. P half q) (sym whole_half) one in
      subst (λ n. P (2 ^ (level - 1)) n) is_q two

  -- a quarter is one of the nine
  quarter_subsquare : (row column : ℕ) (quarter : Plane) (left top : ℕ) → left ≡ column * q → top ≡ row * q → IsSame quarter (cut (2 ^ (level - 1)) left top plane) → IsSame quarter (subsquare level row column plane)
  quarter_subsquare row column quarter left top e_x e_y is =
      moved_to (2 ^ (level - 1)) left _ top _ plane quarter (e_x ∙ ap (λ n. column * n) is_q) (e_y ∙ ap (λ n. row * n) is_q) is

  pub nw_subsquare : (nw : Plane) → IsSame nw (cut (2 ^ (level - 1)) 0 0 plane) → IsSame nw (subsquare level 0 0 plane)
  nw_subsquare nw is = quarter_subsquare 0 0 nw 0 0 (omega arith) (omega arith) is

  pub ne_subsquare : (ne : Plane) → IsSame ne (cut (2 ^ (level - 1)) (2 ^ (level - 1)) 0 plane) → IsSame ne (subsquare level 0 2 plane)
  ne_subsquare ne is = quarter_subsquare 0 2 ne (2 ^ (level - 1)) 0 (omega (arith, whole_half)) (omega arith) is

  pub sw_subsquare : (sw : Plane) → IsSame sw (cut (2 ^ (level - 1)) 0 (2 ^ (level - 1)) plane) → IsSame sw (subsquare level 2 0 plane)
  sw_subsquare sw is = quarter_subsquare 2 0 sw 0 (2 ^ (level - 1)) (omega arith) (omega (arith, whole_half)) is

  pub se_subsquare : (se : Plane) → IsSame se (cut (2 ^ (level - 1)) (2 ^ (level - 1)) (2 ^ (level - 1)) plane) → IsSame se (subsquare level 2 2 plane)
  se_subsquare se is = quarter_subsquare 2 2 se (2 ^ (level - 1)) (2 ^ (level - 1)) (omega (arith, whole_half)) (omega (arith, whole_half)) is

  module _ (nw ne sw se a b c d : Plane) where
    -- between the upper quarters: the right half of the one, the left half of the other
    pub upper_subsquare : IsSame nw (cut (2 ^ (level - 1)) 0 0 plane) → IsSame ne (cut (2 ^ (level - 1)) (2 ^ (level - 1)) 0 plane) →
        IsSame a (cut q q 0 nw) → IsSame b (cut q 0 0 ne) → IsSame c (cut q q q nw) → IsSame d (cut q 0 q ne) →
        IsSame (joined q a b c d) (subsquare level 0 1 plane)
    upper_subsquare is_nw is_ne is_a is_b is_c is_d =
        let half = whole_half in
        joined_subsquare 0 1 a b c d
        (part_of _ q 0 0 q 0 (1 * q) (0 * q) plane nw a (omega arith) (omega arith) (omega arith) (omega arith) is_nw is_a)
        (part_of _ q (2 ^ (level - 1)) 0 0 0 (1 * q + q) (0 * q) plane ne b (omega arith) (omega arith) (omega arith) (omega arith) is_ne is_b)
        (part_of _ q 0 0 q q (1 * q) (0 * q + q) plane nw c (omega arith) (omega arith) (omega arith) (omega arith) is_nw is_c)
        (part_of _ q (2 ^ (level - 1)) 0 0 q (1 * q + q) (0 * q + q) plane ne d (omega arith) (omega arith) (omega arith) (omega arith) is_ne is_d)

    -- between the left quarters
    pub left_subsquare : IsSame nw (cut (2 ^ (level - 1)) 0 0 plane) → IsSame sw (cut (2 ^ (level - 1)) 0 (2 ^ (level - 1)) plane) →
        IsSame a (cut q 0 q nw) → IsSame b (cut q q q nw) → IsSame c (cut q 0 0 sw) → IsSame d (cut q q 0 sw) →
        IsSame (joined q a b c d) (subsquare level 1 0 plane)
    left_subsquare is_nw is_sw is_a is_b is_c is_d =
        let half = whole_half in
        joined_subsquare 1 0 a b c d
        (part_of _ q 0 0 0 q (0 * q) (1 * q) plane nw a (omega arith) (omega arith) (omega arith) (omega arith) is_nw is_a)
        (part_of _ q 0 0 q q (0 * q + q) (1 * q) plane nw b (omega arith) (omega arith) (omega arith) (omega arith) is_nw is_b)
        (part_of _ q 0 (2 ^ (level - 1)) 0 0 (0 * q) (1 * q + q) plane sw c (omega arith) (omega arith) (omega arith) (omega arith) is_sw is_c)
        (part_of _ q 0 (2 ^ (level - 1)) q 0 (0 * q + q) (1 * q + q) plane sw d (omega arith) (omega arith) (omega arith) (omega arith) is_sw is_d)

    -- between all four: the centre
    pub middle_subsquare : IsSame nw (cut (2 ^ (level - 1)) 0 0 plane) → IsSame ne (cut (2 ^ (level - 1)) (2 ^ (level - 1)) 0 plane) →
        IsSame sw (cut (2 ^ (level - 1)) 0 (2 ^ (level - 1)) plane) → IsSame se (cut (2 ^ (level - 1)) (2 ^ (level - 1)) (2 ^ (level - 1)) plane) →
        IsSame a (cut q q q nw) → IsSame b (cut q 0 q ne) → IsSame c (cut q q 0 sw) → IsSame d (cut q 0 0 se) →
        IsSame (joined q a b c d) (subsquare level 1 1 plane)
    middle_subsquare is_nw is_ne is_sw is_se is_a is_b is_c is_d =
        let half = whole_half in
        joined_subsquare 1 1 a b c d
        (part_of _ q 0 0 q q (1 * q) (1 * q) plane nw a (omega arith) (omega arith) (omega arith) (omega arith) is_nw is_a)
        (part_of _ q (2 ^ (level - 1)) 0 0 q (1 * q + q) (1 * q) plane ne b (omega arith) (omega arith) (omega arith) (omega arith) is_ne is_b)
        (part_of _ q 0 (2 ^ (level - 1)) q 0 (1 * q) (1 * q + q) plane sw c (omega arith) (omega arith) (omega arith) (omega arith) is_sw is_c)
        (part_of _ q (2 ^ (level - 1)) (2 ^ (level - 1)) 0 0 (1 * q + q) (1 * q + q) plane se d (omega arith) (omega arith) (omega arith) (omega arith) is_se is_d)

    -- between the right quarters
    pub right_subsquare : IsSame ne (cut (2 ^ (level - 1)) (2 ^ (level - 1)) 0 plane) → IsSame se (cut (2 ^ (level - 1)) (2 ^ (level - 1)) (2 ^ (level - 1)) plane) →
        IsSame a (cut q 0 q ne) → IsSame b (cut q q q ne) → IsSame c (cut q 0 0 se) → IsSame d (cut q q 0 se) →
        IsSame (joined q a b c d) (subsquare level 1 2 plane)
    right_subsquare is_ne is_se is_a is_b is_c is_d =
        let half = whole_half in
        joined_subsquare 1 2 a b c d
        (part_of _ q (2 ^ (level - 1)) 0 0 q (2 * q) (1 * q) plane ne a (omega arith) (omega arith) (omega arith) (omega arith) is_ne is_a)
        (part_of _ q (2 ^ (level - 1)) 0 q q (2 * q + q) (1 * q) plane ne b (omega arith) (omega arith) (omega arith) (omega arith) is_ne is_b)
        (part_of _ q (2 ^ (level - 1)) (2 ^ (level - 1)) 0 0 (2 * q) (1 * q + q) plane se c (omega arith) (omega arith) (omega arith) (omega arith) is_se is_c)
        (part_of _ q (2 ^ (level - 1)) (2 ^ (level - 1)) q 0 (2 * q + q) (1 * q + q) plane se d (omega arith) (omega arith) (omega arith) (omega arith) is_se is_d)

    -- between the lower quarters
    pub lower_subsquare : IsSame sw (cut (2 ^ (level - 1)) 0 (2 ^ (level - 1)) plane) → IsSame se (cut (2 ^ (level - 1)) (2 ^ (level - 1)) (2 ^ (level - 1)) plane) →
        IsSame a (cut q q 0 sw) → IsSame b (cut q 0 0 se) → IsSame c (cut q q q sw) → IsSame d (cut q 0 q se) →
        IsSame (joined q a b c d) (subsquare level 2 1 plane)
    lower_subsquare is_sw is_se is_a is_b is_c is_d =
        let half = whole_half in
        joined_subsquare 2 1 a b c d
        (part_of _ q 0 (2 ^ (level - 1)) q 0 (1 * q) (2 * q) plane sw a (omega arith) (omega arith) (omega arith) (omega arith) is_sw is_a)
        (part_of _ q (2 ^ (level - 1)) (2 ^ (level - 1)) 0 0 (1 * q + q) (2 * q) plane se b (omega arith) (omega arith) (omega arith) (omega arith) is_se is_b)
        (part_of _ q 0 (2 ^ (level - 1)) q q (1 * q) (2 * q + q) plane sw c (omega arith) (omega arith) (omega arith) (omega arith) is_sw is_c)
        (part_of _ q (2 ^ (level - 1)) (2 ^ (level - 1)) 0 q (1 * q + q) (2 * q + q) plane se d (omega arith) (omega arith) (omega arith) (omega arith) is_se is_d)
