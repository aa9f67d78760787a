-- A square's part, some generations on, is the same part of what the square becomes.
use Rattle.std.proofs.Common.{◌≡◌, ℕ, zero, suc, ◌+◌, ◌-◌, ◌*◌, ◌^◌, ◌≤◌, ◌<◌, min, pow_mono, ℤ, pos, ◌+ℤ◌, ◌-ℤ◌, Bool, true, subst, sym, ◌∙◌, ap, arith}
use Rattle.std.specs.Prelude.{◌&&◌}
use Rattle.std.proofs.lemmas.Int.{ints}
use Rattle.rule_text.specs.CountRule.{CountRule}
use Rattle.plane.specs.Laws.{IsNear, moved, NineParts}
use Rattle.plane.specs.Plane.{Plane, next, after}
use Rattle.plane.specs.Square.{IsSame, spans, cut, joined}
use Rattle.plane.proofs.Cones.{light_cone_lem, translation_lem}
use Rattle.plane.proofs.Cuts.{and_case, and_left, and_right, cut_cut, cut_same, joined_cuts, moved_to}
use Rattle.plane.proofs.Subsquares.{half_of}
use Rattle.plane.proofs.Same.{same_trans}

-- generations follow one another
pub after_sum : (rule : CountRule) (plane : Plane) (a b : ℕ) → after rule plane (a + b) ≡ after rule (after rule plane a) b
after_sum rule plane a zero = let e : a + 0 ≡ a = omega arith in ap (after rule plane) e
after_sum rule plane a (suc b) =
    let e : a + suc b ≡ suc (a + b) = omega arith in
    ap (after rule plane) e ∙ ap (next rule) (after_sum rule plane a b)

-- the same planes stay the same
pub after_same : (rule : CountRule) (plane other : Plane) (n : ℕ) → IsSame plane other → IsSame (after rule plane n) (after rule other n)
after_same rule plane other n same = record { same = λ x y. light_cone_lem rule plane other n x y (λ u v _ _. same.same u v) }

-- what is so near to a place of the inner part lies in the square
near_inside : (s small over n : ℕ) (x u : ℤ) → n ≤ over → (over + small) + n ≤ s → spans small x ≡ true → IsNear n (x +ℤ pos over) u → spans s u ≡ true
near_inside s small over n x u low high here near = grind (arith, ints)

inside_both : (a b c : Bool) → a ≡ true → b ≡ true → ((a && b) && c) ≡ c
inside_both a b c e f = ap (λ t. (t && b) && c) e ∙ ap (λ t. t && c) f

forth : (left : ℕ) (u : ℤ) → u +ℤ pos left ≡ u -ℤ (pos 0 -ℤ pos left)
forth left u = omega (arith, ints)

from_both : (left over : ℕ) (x : ℤ) → (x +ℤ pos over) -ℤ (pos 0 -ℤ pos left) ≡ x +ℤ pos (left + over)
from_both left over x = omega (arith, ints)

-- the inner part of a square after some generations, where the square reaches as far beyond it
pub inner_after : (rule : CountRule) (plane : Plane) (s left top small over down n : ℕ) → n ≤ over → n ≤ down → (over + small) + n ≤ s → (down + small) + n ≤ s →
    IsSame (cut small over down (after rule (cut s left top plane) n)) (cut small (left + over) (top + down) (after rule plane n))
inner_after rule plane s left top small over down n low_x low_y high_x high_y = record {
  same = λ x y. and_case (spans small x && spans small y) _ _ (λ here.
      light_cone_lem rule (cut s left top plane) (moved (pos 0 -ℤ pos left) (pos 0 -ℤ pos top) plane) n (x +ℤ pos over) (y +ℤ pos down)
      (λ u v near_u near_v.
      inside_both (spans s u) (spans s v) (plane (u +ℤ pos left) (v +ℤ pos top))
      (near_inside s small over n x u low_x high_x (and_left _ _ here) near_u) (near_inside s small down n y v low_y high_y (and_right _ _ here) near_v)
      ∙ ap (λ a. plane a (v +ℤ pos top)) (forth left u) ∙ ap (plane (u -ℤ (pos 0 -ℤ pos left))) (forth top v))
      ∙ translation_lem rule plane (pos 0 -ℤ pos left) (pos 0 -ℤ pos top) n (x +ℤ pos over) (y +ℤ pos down)
      ∙ ap (λ a. after rule plane n a ((y +ℤ pos down) -ℤ (pos 0 -ℤ pos top))) (from_both left over x)
      ∙ ap (after rule plane n (x +ℤ pos (left + over))) (from_both top down y));
}

-- by sides: half of a side, a quarter of it
module _ (rule : CountRule) (plane : Plane) (half quarter n : ℕ) (twice : half ≡ quarter + quarter) (soon : n ≤ quarter) where
  pub piece_after : (left top : ℕ) → IsSame (cut half quarter quarter (after rule (cut (half + half) left top plane) n)) (cut half (left + quarter) (top + quarter) (after rule plane n))
  piece_after left top = inner_after rule plane (half + half) left top half quarter quarter n soon soon (omega arith) (omega arith)

module _ (rule : CountRule) (plane : Plane) (half quarter n : ℕ) (twice : half ≡ quarter + quarter) (soon : n ≤ quarter) where
  -- four of them joined
  four_after : (left top right low : ℕ) → right ≡ left + half → low ≡ top + half →
      IsSame (joined half
      (cut half quarter quarter (after rule (cut (half + half) left top plane) n)) (cut half quarter quarter (after rule (cut (half + half) right top plane) n))
      (cut half quarter quarter (after rule (cut (half + half) left low plane) n)) (cut half quarter quarter (after rule (cut (half + half) right low plane) n)))
      (cut (half + half) (left + quarter) (top + quarter) (after rule plane n))
  four_after left top right low e_x e_y =
      joined_cuts half (left + quarter) (top + quarter) (after rule plane n) _ _ _ _
      (piece_after rule plane half quarter n twice soon left top)
      (moved_to half (right + quarter) _ (top + quarter) _ (after rule plane n) _ (omega arith) (omega arith) (piece_after rule plane half quarter n twice soon right top))
      (moved_to half (left + quarter) _ (low + quarter) _ (after rule plane n) _ (omega arith) (omega arith) (piece_after rule plane half quarter n twice soon left low))
      (moved_to half (right + quarter) _ (low + quarter) _ (after rule plane n) _ (omega arith) (omega arith) (piece_after rule plane half quarter n twice soon right low))

  -- a square of four futures
  abbrev four_pieces : ℕ → ℕ → Plane
  four_pieces row column = joined half
      (cut half quarter quarter (after rule (cut (half + half) (column * half) (row * half) plane) n)) (cut half quarter quarter (after rule (cut (half + half) ((column + 1) * half) (row * half) plane) n))
      (cut half quarter quarter (after rule (cut (half + half) (column * half) ((row + 1) * half) plane) n)) (cut half quarter quarter (after rule (cut (half + half) ((column + 1) * half) ((row + 1) * half) plane) n))

  pieces_00 : IsSame (four_pieces 0 0) (cut (half + half) quarter quarter (after rule plane n))
  pieces_00 = moved_to (half + half) (0 * half + quarter) quarter (0 * half + quarter) quarter (after rule plane n) _ (omega arith) (omega arith) (four_after (0 * half) (0 * half) (1 * half) (1 * half) (omega arith) (omega arith))

  pieces_01 : IsSame (four_pieces 0 1) (cut (half + half) (quarter + half) quarter (after rule plane n))
  pieces_01 = moved_to (half + half) (1 * half + quarter) (quarter + half) (0 * half + quarter) quarter (after rule plane n) _ (omega arith) (omega arith) (four_after (1 * half) (0 * half) (2 * half) (1 * half) (omega arith) (omega arith))

  pieces_10 : IsSame (four_pieces 1 0) (cut (half + half) quarter (quarter + half) (after rule plane n))
  pieces_10 = moved_to (half + half) (0 * half + quarter) quarter (1 * half + quarter) (quarter + half) (after rule plane n) _ (omega arith) (omega arith) (four_after (0 * half) (1 * half) (1 * half) (2 * half) (omega arith) (omega arith))

  pieces_11 : IsSame (four_pieces 1 1) (cut (half + half) (quarter + half) (quarter + half) (after rule plane n))
  pieces_11 = moved_to (half + half) (1 * half + quarter) (quarter + half) (1 * half + quarter) (quarter + half) (after rule plane n) _ (omega arith) (omega arith) (four_after (1 * half) (1 * half) (2 * half) (2 * half) (omega arith) (omega arith))

  -- their centres joined
  centres_of_four : IsSame (joined half
      (cut half quarter quarter (four_pieces 0 0)) (cut half quarter quarter (four_pieces 0 1))
      (cut half quarter quarter (four_pieces 1 0)) (cut half quarter quarter (four_pieces 1 1)))
      (cut (half + half) half half (after rule plane n))
  centres_of_four =
      moved_to (half + half) (quarter + quarter) half (quarter + quarter) half (after rule plane n) _ (sym twice) (sym twice)
      (joined_cuts half (quarter + quarter) (quarter + quarter) (after rule plane n) _ _ _ _
      (cut_cut half (half + half) quarter quarter quarter quarter (after rule plane n) _ (omega arith) (omega arith) pieces_00)
      (moved_to half ((quarter + half) + quarter) _ (quarter + quarter) _ (after rule plane n) _ (omega arith) (omega arith)
      (cut_cut half (half + half) (quarter + half) quarter quarter quarter (after rule plane n) _ (omega arith) (omega arith) pieces_01))
      (moved_to half (quarter + quarter) _ ((quarter + half) + quarter) _ (after rule plane n) _ (omega arith) (omega arith)
      (cut_cut half (half + half) quarter (quarter + half) quarter quarter (after rule plane n) _ (omega arith) (omega arith) pieces_10))
      (moved_to half ((quarter + half) + quarter) _ ((quarter + half) + quarter) _ (after rule plane n) _ (omega arith) (omega arith)
      (cut_cut half (half + half) (quarter + half) (quarter + half) quarter quarter (after rule plane n) _ (omega arith) (omega arith) pieces_11)))

  -- their futures joined
  futures_of_four : IsSame (joined half
      (cut half quarter quarter (after rule (four_pieces 0 0) n)) (cut half quarter quarter (after rule (four_pieces 0 1) n))
      (cut half quarter quarter (after rule (four_pieces 1 0) n)) (cut half quarter quarter (after rule (four_pieces 1 1) n)))
      (cut (half + half) half half (after rule plane (n + n)))
  futures_of_four =
      let later : Plane = after rule plane n in
      let once_more = λ (left top across below : ℕ) (square : Plane) (is : IsSame square (cut (half + half) left top later)) (e_x : left + quarter ≡ across) (e_y : top + quarter ≡ below).
      moved_to half (left + quarter) across (top + quarter) below (after rule later n) (cut half quarter quarter (after rule square n)) e_x e_y
      (same_trans (cut_same half quarter quarter (after rule square n) (after rule (cut (half + half) left top later) n) (after_same rule square (cut (half + half) left top later) n is))
      (piece_after rule later half quarter n twice soon left top)) in
      let whole : IsSame (joined half
      (cut half quarter quarter (after rule (four_pieces 0 0) n)) (cut half quarter quarter (after rule (four_pieces 0 1) n))
      (cut half quarter quarter (after rule (four_pieces 1 0) n)) (cut half quarter quarter (after rule (four_pieces 1 1) n)))
      (cut (half + half) half half (after rule later n)) =
      joined_cuts half half half (after rule later n) _ _ _ _
      (once_more quarter quarter half half (four_pieces 0 0) pieces_00 (sym twice) (sym twice))
      (once_more (quarter + half) quarter (half + half) half (four_pieces 0 1) pieces_01 (omega arith) (sym twice))
      (once_more quarter (quarter + half) half (half + half) (four_pieces 1 0) pieces_10 (sym twice) (omega arith))
      (once_more (quarter + half) (quarter + half) (half + half) (half + half) (four_pieces 1 1) pieces_11 (omega arith) (omega arith)) in
      subst (λ p. IsSame (joined half
      (cut half quarter quarter (after rule (four_pieces 0 0) n)) (cut half quarter quarter (after rule (four_pieces 0 1) n))
      (cut half quarter quarter (after rule (four_pieces 1 0) n)) (cut half quarter quarter (after rule (four_pieces 1 1) n)))
      (cut (half + half) half half p)) (sym (after_sum rule plane n n)) whole

-- the same by sides of any names
abbrev four_parts : CountRule → Plane → ℕ → ℕ → ℕ → ℕ → ℕ → ℕ → ℕ → Plane
four_parts rule plane whole half side quarter n row column = joined half
    (cut side quarter quarter (after rule (cut whole (column * half) (row * half) plane) n)) (cut side quarter quarter (after rule (cut whole ((column + 1) * half) (row * half) plane) n))
    (cut side quarter quarter (after rule (cut whole (column * half) ((row + 1) * half) plane) n)) (cut side quarter quarter (after rule (cut whole ((column + 1) * half) ((row + 1) * half) plane) n))

by_centres_sides : (rule : CountRule) (plane : Plane) (whole half side quarter n : ℕ) → half ≡ quarter + quarter → n ≤ quarter → whole ≡ half + half → side ≡ half →
    IsSame (joined half
    (cut side quarter quarter (four_parts rule plane whole half side quarter n 0 0)) (cut side quarter quarter (four_parts rule plane whole half side quarter n 0 1))
    (cut side quarter quarter (four_parts rule plane whole half side quarter n 1 0)) (cut side quarter quarter (four_parts rule plane whole half side quarter n 1 1)))
    (cut whole half half (after rule plane n))
by_centres_sides rule plane whole half side quarter n twice soon is_whole is_side = rw (is_whole, is_side) (centres_of_four rule plane half quarter n twice soon)

by_futures_sides : (rule : CountRule) (plane : Plane) (whole half side quarter n : ℕ) → half ≡ quarter + quarter → n ≤ quarter → whole ≡ half + half → side ≡ half →
    IsSame (joined half
    (cut side quarter quarter (after rule (four_parts rule plane whole half side quarter n 0 0) n)) (cut side quarter quarter (after rule (four_parts rule plane whole half side quarter n 0 1) n))
    (cut side quarter quarter (after rule (four_parts rule plane whole half side quarter n 1 0) n)) (cut side quarter quarter (after rule (four_parts rule plane whole half side quarter n 1 1) n)))
    (cut whole half half (after rule plane (n + n)))
by_futures_sides rule plane whole half side quarter n twice soon is_whole is_side = rw (is_whole, is_side) (futures_of_four rule plane half quarter n twice soon)

-- the time of a part's future
quarter_time : (exponent level : ℕ) → 2 ^ min exponent (level - 2) ≤ 2 ^ (level - 2)
quarter_time exponent level = pow_mono {i = min exponent (level - 2)} {j = level - 2} (omega arith)

part_side : (level : ℕ) → 3 ≤ level → 2 ^ ((level - 1) - 1) ≡ 2 ^ (level - 2)
part_side level h = let e : (level - 1) - 1 ≡ level - 2 = omega arith in ap (λ n. 2 ^ n) e

part_quarter : (level : ℕ) → 3 ≤ level → 2 ^ (level - 2) ≡ 2 ^ ((level - 1) - 2) + 2 ^ ((level - 1) - 2)
part_quarter level h = sym (part_side level h) ∙ half_of (level - 1) (omega arith)

-- twice the parts' time, where the exponent is large enough
twice_as_long : (exponent level : ℕ) → 3 ≤ level → level - 2 ≤ exponent → 2 ^ min exponent ((level - 1) - 2) + 2 ^ min exponent ((level - 1) - 2) ≡ 2 ^ min exponent (level - 2)
twice_as_long exponent level h long =
    let e : min exponent ((level - 1) - 2) ≡ (level - 1) - 2 = omega arith in
    let f : min exponent (level - 2) ≡ level - 2 = omega arith in
    ap (λ n. 2 ^ n + 2 ^ n) e ∙ sym (part_quarter level h) ∙ ap (λ n. 2 ^ n) (sym f)

as_long : (exponent level : ℕ) → 3 ≤ level → exponent < level - 2 → 2 ^ min exponent ((level - 1) - 2) ≡ 2 ^ min exponent (level - 2)
as_long exponent level h short = let e : min exponent ((level - 1) - 2) ≡ min exponent (level - 2) = omega arith in ap (λ n. 2 ^ n) e

later_by : (rule : CountRule) (plane part : Plane) (side left top m n : ℕ) → m ≡ n → IsSame part (cut side left top (after rule plane m)) → IsSame part (cut side left top (after rule plane n))
later_by rule plane part side left top m n e h = subst (λ k. IsSame part (cut side left top (after rule plane k))) e h

pub nine_parts_lem : NineParts
nine_parts_lem rule exponent level plane least = record {
  by_futures = λ long.
      later_by rule plane _ (2 ^ (level - 1)) (2 ^ (level - 2)) (2 ^ (level - 2)) _ _ (twice_as_long exponent level least long)
      (by_futures_sides rule plane (2 ^ (level - 1)) (2 ^ (level - 2)) (2 ^ ((level - 1) - 1)) (2 ^ ((level - 1) - 2)) (2 ^ min exponent ((level - 1) - 2))
      (part_quarter level least) (quarter_time exponent (level - 1)) (half_of level (omega arith)) (part_side level least));
  by_centres = λ short.
      later_by rule plane _ (2 ^ (level - 1)) (2 ^ (level - 2)) (2 ^ (level - 2)) _ _ (as_long exponent level least short)
      (by_centres_sides rule plane (2 ^ (level - 1)) (2 ^ (level - 2)) (2 ^ ((level - 1) - 1)) (2 ^ ((level - 1) - 2)) (2 ^ min exponent ((level - 1) - 2))
      (part_quarter level least) (quarter_time exponent (level - 1)) (half_of level (omega arith)) (part_side level least));
}
