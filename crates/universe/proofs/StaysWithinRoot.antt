-- A run that stays in the range is held by the square of level 63 around (0,0), generation by
-- generation.
use Rattle.std.proofs.Common.{◌≡◌, ℕ, ◌^◌, ◌<◌, ◌≤◌, ℤ, pos, ◌+ℤ◌, ◌-ℤ◌, true, false, List, [], ◌∷◌, refl, sym, ◌∙◌, arith}
use Rattle.std.proofs.lemmas.Bool.{false≢true}
use Rattle.std.proofs.lemmas.Int.{ints}
use Rattle.rule_text.specs.CountRule.{CountRule, has}
use Rattle.plane.specs.Bounds.{HasReach}
use Rattle.plane.specs.Centred.{Holds}
use Rattle.plane.specs.Laws.{IsNear}
use Rattle.plane.specs.Listing.{IsListing, plane_of}
use Rattle.plane.specs.Plane.{Plane, after}
use Rattle.plane.specs.Range.{IsCoordinate}
use Rattle.plane.specs.Square.{IsSame, empty}
use Rattle.plane.specs.declared.cell.Cell.{Cell}
use Rattle.plane.proofs.Around.{live_cell}
use Rattle.plane.proofs.Boxes.{coordinate_between}
use Rattle.plane.proofs.Paddings.{quiet}
use Rattle.universe.proofs.Roots.{both, in_square}
use Rattle.universe.proofs.Spread.{HasRoom, rooms}

near_in_range : (far n : ℕ) (z u w : ℤ) → n ≤ far → IsNear n z u → u ≡ w → IsCoordinate (w -ℤ pos far) → IsCoordinate (w +ℤ pos far) → IsCoordinate z
near_in_range far n z u w less near same low high =
    coordinate_between (w -ℤ pos far) z (w +ℤ pos far) low high (omega (arith, ints, near.before, near.behind)) (omega (arith, ints, near.before, near.behind))

-- the cells of each of so many generations lie in the range
pub held : (rule : CountRule) → has rule.birth 0 ≡ false → (cells : List Cell) (plane : Plane) (generations n : ℕ) → IsListing cells plane → HasReach generations cells → n ≤ generations →
    Holds 63 (after rule plane n)
held rule none cells plane generations n listing reach less = record {
  dead = λ x y outside. quiet rule none plane n x y (λ u v near_u near_v.
      elim (plane u v) as (λ b. plane u v ≡ b → b ≡ false) [
        | true ↦ λ live.
            let one = live_cell (HasRoom generations) cells u v (rooms generations cells reach) (listing.live u v ∙ live) in
            let across = in_square x (near_in_range generations n x u one.cell.x less near_u one.x_is one.holds.left one.holds.right) in
            let down = in_square y (near_in_range generations n y v one.cell.y less near_v one.y_is one.holds.above one.holds.below) in
            absurd (false≢true (sym outside ∙ both _ _ across down))
        | false ↦ λ _. refl
      ] refl);
}

-- where something is live, a run that stays in the range has fewer than 2^63 generations
pub short_run : (cells : List Cell) (plane : Plane) (generations : ℕ) → IsListing cells plane → HasReach generations cells → (IsSame plane empty → ⊥) → generations < 2 ^ 63
unfolding plane_of
short_run [] plane generations listing reach some = absurd (some (record { same = λ x y. sym (listing.live x y) }))
short_run (cell ∷ cells) plane generations listing reach some =
    let room = (rooms generations (cell ∷ cells) reach).0 in omega (arith, ints, room.left.low, room.right.high)
