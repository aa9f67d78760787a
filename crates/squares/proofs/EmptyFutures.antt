-- An empty plane stays empty, where no cell is born of no neighbours.
use Rattle.std.proofs.Common.{ℕ, ◌-◌, ◌^◌, min, ap}
use Rattle.rule_text.specs.CountRule.{CountRule, IsRule}
use Rattle.plane.specs.Plane.{Plane, after}
use Rattle.plane.specs.Square.{IsSame, empty, future}
use Rattle.plane.proofs.Cuts.{cut_same, cut_empty}
use Rattle.plane.proofs.Paddings.{empty_after}
use Rattle.plane.proofs.Same.{same_trans, same_of, plane_equal}

pub future_empty : (rule : CountRule) → IsRule rule → (exponent level : ℕ) (plane : Plane) → IsSame plane empty → IsSame (future rule exponent level plane) empty
future_empty rule is exponent level plane none = let side = 2 ^ (level - 1) in
    let quarter = 2 ^ (level - 2) in
    let generations = 2 ^ min exponent (level - 2) in
    same_trans (cut_same side quarter quarter (after rule plane generations) empty (same_trans (same_of _ _ (ap (λ p. after rule p generations) (plane_equal plane empty none))) (record { same = empty_after rule is.no_birth_on_zero generations }))) (cut_empty side quarter quarter)
