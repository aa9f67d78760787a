-- Planes with no live cell.
use Rattle.std.proofs.Common.{◌≡◌, ℕ, ◌+◌, false, cond, List, [], ◌∷◌, fold, refl, ◌∙◌, ap, arith}
use Rattle.rule_text.specs.declared.neighbourhood.Offset.{Offset}
use Rattle.rule_text.specs.Neighbourhood.{offsets}
use Rattle.rule_text.specs.CountRule.{CountRule, has}
use Rattle.plane.specs.Plane.{Plane, after, next}
use Rattle.plane.specs.Square.{IsSame, empty}
use Rattle.plane.proofs.Parts.{after_same}
use Rattle.plane.proofs.Same.{same_sym, same_trans}
use Rattle.periods.specs.Laws.{EmptyPlane}
use Rattle.periods.proofs.Moves.{unmoved}

-- nothing is counted where nothing is live
none_counted : (xs : List Offset) → fold (λ (n : ℕ) (x : Offset). n + cond false 1 0) 0 xs ≡ 0
none_counted [] = refl
none_counted (x ∷ xs) = none_counted xs

-- the next generation of no live cell has none
empty_next : (rule : CountRule) → has rule.birth 0 ≡ false → IsSame (next rule empty) empty
empty_next rule zero = record { same = λ x y. ap (has rule.birth) (none_counted (offsets rule.neighbourhood)) ∙ zero }

empty_after : (rule : CountRule) (plane : Plane) → has rule.birth 0 ≡ false → IsSame plane empty → IsSame (after rule plane 1) plane
empty_after rule plane zero is = same_trans (after_same rule plane empty 1 is) (same_trans (empty_next rule zero) (same_sym is))

pub empty_plane_lem : EmptyPlane
empty_plane_lem rule plane good is = record {
  period = record { some = omega arith; same = same_trans (empty_after rule plane good.no_birth_on_zero is) (unmoved plane) };
  least = λ fewer has. has.2.some;
}
