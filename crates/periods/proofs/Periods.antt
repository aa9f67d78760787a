-- Periods that are made of periods, and periods of planes that belong together.
use Rattle.std.proofs.Common.{arith}
use Rattle.plane.proofs.Same.{same_sym, same_trans}
use Rattle.periods.specs.Laws.{OneDisplacement, PeriodsAdd, MovedPlane, SamePlane, LaterGenerations}
use Rattle.periods.proofs.Displacements.{one_move}
use Rattle.periods.proofs.Returns.{moved_returns, returns_add, returns_later, returns_same, unmoved_returns}

pub one_displacement_lem : OneDisplacement
one_displacement_lem rule plane cells n a b c d listing some one other = one_move plane cells a b c d listing some (same_trans (same_sym one.same) other.same)

pub periods_add_lem : PeriodsAdd
periods_add_lem rule plane n m a b c d first second = record {
  some = omega (arith, first.some);
  same = returns_add rule plane n m a b c d first.same second.same;
}

pub later_generations_lem : LaterGenerations
later_generations_lem rule plane later n a b is = record { some = is.some; same = returns_later rule plane later n a b is.same }

pub moved_plane_lem : MovedPlane
moved_plane_lem rule plane n a b c d = (
  λ is. record { some = is.some; same = unmoved_returns rule plane n a b c d is.same },
  λ is. record { some = is.some; same = moved_returns rule plane n a b c d is.same },
)

pub same_plane_lem : SamePlane
same_plane_lem rule plane other n a b is = (
  λ one. record { some = one.some; same = returns_same rule plane other n a b is one.same },
  λ one. record { some = one.some; same = returns_same rule other plane n a b (same_sym is) one.same },
)
