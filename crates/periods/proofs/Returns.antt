-- Planes that come back moved after some generations, or after none.
use Rattle.std.proofs.Common.{◌≡◌, ℕ, zero, suc, ◌+◌, ◌*◌, ℤ, pos, ◌+ℤ◌, ◌-ℤ◌, ◌*ℤ◌, ap, add_comm, suc-mul, zero-mul}
use Rattle.std.proofs.Math.IntN.{zero-*ℤ, suc_ℤ-*ℤ}
use Rattle.rule_text.specs.CountRule.{CountRule}
use Rattle.plane.specs.Laws.{moved}
use Rattle.plane.specs.Plane.{Plane, after}
use Rattle.plane.specs.Square.{IsSame}
use Rattle.plane.proofs.Cones.{translation_lem}
use Rattle.plane.proofs.Parts.{after_sum, after_same}
use Rattle.plane.proofs.Same.{same_of, same_sym, same_trans}
use Rattle.periods.proofs.Moves.{moved_same, moved_swap, moved_twice, taken_back, unmoved, unmoved_same}

-- after so many generations the plane is what it was, moved so far
abbrev pub Returns : CountRule → Plane → ℕ → ℤ → ℤ → Type 0
Returns rule plane n right down = IsSame (after rule plane n) (moved right down plane)

-- generations of a moved plane
pub after_moved : (rule : CountRule) (plane : Plane) (a b : ℤ) (n : ℕ) → IsSame (after rule (moved a b plane) n) (moved a b (after rule plane n))
after_moved rule plane a b n = record { same = translation_lem rule plane a b n }

-- what comes after a return comes as at first, moved
pub after_return : (rule : CountRule) (plane : Plane) (n m : ℕ) (a b : ℤ) → Returns rule plane n a b → IsSame (after rule plane (n + m)) (moved a b (after rule plane m))
after_return rule plane n m a b returns =
    same_trans (same_of _ _ (after_sum rule plane n m))
    (same_trans (after_same rule (after rule plane n) (moved a b plane) m returns) (after_moved rule plane a b m))

-- two returns, one after the other
pub returns_add : (rule : CountRule) (plane : Plane) (n m : ℕ) (a b c d : ℤ) → Returns rule plane n a b → Returns rule plane m c d → Returns rule plane (n + m) (a +ℤ c) (b +ℤ d)
returns_add rule plane n m a b c d first second =
    same_trans (after_return rule plane n m a b first)
    (same_trans (moved_same a b (after rule plane m) (moved c d plane) second) (moved_twice a b c d plane))

-- the same return, of numbers that are equal
pub returns_at : (rule : CountRule) (plane : Plane) (n m : ℕ) (a b c d : ℤ) → n ≡ m → a ≡ c → b ≡ d → Returns rule plane m c d → Returns rule plane n a b
returns_at rule plane n m a b c d generations across down returns = rw (generations, across, down) returns

-- a plane is there after no generations
pub returns_at_once : (rule : CountRule) (plane : Plane) → Returns rule plane 0 (pos 0) (pos 0)
returns_at_once rule plane = unmoved plane

-- a return, so many times
pub returns_times : (rule : CountRule) (plane : Plane) (n times : ℕ) (a b : ℤ) → Returns rule plane n a b → Returns rule plane (times * n) (pos times *ℤ a) (pos times *ℤ b)
returns_times rule plane n zero a b returns =
    returns_at rule plane (0 * n) 0 (pos 0 *ℤ a) (pos 0 *ℤ b) (pos 0) (pos 0) (zero-mul n) (zero-*ℤ a) (zero-*ℤ b) (returns_at_once rule plane)
returns_times rule plane n (suc times) a b returns =
    returns_at rule plane (suc times * n) (times * n + n) (pos (suc times) *ℤ a) (pos (suc times) *ℤ b) (pos times *ℤ a +ℤ a) (pos times *ℤ b +ℤ b)
    (suc-mul times n) (suc_ℤ-*ℤ (pos times) a) (suc_ℤ-*ℤ (pos times) b)
    (returns_add rule plane (times * n) n (pos times *ℤ a) (pos times *ℤ b) a b (returns_times rule plane n times a b returns) returns)

-- what is left of a return after another one
pub returns_rest : (rule : CountRule) (plane : Plane) (n rest : ℕ) (a b c d : ℤ) → Returns rule plane n a b → Returns rule plane (n + rest) c d → Returns rule plane rest (c -ℤ a) (d -ℤ b)
returns_rest rule plane n rest a b c d first whole =
    taken_back a b c d (after rule plane rest) plane (same_trans (same_sym (after_return rule plane n rest a b first)) whole)

-- later generations return as the plane does
pub returns_later : (rule : CountRule) (plane : Plane) (later n : ℕ) (a b : ℤ) → Returns rule plane n a b → Returns rule (after rule plane later) n a b
returns_later rule plane later n a b returns =
    let turned : later + n ≡ n + later = add_comm later n in
    same_trans (same_sym (same_of _ _ (after_sum rule plane later n)))
    (same_trans (same_of _ _ (ap (after rule plane) turned)) (after_return rule plane n later a b returns))

-- a moved plane returns as the plane does
pub moved_returns : (rule : CountRule) (plane : Plane) (n : ℕ) (a b c d : ℤ) → Returns rule plane n a b → Returns rule (moved c d plane) n a b
moved_returns rule plane n a b c d returns =
    same_trans (after_moved rule plane c d n)
    (same_trans (moved_same c d (after rule plane n) (moved a b plane) returns) (moved_swap c d a b plane))

-- a plane returns as it does where it is moved
pub unmoved_returns : (rule : CountRule) (plane : Plane) (n : ℕ) (a b c d : ℤ) → Returns rule (moved c d plane) n a b → Returns rule plane n a b
unmoved_returns rule plane n a b c d returns =
    unmoved_same c d (after rule plane n) (moved a b plane)
    (same_trans (same_sym (after_moved rule plane c d n)) (same_trans returns (moved_swap a b c d plane)))

-- planes with the same cells return together
pub returns_same : (rule : CountRule) (plane other : Plane) (n : ℕ) (a b : ℤ) → IsSame plane other → Returns rule plane n a b → Returns rule other n a b
returns_same rule plane other n a b is returns =
    same_trans (after_same rule other plane n (same_sym is)) (same_trans returns (moved_same a b plane other is))
