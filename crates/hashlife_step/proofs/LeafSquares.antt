-- Squares of levels 4, 5 and 6: their leaves, and what kernels make of these.
use Rattle.std.proofs.Common.{◌≡◌, ℕ, ◌+◌, ◌-◌, ◌^◌, min, List, arith, sym, ◌∙◌, ap, subst, refl}
use Rattle.rule_text.specs.CountRule.{CountRule}
use Rattle.plane.specs.Plane.{Plane, after}
use Rattle.plane.specs.Square.{IsSame, IsSquare, joined, centre_of, future}
use Rattle.plane.proofs.Middles.{whole_joined}
use Rattle.plane.proofs.Same.{same_trans, same_sym, plane_equal}
use Rattle.squares.specs.Book.{Book, IsKnown, IsFuture, Shows, Keeps, AreQuarters, nth}
use Rattle.squares.specs.declared.sq.Sq.{Sq}
use Rattle.squares.proofs.Kept.{keeps_trans, same_later}
use Rattle.squares.proofs.Centres.{lowered, shows_as}

-- a square with the cells of the future, in the book as it is now
pub future_later : (old new : Book) (sq next : Sq) → Keeps old new → IsKnown old sq.level sq →
    Shows new (sq.level - 1) (future old.rule old.exponent sq.level (old.cells sq)) next → IsFuture new sq next
future_later old new sq next keeps known shown =
    let cells : old.cells sq ≡ new.cells sq = plane_equal _ _ (same_sym (keeps.cells sq known.known)) in
    let one = subst (λ plane. Shows new (sq.level - 1) (future old.rule old.exponent sq.level plane) next) cells shown in
    let two = subst (λ rule. Shows new (sq.level - 1) (future rule old.exponent sq.level (new.cells sq)) next) (sym keeps.rule) one in
    subst (λ exponent. Shows new (sq.level - 1) (future new.rule exponent sq.level (new.cells sq)) next) (sym keeps.exponent) two

-- what a kernel makes of the leaves of a square of its level, with an exponent that is cut at its
-- level
pub kernel_future : (book : Book) (rule : CountRule) (own exponent short level : ℕ) (result plane leaves : Plane) (next : Sq) → level ≡ own → short ≡ min exponent (own - 2) → IsSame leaves plane →
    IsSame result (future rule short own leaves) → Shows book (own - 1) result next → Shows book (level - 1) (future rule exponent level plane) next
kernel_future book rule own exponent short level result plane leaves next e time same is shown =
    let one : IsSame result (future rule short own plane) = subst (λ p. IsSame result (future rule short own p)) (plane_equal _ _ same) is in
    let two : IsSame result (future rule (min exponent (own - 2)) own plane) = subst (λ n. IsSame result (future rule n own plane)) time one in
    let three : IsSame result (future rule exponent own plane) = subst (λ n. IsSame result (centre_of own (after rule plane (2 ^ n)))) (cut_once exponent (own - 2)) two in
    let four : Shows book (own - 1) (future rule exponent own plane) next = shows_as book (own - 1) (own - 1) result _ next refl three shown in
    subst (λ n. Shows book (n - 1) (future rule exponent n plane) next) (sym e) four
  where
    cut_once : (exponent most : ℕ) → min (min exponent most) most ≡ min exponent most
    cut_once exponent most = omega arith

-- the quarters of a square of this level that were read in turn
pub quarters_shown : (own level : ℕ) (plane : Plane) (b1 b2 b3 b4 : Book) (q : List Sq) (a b c d : Plane) → 2 ^ own ≡ 2 ^ (own - 1) + 2 ^ (own - 1) → level ≡ own → IsSquare (2 ^ level) plane →
    AreQuarters b1 level plane q → Keeps b1 b2 → Keeps b2 b3 → Keeps b3 b4 →
    IsSame a (b1.cells (nth q 0)) → IsSame b (b2.cells (nth q 1)) → IsSame c (b3.cells (nth q 2)) → IsSame d (b4.cells (nth q 3)) →
    IsSame (joined (2 ^ (own - 1)) a b c d) plane
quarters_shown own level plane b1 b2 b3 b4 q a b c d twice e square parts k2 k3 k4 is_a is_b is_c is_d =
    let four : AreQuarters b1 own plane q = lowered b1 level own plane q e parts in
    let whole : IsSquare (2 ^ (own - 1) + 2 ^ (own - 1)) plane = subst (λ n. IsSquare n plane) (ap (λ n. 2 ^ n) e ∙ twice) square in
    whole_joined (2 ^ (own - 1)) plane a b c d whole
    (same_trans is_a four.nw.cells)
    (same_trans is_b (same_later k2 four.ne))
    (same_trans is_c (same_later (keeps_trans k2 k3) four.sw))
    (same_trans is_d (same_later (keeps_trans k2 (keeps_trans k3 k4)) four.se))
