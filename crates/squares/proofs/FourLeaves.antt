-- The four leaves of a square of level 4.
use Rattle.std.proofs.Common.{◌≡◌, ℕ, ◌+◌, ◌-◌, ◌^◌, All, List, length, arith, sym, subst}
use Rattle.plane.specs.Plane.{Plane}
use Rattle.plane.specs.Square.{IsSame, IsSquare, bits_plane, centre_of, joined}
use Rattle.plane.proofs.Cuts.{joined_same}
use Rattle.plane.proofs.Middles.{whole_joined}
use Rattle.plane.proofs.Same.{plane_equal, same_refl, same_trans, same_sym}
use Rattle.squares.specs.Book.{Book, IsKnown, Shows, Keeps, AreQuarters, joined_squares, nth, numbered}
use Rattle.squares.specs.declared.sq.Sq.{Sq}
use Rattle.squares.proofs.Centres.{lowered}
use Rattle.squares.proofs.FourKnown.{all_four}
use Rattle.squares.proofs.Kept.{keeps_trans}

-- four squares of level 3 that were read in turn
pub four_read : (b1 b2 b3 b4 : Book) (q : List Sq) (a b c d : ℕ) → length q ≡ 4 → All (IsKnown b1 3) q → Keeps b1 b2 → Keeps b2 b3 → Keeps b3 b4 →
    Shows b1 3 (bits_plane a) (nth q 0) → Shows b2 3 (bits_plane b) (nth q 1) → Shows b3 3 (bits_plane c) (nth q 2) → Shows b4 3 (bits_plane d) (nth q 3) →
    IsSame (joined 8 (bits_plane a) (bits_plane b) (bits_plane c) (bits_plane d)) (joined_squares b1 3 q)
four_read b1 b2 b3 b4 q a b c d long known k2 k3 k4 is_a is_b is_c is_d =
    joined_same 8 _ _ _ _ _ _ _ _
    (same_sym is_a.cells)
    (same_trans (same_sym is_b.cells) (k2.cells (nth q 1) (known 1 (numbered 0 0) (omega arith)).known))
    (same_trans (same_sym is_c.cells) ((keeps_trans k2 k3).cells (nth q 2) (known 2 (numbered 0 0) (omega arith)).known))
    (same_trans (same_sym is_d.cells) ((keeps_trans k2 (keeps_trans k3 k4)).cells (nth q 3) (known 3 (numbered 0 0) (omega arith)).known))

-- the quarters of a square of level 4 are known, and joined they are the square
pub leaves_known : (book : Book) (level : ℕ) (plane : Plane) (q : List Sq) → length q ≡ 4 → level ≡ 4 → AreQuarters book level plane q → All (IsKnown book 3) q
leaves_known book level plane q long e parts =
    let four : AreQuarters book 4 plane q = lowered book level 4 plane q e parts in
    all_four book 3 q long four.nw.known four.ne.known four.sw.known four.se.known

pub leaves_shown : (book : Book) (level : ℕ) (plane leaves : Plane) (q : List Sq) → level ≡ 4 → IsSquare (2 ^ level) plane → AreQuarters book level plane q →
    IsSame leaves (joined_squares book 3 q) → IsSame leaves plane
leaves_shown book level plane leaves q e square parts is =
    let four : AreQuarters book 4 plane q = lowered book level 4 plane q e parts in
    let whole : IsSquare (8 + 8) plane = subst (λ n. IsSquare (2 ^ n) plane) e square in
    same_trans is (whole_joined 8 plane _ _ _ _ whole four.nw.cells four.ne.cells four.sw.cells four.se.cells)

-- the centre of the leaves of a square of level 4 is the square's
pub leaves_centre_shown : (old new : Book) (level : ℕ) (plane : Plane) (q : List Sq) (sq : Sq) → level ≡ 4 → IsSquare (2 ^ level) plane → AreQuarters old level plane q →
    Shows new 3 (centre_of 4 (joined_squares old 3 q)) sq → Shows new (level - 1) (centre_of level plane) sq
leaves_centre_shown old new level plane q sq e square parts shown =
    let same : joined_squares old 3 q ≡ plane = plane_equal _ _ (leaves_shown old level plane _ q e square parts (same_refl _)) in
    let here : Shows new (4 - 1) (centre_of 4 plane) sq = subst (λ p. Shows new 3 (centre_of 4 p) sq) same shown in
    subst (λ n. Shows new (n - 1) (centre_of n plane) sq) (sym e) here
