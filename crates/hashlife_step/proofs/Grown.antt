-- A square in the middle of one of twice its side.
use Rattle.std.proofs.Common.{◌≡◌, ℕ, ◌+◌, ◌-◌, ◌^◌, ◌<◌, pos, ◌+ℤ◌, List, [], ◌∷◌, ap, sym, ◌∙◌, subst, arith}
use Rattle.plane.specs.Centred.{centred}
use Rattle.plane.specs.Plane.{Plane}
use Rattle.plane.specs.Square.{IsSame, IsSquare, cut, empty}
use Rattle.squares.specs.Book.{Book, IsBook, IsKnown, Shows, Keeps, AreQuarters, joined_squares, nth, numbered}
use Rattle.squares.specs.declared.sq.Sq.{Sq}
use Rattle.squares.proofs.Kept.{keeps_trans, same_later}
use Rattle.plane.proofs.Middles.{surrounded_centred}
use Rattle.plane.proofs.Same.{same_refl, same_trans}
use Rattle.squares.proofs.FourKnown.{joined_as}
use Rattle.hashlife_step.specs.ShowsCentred.{ShowsCentred}

pub centred_same : (level : ℕ) (plane other : Plane) → IsSame plane other → IsSame (centred level plane) (centred level other)
centred_same level plane other same = record { same = λ x y. same.same (x +ℤ pos (2 ^ (level - 1))) (y +ℤ pos (2 ^ (level - 1))) }

-- a square shown at its level, around (0,0)
pub shows_centred : (book : Book) (level : ℕ) (plane other : Plane) (sq : Sq) → Shows book level plane sq → IsSame (centred level plane) other → ShowsCentred book other sq
shows_centred book level plane other sq shown same =
    let Round : ℕ → Type 0 = λ n. IsSame (centred n (book.cells sq)) other in
    record {
      known = subst (λ n. IsKnown book n sq) (sym shown.known.at_level) shown.known;
      cells = subst Round (sym shown.known.at_level) (same_trans (centred_same level _ _ shown.cells) same);
    }

-- the quarters in the inner corners, all else empty
pub grown_shown : (level : ℕ) (plane : Plane) (b1 b2 b3 b4 b5 b6 : Book) (q : List Sq) (e r1 r2 r3 r4 r : Sq) → 3 < level → IsSquare (2 ^ level) plane →
    IsBook b1 → IsBook b2 → IsBook b3 → IsBook b4 → AreQuarters b1 level plane q → Keeps b1 b2 → Keeps b2 b3 → Keeps b3 b4 → Keeps b4 b5 →
    e ≡ numbered (level - 1) 0 →
    Shows b2 (e.level + 1) (joined_squares b1 e.level (e ∷ e ∷ e ∷ nth q 0 ∷ [])) r1 →
    Shows b3 (e.level + 1) (joined_squares b2 e.level (e ∷ e ∷ nth q 1 ∷ e ∷ [])) r2 →
    Shows b4 (e.level + 1) (joined_squares b3 e.level (e ∷ nth q 2 ∷ e ∷ e ∷ [])) r3 →
    Shows b5 ((nth q 3).level + 1) (joined_squares b4 (nth q 3).level (nth q 3 ∷ e ∷ e ∷ e ∷ [])) r4 →
    Shows b6 (r1.level + 1) (joined_squares b5 r1.level (r1 ∷ r2 ∷ r3 ∷ r4 ∷ [])) r →
    ShowsCentred b6 (centred level plane) r
grown_shown level plane b1 b2 b3 b4 b5 b6 q e r1 r2 r3 r4 r above is book1 book2 book3 book4 parts k2 k3 k4 k5 is_e s1 s2 s3 s4 s =
    let up : level - 1 + 1 ≡ level = omega arith in
    let at_level : e.level ≡ level - 1 = ap (λ (sq : Sq). sq.level) is_e in
    let none = λ (b : Book) (law : IsBook b). subst (λ (sq : Sq). IsSame (b.cells sq) empty) (sym is_e) (law.zero_empty (level - 1)) in
    let none1 = none b1 book1 in let none2 = none b2 book2 in let none3 = none b3 book3 in let none4 = none b4 book4 in
    let half : ℕ = 2 ^ (level - 1) in
    let nw : Plane = cut half 0 0 plane in let ne : Plane = cut half half 0 plane in let sw : Plane = cut half 0 half plane in let se : Plane = cut half half half plane in
    let t1 = joined_as b1 b2 (level - 1) (e ∷ e ∷ e ∷ nth q 0 ∷ []) empty empty empty nw r1 at_level none1 none1 none1 parts.nw.cells s1 in
    let t2 = joined_as b2 b3 (level - 1) (e ∷ e ∷ nth q 1 ∷ e ∷ []) empty empty ne empty r2 at_level none2 none2 (same_later k2 parts.ne) none2 s2 in
    let t3 = joined_as b3 b4 (level - 1) (e ∷ nth q 2 ∷ e ∷ e ∷ []) empty sw empty empty r3 at_level none3 (same_later (keeps_trans k2 k3) parts.sw) none3 none3 s3 in
    let t4 = joined_as b4 b5 (level - 1) (nth q 3 ∷ e ∷ e ∷ e ∷ []) se empty empty empty r4 parts.se.known.at_level (same_later (keeps_trans k2 (keeps_trans k3 k4)) parts.se) none4 none4 none4 s4 in
    let whole = joined_as b5 b6 level (r1 ∷ r2 ∷ r3 ∷ r4 ∷ []) _ _ _ _ r (t1.known.at_level ∙ up)
    (same_later (keeps_trans k3 (keeps_trans k4 k5)) t1) (same_later (keeps_trans k4 k5) t2) (same_later k5 t3) t4.cells s in
    shows_centred b6 (level + 1) _ (centred level plane) r whole
    (surrounded_centred level plane nw ne sw se (omega arith) is (same_refl nw) (same_refl ne) (same_refl sw) (same_refl se))
