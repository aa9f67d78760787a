-- The four overlaps of nine squares, numbered one after the other.
use Rattle.std.proofs.Common.{ℕ, ◌+◌, ◌<◌, [], ◌∷◌, List, arith, subst, sym}
use Rattle.std.specs.List.{AllByRecursion}
use Rattle.plane.specs.declared.cell.TheConstants.{HIGHEST_LEVEL}
use Rattle.squares.specs.Book.{Book, IsKnown, Shows, Keeps, joined_squares, nth}
use Rattle.squares.specs.Overlaps.{AreOverlaps}
use Rattle.squares.specs.declared.sq.Sq.{Sq}
use Rattle.squares.proofs.FourKnown.{four_known, joined_later}
use Rattle.squares.proofs.Kept.{keeps_none, keeps_trans, known_kept}

-- the nine squares are known
abbrev pub AreNineKnown : Book → ℕ → List Sq → Type 0
AreNineKnown book level nine = (k : ℕ) → k < 9 → IsKnown book level (nth nine k)

pub nine_kept : {a b : Book} {level : ℕ} (nine : List Sq) → Keeps a b → AreNineKnown a level nine → AreNineKnown b level nine
nine_kept nine keeps known k less = known_kept keeps (known k less)

-- a square and its neighbours can be joined
pub neighbours_fit : {book : Book} {level : ℕ} (nine : List Sq) (k : ℕ) → AreNineKnown book level nine → level < HIGHEST_LEVEL → k < 5 →
    ((nth nine k).level < HIGHEST_LEVEL) × AllByRecursion (IsKnown book (nth nine k).level) (nth nine k ∷ nth nine (k + 1) ∷ nth nine (k + 3) ∷ nth nine (k + 4) ∷ [])
neighbours_fit nine k known low less =
    let here = known k (omega (arith, less)) in
    (subst (λ n. n < HIGHEST_LEVEL) (sym here.at_level) low, four_known here (known (k + 1) (omega (arith, less))) (known (k + 3) (omega (arith, less))) (known (k + 4) (omega (arith, less))))

-- the square of this one and of its three neighbours to the right and below, of nine in three rows
abbrev pub JoinsNeighbours : Book → Book → List Sq → ℕ → Sq → Type 0
JoinsNeighbours old new nine k sq =
    Shows new ((nth nine k).level + 1) (joined_squares old (nth nine k).level (nth nine k ∷ nth nine (k + 1) ∷ nth nine (k + 3) ∷ nth nine (k + 4) ∷ [])) sq

pub overlaps_made : {b0 b1 b2 b3 b4 : Book} {level : ℕ} {nine : List Sq} {nw ne sw se : Sq} → AreNineKnown b0 level nine →
    Keeps b0 b1 → Keeps b1 b2 → Keeps b2 b3 → Keeps b3 b4 →
    JoinsNeighbours b0 b1 nine 0 nw → JoinsNeighbours b1 b2 nine 1 ne → JoinsNeighbours b2 b3 nine 3 sw → JoinsNeighbours b3 b4 nine 4 se →
    AreOverlaps b4 level nine (nw ∷ ne ∷ sw ∷ se ∷ [])
overlaps_made {b4 = b4} {nine = nine} known k1 k2 k3 k4 nw ne sw se =
    let known1 = nine_kept nine k1 known in
    let known2 = nine_kept nine k2 known1 in
    let known3 = nine_kept nine k3 known2 in
    record {
      nw = joined_later (known 0 (omega arith)) (known 1 (omega arith)) (known 3 (omega arith)) (known 4 (omega arith)) k1 (keeps_trans k2 (keeps_trans k3 k4)) nw;
      ne = joined_later (known1 1 (omega arith)) (known1 2 (omega arith)) (known1 4 (omega arith)) (known1 5 (omega arith)) k2 (keeps_trans k3 k4) ne;
      sw = joined_later (known2 3 (omega arith)) (known2 4 (omega arith)) (known2 6 (omega arith)) (known2 7 (omega arith)) k3 k4 sw;
      se = joined_later (known3 4 (omega arith)) (known3 5 (omega arith)) (known3 7 (omega arith)) (known3 8 (omega arith)) k4 (keeps_none b4) se;
    }
