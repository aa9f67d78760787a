-- The quarters of three squares, and of three rows of three.
use Rattle.std.proofs.Common.{◌≡◌, ℕ, zero, suc, ◌<◌, All, List, [], ◌∷◌, length, arith, refl, sym}
use Rattle.squares.specs.Book.{Book, AreQuarters, IsKnown, Keeps, nth, numbered}
use Rattle.squares.specs.declared.sq.Sq.{Sq}
use Rattle.plane.proofs.Same.{same_refl}
use Rattle.squares.proofs.Kept.{keeps_none, keeps_trans, known_kept, shows_kept}
use Rattle.hashlife_step.specs.Quarters.{AreRead, quarters_of}
use Rattle.hashlife_step.proofs.EmptyBorders.{quarters_as}
use Rattle.squares.proofs.FourKnown.{all_known, known_as}

-- what holds of each of three, six, nine
at_three : (P : ℕ → Type 0) (k : ℕ) → k < 3 → P 0 → P 1 → P 2 → P k
at_three P zero less a b c = a
at_three P (suc zero) less a b c = b
at_three P (suc (suc zero)) less a b c = c
at_three P (suc (suc (suc k))) less a b c = absurd (omega arith)

at_six : (P : ℕ → Type 0) (k : ℕ) → k < 6 → P 0 → P 1 → P 2 → P 3 → P 4 → P 5 → P k
at_six P zero less a b c d e f = a
at_six P (suc zero) less a b c d e f = b
at_six P (suc (suc zero)) less a b c d e f = c
at_six P (suc (suc (suc k))) less a b c d e f = at_three (λ n. P (suc (suc (suc n)))) k (omega arith) d e f

at_nine : (P : ℕ → Type 0) (k : ℕ) → k < 9 → P 0 → P 1 → P 2 → P 3 → P 4 → P 5 → P 6 → P 7 → P 8 → P k
at_nine P zero less a b c d e f g h i = a
at_nine P (suc zero) less a b c d e f g h i = b
at_nine P (suc (suc zero)) less a b c d e f g h i = c
at_nine P (suc (suc (suc k))) less a b c d e f g h i = at_six (λ n. P (suc (suc (suc n)))) k (omega arith) d e f g h i

-- the quarters of a square that an older book knew, in a later book
read_later : {old before now new : Book} {level : ℕ} {sq : Sq} {quarters : List Sq} → Keeps old before → IsKnown old level sq → Keeps now new → AreQuarters now level (before.cells sq) quarters →
    AreQuarters new level (old.cells sq) quarters
read_later {now = now} {level = level} {sq = sq} {quarters = quarters} before known after read =
    let are = quarters_as now level level _ _ quarters refl (before.cells sq known.known) read in
    record { nw = shows_kept after are.nw; ne = shows_kept after are.ne; sw = shows_kept after are.sw; se = shows_kept after are.se }

-- three of some squares, as a later book knows them
pub row_known : {old now : Book} {level : ℕ} {a b c : Sq} → Keeps old now → IsKnown old level a → IsKnown old level b → IsKnown old level c → All (IsKnown now level) (a ∷ b ∷ c ∷ [])
row_known {now = now} {level = level} {a = a} {b = b} {c = c} keeps in_a in_b in_c =
    all_known now level (a ∷ b ∷ c ∷ []) (λ k less. at_three (λ i. IsKnown now level (nth (a ∷ b ∷ c ∷ []) i)) k (omega arith) (known_kept keeps in_a) (known_kept keeps in_b) (known_kept keeps in_c))

-- a square of a level, as a later book knows it at its own
pub own : {old now : Book} {level : ℕ} {sq : Sq} → Keeps old now → IsKnown old level sq → IsKnown now sq.level sq
own keeps known = known_kept keeps (known_as (sym known.at_level) known)

-- three squares, read one after the other
pub row_read : {b0 b1 b2 b3 : Book} {level : ℕ} {row : List Sq} {p q r : List Sq} → length row ≡ 3 → All (IsKnown b0 level) row → Keeps b0 b1 → Keeps b1 b2 → Keeps b2 b3 →
    AreQuarters b1 (nth row 0).level (b0.cells (nth row 0)) p → AreQuarters b2 (nth row 1).level (b1.cells (nth row 1)) q → AreQuarters b3 (nth row 2).level (b2.cells (nth row 2)) r →
    AreRead b0 b3 level row (p ∷ q ∷ r ∷ [])
row_read {b0} {b1} {b2} {b3} {level} {row} {p} {q} {r} three known k1 k2 k3 in_p in_q in_r =
    let at = λ (k : ℕ) (less : k < 3). known k (numbered 0 0) (omega arith) in
    let of = λ (book before : Book) (k : ℕ) (less : k < 3) (quarters : List Sq) (are : AreQuarters book (nth row k).level (before.cells (nth row k)) quarters).
    quarters_as book (nth row k).level level (before.cells (nth row k)) (before.cells (nth row k)) quarters (at k less).at_level (same_refl _) are in
    record {
      each = λ k less. at_three (λ i. AreQuarters b3 level (b0.cells (nth row i)) (quarters_of (p ∷ q ∷ r ∷ []) i)) k (omega arith)
          (read_later (keeps_none _) (at 0 (omega arith)) (keeps_trans k2 k3) (of b1 b0 0 (omega arith) p in_p))
          (read_later k1 (at 1 (omega arith)) k3 (of b2 b1 1 (omega arith) q in_q))
          (read_later (keeps_trans k1 k2) (at 2 (omega arith)) (keeps_none _) (of b3 b2 2 (omega arith) r in_r));
    }

-- three rows of three squares, read one after the other
pub rows_read : {b0 b1 b2 b3 : Book} {level : ℕ} {nine : List Sq} {p q r : List (List Sq)} → length nine ≡ 9 → All (IsKnown b0 level) nine → Keeps b0 b1 → Keeps b1 b2 → Keeps b2 b3 →
    AreRead b0 b1 level (nth nine 0 ∷ nth nine 1 ∷ nth nine 2 ∷ []) p → AreRead b1 b2 level (nth nine 3 ∷ nth nine 4 ∷ nth nine 5 ∷ []) q → AreRead b2 b3 level (nth nine 6 ∷ nth nine 7 ∷ nth nine 8 ∷ []) r →
    AreRead b0 b3 level nine (quarters_of p 0 ∷ quarters_of p 1 ∷ quarters_of p 2 ∷ quarters_of q 0 ∷ quarters_of q 1 ∷ quarters_of q 2 ∷ quarters_of r 0 ∷ quarters_of r 1 ∷ quarters_of r 2 ∷ [])
rows_read {b0} {b1} {b2} {b3} {level} {nine} {p} {q} {r} is_nine known k1 k2 k3 in_p in_q in_r =
    let at = λ (k : ℕ) (less : k < 9). known k (numbered 0 0) (omega arith) in
    let k12 = keeps_trans k1 k2 in let k23 = keeps_trans k2 k3 in
    record {
      each = λ k less. at_nine (λ i. AreQuarters b3 level (b0.cells (nth nine i))
          (quarters_of (quarters_of p 0 ∷ quarters_of p 1 ∷ quarters_of p 2 ∷ quarters_of q 0 ∷ quarters_of q 1 ∷ quarters_of q 2 ∷ quarters_of r 0 ∷ quarters_of r 1 ∷ quarters_of r 2 ∷ []) i)) k (omega arith)
          (read_later (keeps_none _) (at 0 (omega arith)) k23 (in_p.each 0 (omega arith))) (read_later (keeps_none _) (at 1 (omega arith)) k23 (in_p.each 1 (omega arith))) (read_later (keeps_none _) (at 2 (omega arith)) k23 (in_p.each 2 (omega arith)))
          (read_later k1 (at 3 (omega arith)) k3 (in_q.each 0 (omega arith))) (read_later k1 (at 4 (omega arith)) k3 (in_q.each 1 (omega arith))) (read_later k1 (at 5 (omega arith)) k3 (in_q.each 2 (omega arith)))
          (read_later k12 (at 6 (omega arith)) (keeps_none _) (in_r.each 0 (omega arith))) (read_later k12 (at 7 (omega arith)) (keeps_none _) (in_r.each 1 (omega arith))) (read_later k12 (at 8 (omega arith)) (keeps_none _) (in_r.each 2 (omega arith)));
    }
