-- Four squares of a level that a book knows, and the square that they make.
use Rattle.std.proofs.Common.{◌≡◌, ℕ, zero, suc, ◌+◌, ◌≤◌, ◌<◌, ◌^◌, All, List, [], ◌∷◌, length, arith, sym, subst, refl}
use Rattle.std.specs.List.{AllByRecursion}
use Rattle.std.proofs.lemmas.List.{get_or_default}
use Rattle.plane.specs.Plane.{Plane}
use Rattle.plane.specs.Square.{IsSame, joined}
use Rattle.plane.proofs.Cuts.{joined_same}
use Rattle.plane.proofs.Same.{same_sym}
use Rattle.squares.specs.Book.{Book, IsBook, IsKnown, Shows, Keeps, joined_squares, nth, numbered}
use Rattle.squares.specs.declared.sq.Sq.{Sq}
use Rattle.squares.proofs.Centres.{shows_as}
use Rattle.squares.proofs.Kept.{keeps_trans, same_later, shows_kept}

-- what four squares show, joined
pub joined_as : (a b : Book) (level : ℕ) (quarters : List Sq) (p q r s : Plane) (sq : Sq) → (nth quarters 0).level ≡ level →
    IsSame (a.cells (nth quarters 0)) p → IsSame (a.cells (nth quarters 1)) q → IsSame (a.cells (nth quarters 2)) r → IsSame (a.cells (nth quarters 3)) s →
    Shows b ((nth quarters 0).level + 1) (joined_squares a (nth quarters 0).level quarters) sq → Shows b (level + 1) (joined (2 ^ level) p q r s) sq
joined_as a b level quarters p q r s sq e is_p is_q is_r is_s shown =
    let at_level : Shows b (level + 1) (joined_squares a level quarters) sq = subst (λ n. Shows b (n + 1) (joined_squares a n quarters) sq) e shown in
    shows_as b (level + 1) (level + 1) _ _ sq refl (joined_same (2 ^ level) _ _ _ _ p q r s is_p is_q is_r is_s) at_level

pub known_as : {book : Book} {level level' : ℕ} {sq : Sq} → level ≡ level' → IsKnown book level sq → IsKnown book level' sq
known_as {book = book} {sq = sq} e known = subst (λ n. IsKnown book n sq) e known

-- each of some squares is known
pub all_known : (book : Book) (level : ℕ) (squares : List Sq) → ((k : ℕ) → k < length squares → IsKnown book level (nth squares k)) → All (IsKnown book level) squares
all_known book level squares each k d less = subst (IsKnown book level) (get_or_default squares k (numbered 0 0) d less) (each k less)

at_four : (P : ℕ → Type 0) (k : ℕ) → k < 4 → P 0 → P 1 → P 2 → P 3 → P k
at_four P zero less a b c d = a
at_four P (suc zero) less a b c d = b
at_four P (suc (suc zero)) less a b c d = c
at_four P (suc (suc (suc zero))) less a b c d = d
at_four P (suc (suc (suc (suc k)))) less a b c d = absurd (omega arith)

pub all_four : (book : Book) (level : ℕ) (four : List Sq) → length four ≡ 4 → IsKnown book level (nth four 0) → IsKnown book level (nth four 1) → IsKnown book level (nth four 2) → IsKnown book level (nth four 3) →
    All (IsKnown book level) four
all_four book level four long a b c d = all_known book level four (λ k less. at_four (λ i. IsKnown book level (nth four i)) k (omega arith) a b c d)

pub each_known : {book : Book} {level : ℕ} {a b c d : Sq} → IsKnown book level a → IsKnown book level b → IsKnown book level c → IsKnown book level d → All (IsKnown book level) (a ∷ b ∷ c ∷ d ∷ [])
each_known {book = book} {level = level} {a = a} {b = b} {c = c} {d = d} in_a in_b in_c in_d = all_four book level (a ∷ b ∷ c ∷ d ∷ []) refl in_a in_b in_c in_d

-- the empty square of a level
pub empty_known : (book : Book) (level : ℕ) → IsBook book → 3 ≤ level → level ≤ 65 → IsKnown book level (numbered level 0)
empty_known book level is low high = record { known = is.zero_known level low high; at_level = refl; low = low; high = high }

pub four_known : {book : Book} {level : ℕ} {a b c d : Sq} → IsKnown book level a → IsKnown book level b → IsKnown book level c → IsKnown book level d →
    AllByRecursion (IsKnown book a.level) (a ∷ b ∷ c ∷ d ∷ [])
four_known in_a in_b in_c in_d =
    let e = sym in_a.at_level in (known_as e in_a, (known_as e in_b, (known_as e in_c, (known_as e in_d, tt))))

-- what was joined is still so in a later book, in the cells that this one shows
pub joined_later : {old now new : Book} {level : ℕ} {a b c d sq : Sq} → IsKnown old level a → IsKnown old level b → IsKnown old level c → IsKnown old level d → Keeps old now → Keeps now new →
    Shows now (a.level + 1) (joined_squares old a.level (a ∷ b ∷ c ∷ d ∷ [])) sq →
    Shows new (level + 1) (joined (2 ^ level) (new.cells a) (new.cells b) (new.cells c) (new.cells d)) sq
joined_later {old = old} {new = new} {level = level} {a = a} {b = b} {c = c} {d = d} {sq = sq} in_a in_b in_c in_d first later shown =
    let keeps = keeps_trans first later in
    joined_as old new level (a ∷ b ∷ c ∷ d ∷ []) _ _ _ _ sq in_a.at_level
    (same_sym (keeps.cells a in_a.known)) (same_sym (keeps.cells b in_b.known)) (same_sym (keeps.cells c in_c.known)) (same_sym (keeps.cells d in_d.known))
    (shows_kept later shown)

-- four squares of one level that were numbered in turn
pub numbered_joined : (own : ℕ) (a b c d : Plane) (b1 b2 b3 b4 b5 : Book) (nw ne sw se whole : Sq) → Keeps b1 b2 → Keeps b2 b3 → Keeps b3 b4 →
    Shows b1 own a nw → Shows b2 own b ne → Shows b3 own c sw → Shows b4 own d se →
    Shows b5 (nw.level + 1) (joined_squares b4 nw.level (nw ∷ ne ∷ sw ∷ se ∷ [])) whole →
    Shows b5 (own + 1) (joined (2 ^ own) a b c d) whole
numbered_joined own a b c d b1 b2 b3 b4 b5 nw ne sw se whole k2 k3 k4 s1 s2 s3 s4 s =
    joined_as b4 b5 own (nw ∷ ne ∷ sw ∷ se ∷ []) a b c d whole s1.known.at_level
    (same_later (keeps_trans k2 (keeps_trans k3 k4)) s1) (same_later (keeps_trans k3 k4) s2) (same_later k4 s3) s4.cells s
