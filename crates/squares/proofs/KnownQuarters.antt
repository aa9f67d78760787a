-- Squares of one level that are known, as the quarters that a book is asked for.
use Rattle.std.proofs.Common.{◌≡◌, ℕ, List, [], ◌∷◌, length, subst, sym, arith}
use Rattle.std.specs.List.{AllByRecursion}
use Rattle.squares.specs.declared.sq.Sq.{Sq}
use Rattle.squares.specs.Book.{Book, IsKnown, nth}

-- four squares of one level are known at the level of the first
pub quarters_of_level : (book : Book) (level : ℕ) (nw ne sw se : Sq) → IsKnown book level nw → IsKnown book level ne → IsKnown book level sw → IsKnown book level se →
    AllByRecursion (IsKnown book nw.level) (nw ∷ ne ∷ sw ∷ se ∷ [])
quarters_of_level book level nw ne sw se k0 k1 k2 k3 =
    let own = λ (sq : Sq) (known : IsKnown book level sq). subst (λ n. IsKnown book n sq) (sym k0.at_level) known in
    (own nw k0, (own ne k1, (own sw k2, (own se k3, tt))))

-- what holds of each of four squares holds of all
pub from_four : (P : Sq → Type 0) (squares : List Sq) → length squares ≡ 4 → P (nth squares 0) → P (nth squares 1) → P (nth squares 2) → P (nth squares 3) → AllByRecursion P squares
from_four P [] size h0 h1 h2 h3 = absurd (omega arith)
from_four P (a ∷ []) size h0 h1 h2 h3 = absurd (omega arith)
from_four P (a ∷ b ∷ []) size h0 h1 h2 h3 = absurd (omega arith)
from_four P (a ∷ b ∷ c ∷ []) size h0 h1 h2 h3 = absurd (omega arith)
from_four P (a ∷ b ∷ c ∷ d ∷ []) size h0 h1 h2 h3 = (h0, (h1, (h2, (h3, tt))))
from_four P (a ∷ b ∷ c ∷ d ∷ e ∷ rest) size h0 h1 h2 h3 = absurd (omega arith)
