-- Counts of live cells: of empty squares, of leaves, of four quarters, and those that are kept.
use Rattle.std.proofs.Common.{◌≡◌, ℕ, suc, ◌+◌, ◌-◌, ◌*◌, ◌^◌, ◌≤◌, ◌<◌, pow_mono, pos, ◌-ℤ◌, length, map, refl, sym, ◌∙◌, ap, subst, arith}
use Rattle.std.proofs.Math.Nat.{pow-suc}
use Rattle.std.proofs.lemmas.List.{length-map}
use Rattle.plane.specs.Centred.{centred}
use Rattle.plane.specs.Plane.{Plane}
use Rattle.plane.specs.Square.{IsSquare, IsSame, empty}
use Rattle.plane.specs.Listing.{IsListing}
use Rattle.plane.specs.Window.{square_cells}
use Rattle.plane.proofs.Paddings.{twice_half, centred_moved}
use Rattle.plane.proofs.Populations.{joined_length, empty_cells, moved_cell, moved_listing}
use Rattle.plane.proofs.Same.{plane_equal, same_sym}
use Rattle.plane.proofs.Windows.{square_listing}
use Rattle.squares.specs.Book.{Book, IsBook, IsKnown, numbered}
use Rattle.squares.specs.declared.sq.Sq.{Sq}
use Rattle.squares.proofs.SquareNumbers.{same_sq}
use Rattle.viewport.specs.Population.{HasPopulation, IsCount, cell_count}
use Rattle.viewport.proofs.Quarters.{IsQuartered}

-- number 0 is empty
pub zero_is_empty : (book : Book) (sq : Sq) → IsBook book → sq.num.0 ≡ 0 → book.cells sq ≡ empty
zero_is_empty book sq laws e = ap book.cells (same_sq sq (numbered sq.level 0) refl e) ∙ plane_equal _ _ (laws.zero_empty sq.level)

four_times : (n : ℕ) → 2 ^ (2 * suc n) ≡ 4 * 2 ^ (2 * n)
four_times n =
    let e : 2 * suc n ≡ suc (suc (2 * n)) = omega arith in
    let one = pow-suc 2 (2 * n) in let two = pow-suc 2 (suc (2 * n)) in
    ap (λ m. 2 ^ m) e ∙ omega (arith, one, two)

-- the count of an empty square
pub none_counted : (book : Book) (sq : Sq) → IsBook book → sq.num.0 ≡ 0 → IsCount book sq 0
none_counted book sq laws e = record {
  cells = sym (ap length (ap (square_cells (2 ^ sq.level)) (zero_is_empty book sq laws e) ∙ empty_cells (pos 0) (pos 0) (2 ^ sq.level) (2 ^ sq.level)));
  most = omega arith;
}

-- the count of a square whose cells are these
pub counted_as : (book : Book) (sq : Sq) (level population : ℕ) (plane : Plane) → sq.level ≡ level → IsSame (book.cells sq) plane →
    population ≡ cell_count (2 ^ level) plane → population ≤ 2 ^ (2 * level) → IsCount book sq population
counted_as book sq level population plane e same count most = record {
  cells = count ∙ ap (λ n. cell_count (2 ^ n) plane) (sym e) ∙ ap (cell_count (2 ^ sq.level)) (sym (plane_equal _ _ same));
  most = subst (λ n. population ≤ 2 ^ (2 * n)) (sym e) most;
}

sum_is : (a b c d nw ne sw se whole : ℕ) → a ≡ nw → b ≡ ne → c ≡ sw → d ≡ se → whole ≡ nw + ne + sw + se → (a + b) + (c + d) ≡ whole
sum_is a b c d nw ne sw se whole e f g h s = omega arith

level_count : (book : Book) (sq : Sq) (level n : ℕ) → sq.level ≡ level → IsCount book sq n → n ≡ cell_count (2 ^ level) (book.cells sq)
level_count book sq level n e is = is.cells ∙ ap (λ m. cell_count (2 ^ m) (book.cells sq)) e

level_most : (book : Book) (sq : Sq) (level n : ℕ) → sq.level ≡ level → IsCount book sq n → n ≤ 2 ^ (2 * level)
level_most book sq level n e is = subst (λ m. n ≤ 2 ^ (2 * m)) e is.most

-- the count of a square is the sum of its quarters' counts
pub four_counted : (book : Book) (sq nw ne sw se : Sq) (a b c d : ℕ) → 3 < sq.level →
    IsQuartered (2 ^ (sq.level - 1)) (book.cells sq) (book.cells nw) (book.cells ne) (book.cells sw) (book.cells se) →
    nw.level ≡ sq.level - 1 → ne.level ≡ sq.level - 1 → sw.level ≡ sq.level - 1 → se.level ≡ sq.level - 1 →
    IsCount book nw a → IsCount book ne b → IsCount book sw c → IsCount book se d → IsCount book sq ((a + b) + (c + d))
four_counted book sq nw ne sw se a b c d above is e_nw e_ne e_sw e_se is_a is_b is_c is_d =
    let h : ℕ = 2 ^ (sq.level - 1) in
    let lower : sq.level ≡ suc (sq.level - 1) = omega arith in
    let grows = four_times (sq.level - 1) in
    let most_a = level_most book nw (sq.level - 1) a e_nw is_a in let most_b = level_most book ne (sq.level - 1) b e_ne is_b in
    let most_c = level_most book sw (sq.level - 1) c e_sw is_c in let most_d = level_most book se (sq.level - 1) d e_se is_d in
    record {
      cells = sum_is a b c d _ _ _ _ _ (level_count book nw _ a e_nw is_a) (level_count book ne _ b e_ne is_b) (level_count book sw _ c e_sw is_c) (level_count book se _ d e_se is_d)
          (ap (λ n. cell_count n (book.cells sq)) (twice_half sq.level (omega arith)) ∙ ap (cell_count (h + h)) is.joined_are
          ∙ joined_length h (book.cells nw) (book.cells ne) (book.cells sw) (book.cells se));
      most = subst (λ n. (a + b) + (c + d) ≤ 2 ^ (2 * n)) (sym lower) (omega (arith, grows, most_a, most_b, most_c, most_d));
    }

-- a square of a level below 63 has at most 2^124 live cells
pub few : (book : Book) (sq : Sq) (level n : ℕ) → sq.level ≡ level → level ≤ 62 → IsCount book sq n → n ≤ 2 ^ 124
few book sq level n e low is =
    let most = level_most book sq level n e is in
    let grows = pow_mono {i = 2 * level} {j = 124} (omega arith) in omega (arith, most, grows)

-- the listing of a square around (0,0)
pub centred_listing : (level : ℕ) (plane : Plane) → IsSquare (2 ^ level) plane →
    IsListing (map (moved_cell (pos 0 -ℤ pos (2 ^ (level - 1))) (pos 0 -ℤ pos (2 ^ (level - 1)))) (square_cells (2 ^ level) plane)) (centred level plane)
centred_listing level plane is =
    subst (IsListing _) (plane_equal _ _ (same_sym (centred_moved level plane))) (moved_listing _ _ _ plane (square_listing (2 ^ level) plane is))

-- the count of a square is its population, around (0,0) too
pub population_of : (book : Book) (sq : Sq) (n : ℕ) → IsBook book → IsKnown book sq.level sq → IsCount book sq n → HasPopulation (centred sq.level (book.cells sq)) n
population_of book sq n laws known is = record {
  cells = map (moved_cell (pos 0 -ℤ pos (2 ^ (sq.level - 1))) (pos 0 -ℤ pos (2 ^ (sq.level - 1)))) (square_cells (2 ^ sq.level) (book.cells sq));
  listing = centred_listing sq.level (book.cells sq) (laws.square sq known.known);
  count = is.cells ∙ sym (length-map (square_cells (2 ^ sq.level) (book.cells sq)) (moved_cell (pos 0 -ℤ pos (2 ^ (sq.level - 1))) (pos 0 -ℤ pos (2 ^ (sq.level - 1)))));
}
