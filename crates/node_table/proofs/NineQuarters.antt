-- The quarters of the nine overlapping squares.
use Rattle.std.proofs.Common.{◌≡◌, ℕ, ◌+◌, ◌-◌, ◌^◌, true, false, [], ◌∷◌, subst, arith, refl}
use Rattle.plane.specs.Plane.{Plane}
use Rattle.plane.specs.Square.{IsSame, IsSquare, cut, subsquare}
use Rattle.plane.proofs.Cuts.{joined_nw, joined_ne, joined_sw, joined_se}
use Rattle.plane.proofs.Same.{plane_equal, same_refl}
use Rattle.squares.specs.declared.sq.Sq.{Sq}
use Rattle.squares.specs.Book.{Book, AreQuarters, IsBook, IsKnown, Shows, joined_squares, numbered, own_store}
use Rattle.squares.proofs.NineSquares.{MakeSubsquare}

-- four squares of one level are the quarters of what they are together
module _ {book : Book} (is_book : IsBook book) (level : ℕ) {nw ne sw se : Sq} (k0 : IsKnown book level nw) (k1 : IsKnown book level ne) (k2 : IsKnown book level sw) (k3 : IsKnown book level se) where
  abbrev together : Plane
  together = joined_squares book level (nw ∷ ne ∷ sw ∷ se ∷ [])

  is_square : {sq : Sq} → IsKnown book level sq → IsSquare (2 ^ level) (book.cells sq)
  is_square {sq} known = subst (λ n. IsSquare (2 ^ n) (book.cells sq)) known.at_level (is_book.square sq known.known)

  quarters_together : (above : ℕ) → level ≡ above - 1 → AreQuarters book above together (nw ∷ ne ∷ sw ∷ se ∷ [])
  quarters_together above e = record {
    nw = subst (λ n. Shows book n (cut (2 ^ n) 0 0 together) nw) e (record { known = k0; cells = joined_nw (2 ^ level) _ _ _ _ (is_square k0) (is_square k1) (is_square k2) (is_square k3) });
    ne = subst (λ n. Shows book n (cut (2 ^ n) (2 ^ n) 0 together) ne) e (record { known = k1; cells = joined_ne (2 ^ level) _ _ _ _ (is_square k0) (is_square k1) (is_square k2) (is_square k3) });
    sw = subst (λ n. Shows book n (cut (2 ^ n) 0 (2 ^ n) together) sw) e (record { known = k2; cells = joined_sw (2 ^ level) _ _ _ _ (is_square k0) (is_square k1) (is_square k2) (is_square k3) });
    se = subst (λ n. Shows book n (cut (2 ^ n) (2 ^ n) (2 ^ n) together) se) e (record { known = k3; cells = joined_se (2 ^ level) _ _ _ _ (is_square k0) (is_square k1) (is_square k2) (is_square k3) });
  }

-- a book that shows these cells in each square
abbrev showing : Plane → Book → Book
showing plane book = record {
  rule = book.rule;
  exponent = book.exponent;
  knows = λ sq. true;
  cells = λ sq. plane;
  results = [];
  learned = 0;
  is_full = false;
  takes_memory = false;
  store = own_store;
  facts = [];
}

-- four squares that make one of the nine are its quarters
module _ {book : Book} {level row column : ℕ} {plane : Plane} {nw ne sw se : Sq} (is_book : IsBook book) (make : MakeSubsquare book level row column plane (nw ∷ ne ∷ sw ∷ se ∷ [])) where
  made : Shows (showing (joined_squares book nw.level (nw ∷ ne ∷ sw ∷ se ∷ [])) book) (level - 1) (subsquare level row column plane) (numbered (nw.level + 1) 0)
  made =
      let fits = make.fits in let low = make.known.0.low in
      make.shown (showing (joined_squares book nw.level (nw ∷ ne ∷ sw ∷ se ∷ [])) book) (numbered (nw.level + 1) 0) (record { known = record { known = refl; at_level = refl; low = omega arith; high = omega arith }; cells = same_refl _ })

  cells_made : IsSame (joined_squares book nw.level (nw ∷ ne ∷ sw ∷ se ∷ [])) (subsquare level row column plane)
  cells_made = made.cells

  pub quarters_made : AreQuarters book (level - 1) (subsquare level row column plane) (nw ∷ ne ∷ sw ∷ se ∷ [])
  quarters_made =
      let known = make.known in
      let at : nw.level + 1 ≡ level - 1 = made.known.at_level in
      subst (λ p. AreQuarters book (level - 1) p (nw ∷ ne ∷ sw ∷ se ∷ [])) (plane_equal _ _ cells_made)
      (quarters_together is_book nw.level known.0 known.1.0 known.1.1.0 known.1.1.1.0 (level - 1) (omega arith))
