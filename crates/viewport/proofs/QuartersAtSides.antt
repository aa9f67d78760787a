-- The quarters of a square, as they lie at its sides: the two halves at a side, and what the search
-- in them asks for.
use Rattle.std.proofs.Common.{◌≡◌, ℕ, ◌+◌, ◌-◌, ◌^◌, ◌≤◌, ◌<◌, ◌⊎◌, ℤ, pos, ◌+ℤ◌, ◌-ℤ◌, true, ◌||◌, List, refl, sym, ◌∙◌, ap, subst, inl, inr, arith}
use Rattle.std.specs.Prelude.{IsTrue}
use Rattle.std.proofs.lemmas.Int.{ints}
use Rattle.plane.specs.Laws.{moved}
use Rattle.plane.specs.Plane.{Plane}
use Rattle.plane.specs.Square.{IsSame, IsSquare}
use Rattle.plane.proofs.Same.{plane_equal}
use Rattle.squares.specs.Book.{AreKnown, AreQuarters, Book, IsBook, IsKnown, Keeps, nth}
use Rattle.squares.specs.declared.sq.Sq.{Sq}
use Rattle.squares.proofs.Kept.{known_kept}
use Rattle.viewport.specs.declared.gaps.Side.{Side}
use Rattle.viewport.specs.declared.gaps.Side.TheVariants.{Left, Right, Top, Bottom}
use Rattle.viewport.specs.Gaps.{HasCellAt, distance_from, near_first}
use Rattle.viewport.specs.Halves.{either, side_by_side}
use Rattle.viewport.proofs.BoxesOfPlanes.{both_dead, here_too, or_case, or_left, or_right}
use Rattle.viewport.proofs.GapsOfHalves.{IsHalved}
use Rattle.viewport.proofs.Quarters.{IsQuartered, from_nothing, over, own_level, quartered}

-- how much farther from the side of a square of twice this side a cell lies that was moved so far
-- to the right and down
abbrev pub farther_off : Side → ℕ → ℤ → ℤ → ℤ
farther_off Left h right down = right
farther_off Right h right down = pos h -ℤ right
farther_off Top h right down = down
farther_off Bottom h right down = pos h -ℤ down

moved_off : (side : Side) (h : ℕ) (right down x y n by : ℤ) → farther_off side h right down ≡ by → distance_from side h x y ≡ n → distance_from side (h + h) (x +ℤ right) (y +ℤ down) ≡ n +ℤ by
moved_off Left h right down x y n by e f = omega (arith, ints)
moved_off Right h right down x y n by e f = omega (arith, ints)
moved_off Top h right down x y n by e f = omega (arith, ints)
moved_off Bottom h right down x y n by e f = omega (arith, ints)

moved_back : (side : Side) (h : ℕ) (right down x y by : ℤ) → farther_off side h right down ≡ by → distance_from side h (x -ℤ right) (y -ℤ down) ≡ distance_from side (h + h) x y -ℤ by
moved_back Left h right down x y by e = omega (arith, ints)
moved_back Right h right down x y by e = omega (arith, ints)
moved_back Top h right down x y by e = omega (arith, ints)
moved_back Bottom h right down x y by e = omega (arith, ints)

-- the lower quarters, each moved by itself
apart : (h : ℕ) (sw se : Plane) → IsSame (moved (pos 0) (pos h) (side_by_side h sw se)) (either (moved (pos 0) (pos h) sw) (moved (pos h) (pos h) se))
apart h sw se = record {
  same = λ x y. ap (λ u. sw (x -ℤ pos 0) (y -ℤ pos h) || se (u -ℤ pos h) ((y -ℤ pos h) -ℤ pos 0)) (from_nothing x)
      ∙ ap (λ v. sw (x -ℤ pos 0) (y -ℤ pos h) || se (x -ℤ pos h) v) (from_nothing (y -ℤ pos h));
}

unmoved : (q : Plane) → IsSame q (moved (pos 0) (pos 0) q)
unmoved q = record { same = λ x y. sym (ap (λ u. q u (y -ℤ pos 0)) (from_nothing x) ∙ ap (q x) (from_nothing y)) }

-- a square has the cells of its quarters, each moved to its place
quarters_moved : (h : ℕ) (p nw ne sw se : Plane) → IsQuartered h p nw ne sw se →
    p ≡ either (either (moved (pos 0) (pos 0) nw) (moved (pos h) (pos 0) ne)) (either (moved (pos 0) (pos h) sw) (moved (pos h) (pos h) se))
quarters_moved h p nw ne sw se is =
    over h p nw ne sw se is ∙ ap (either (side_by_side h nw ne)) (plane_equal _ _ (apart h sw se))
    ∙ ap (λ q. either (either q (moved (pos h) (pos 0) ne)) (either (moved (pos 0) (pos h) sw) (moved (pos h) (pos h) se))) (plane_equal _ _ (unmoved nw))

each_quarter : (h : ℕ) (p nw ne sw se : Plane) → IsQuartered h p nw ne sw se → {A : Type 0} (x y : ℤ) → p x y ≡ true →
    (moved (pos 0) (pos 0) nw x y ≡ true → A) → (moved (pos h) (pos 0) ne x y ≡ true → A) →
    (moved (pos 0) (pos h) sw x y ≡ true → A) → (moved (pos h) (pos h) se x y ≡ true → A) → A
each_quarter h p nw ne sw se is x y live a b c d =
    or_case _ _ (sym (ap (λ q. q x y) (quarters_moved h p nw ne sw se is)) ∙ live) (λ e. or_case _ _ e a b) (λ e. or_case _ _ e c d)

-- a quarter of a square of twice this side, so far to the right and down, and so much farther from
-- the square's side than from its own
record IsQuarterAt (side : Side) (h : ℕ) (right down by : ℤ) (p q : Plane) : Type 0 where
  pub square : IsSquare h q
  pub cells : (x y : ℤ) → moved right down q x y ≡ true → p x y ≡ true
  pub off : farther_off side h right down ≡ by

nw_at : (side : Side) (h : ℕ) (by : ℤ) (p nw ne sw se : Plane) → IsQuartered h p nw ne sw se → farther_off side h (pos 0) (pos 0) ≡ by → IsQuarterAt side h (pos 0) (pos 0) by p nw
nw_at side h by p nw ne sw se is off = record {
  square = is.in_nw;
  cells = λ x y e. ap (λ q. q x y) (quarters_moved h p nw ne sw se is) ∙ or_left _ _ (or_left _ _ e);
  off = off;
}

ne_at : (side : Side) (h : ℕ) (by : ℤ) (p nw ne sw se : Plane) → IsQuartered h p nw ne sw se → farther_off side h (pos h) (pos 0) ≡ by → IsQuarterAt side h (pos h) (pos 0) by p ne
ne_at side h by p nw ne sw se is off = record {
  square = is.in_ne;
  cells = λ x y e. ap (λ q. q x y) (quarters_moved h p nw ne sw se is) ∙ or_left _ _ (or_right _ _ e);
  off = off;
}

sw_at : (side : Side) (h : ℕ) (by : ℤ) (p nw ne sw se : Plane) → IsQuartered h p nw ne sw se → farther_off side h (pos 0) (pos h) ≡ by → IsQuarterAt side h (pos 0) (pos h) by p sw
sw_at side h by p nw ne sw se is off = record {
  square = is.in_sw;
  cells = λ x y e. ap (λ q. q x y) (quarters_moved h p nw ne sw se is) ∙ or_right _ _ (or_left _ _ e);
  off = off;
}

se_at : (side : Side) (h : ℕ) (by : ℤ) (p nw ne sw se : Plane) → IsQuartered h p nw ne sw se → farther_off side h (pos h) (pos h) ≡ by → IsQuarterAt side h (pos h) (pos h) by p se
se_at side h by p nw ne sw se is off = record {
  square = is.in_se;
  cells = λ x y e. ap (λ q. q x y) (quarters_moved h p nw ne sw se is) ∙ or_right _ _ (or_right _ _ e);
  off = off;
}

cell_off : (side : Side) (h : ℕ) (right down by : ℤ) (p q : Plane) → IsQuarterAt side h right down by p q → (n x y : ℤ) → q x y ≡ true → distance_from side h x y ≡ n → HasCellAt side (h + h) p (n +ℤ by)
cell_off side h right down by p q is n x y live there = record {
  x = x +ℤ right;
  y = y +ℤ down;
  live = is.cells _ _ (here_too q right down x y live);
  there = moved_off side h right down x y n by is.off there;
}

both_squares : (h : ℕ) (p q : Plane) → IsSquare h p → IsSquare h q → IsSquare h (either p q)
both_squares h p q is_p is_q = record { dead = λ x y e. both_dead (p x y) (q x y) (is_p.dead x y e) (is_q.dead x y e) }

-- two quarters at the side and the two others
halved : (side : Side) (h : ℕ) (p a b c d : Plane) (ra da rb db rc dc rd dd : ℤ) →
    IsQuarterAt side h ra da (pos 0) p a → IsQuarterAt side h rb db (pos 0) p b → IsQuarterAt side h rc dc (pos h) p c → IsQuarterAt side h rd dd (pos h) p d →
    ((x y : ℤ) → p x y ≡ true → ((moved ra da a x y ≡ true) ⊎ (moved rb db b x y ≡ true)) ⊎ ((moved rc dc c x y ≡ true) ⊎ (moved rd dd d x y ≡ true))) →
    IsHalved side h p (either a b) (either c d)
halved side h p a b c d ra da rb db rc dc rd dd is_a is_b is_c is_d each = record {
  near_square = both_squares h a b is_a.square is_b.square;
  far_square = both_squares h c d is_c.square is_d.square;
  near_cell = λ n cell. or_case _ _ cell.live
      (λ e. cell_off side h ra da (pos 0) p a is_a n cell.x cell.y e cell.there)
      (λ e. cell_off side h rb db (pos 0) p b is_b n cell.x cell.y e cell.there);
  far_cell = λ n cell. or_case _ _ cell.live
      (λ e. cell_off side h rc dc (pos h) p c is_c n cell.x cell.y e cell.there)
      (λ e. cell_off side h rd dd (pos h) p d is_d n cell.x cell.y e cell.there);
  each = λ x y live. elim (each x y live) [
    | inl (inl e) ↦ inl (record { x = x -ℤ ra; y = y -ℤ da; live = or_left _ _ e; there = moved_back side h ra da x y (pos 0) is_a.off })
    | inl (inr e) ↦ inl (record { x = x -ℤ rb; y = y -ℤ db; live = or_right _ _ e; there = moved_back side h rb db x y (pos 0) is_b.off })
    | inr (inl e) ↦ inr (record { x = x -ℤ rc; y = y -ℤ dc; live = or_left _ _ e; there = moved_back side h rc dc x y (pos h) is_c.off })
    | inr (inr e) ↦ inr (record { x = x -ℤ rd; y = y -ℤ dd; live = or_right _ _ e; there = moved_back side h rd dd x y (pos h) is_d.off })
  ];
}

nothing_left : (h : ℕ) → pos h -ℤ pos h ≡ pos 0
nothing_left h = omega (arith, ints)

-- the halves of a square at a side, by its quarters
pub side_halves : (side : Side) (h : ℕ) (book : Book) (p : Plane) (quarters : List Sq) →
    IsQuartered h p (book.cells (nth quarters 0)) (book.cells (nth quarters 1)) (book.cells (nth quarters 2)) (book.cells (nth quarters 3)) →
    IsHalved side h p (either (book.cells (nth (near_first side quarters) 0)) (book.cells (nth (near_first side quarters) 1)))
    (either (book.cells (nth (near_first side quarters) 2)) (book.cells (nth (near_first side quarters) 3)))
side_halves Left h book p quarters is =
    halved Left h p _ _ _ _ _ _ _ _ _ _ _ _ (nw_at Left h _ p _ _ _ _ is refl) (sw_at Left h _ p _ _ _ _ is refl) (ne_at Left h _ p _ _ _ _ is refl) (se_at Left h _ p _ _ _ _ is refl)
    (λ x y live. each_quarter h p _ _ _ _ is x y live (λ e. inl (inl e)) (λ e. inr (inl e)) (λ e. inl (inr e)) (λ e. inr (inr e)))
side_halves Right h book p quarters is =
    halved Right h p _ _ _ _ _ _ _ _ _ _ _ _ (ne_at Right h _ p _ _ _ _ is (nothing_left h)) (se_at Right h _ p _ _ _ _ is (nothing_left h)) (nw_at Right h _ p _ _ _ _ is (from_nothing (pos h))) (sw_at Right h _ p _ _ _ _ is (from_nothing (pos h)))
    (λ x y live. each_quarter h p _ _ _ _ is x y live (λ e. inr (inl e)) (λ e. inl (inl e)) (λ e. inr (inr e)) (λ e. inl (inr e)))
side_halves Top h book p quarters is =
    halved Top h p _ _ _ _ _ _ _ _ _ _ _ _ (nw_at Top h _ p _ _ _ _ is refl) (ne_at Top h _ p _ _ _ _ is refl) (sw_at Top h _ p _ _ _ _ is refl) (se_at Top h _ p _ _ _ _ is refl)
    (λ x y live. each_quarter h p _ _ _ _ is x y live (λ e. inl (inl e)) (λ e. inl (inr e)) (λ e. inr (inl e)) (λ e. inr (inr e)))
side_halves Bottom h book p quarters is =
    halved Bottom h p _ _ _ _ _ _ _ _ _ _ _ _ (sw_at Bottom h _ p _ _ _ _ is (nothing_left h)) (se_at Bottom h _ p _ _ _ _ is (nothing_left h)) (nw_at Bottom h _ p _ _ _ _ is (from_nothing (pos h))) (ne_at Bottom h _ p _ _ _ _ is (from_nothing (pos h)))
    (λ x y live. each_quarter h p _ _ _ _ is x y live (λ e. inr (inl e)) (λ e. inr (inr e)) (λ e. inl (inl e)) (λ e. inl (inr e)))

near_known : (side : Side) (book : Book) (level : ℕ) (p : Plane) (quarters : List Sq) → AreQuarters book level p quarters → AreKnown book (level - 1) (near_first side quarters)
near_known Left book level p quarters are = record { first = are.nw.known; second = are.sw.known; third = are.ne.known; fourth = are.se.known }
near_known Right book level p quarters are = record { first = are.ne.known; second = are.se.known; third = are.nw.known; fourth = are.sw.known }
near_known Top book level p quarters are = record { first = are.nw.known; second = are.ne.known; third = are.sw.known; fourth = are.se.known }
near_known Bottom book level p quarters are = record { first = are.sw.known; second = are.se.known; third = are.nw.known; fourth = are.ne.known }

-- the quarters are known, in whatever order
pub side_known : (side : Side) (book : Book) (level : ℕ) (p : Plane) (quarters squares : List Sq) → squares ≡ near_first side quarters → AreQuarters book level p quarters → AreKnown book (level - 1) squares
side_known side book level p quarters squares e are = subst (AreKnown book (level - 1)) (sym e) (near_known side book level p quarters are)

-- the halves of a known square, by its quarters in the order of the side
pub known_halves : (side : Side) (was read : Book) (sq : Sq) (quarters squares : List Sq) → IsBook read → Keeps was read → IsKnown was sq.level sq → 3 < sq.level →
    AreQuarters read sq.level (was.cells sq) quarters → squares ≡ near_first side quarters →
    IsHalved side (2 ^ (sq.level - 1)) (was.cells sq) (either (read.cells (nth squares 0)) (read.cells (nth squares 1))) (either (read.cells (nth squares 2)) (read.cells (nth squares 3)))
known_halves side was read sq quarters squares laws keeps known above are e =
    let same = plane_equal (read.cells sq) (was.cells sq) (keeps.cells sq known.known) in
    let parts = subst (λ (p : Plane). AreQuarters read sq.level p quarters) (sym same) are in
    let whole = quartered read sq quarters laws (known_kept keeps known) above parts in
    subst (λ (list : List Sq). IsHalved side (2 ^ (sq.level - 1)) (was.cells sq) (either (read.cells (nth list 0)) (read.cells (nth list 1))) (either (read.cells (nth list 2)) (read.cells (nth list 3)))) (sym e)
    (subst (λ (p : Plane). IsHalved side (2 ^ (sq.level - 1)) p (either (read.cells (nth (near_first side quarters) 0)) (read.cells (nth (near_first side quarters) 1)))
    (either (read.cells (nth (near_first side quarters) 2)) (read.cells (nth (near_first side quarters) 3)))) same
    (side_halves side (2 ^ (sq.level - 1)) read (read.cells sq) quarters whole))

-- what the search in two quarters asks for: that they are known, their level, and more
pub of_two_quarters : {More : Type 0} (book : Book) (level : ℕ) (a b : Sq) → level ≤ 63 → IsKnown book (level - 1) a → IsKnown book (level - 1) b → More →
    IsKnown book a.level a × (IsKnown book a.level b × ((a.level ≤ 63) × More))
of_two_quarters book level a b high known_a known_b more =
    let at_level = known_a.at_level in
    (own_level book _ a known_a, (subst (λ n. IsKnown book n b) (sym known_a.at_level) known_b, (omega (arith, at_level), more)))

-- the cells of two squares at a book that learned more
pub pair_kept : (a b : Book) (s t : Sq) → Keeps a b → IsTrue (a.knows s) → IsTrue (a.knows t) → IsSame (either (a.cells s) (a.cells t)) (either (b.cells s) (b.cells t))
pair_kept a b s t keeps known_s known_t = record {
  same = λ x y. sym (ap (λ v. v || b.cells t x y) ((keeps.cells s known_s).same x y) ∙ ap (λ v. a.cells s x y || v) ((keeps.cells t known_t).same x y));
}
