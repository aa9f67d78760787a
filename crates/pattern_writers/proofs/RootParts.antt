-- The quarters of a square around (0,0), and those of the square of half its side.
use Rattle.std.proofs.Common.{◌≡◌, ℕ, ◌+◌, ◌-◌, ◌^◌, ◌<◌, ◌≤◌, ℤ, pos, ◌+ℤ◌, ◌-ℤ◌, List, [], ◌∷◌, All, refl, sym, ◌∙◌, ap, subst, arith}
use Rattle.std.specs.Prelude.{◌&&◌}
use Rattle.std.specs.List.{AllByRecursion}
use Rattle.std.proofs.lemmas.Int.{ints}
use Rattle.std.proofs.lemmas.List.Elements.{All-from_recursion}
use Rattle.plane.specs.Centred.{Holds, centred}
use Rattle.plane.specs.Laws.{moved}
use Rattle.plane.specs.Plane.{Plane}
use Rattle.plane.specs.Square.{IsSame, IsSquare, cut, empty, spans}
use Rattle.plane.proofs.Borders.{dead_border, holds_inside}
use Rattle.plane.proofs.Cuts.{and_case, cut_cut}
use Rattle.plane.proofs.Paddings.{holds_more, square_held, twice_half}
use Rattle.plane.proofs.Same.{plane_equal, same_refl, same_sym, same_trans}
use Rattle.squares.specs.Borders.{border_of}
use Rattle.squares.specs.Book.{Book, AreKnown, IsBook, IsEmpty, IsKnown, Shows, AreQuarters, nth, numbered}
use Rattle.squares.specs.declared.sq.Sq.{Sq}
use Rattle.pattern_writers.specs.McText.{from_corner}
use Rattle.pattern_writers.specs.Roots.{HasRoot, IsRoot}
use Rattle.pattern_writers.specs.declared.mc_text.root.Root.{Root}

-- ---- to the corner and back

there_and_back : (half : ℕ) (z : ℤ) → (z -ℤ pos half) +ℤ pos half ≡ z
there_and_back half z = omega (arith, ints)

back_and_there : (half : ℕ) (z : ℤ) → (z +ℤ pos half) -ℤ pos half ≡ z
back_and_there half z = omega (arith, ints)

pub corner_of_centred : (level : ℕ) (plane : Plane) → from_corner level (centred level plane) ≡ plane
corner_of_centred level plane = λ i x y. plane (there_and_back (2 ^ (level - 1)) x i) (there_and_back (2 ^ (level - 1)) y i)

pub centred_of_corner : (level : ℕ) (plane : Plane) → centred level (from_corner level plane) ≡ plane
centred_of_corner level plane = λ i x y. plane (back_and_there (2 ^ (level - 1)) x i) (back_and_there (2 ^ (level - 1)) y i)

-- all live cells lie in the square that is moved to the corner
pub corner_square : (level : ℕ) (plane : Plane) → Holds level plane → IsSquare (2 ^ level) (from_corner level plane)
corner_square level plane is = record {
  dead = λ x y out. is.dead (x -ℤ pos (2 ^ (level - 1))) (y -ℤ pos (2 ^ (level - 1)))
      (ap (λ u. spans (2 ^ level) u && spans (2 ^ level) ((y -ℤ pos (2 ^ (level - 1))) +ℤ pos (2 ^ (level - 1)))) (there_and_back (2 ^ (level - 1)) x)
      ∙ ap (λ v. spans (2 ^ level) x && spans (2 ^ level) v) (there_and_back (2 ^ (level - 1)) y) ∙ out);
}

-- ---- one level down

from_half : (quarter half from to : ℕ) (z : ℤ) → half ≡ quarter + quarter → from ≡ to + quarter → (z +ℤ pos from) -ℤ pos half ≡ (z +ℤ pos to) -ℤ pos quarter
from_half quarter half from to z e f = omega (arith, ints, e, f)

-- a part of the square that is moved by half its side is one of the inner square that is moved by
-- half of its own
part_inside : (quarter half left left' top top' : ℕ) (plane : Plane) → half ≡ quarter + quarter → left ≡ left' + quarter → top ≡ top' + quarter →
    IsSame (cut quarter left top (moved (pos half) (pos half) plane)) (cut quarter left' top' (moved (pos quarter) (pos quarter) plane))
part_inside quarter half left left' top top' plane e f g = record {
  same = λ x y. and_case (spans quarter x && spans quarter y) _ _ (λ _.
      ap (λ u. plane u ((y +ℤ pos top) -ℤ pos half)) (from_half quarter half left left' x e f) ∙ ap (plane ((x +ℤ pos left') -ℤ pos quarter)) (from_half quarter half top top' y e g));
}

module _ (book : Book) (laws : IsBook book) where
  -- number 0 has no cells
  pub empty_shown : (level : ℕ) (plane : Plane) (sq : Sq) → Shows book level plane sq → IsEmpty sq → IsSame plane empty
  empty_shown level plane sq shown e =
      let zero_is : numbered level 0 ≡ sq = λ i. record { level = sym shown.known.at_level i; num = record { 0 = sym e i } } in
      same_trans (same_sym shown.cells) (subst (λ q. IsSame (book.cells q) empty) zero_is (laws.zero_empty level))

  -- no cells are those of number 0
  pub shown_empty : (level : ℕ) (plane : Plane) (sq : Sq) → Shows book level plane sq → IsSame plane empty → IsEmpty sq
  shown_empty level plane sq shown none =
      let zero = laws.zero_known level shown.known.low shown.known.high in
      let one : numbered level 0 ≡ sq = laws.one_number (numbered level 0) sq zero shown.known.known (sym shown.known.at_level) (same_trans (laws.zero_empty level) (same_sym (same_trans shown.cells none))) in
      ap (λ (q : Sq). q.num.0) (sym one)

  -- the parts of a quarter
  pub parts_of : (level : ℕ) (plane : Plane) (quarter : Sq) (parts : List Sq) → Shows book level plane quarter → AreQuarters book quarter.level (book.cells quarter) parts → AreQuarters book level plane parts
  parts_of level plane quarter parts shown are =
      subst (λ p. AreQuarters book level p parts) (plane_equal _ _ shown.cells) (subst (λ n. AreQuarters book n (book.cells quarter) parts) shown.known.at_level are)

  shown_as : (level : ℕ) (plane other : Plane) (sq : Sq) → IsSame plane other → Shows book level plane sq → Shows book level other sq
  shown_as level plane other sq same shown = record { known = shown.known; cells = same_trans shown.cells same }

  module _ (plane : Plane) (root : Root) (qa qb qc qd : List Sq) (above : 4 < root.level) (is : HasRoot book plane root)
      (in_a : AreQuarters book (root.level - 1) (cut (2 ^ (root.level - 1)) 0 0 (from_corner root.level plane)) qa)
      (in_b : AreQuarters book (root.level - 1) (cut (2 ^ (root.level - 1)) (2 ^ (root.level - 1)) 0 (from_corner root.level plane)) qb)
      (in_c : AreQuarters book (root.level - 1) (cut (2 ^ (root.level - 1)) 0 (2 ^ (root.level - 1)) (from_corner root.level plane)) qc)
      (in_d : AreQuarters book (root.level - 1) (cut (2 ^ (root.level - 1)) (2 ^ (root.level - 1)) (2 ^ (root.level - 1)) (from_corner root.level plane)) qd) where
    quarter_is : 2 ^ (root.level - 1 - 1) ≡ 2 ^ (root.level - 2)
    quarter_is = let e : root.level - 1 - 1 ≡ root.level - 2 = omega arith in ap (λ n. 2 ^ n) e

    half_is : 2 ^ (root.level - 1) ≡ 2 ^ (root.level - 1 - 1) + 2 ^ (root.level - 1 - 1)
    half_is = twice_half (root.level - 1) (omega arith)

    pub bordered_holds : All IsEmpty (border_of qa qb qc qd) → Holds (root.level - 1) plane
    bordered_holds none =
        subst (Holds (root.level - 1)) (centred_of_corner root.level plane)
        (holds_inside root.level (2 ^ (root.level - 1 - 1)) (from_corner root.level plane) (omega arith) quarter_is (corner_square root.level plane is.holds) (record {
          nw_nw = empty_shown _ _ (nth qa 0) in_a.nw (none 0 (numbered 0 0) (omega arith));
          nw_ne = empty_shown _ _ (nth qa 1) in_a.ne (none 1 (numbered 0 0) (omega arith));
          nw_sw = empty_shown _ _ (nth qa 2) in_a.sw (none 2 (numbered 0 0) (omega arith));
          ne_nw = empty_shown _ _ (nth qb 0) in_b.nw (none 3 (numbered 0 0) (omega arith));
          ne_ne = empty_shown _ _ (nth qb 1) in_b.ne (none 4 (numbered 0 0) (omega arith));
          ne_se = empty_shown _ _ (nth qb 3) in_b.se (none 5 (numbered 0 0) (omega arith));
          sw_nw = empty_shown _ _ (nth qc 0) in_c.nw (none 6 (numbered 0 0) (omega arith));
          sw_sw = empty_shown _ _ (nth qc 2) in_c.sw (none 7 (numbered 0 0) (omega arith));
          sw_se = empty_shown _ _ (nth qc 3) in_c.se (none 8 (numbered 0 0) (omega arith));
          se_ne = empty_shown _ _ (nth qd 1) in_d.ne (none 9 (numbered 0 0) (omega arith));
          se_sw = empty_shown _ _ (nth qd 2) in_d.sw (none 10 (numbered 0 0) (omega arith));
          se_se = empty_shown _ _ (nth qd 3) in_d.se (none 11 (numbered 0 0) (omega arith));
        }))

    pub holds_bordered : Holds (root.level - 1) plane → All IsEmpty (border_of qa qb qc qd)
    holds_bordered held =
        let dead = dead_border root.level (2 ^ (root.level - 1 - 1)) (from_corner root.level plane) (omega arith) quarter_is (subst (Holds (root.level - 1)) (sym (centred_of_corner root.level plane)) held) in
        let east : AllByRecursion IsEmpty (nth qc 0 ∷ nth qc 2 ∷ nth qc 3 ∷ nth qd 1 ∷ nth qd 2 ∷ nth qd 3 ∷ []) = (
          shown_empty _ _ (nth qc 0) in_c.nw dead.sw_nw,
          (
            shown_empty _ _ (nth qc 2) in_c.sw dead.sw_sw,
            (
              shown_empty _ _ (nth qc 3) in_c.se dead.sw_se,
              (shown_empty _ _ (nth qd 1) in_d.ne dead.se_ne, (shown_empty _ _ (nth qd 2) in_d.sw dead.se_sw, (shown_empty _ _ (nth qd 3) in_d.se dead.se_se, tt))),
            ),
          ),
        ) in
        let all : AllByRecursion IsEmpty (border_of qa qb qc qd) = (
          shown_empty _ _ (nth qa 0) in_a.nw dead.nw_nw,
          (
            shown_empty _ _ (nth qa 1) in_a.ne dead.nw_ne,
            (
              shown_empty _ _ (nth qa 2) in_a.sw dead.nw_sw,
              (shown_empty _ _ (nth qb 0) in_b.nw dead.ne_nw, (shown_empty _ _ (nth qb 1) in_b.ne dead.ne_ne, (shown_empty _ _ (nth qb 3) in_b.se dead.ne_se, east))),
            ),
          ),
        ) in
        All-from_recursion IsEmpty (border_of qa qb qc qd) all

    piece : (left top over down left' top' : ℕ) (sq : Sq) → over + 2 ^ (root.level - 1 - 1) ≤ 2 ^ (root.level - 1) → down + 2 ^ (root.level - 1 - 1) ≤ 2 ^ (root.level - 1) →
        left + over ≡ left' + 2 ^ (root.level - 1 - 1) → top + down ≡ top' + 2 ^ (root.level - 1 - 1) →
        Shows book (root.level - 1 - 1) (cut (2 ^ (root.level - 1 - 1)) over down (cut (2 ^ (root.level - 1)) left top (from_corner root.level plane))) sq →
        Shows book (root.level - 1 - 1) (cut (2 ^ (root.level - 1 - 1)) left' top' (from_corner (root.level - 1) plane)) sq
    piece left top over down left' top' sq fits_x fits_y e f shown =
        shown_as _ _ _ sq
        (same_trans (cut_cut (2 ^ (root.level - 1 - 1)) (2 ^ (root.level - 1)) left top over down (from_corner root.level plane) (cut (2 ^ (root.level - 1)) left top (from_corner root.level plane)) fits_x fits_y (same_refl _))
        (part_inside (2 ^ (root.level - 1 - 1)) (2 ^ (root.level - 1)) (left + over) left' (top + down) top' plane half_is e f))
        shown

    -- the square of half the side, if it has all the cells
    pub inner_root : Holds (root.level - 1) plane → HasRoot book plane (record { level = root.level - 1; quarters = nth qa 3 ∷ nth qb 2 ∷ nth qc 1 ∷ nth qd 0 ∷ [] })
    inner_root held =
        let two = half_is in
        record {
          least = omega arith;
          holds = held;
          quarters = record {
            nw = piece 0 0 (2 ^ (root.level - 1 - 1)) (2 ^ (root.level - 1 - 1)) 0 0 (nth qa 3) (omega (arith, two)) (omega (arith, two)) refl refl in_a.se;
            ne = piece (2 ^ (root.level - 1)) 0 0 (2 ^ (root.level - 1 - 1)) (2 ^ (root.level - 1 - 1)) 0 (nth qb 2) (omega (arith, two)) (omega (arith, two)) (omega (arith, two)) refl in_b.sw;
            sw = piece 0 (2 ^ (root.level - 1)) (2 ^ (root.level - 1 - 1)) 0 0 (2 ^ (root.level - 1 - 1)) (nth qc 1) (omega (arith, two)) (omega (arith, two)) refl (omega (arith, two)) in_c.ne;
            se = piece (2 ^ (root.level - 1)) (2 ^ (root.level - 1)) 0 0 (2 ^ (root.level - 1 - 1)) (2 ^ (root.level - 1 - 1)) (nth qd 0) (omega (arith, two)) (omega (arith, two)) (omega (arith, two)) (omega (arith, two)) in_d.nw;
          };
        }

-- the quarters of a square around (0,0) are known
pub quarters_known : (book : Book) (plane : Plane) (level : ℕ) (quarters : List Sq) → AreQuarters book level plane quarters → AreKnown book (level - 1) quarters
quarters_known book plane level quarters are = record { first = are.nw.known; second = are.ne.known; third = are.sw.known; fourth = are.se.known }

-- the square of a book is a square around (0,0)
pub first_root : (book : Book) (sq : Sq) (parts : List Sq) → IsBook book → IsKnown book sq.level sq → 4 ≤ sq.level → AreQuarters book sq.level (book.cells sq) parts →
    HasRoot book (centred sq.level (book.cells sq)) (record { level = sq.level; quarters = parts })
first_root book sq parts laws known low are = record {
  least = low;
  holds = square_held sq.level (book.cells sq) (laws.square sq known.known);
  quarters = subst (λ p. AreQuarters book sq.level p parts) (sym (corner_of_centred sq.level (book.cells sq))) are;
}

-- no smaller square holds the cells
pub smallest_root : (book : Book) (plane : Plane) (root : Root) → HasRoot book plane root → (4 < root.level → ¬ Holds (root.level - 1) plane) → IsRoot book plane root
smallest_root book plane root has none = record {
  smallest = record {
    least = has.least;
    holds = has.holds;
    no_smaller = λ other least less held. none (omega arith) (holds_more other (root.level - 1) plane (omega arith) (omega arith) held);
  };
  quarters = has.quarters;
}
