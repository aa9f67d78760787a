-- A square whose border is empty, and what its book says of the pieces.
use Rattle.std.proofs.Common.{◌≡◌, ℕ, ◌-◌, ◌^◌, ◌<◌, List, All, sym, ap, subst, arith}
use Rattle.plane.specs.Centred.{centred, Holds}
use Rattle.plane.specs.Plane.{Plane}
use Rattle.plane.specs.Square.{IsSame, IsSquare, cut, empty}
use Rattle.plane.proofs.Borders.{dead_border, holds_inside}
use Rattle.plane.proofs.Same.{same_trans, same_sym, plane_equal}
use Rattle.std.specs.List.{AllByRecursion}
use Rattle.std.proofs.lemmas.List.Elements.{All-from_recursion}
use Rattle.squares.specs.Borders.{border_of}
use Rattle.squares.specs.Book.{Book, IsBook, IsEmpty, Shows, AreQuarters, nth, numbered}
use Rattle.squares.specs.declared.sq.Sq.{Sq}

-- the quarters of a square of this level with the same cells
pub quarters_as : (book : Book) (level level' : ℕ) (plane plane' : Plane) (quarters : List Sq) → level ≡ level' → IsSame plane plane' →
    AreQuarters book level plane quarters → AreQuarters book level' plane' quarters
quarters_as book level level' plane plane' quarters e same are =
    subst (λ p. AreQuarters book level' p quarters) (plane_equal _ _ same) (subst (λ n. AreQuarters book n plane quarters) e are)

module _ (book : Book) (level : ℕ) (plane : Plane) (sq : Sq) (is : IsBook book) (shown : Shows book level plane sq) where
  numbered_zero : IsEmpty sq → numbered level 0 ≡ sq
  numbered_zero e = λ i. record { level = sym shown.known.at_level i; num = record { 0 = sym e i } }

  -- number 0 has no cells
  empty_shown : IsEmpty sq → IsSame plane empty
  empty_shown e = same_trans (same_sym shown.cells) (subst (λ q. IsSame (book.cells q) empty) (numbered_zero e) (is.zero_empty level))

  -- no cells are those of number 0
  shown_empty : IsSame plane empty → IsEmpty sq
  shown_empty none =
      let zero = is.zero_known level shown.known.low shown.known.high in
      let one : numbered level 0 ≡ sq = is.one_number (numbered level 0) sq zero shown.known.known (sym shown.known.at_level) (same_trans (is.zero_empty level) (same_sym (same_trans shown.cells none))) in
      ap (λ (q : Sq). q.num.0) (sym one)

module _ (level : ℕ) (plane : Plane) (b2 b3 b4 b5 : Book) (qa qb qc qd : List Sq) (least : 4 < level) (square : IsSquare (2 ^ level) plane)
    (is2 : IsBook b2) (is3 : IsBook b3) (is4 : IsBook b4) (is5 : IsBook b5)
    (in_a : AreQuarters b2 (level - 1) (cut (2 ^ (level - 1)) 0 0 plane) qa) (in_b : AreQuarters b3 (level - 1) (cut (2 ^ (level - 1)) (2 ^ (level - 1)) 0 plane) qb)
    (in_c : AreQuarters b4 (level - 1) (cut (2 ^ (level - 1)) 0 (2 ^ (level - 1)) plane) qc) (in_d : AreQuarters b5 (level - 1) (cut (2 ^ (level - 1)) (2 ^ (level - 1)) (2 ^ (level - 1)) plane) qd) where
  quarter_is : 2 ^ (level - 1 - 1) ≡ 2 ^ (level - 2)
  quarter_is = let e : level - 1 - 1 ≡ level - 2 = omega arith in ap (λ n. 2 ^ n) e

  pub bordered_holds : All IsEmpty (border_of qa qb qc qd) → Holds (level - 1) (centred level plane)
  bordered_holds none = holds_inside level (2 ^ (level - 1 - 1)) plane (omega arith) quarter_is square (record {
    nw_nw = empty_shown b2 _ _ (nth qa 0) is2 in_a.nw (none 0 (numbered 0 0) (omega arith));
    nw_ne = empty_shown b2 _ _ (nth qa 1) is2 in_a.ne (none 1 (numbered 0 0) (omega arith));
    nw_sw = empty_shown b2 _ _ (nth qa 2) is2 in_a.sw (none 2 (numbered 0 0) (omega arith));
    ne_nw = empty_shown b3 _ _ (nth qb 0) is3 in_b.nw (none 3 (numbered 0 0) (omega arith));
    ne_ne = empty_shown b3 _ _ (nth qb 1) is3 in_b.ne (none 4 (numbered 0 0) (omega arith));
    ne_se = empty_shown b3 _ _ (nth qb 3) is3 in_b.se (none 5 (numbered 0 0) (omega arith));
    sw_nw = empty_shown b4 _ _ (nth qc 0) is4 in_c.nw (none 6 (numbered 0 0) (omega arith));
    sw_sw = empty_shown b4 _ _ (nth qc 2) is4 in_c.sw (none 7 (numbered 0 0) (omega arith));
    sw_se = empty_shown b4 _ _ (nth qc 3) is4 in_c.se (none 8 (numbered 0 0) (omega arith));
    se_ne = empty_shown b5 _ _ (nth qd 1) is5 in_d.ne (none 9 (numbered 0 0) (omega arith));
    se_sw = empty_shown b5 _ _ (nth qd 2) is5 in_d.sw (none 10 (numbered 0 0) (omega arith));
    se_se = empty_shown b5 _ _ (nth qd 3) is5 in_d.se (none 11 (numbered 0 0) (omega arith));
  })

  pub holds_bordered : Holds (level - 1) (centred level plane) → All IsEmpty (border_of qa qb qc qd)
  holds_bordered held =
      let dead = dead_border level (2 ^ (level - 1 - 1)) plane (omega arith) quarter_is held in
      let all : AllByRecursion IsEmpty (border_of qa qb qc qd) = (
        shown_empty b2 _ _ (nth qa 0) is2 in_a.nw dead.nw_nw,
        (
          shown_empty b2 _ _ (nth qa 1) is2 in_a.ne dead.nw_ne,
          (
            shown_empty b2 _ _ (nth qa 2) is2 in_a.sw dead.nw_sw,
            (
              shown_empty b3 _ _ (nth qb 0) is3 in_b.nw dead.ne_nw,
              (
                shown_empty b3 _ _ (nth qb 1) is3 in_b.ne dead.ne_ne,
                (
                  shown_empty b3 _ _ (nth qb 3) is3 in_b.se dead.ne_se,
                  (
                    shown_empty b4 _ _ (nth qc 0) is4 in_c.nw dead.sw_nw,
                    (
                      shown_empty b4 _ _ (nth qc 2) is4 in_c.sw dead.sw_sw,
                      (
                        shown_empty b4 _ _ (nth qc 3) is4 in_c.se dead.sw_se,
                        (
                          shown_empty b5 _ _ (nth qd 1) is5 in_d.ne dead.se_ne,
                          (
                            shown_empty b5 _ _ (nth qd 2) is5 in_d.sw dead.se_sw,
                            (shown_empty b5 _ _ (nth qd 3) is5 in_d.se dead.se_se, tt),
                          ),
                        ),
                      ),
                    ),
                  ),
                ),
              ),
            ),
          ),
        ),
      ) in
      All-from_recursion IsEmpty (border_of qa qb qc qd) all
