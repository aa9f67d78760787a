-- The nine overlapping squares, put together of quarters of quarters.
use Rattle.std.proofs.Common.{◌≡◌, ℕ, zero, suc, ◌+◌, ◌-◌, ◌*◌, ◌^◌, ◌<◌, ◌≤◌, List, [], ◌∷◌, sym, ap, subst, arith, refl}
use Rattle.std.specs.List.{AllByRecursion}
use Rattle.plane.specs.Plane.{Plane}
use Rattle.plane.specs.Square.{IsSame, centre_of, cut, subsquare}
use Rattle.plane.proofs.Subsquares.{nw_subsquare, ne_subsquare, sw_subsquare, se_subsquare, upper_subsquare, left_subsquare, middle_subsquare, right_subsquare, lower_subsquare}
use Rattle.plane.proofs.Same.{plane_equal}
use Rattle.squares.specs.Book.{Book, IsKnown, Shows, Keeps, AreQuarters, AreSubsquares, joined_squares, nth}
use Rattle.squares.specs.Parts.{ArePartsOfParts}
use Rattle.squares.specs.declared.sq.Sq.{Sq}
use Rattle.squares.specs.declared.subsquares.Parts.{Parts}
use Rattle.squares.proofs.KnownQuarters.{quarters_of_level}
use Rattle.squares.proofs.Kept.{keeps_trans, shows_kept}
use Rattle.squares.proofs.Centres.{lowered, shows_as}

pub quarters_kept : {a b : Book} {level : ℕ} {plane : Plane} {quarters : List Sq} → Keeps a b → AreQuarters a level plane quarters → AreQuarters b level plane quarters
quarters_kept keeps h = record { nw = shows_kept keeps h.nw; ne = shows_kept keeps h.ne; sw = shows_kept keeps h.sw; se = shows_kept keeps h.se }

-- quarters of a square that was read earlier
later : (old new : Book) (level : ℕ) (plane : Plane) (sq : Sq) (quarters : List Sq) → Keeps old new → Shows old level plane sq → AreQuarters new level (old.cells sq) quarters → AreQuarters new level (new.cells sq) quarters
later old new level plane sq quarters keeps known h = subst (λ p. AreQuarters new level p quarters) (sym (plane_equal _ _ (keeps.cells sq known.known.known))) h

pub read_kept : {old new : Book} {level : ℕ} {plane : Plane} {parts : Parts} → Keeps old new → ArePartsOfParts old level plane parts → ArePartsOfParts new level plane parts
read_kept {old = old} {new = new} {level = level} {parts = parts} keeps r = record {
  whole = quarters_kept keeps r.whole;
  nw = later old new (level - 1) _ (nth parts.whole 0) parts.nw keeps r.whole.nw (quarters_kept keeps r.nw);
  ne = later old new (level - 1) _ (nth parts.whole 1) parts.ne keeps r.whole.ne (quarters_kept keeps r.ne);
  sw = later old new (level - 1) _ (nth parts.whole 2) parts.sw keeps r.whole.sw (quarters_kept keeps r.sw);
  se = later old new (level - 1) _ (nth parts.whole 3) parts.se keeps r.whole.se (quarters_kept keeps r.se);
}

-- what five reads in turn give
pub read_all : (level : ℕ) (b1 b2 b3 b4 b5 : Book) (plane : Plane) (parts : Parts) →
    AreQuarters b1 level plane parts.whole →
    Keeps b1 b2 → AreQuarters b2 (nth parts.whole 0).level (b1.cells (nth parts.whole 0)) parts.nw →
    Keeps b2 b3 → AreQuarters b3 (nth parts.whole 1).level (b2.cells (nth parts.whole 1)) parts.ne →
    Keeps b3 b4 → AreQuarters b4 (nth parts.whole 2).level (b3.cells (nth parts.whole 2)) parts.sw →
    Keeps b4 b5 → AreQuarters b5 (nth parts.whole 3).level (b4.cells (nth parts.whole 3)) parts.se →
    ArePartsOfParts b5 level plane parts
read_all level b1 b2 b3 b4 b5 plane parts all k2 in_a k3 in_b k4 in_c k5 in_d =
    let a2 = lowered b2 _ (level - 1) _ parts.nw all.nw.known.at_level in_a in
    let b3q = lowered b3 _ (level - 1) _ parts.ne all.ne.known.at_level in_b in
    let c4 = lowered b4 _ (level - 1) _ parts.sw all.sw.known.at_level in_c in
    let d5 = lowered b5 _ (level - 1) _ parts.se all.se.known.at_level in_d in
    let k24 = keeps_trans k3 k4 in
    let k25 = keeps_trans k3 (keeps_trans k4 k5) in
    let k35 = keeps_trans k4 k5 in
    let k13 = keeps_trans k2 k3 in
    let k14 = keeps_trans k2 k24 in
    let k15 = keeps_trans k2 k25 in
    record {
      whole = quarters_kept k15 all;
      nw = later b1 b5 (level - 1) _ (nth parts.whole 0) parts.nw k15 all.nw (quarters_kept k25 a2);
      ne = later b2 b5 (level - 1) _ (nth parts.whole 1) parts.ne k25 (shows_kept k2 all.ne) (quarters_kept k35 b3q);
      sw = later b3 b5 (level - 1) _ (nth parts.whole 2) parts.sw k35 (shows_kept k13 all.sw) (quarters_kept k5 c4);
      se = later b4 b5 (level - 1) _ (nth parts.whole 3) parts.se k5 (shows_kept k14 all.se) d5;
    }

-- the square of four squares that an earlier book knows
abbrev pub IsJoined : Book → Book → List Sq → Sq → Type 0
IsJoined old new quarters sq = Shows new ((nth quarters 0).level + 1) (joined_squares old (nth quarters 0).level quarters) sq

-- known squares of one level whose cells are together one of the nine squares
pub record MakeSubsquare (book : Book) (level row column : ℕ) (plane : Plane) (quarters : List Sq) : Type 0 where
  pub fits : (nth quarters 0).level < 65
  pub known : AllByRecursion (IsKnown book (nth quarters 0).level) quarters
  pub shown : (new : Book) (sq : Sq) → IsJoined book new quarters sq → Shows new (level - 1) (subsquare level row column plane) sq

module _ {book : Book} {level : ℕ} {plane : Plane} {parts : Parts} (above : 4 < level) (high : level ≤ 65) (r : ArePartsOfParts book level plane parts) where
  side_is : 2 ^ (level - 1 - 1) ≡ 2 ^ (level - 2)
  side_is = ap (λ n. 2 ^ n) (let e : level - 1 - 1 ≡ level - 2 = omega arith in e)

  -- four squares, each a quarter of a quarter, whose cells are together those of the square there
  make_subsquare : (row column : ℕ) (nw ne sw se : Sq) → IsKnown book (level - 1 - 1) nw → IsKnown book (level - 1 - 1) ne → IsKnown book (level - 1 - 1) sw → IsKnown book (level - 1 - 1) se →
      IsSame (joined_squares book (level - 1 - 1) (nw ∷ ne ∷ sw ∷ se ∷ [])) (subsquare level row column plane) → MakeSubsquare book level row column plane (nw ∷ ne ∷ sw ∷ se ∷ [])
  make_subsquare row column nw ne sw se k0 k1 k2 k3 same = record {
    fits = (let at = k0.at_level in omega arith);
    known = quarters_of_level book (level - 1 - 1) nw ne sw se k0 k1 k2 k3;
    shown = λ new sq joined.
        let here = subst (λ n. Shows new (n + 1) (joined_squares book n (nw ∷ ne ∷ sw ∷ se ∷ [])) sq) k0.at_level joined in
        shows_as new (level - 1 - 1 + 1) (level - 1) _ _ sq (omega arith) same here;
  }

  pub make_upper : MakeSubsquare book level 0 1 plane (nth parts.nw 1 ∷ nth parts.ne 0 ∷ nth parts.nw 3 ∷ nth parts.ne 2 ∷ [])
  make_upper = make_subsquare 0 1 (nth parts.nw 1) (nth parts.ne 0) (nth parts.nw 3) (nth parts.ne 2) r.nw.ne.known r.ne.nw.known r.nw.se.known r.ne.sw.known
      (upper_subsquare level (2 ^ (level - 1 - 1)) plane (omega arith) side_is _ _ (book.cells (nth parts.whole 2)) (book.cells (nth parts.whole 3)) _ _ _ _ r.whole.nw.cells r.whole.ne.cells r.nw.ne.cells r.ne.nw.cells r.nw.se.cells r.ne.sw.cells)

  pub make_left : MakeSubsquare book level 1 0 plane (nth parts.nw 2 ∷ nth parts.nw 3 ∷ nth parts.sw 0 ∷ nth parts.sw 1 ∷ [])
  make_left = make_subsquare 1 0 (nth parts.nw 2) (nth parts.nw 3) (nth parts.sw 0) (nth parts.sw 1) r.nw.sw.known r.nw.se.known r.sw.nw.known r.sw.ne.known
      (left_subsquare level (2 ^ (level - 1 - 1)) plane (omega arith) side_is _ (book.cells (nth parts.whole 1)) _ (book.cells (nth parts.whole 3)) _ _ _ _ r.whole.nw.cells r.whole.sw.cells r.nw.sw.cells r.nw.se.cells r.sw.nw.cells r.sw.ne.cells)

  pub make_middle : MakeSubsquare book level 1 1 plane (nth parts.nw 3 ∷ nth parts.ne 2 ∷ nth parts.sw 1 ∷ nth parts.se 0 ∷ [])
  make_middle = make_subsquare 1 1 (nth parts.nw 3) (nth parts.ne 2) (nth parts.sw 1) (nth parts.se 0) r.nw.se.known r.ne.sw.known r.sw.ne.known r.se.nw.known
      (middle_subsquare level (2 ^ (level - 1 - 1)) plane (omega arith) side_is _ _ _ _ _ _ _ _ r.whole.nw.cells r.whole.ne.cells r.whole.sw.cells r.whole.se.cells r.nw.se.cells r.ne.sw.cells r.sw.ne.cells r.se.nw.cells)

  pub make_right : MakeSubsquare book level 1 2 plane (nth parts.ne 2 ∷ nth parts.ne 3 ∷ nth parts.se 0 ∷ nth parts.se 1 ∷ [])
  make_right = make_subsquare 1 2 (nth parts.ne 2) (nth parts.ne 3) (nth parts.se 0) (nth parts.se 1) r.ne.sw.known r.ne.se.known r.se.nw.known r.se.ne.known
      (right_subsquare level (2 ^ (level - 1 - 1)) plane (omega arith) side_is (book.cells (nth parts.whole 0)) _ (book.cells (nth parts.whole 2)) _ _ _ _ _ r.whole.ne.cells r.whole.se.cells r.ne.sw.cells r.ne.se.cells r.se.nw.cells r.se.ne.cells)

  pub make_lower : MakeSubsquare book level 2 1 plane (nth parts.sw 1 ∷ nth parts.se 0 ∷ nth parts.sw 3 ∷ nth parts.se 2 ∷ [])
  make_lower = make_subsquare 2 1 (nth parts.sw 1) (nth parts.se 0) (nth parts.sw 3) (nth parts.se 2) r.sw.ne.known r.se.nw.known r.sw.se.known r.se.sw.known
      (lower_subsquare level (2 ^ (level - 1 - 1)) plane (omega arith) side_is (book.cells (nth parts.whole 0)) (book.cells (nth parts.whole 1)) _ _ _ _ _ _ r.whole.sw.cells r.whole.se.cells r.sw.ne.cells r.se.nw.cells r.sw.se.cells r.se.sw.cells)

  corner_shown : (row column : ℕ) (sq : Sq) (left top : ℕ) → Shows book (level - 1) (cut (2 ^ (level - 1)) left top plane) sq → (IsSame (book.cells sq) (cut (2 ^ (level - 1)) left top plane) → IsSame (book.cells sq) (subsquare level row column plane)) → Shows book (level - 1) (subsquare level row column plane) sq
  corner_shown row column sq left top h f = record { known = h.known; cells = f h.cells }

  all_nine : (upper left middle right lower : Sq) → Shows book (level - 1) (subsquare level 0 1 plane) upper → Shows book (level - 1) (subsquare level 1 0 plane) left → Shows book (level - 1) (subsquare level 1 1 plane) middle →
      Shows book (level - 1) (subsquare level 1 2 plane) right → Shows book (level - 1) (subsquare level 2 1 plane) lower → AreSubsquares book level plane (nth parts.whole 0 ∷ upper ∷ nth parts.whole 1 ∷ left ∷ middle ∷ right ∷ nth parts.whole 2 ∷ lower ∷ nth parts.whole 3 ∷ [])
  all_nine upper left middle right lower up le mi ri lo = record { shown = each }
    where
      each : (row column : ℕ) → row < 3 → column < 3 → Shows book (level - 1) (subsquare level row column plane) (nth (nth parts.whole 0 ∷ upper ∷ nth parts.whole 1 ∷ left ∷ middle ∷ right ∷ nth parts.whole 2 ∷ lower ∷ nth parts.whole 3 ∷ []) (3 * row + column))
      each zero zero h k = corner_shown 0 0 (nth parts.whole 0) 0 0 r.whole.nw (nw_subsquare level (2 ^ (level - 2)) plane (omega arith) refl _)
      each zero (suc zero) h k = up
      each zero (suc (suc zero)) h k = corner_shown 0 2 (nth parts.whole 1) (2 ^ (level - 1)) 0 r.whole.ne (ne_subsquare level (2 ^ (level - 2)) plane (omega arith) refl _)
      each zero (suc (suc (suc column))) h k = absurd (omega arith)
      each (suc zero) zero h k = le
      each (suc zero) (suc zero) h k = mi
      each (suc zero) (suc (suc zero)) h k = ri
      each (suc zero) (suc (suc (suc column))) h k = absurd (omega arith)
      each (suc (suc zero)) zero h k = corner_shown 2 0 (nth parts.whole 2) 0 (2 ^ (level - 1)) r.whole.sw (sw_subsquare level (2 ^ (level - 2)) plane (omega arith) refl _)
      each (suc (suc zero)) (suc zero) h k = lo
      each (suc (suc zero)) (suc (suc zero)) h k = corner_shown 2 2 (nth parts.whole 3) (2 ^ (level - 1)) (2 ^ (level - 1)) r.whole.se (se_subsquare level (2 ^ (level - 2)) plane (omega arith) refl _)
      each (suc (suc zero)) (suc (suc (suc column))) h k = absurd (omega arith)
      each (suc (suc (suc row))) column h k = absurd (omega arith)

-- the middle one is the centre
pub middle_is_centre : {book : Book} (level : ℕ) (plane : Plane) (sq : Sq) → Shows book (level - 1) (subsquare level 1 1 plane) sq → Shows book (level - 1) (centre_of level plane) sq
middle_is_centre {book = book} level plane sq shown = subst (λ n. Shows book (level - 1) (cut (2 ^ (level - 1)) n n plane) sq) (let e : 1 * 2 ^ (level - 2) ≡ 2 ^ (level - 2) = omega arith in e) shown

-- the nine squares, five of which are made one after the other
module _ (level : ℕ) (plane : Plane) (parts : Parts) (above : 4 < level) (high : level ≤ 65) (b0 b1 b2 b3 b4 b5 : Book) (upper left middle right lower : Sq) where
  pub nine_made : ArePartsOfParts b0 level plane parts →
      Keeps b0 b1 → IsJoined b0 b1 (nth parts.nw 1 ∷ nth parts.ne 0 ∷ nth parts.nw 3 ∷ nth parts.ne 2 ∷ []) upper →
      Keeps b1 b2 → IsJoined b1 b2 (nth parts.nw 2 ∷ nth parts.nw 3 ∷ nth parts.sw 0 ∷ nth parts.sw 1 ∷ []) left →
      Keeps b2 b3 → IsJoined b2 b3 (nth parts.nw 3 ∷ nth parts.ne 2 ∷ nth parts.sw 1 ∷ nth parts.se 0 ∷ []) middle →
      Keeps b3 b4 → IsJoined b3 b4 (nth parts.ne 2 ∷ nth parts.ne 3 ∷ nth parts.se 0 ∷ nth parts.se 1 ∷ []) right →
      Keeps b4 b5 → IsJoined b4 b5 (nth parts.sw 1 ∷ nth parts.se 0 ∷ nth parts.sw 3 ∷ nth parts.se 2 ∷ []) lower →
      AreSubsquares b5 level plane (nth parts.whole 0 ∷ upper ∷ nth parts.whole 1 ∷ left ∷ middle ∷ right ∷ nth parts.whole 2 ∷ lower ∷ nth parts.whole 3 ∷ [])
  nine_made r0 k1 up k2 le k3 mi k4 ri k5 lo =
      let r1 = read_kept k1 r0 in let r2 = read_kept k2 r1 in let r3 = read_kept k3 r2 in let r4 = read_kept k4 r3 in
      let k45 = keeps_trans k4 k5 in let k35 = keeps_trans k3 k45 in let k25 = keeps_trans k2 k35 in
      all_nine above high (read_kept k5 r4) upper left middle right lower
      (shows_kept k25 ((make_upper above high r0).shown b1 upper up))
      (shows_kept k35 ((make_left above high r1).shown b2 left le))
      (shows_kept k45 ((make_middle above high r2).shown b3 middle mi))
      (shows_kept k5 ((make_right above high r3).shown b4 right ri))
      ((make_lower above high r4).shown b5 lower lo)
