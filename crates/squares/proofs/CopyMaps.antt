-- Maps of copies, and what a copy shows.
use Rattle.std.proofs.Common.{◌≡◌, ◌≢◌, ℕ, zero, suc, ◌+◌, ◌-◌, ◌^◌, ◌<◌, ◌≤◌, List, length, sym, ◌∙◌, subst, arith, refl, below_more, get_or-set_other, get_or-set_same}
use Rattle.std.proofs.Math.ListN.{set}
use Rattle.std.specs.Prelude.{IsTrue, Some}
use Rattle.std.specs.HashMap.{Updates}
use Rattle.std.specs.List.{AllByRecursion}
use Rattle.plane.specs.Plane.{Plane}
use Rattle.plane.specs.Square.{IsSame, IsSquare}
use Rattle.plane.proofs.Middles.{whole_joined}
use Rattle.plane.proofs.Paddings.{twice_half}
use Rattle.plane.proofs.Same.{same_sym, same_trans}
use Rattle.squares.specs.Book.{Book, IsBook, IsKnown, Shows, Keeps, AreQuarters, joined_squares, numbered, nth}
use Rattle.squares.specs.Copies.{AreCopies}
use Rattle.squares.specs.Noted.{Noted, is_same_key}
use Rattle.squares.specs.declared.sq.Num.{Num}
use Rattle.squares.specs.declared.sq.Sq.{Sq}
use Rattle.squares.proofs.Centres.{shows_as}
use Rattle.squares.proofs.Kept.{shows_kept}
use Rattle.squares.proofs.KnownQuarters.{from_four}
use Rattle.squares.proofs.NotedValues.{true_of_kept}
use Rattle.squares.proofs.SquareNumbers.{same_sq}

-- what a number that was noted shows
noted_shows : (from to : Book) (sq copy : Sq) → Shows to sq.level (from.cells sq) copy → Shows to sq.level (from.cells sq) (numbered sq.level copy.num.0)
noted_shows from to sq copy shows =
    let square : copy ≡ numbered sq.level copy.num.0 = same_sq copy (numbered sq.level copy.num.0) shows.known.at_level refl in
    subst (Shows to sq.level (from.cells sq)) square shows

-- the empty square is its own copy
pub empty_copied : (from to : Book) (sq : Sq) → IsBook from → IsBook to → IsKnown from sq.level sq → sq.num.0 ≡ 0 → Shows to sq.level (from.cells sq) sq
empty_copied from to sq is_from is_to known none =
    let zero_is : numbered sq.level 0 ≡ sq = λ i. record { level = sq.level; num = record { 0 = sym none i } } in
    let there : IsTrue (to.knows sq) = subst (λ (s : Sq). IsTrue (to.knows s)) zero_is (is_to.zero_known sq.level known.low known.high) in
    record {
      known = record { known = there; at_level = refl; low = known.low; high = known.high };
      cells = subst (λ (s : Sq). IsSame (to.cells s) (from.cells s)) zero_is (same_trans (is_to.zero_empty sq.level) (same_sym (is_from.zero_empty sq.level)));
    }

copied_part : (from to : Book) (level : ℕ) (plane : Plane) (part copy : Sq) → Shows from level plane part → Shows to part.level (from.cells part) copy → IsSame (to.cells copy) plane
copied_part from to level plane part copy is copied = same_trans copied.cells is.cells

-- the first of the quarters are copied, and the others are still themselves
pub record AreCopied (from to : Book) (parts : List Sq) (copied : ℕ) (squares : List Sq) : Type 0 where
  pub made : (k : ℕ) → k < copied → Shows to (nth parts k).level (from.cells (nth parts k)) (nth squares k)
  pub left : (k : ℕ) → copied ≤ k → nth squares k ≡ nth parts k

pub none_copied : (from to : Book) (parts : List Sq) → AreCopied from to parts 0 parts
none_copied from to parts = record { made = λ k below. absurd (omega arith); left = λ k above. refl }

-- one quarter more is copied
pub one_copied : (from old new : Book) (parts : List Sq) (copied : ℕ) (squares : List Sq) (copy : Sq) → Keeps old new → copied < length squares → AreCopied from old parts copied squares →
    Shows new (nth parts copied).level (from.cells (nth parts copied)) copy → AreCopied from new parts (copied + 1) (set squares copied copy)
one_copied from old new parts copied squares copy keeps within h shown = record {
  made = below_more (λ k. Shows new (nth parts k).level (from.cells (nth parts k)) (nth (set squares copied copy) k)) copied
      (λ k below. let ne : k ≢ copied = omega arith in rw get_or-set_other (shows_kept keeps (h.made k below)))
      (rw get_or-set_same shown);
  left = λ k above. let ne : k ≢ copied = omega arith in rw get_or-set_other (h.left k (omega arith));
}

-- a quarter is a known square of the level below
pub part_known : (book : Book) (level : ℕ) (plane : Plane) (parts : List Sq) (k : ℕ) → k < 4 → AreQuarters book level plane parts → IsKnown book (level - 1) (nth parts k)
part_known book level plane parts zero below is = is.nw.known
part_known book level plane parts (suc zero) below is = is.ne.known
part_known book level plane parts (suc (suc zero)) below is = is.sw.known
part_known book level plane parts (suc (suc (suc zero))) below is = is.se.known
part_known book level plane parts (suc (suc (suc (suc k)))) below is = absurd (omega arith)

-- four copies of the quarters make a copy of the whole
pub quad_copied : (from to new : Book) (level : ℕ) (plane : Plane) (parts copies : List Sq) (copied : ℕ) (copy : Sq) → 3 < level → IsSquare (2 ^ level) plane → AreQuarters from level plane parts → copied ≡ 4 → AreCopied from to parts copied copies →
    Shows new ((nth copies 0).level + 1) (joined_squares to (nth copies 0).level copies) copy → Shows new level plane copy
quad_copied from to new level plane parts copies copied copy above square is all some made =
    let h = subst (λ n. AreCopied from to parts n copies) all some in
    let low : (nth copies 0).level ≡ level - 1 = (h.made 0 (omega arith)).known.at_level ∙ is.nw.known.at_level in
    let whole : IsSquare (2 ^ (level - 1) + 2 ^ (level - 1)) plane = subst (λ side. IsSquare side plane) (twice_half level (omega arith)) square in
    let same = whole_joined (2 ^ (level - 1)) plane (to.cells (nth copies 0)) (to.cells (nth copies 1)) (to.cells (nth copies 2)) (to.cells (nth copies 3)) whole
    (copied_part from to (level - 1) _ (nth parts 0) (nth copies 0) is.nw (h.made 0 (omega arith))) (copied_part from to (level - 1) _ (nth parts 1) (nth copies 1) is.ne (h.made 1 (omega arith)))
    (copied_part from to (level - 1) _ (nth parts 2) (nth copies 2) is.sw (h.made 2 (omega arith))) (copied_part from to (level - 1) _ (nth parts 3) (nth copies 3) is.se (h.made 3 (omega arith))) in
    shows_as new (level - 1 + 1) level _ plane copy (omega arith) same (subst (λ n. Shows new (n + 1) (joined_squares to n copies) copy) low made)

-- the copies of the quarters are known squares of one level
pub copies_known : (from to : Book) (level : ℕ) (plane : Plane) (parts copies : List Sq) (copied : ℕ) → length copies ≡ 4 → AreQuarters from level plane parts → copied ≡ 4 → AreCopied from to parts copied copies → AllByRecursion (IsKnown to (nth copies 0).level) copies
copies_known from to level plane parts copies copied size is all some =
    let h = subst (λ n. AreCopied from to parts n copies) all some in
    let first : (nth copies 0).level ≡ level - 1 = (h.made 0 (omega arith)).known.at_level ∙ is.nw.known.at_level in
    let known = λ (k : ℕ) (below : k < 4). subst (λ n. IsKnown to n (nth copies k)) ((part_known from level plane parts k below is).at_level ∙ sym first) (h.made k below).known in
    from_four (IsKnown to (nth copies 0).level) copies size (known 0 (omega arith)) (known 1 (omega arith)) (known 2 (omega arith)) (known 3 (omega arith))

-- a new copy is noted
pub noted_copies : (from to : Book) (old new : Noted Num) (sq copy : Sq) → Updates is_same_key old new (sq.level, sq.num.0) (Some copy.num) →
    Shows to sq.level (from.cells sq) copy → AreCopies from to old → AreCopies from to new
noted_copies from to old new sq copy up shows h = record {
  same = true_of_kept (λ q num. Shows to q.level (from.cells q) (numbered q.level num.0)) old new sq copy.num h.same (noted_shows from to sq copy shows) up;
}
