-- The future of a square, made of the futures of nine overlapping ones.
use Rattle.std.proofs.Common.{◌≡◌, ℕ, ◌+◌, ◌-◌, ◌*◌, ◌/◌, ◌%◌, ◌^◌, ◌<◌, ◌≤◌, ◌⊎◌, All, List, length, arith, sym, ◌∙◌, ap, subst, ⊎_elim, inl, inr, zero, suc}
use Rattle.std.specs.List.{AllByRecursion}
use Rattle.std.proofs.lemmas.List.Elements.{recursion_from_All}
use Rattle.rule_text.specs.CountRule.{CountRule}
use Rattle.plane.specs.Laws.{four_futures}
use Rattle.plane.specs.Plane.{Plane}
use Rattle.plane.specs.Square.{IsSame, joined, centre_of, future, subsquare}
use Rattle.plane.proofs.Parts.{nine_parts_lem}
use Rattle.plane.proofs.Cuts.{joined_same}
use Rattle.plane.proofs.Same.{same_sym, same_trans, plane_equal}
use Rattle.squares.specs.Book.{Book, IsKnown, Shows, Keeps, AreSubsquares, joined_squares, nth, numbered}
use Rattle.squares.specs.declared.sq.Sq.{Sq}
use Rattle.squares.proofs.Kept.{same_later}
use Rattle.squares.proofs.Centres.{shows_as}
use Rattle.squares.specs.Overlaps.{AreMade, AreOverlaps, neighbours}
use Rattle.hashlife_step.specs.Futures.{AreFinished, AreFutures}
use Rattle.squares.proofs.FourKnown.{all_four, all_known, joined_as}

pub subsquares_known : (book : Book) (level : ℕ) (plane : Plane) (squares : List Sq) → length squares ≡ 9 → AreSubsquares book level plane squares → All (IsKnown book (level - 1)) squares
subsquares_known book level plane squares nine are = all_known book (level - 1) squares (λ k less.
    let e : 3 * (k / 3) + k % 3 ≡ k = omega arith in
    subst (λ n. IsKnown book (level - 1) (nth squares n)) e (are.shown (k / 3) (k % 3) (omega arith) (omega arith)).known)

pub futures_known : (book : Book) (level : ℕ) (squares futures : List Sq) → length futures ≡ length squares → AreFutures book level squares futures → All (IsKnown book (level - 1)) futures
futures_known book level squares futures same are = all_known book (level - 1) futures (λ k less. (are.each k (omega arith)).known)

pub made_known : (make : Plane → Plane) (book : Book) (made_level level : ℕ) (nine four : List Sq) → length four ≡ 4 → AreMade make book made_level level nine four → All (IsKnown book made_level) four
made_known make book made_level level nine four long are = all_four book made_level four long are.nw.known are.ne.known are.sw.known are.se.known

le_or_lt : (a b : ℕ) → (a ≤ b) ⊎ (b < a)
le_or_lt zero b = inl (omega arith)
le_or_lt (suc a) zero = inr (omega arith)
le_or_lt (suc a) (suc b) = ⊎_elim (λ h. inl (omega arith)) (λ h. inr (omega arith)) (le_or_lt a b)

pub finished_known : (book : Book) (level : ℕ) (nine four : List Sq) → length four ≡ 4 → AreFinished book level nine four → All (IsKnown book level) four
finished_known book level nine four long is =
    ⊎_elim (λ long_enough. made_known _ book level level nine four long (is.futures long_enough)) (λ short. made_known _ book level level nine four long (is.four_centres short)) (le_or_lt level book.exponent)

-- squares of one level, as they are joined
pub of_first : (book : Book) (level : ℕ) (four : List Sq) → 0 < length four → All (IsKnown book level) four → AllByRecursion (IsKnown book (nth four 0).level) four
of_first book level four some known =
    recursion_from_All (IsKnown book (nth four 0).level) four (subst (λ n. All (IsKnown book n) four) (sym (known 0 (numbered 0 0) some).at_level) known)

-- the cells of neighbours, as a later book shows them
pub neighbours_later : (old new : Book) (level : ℕ) (nine : List Sq) (k : ℕ) → Keeps old new → All (IsKnown old level) nine → k + 4 < length nine → IsSame (neighbours old level nine k) (neighbours new level nine k)
neighbours_later old new level nine k keeps known less =
    let same = λ (i : ℕ) (inside : i < length nine). same_sym (keeps.cells (nth nine i) (known i (numbered 0 0) inside).known) in
    joined_same (2 ^ level) _ _ _ _ _ _ _ _ (same k (omega arith)) (same (k + 1) (omega arith)) (same (k + 3) (omega arith)) (same (k + 4) (omega arith))

-- the futures of the squares that neighbours make are those of the neighbours
pub overlaps_finished : (old new : Book) (level : ℕ) (nine four futures : List Sq) → length nine ≡ 9 → length four ≡ 4 → All (IsKnown old level) nine → AreOverlaps old level nine four → Keeps old new →
    AreFutures new (level + 1) four futures → AreMade (future new.rule new.exponent (level + 1)) new level level nine futures
overlaps_finished old new level nine four futures is_nine is_four known overlaps keeps are =
    let at = λ (i k : ℕ) (less : i < length four) (inside : k + 4 < length nine) (shown : Shows old (level + 1) (neighbours old level nine k) (nth four i)).
    let cells : new.cells (nth four i) ≡ neighbours new level nine k = plane_equal _ _ (same_trans (same_later keeps shown) (neighbours_later old new level nine k keeps known inside)) in
    let lower : level + 1 - 1 ≡ level = omega arith in
    subst (λ n. Shows new n (future new.rule new.exponent (level + 1) (neighbours new level nine k)) (nth futures i)) lower
    (subst (λ p. Shows new (level + 1 - 1) (future new.rule new.exponent (level + 1) p) (nth futures i)) cells (are.each i less)) in
    record { nw = at 0 0 (omega arith) (omega arith) overlaps.nw; ne = at 1 1 (omega arith) (omega arith) overlaps.ne; sw = at 2 3 (omega arith) (omega arith) overlaps.sw; se = at 3 4 (omega arith) (omega arith) overlaps.se }

future_of : (book : Book) (level : ℕ) (rule : CountRule) (exponent : ℕ) (squares futures : List Sq) (plane : Plane) (k : ℕ) → AreFutures book level squares futures → k < length squares →
    book.rule ≡ rule → book.exponent ≡ exponent → IsSame (book.cells (nth squares k)) plane → Shows book (level - 1) (future rule exponent level plane) (nth futures k)
future_of book level rule exponent squares futures plane k are less is_rule is_exponent same =
    let one = subst (λ p. Shows book (level - 1) (future book.rule book.exponent level p) (nth futures k)) (plane_equal _ _ same) (are.each k less) in
    let two = subst (λ r. Shows book (level - 1) (future r book.exponent level plane) (nth futures k)) is_rule one in
    subst (λ n. Shows book (level - 1) (future rule n level plane) (nth futures k)) is_exponent two

module _ (level : ℕ) (rule : CountRule) (exponent : ℕ) (plane : Plane) (b1 b2 b3 b4 : Book) (parts futures quarters : List Sq) (res : Sq) (least : 4 < level)
    (nine : length parts ≡ 9) (rule2 : b2.rule ≡ rule) (exponent2 : b2.exponent ≡ exponent) (rule3 : b3.rule ≡ rule) (exponent3 : b3.exponent ≡ exponent)
    (subsquares : AreSubsquares b1 level plane parts) (k2 : Keeps b1 b2) (are : AreFutures b2 (level - 1) parts futures) (k3 : Keeps b2 b3)
    (finished : AreFinished b3 (level - 1 - 1) futures quarters) (shown : Shows b4 ((nth quarters 0).level + 1) (joined_squares b3 (nth quarters 0).level quarters) res) where
  side : 2 ^ (level - 1 - 1) ≡ 2 ^ (level - 2)
  side = let e : level - 1 - 1 ≡ level - 2 = omega arith in ap (λ n. 2 ^ n) e

  -- a subsquare's future
  part : (n row column : ℕ) → n ≡ 3 * row + column → row < 3 → column < 3 → IsSame (b3.cells (nth futures n)) (future rule exponent (level - 1) (subsquare level row column plane))
  part n row column e above left = subst (λ (k : ℕ). IsSame (b3.cells (nth futures k)) (future rule exponent (level - 1) (subsquare level row column plane))) (sym e)
      (same_later k3 (future_of b2 (level - 1) rule exponent parts futures (subsquare level row column plane) (3 * row + column) are (omega arith) rule2 exponent2 (same_later k2 (subsquares.shown row column above left))))

  -- four of them
  corner : (row column : ℕ) → row < 2 → column < 2 → neighbours b3 (level - 1 - 1) futures (3 * row + column) ≡ four_futures rule exponent level plane row column
  corner row column above left =
      let Joined : ℕ → Plane = λ n. joined n (future rule exponent (level - 1) (subsquare level row column plane)) (future rule exponent (level - 1) (subsquare level row (column + 1) plane))
      (future rule exponent (level - 1) (subsquare level (row + 1) column plane)) (future rule exponent (level - 1) (subsquare level (row + 1) (column + 1) plane)) in
      plane_equal _ _ (joined_same (2 ^ (level - 1 - 1)) _ _ _ _ _ _ _ _ (part (3 * row + column) row column (omega arith) (omega arith) (omega arith)) (part (3 * row + column + 1) row (column + 1) (omega arith) (omega arith) (omega arith))
      (part (3 * row + column + 3) (row + 1) column (omega arith) (omega arith) (omega arith)) (part (3 * row + column + 4) (row + 1) (column + 1) (omega arith) (omega arith) (omega arith)))
      ∙ ap Joined side

  -- what is made of each four of them, joined
  whole : (make : Plane → Plane) → AreMade make b3 (level - 1 - 1) (level - 1 - 1) futures quarters →
      IsSame (joined (2 ^ (level - 2)) (make (four_futures rule exponent level plane 0 0)) (make (four_futures rule exponent level plane 0 1))
      (make (four_futures rule exponent level plane 1 0)) (make (four_futures rule exponent level plane 1 1))) (future rule exponent level plane) →
      Shows b4 (level - 1) (future rule exponent level plane) res
  whole make made same =
      let at = λ (i k row column : ℕ) (e : k ≡ 3 * row + column) (above : row < 2) (left : column < 2) (is : Shows b3 (level - 1 - 1) (make (neighbours b3 (level - 1 - 1) futures k)) (nth quarters i)).
      subst (λ p. IsSame (b3.cells (nth quarters i)) (make p)) (ap (neighbours b3 (level - 1 - 1) futures) e ∙ corner row column above left) is.cells in
      let joined_here = joined_as b3 b4 (level - 1 - 1) quarters _ _ _ _ res made.nw.known.at_level
      (at 0 0 0 0 (omega arith) (omega arith) (omega arith) made.nw) (at 1 1 0 1 (omega arith) (omega arith) (omega arith) made.ne)
      (at 2 3 1 0 (omega arith) (omega arith) (omega arith) made.sw) (at 3 4 1 1 (omega arith) (omega arith) (omega arith) made.se) shown in
      let at_side = subst (λ n. Shows b4 (level - 1 - 1 + 1) (joined n (make (four_futures rule exponent level plane 0 0)) (make (four_futures rule exponent level plane 0 1))
      (make (four_futures rule exponent level plane 1 0)) (make (four_futures rule exponent level plane 1 1))) res) side joined_here in
      shows_as b4 (level - 1 - 1 + 1) (level - 1) _ _ res (omega arith) same at_side

  pub nine_futures : Shows b4 (level - 1) (future rule exponent level plane) res
  nine_futures =
      let up : level - 1 - 1 + 1 ≡ level - 1 = omega arith in
      let below : level - 1 - 1 ≡ level - 2 = omega arith in
      let laws = nine_parts_lem rule exponent level plane (omega arith) in
      let Made : (Plane → Plane) → Type 0 = λ make. AreMade make b3 (level - 1 - 1) (level - 1 - 1) futures quarters in
      ⊎_elim
      (λ long.
      let made = finished.futures long in
      let by_rule = subst (λ r. Made (future r b3.exponent (level - 1 - 1 + 1))) rule3 made in
      let by_exponent = subst (λ n. Made (future rule n (level - 1 - 1 + 1))) exponent3 by_rule in
      whole (future rule exponent (level - 1)) (subst (λ n. Made (future rule exponent n)) up by_exponent) (laws.by_futures (omega arith)))
      (λ short. whole (centre_of (level - 1)) (subst (λ n. Made (centre_of n)) up (finished.four_centres short)) (laws.by_centres (omega arith)))
      (le_or_lt (level - 1 - 1) b3.exponent)
