-- The centres of the squares that four neighbours make.
use Rattle.std.proofs.Common.{◌≡◌, ℕ, ◌+◌, ◌-◌, ◌^◌, ◌<◌, ◌≤◌, All, List, [], ◌∷◌, length, arith, subst}
use Rattle.std.specs.List.{AllByRecursion}
use Rattle.plane.specs.Plane.{Plane}
use Rattle.plane.specs.Square.{IsSame, IsSquare, centre_of, cut, joined}
use Rattle.plane.proofs.Cuts.{centre_joined, joined_ne, joined_nw, joined_se, joined_sw}
use Rattle.plane.proofs.Paddings.{twice_half}
use Rattle.plane.proofs.Same.{plane_equal, same_refl}
use Rattle.squares.specs.Book.{Book, IsBook, IsKnown, Keeps, Shows, joined_squares, nth, numbered}
use Rattle.squares.specs.declared.sq.Sq.{Sq}
use Rattle.squares.proofs.Centres.{shows_as}
use Rattle.squares.proofs.Kept.{keeps_trans, known_kept, same_later, shows_kept}
use Rattle.squares.specs.Overlaps.{neighbours}
use Rattle.hashlife_step.specs.Quarters.{AreRead, quarters_of}
use Rattle.squares.proofs.FourKnown.{four_known, joined_as}
use Rattle.hashlife_step.proofs.NineFutures.{neighbours_later}

-- the centre of neighbours that an older book knew, in the cells that this one shows
pub middle_later : (old now new : Book) (level k : ℕ) (nine : List Sq) (sq : Sq) → All (IsKnown old level) nine → k + 4 < length nine → Keeps old now → Keeps now new →
    Shows now level (centre_of (level + 1) (neighbours old level nine k)) sq → Shows new level (centre_of (level + 1) (neighbours new level nine k)) sq
middle_later old now new level k nine sq known inside first later shown =
    subst (λ p. Shows new level (centre_of (level + 1) p) sq) (plane_equal _ _ (neighbours_later old new level nine k (keeps_trans first later) known inside)) (shows_kept later shown)

-- the centre of four squares joined: their inner quarters joined
centre_of_joined : (level : ℕ) (p q r s : Plane) → 1 ≤ level → IsSquare (2 ^ level) p → IsSquare (2 ^ level) q → IsSquare (2 ^ level) r → IsSquare (2 ^ level) s →
    (let half : ℕ = 2 ^ (level - 1) in
    IsSame (joined half (cut half half half p) (cut half 0 half q) (cut half half 0 r) (cut half 0 0 s)) (centre_of (level + 1) (joined (2 ^ level) p q r s)))
centre_of_joined level p q r s least is_p is_q is_r is_s =
    let half : ℕ = 2 ^ (level - 1) in
    let whole : Plane = joined (2 ^ level) p q r s in
    let inner : Plane = joined half (cut half half half p) (cut half 0 half q) (cut half half 0 r) (cut half 0 0 s) in
    let e : level ≡ level + 1 - 1 = omega arith in
    let f : level - 1 ≡ level + 1 - 2 = omega arith in
    let one : IsSame inner (cut (2 ^ level) half half whole) =
    centre_joined (2 ^ level) half whole p q r s _ _ _ _ (twice_half level least)
    (joined_nw (2 ^ level) p q r s is_p is_q is_r is_s) (joined_ne (2 ^ level) p q r s is_p is_q is_r is_s)
    (joined_sw (2 ^ level) p q r s is_p is_q is_r is_s) (joined_se (2 ^ level) p q r s is_p is_q is_r is_s)
    (same_refl _) (same_refl _) (same_refl _) (same_refl _) in
    let two : IsSame inner (cut (2 ^ (level + 1 - 1)) half half whole) = subst (λ n. IsSame inner (cut (2 ^ n) half half whole)) e one in
    subst (λ n. IsSame inner (cut (2 ^ (level + 1 - 1)) (2 ^ n) (2 ^ n) whole)) f two

-- of four neighbours among three rows of three squares, the quarters where they meet
abbrev pub inner_quarters : List (List Sq) → ℕ → List Sq
inner_quarters quarters k = nth (quarters_of quarters k) 3 ∷ nth (quarters_of quarters (k + 1)) 2 ∷ nth (quarters_of quarters (k + 3)) 1 ∷ nth (quarters_of quarters (k + 4)) 0 ∷ []

module _ (old read : Book) (level : ℕ) (nine : List Sq) (quarters : List (List Sq)) (known : All (IsKnown old level) nine) (are : AreRead old read level nine quarters) where
  pub inner_known : (now : Book) (k : ℕ) → k + 4 < length nine → Keeps read now → AllByRecursion (IsKnown now (nth (quarters_of quarters k) 3).level) (inner_quarters quarters k)
  inner_known now k inside keeps =
      four_known (known_kept keeps (are.each k (omega arith)).se.known) (known_kept keeps (are.each (k + 1) (omega arith)).sw.known)
      (known_kept keeps (are.each (k + 3) (omega arith)).ne.known) (known_kept keeps (are.each (k + 4) inside).nw.known)

  -- the inner quarters are low enough to be joined
  pub inner_low : (k : ℕ) → k + 4 < length nine → (nth (quarters_of quarters k) 3).level < 65
  inner_low k inside =
      let part = (are.each k (omega arith)).se.known.at_level in
      let whole = known k (numbered 0 0) (omega arith) in
      let low = whole.low in let high = whole.high in omega (arith, part, low, high)

  -- the square of the inner quarters is the centre
  pub middle_shown : (before now new : Book) (k : ℕ) (sq : Sq) → IsBook old → k + 4 < length nine → Keeps old read → Keeps read before → Keeps before now → Keeps now new →
      Shows now ((nth (quarters_of quarters k) 3).level + 1) (joined_squares before (nth (quarters_of quarters k) 3).level (inner_quarters quarters k)) sq →
      Shows new level (centre_of (level + 1) (neighbours new level nine k)) sq
  middle_shown before now new k sq laws inside k1 k2 k3 k4 shown =
      let at = λ (i : ℕ) (less : i < length nine). known i (numbered 0 0) less in
      let square = λ (i : ℕ) (less : i < length nine). subst (λ n. IsSquare (2 ^ n) (old.cells (nth nine i))) (at i less).at_level (laws.square (nth nine i) (at i less).known) in
      let nw = (are.each k (omega arith)).se in let ne = (are.each (k + 1) (omega arith)).sw in let sw = (are.each (k + 3) (omega arith)).ne in let se = (are.each (k + 4) inside).nw in
      let low = nw.known.low in
      let made = joined_as before now (level - 1) (inner_quarters quarters k) _ _ _ _ sq nw.known.at_level (same_later k2 nw) (same_later k2 ne) (same_later k2 sw) (same_later k2 se) shown in
      let centre = shows_as now (level - 1 + 1) level _ _ sq (omega arith)
      (centre_of_joined level _ _ _ _ (omega arith) (square k (omega arith)) (square (k + 1) (omega arith)) (square (k + 3) (omega arith)) (square (k + 4) inside)) made in
      middle_later old now new level k nine sq known inside (keeps_trans k1 (keeps_trans k2 k3)) k4 centre
