-- What holds of squares and of the squares in them.
use Rattle.std.proofs.Common.{◌≡◌, ℕ, zero, suc, ◌+◌, ◌-◌, ◌^◌, ◌<◌, ◌≤◌, pos, true, false, cond, ◌&&◌, List, [], ◌∷◌, ◌++◌, refl, sym, ◌∙◌, ap, arith}
use Rattle.std.specs.Bool.{Decides}
use Rattle.std.specs.Cmp.Lexicographic.{pointwise}
use Rattle.std.specs.List.{AllByRecursion}
use Rattle.std.specs.Prelude.{◌==◌}
use Rattle.std.proofs.lemmas.Bool.{false≢true}
use Rattle.std.proofs.lemmas.Bool.Decides.{Decides-eqb}
use Rattle.std.proofs.lemmas.Slice.Eq.{slice_eq-Decides}
use Rattle.plane.specs.declared.cell.Cell.{Cell}
use Rattle.plane.specs.Listing.{plane_of}
use Rattle.plane.specs.Plane.{Plane}
use Rattle.plane.specs.Square.{IsSame, IsSquare, cut, empty}
use Rattle.plane.proofs.Around.{at_place}
use Rattle.plane.proofs.Cells.{same_cell}
use Rattle.plane.proofs.Cuts.{and_left, and_right, cut_empty}
use Rattle.plane.proofs.Listings.{is_at-own}
use Rattle.plane.proofs.Populations.{empty_cells}
use Rattle.plane.proofs.Same.{plane_equal}
use Rattle.plane.proofs.Elements.{AllByRecursion-weaker}
use Rattle.plane.proofs.Windows.{square_listing}
use Rattle.pattern_writers.specs.LeafText.{is_nothing}
use Rattle.pattern_writers.specs.Subsquares.{Square, if_alive, is_dead, is_same_cell, is_same_square, live_cells, nw_of, ne_of, sw_of, se_of, squares_in}

-- ---- the same square

cell_equal : (a b : Cell) → Decides (is_same_cell a b) (a ≡ b)
cell_equal a b = (
  λ is. let place = at_place a.x a.y b in same_cell a.x a.y b.x b.y (place is).0 (place is).1,
  λ same. ap (is_same_cell a) (sym same) ∙ is_at-own a,
)

-- two squares with the same cells are one
pub square_equal : (a b : Square) → a.level ≡ b.level → IsSame a.plane b.plane → a ≡ b
square_equal a b level same = λ i. record { level = level i; plane = plane_equal a.plane b.plane same i }

pub same_square : (a b : Square) → IsSquare (2 ^ a.level) a.plane → IsSquare (2 ^ b.level) b.plane → is_same_square a b ≡ true → (a.level ≡ b.level) × IsSame a.plane b.plane
unfolding is_same_square
same_square a b in_a in_b is =
    let level = (Decides-eqb a.level b.level).0 (and_left _ _ is) in
    let cells = (slice_eq-Decides cell_equal (live_cells a) (live_cells b) _ refl).0 (and_right _ _ is) in
    (level, record { same = λ x y. sym ((square_listing (2 ^ a.level) a.plane in_a).live x y) ∙ ap (λ l. plane_of l x y) cells ∙ (square_listing (2 ^ b.level) b.plane in_b).live x y })

pub other_level : (a b : Square) → b.level < a.level → is_same_square a b ≡ false
unfolding is_same_square
other_level a b less =
    elim (a.level == b.level) as (λ t. (t ≡ true → a.level ≡ b.level) → (t && pointwise is_same_cell (live_cells a) (live_cells b)) ≡ false) [
      | true ↦ λ level. let same = level refl in absurd (omega (arith, same))
      | false ↦ λ _. refl
    ] (Decides-eqb a.level b.level).0

-- ---- empty squares

pub empty_dead : (level : ℕ) → is_dead (record { level = level; plane = empty }) ≡ true
empty_dead level = ap is_nothing (empty_cells (pos 0) (pos 0) (2 ^ level) (2 ^ level))

pub nothing_is : {A : Type 0} (list : List A) → is_nothing list ≡ true → list ≡ []
nothing_is [] is = refl
nothing_is (first ∷ rest) is = absurd (false≢true is)

pub dead_empty : (square : Square) → IsSquare (2 ^ square.level) square.plane → is_dead square ≡ true → square.plane ≡ empty
unfolding plane_of
dead_empty square is dead =
    plane_equal square.plane empty (record {
      same = λ x y. sym ((square_listing (2 ^ square.level) square.plane is).live x y) ∙ ap (λ l. plane_of l x y) (nothing_is (live_cells square) dead);
    })

-- ---- the squares in a square

cut_of_empty : (side left top : ℕ) → cut side left top empty ≡ empty
cut_of_empty side left top = plane_equal _ _ (cut_empty side left top)

none_alive : (level : ℕ) → if_alive (record { level = level; plane = empty }) ≡ []
none_alive level = ap (λ t. cond t [] (record { level = level; plane = empty } ∷ [])) (empty_dead level)

-- an empty square has none
pub none_in_empty : (more : ℕ) → squares_in more empty ≡ []
unfolding squares_in
none_in_empty zero = none_alive 3
none_in_empty (suc more) =
    let side = 2 ^ (more + 3) in
    let here = λ (left top : ℕ). ap (squares_in more) (cut_of_empty side left top) ∙ none_in_empty more in
    ap (λ l. l ++ squares_in more (ne_of (more + 3) empty).plane ++ squares_in more (sw_of (more + 3) empty).plane ++ squares_in more (se_of (more + 3) empty).plane ++ if_alive (record { level = suc more + 3; plane = empty })) (here 0 0)
    ∙ ap (λ l. l ++ squares_in more (sw_of (more + 3) empty).plane ++ squares_in more (se_of (more + 3) empty).plane ++ if_alive (record { level = suc more + 3; plane = empty })) (here side 0)
    ∙ ap (λ l. l ++ squares_in more (se_of (more + 3) empty).plane ++ if_alive (record { level = suc more + 3; plane = empty })) (here 0 side)
    ∙ ap (λ l. l ++ if_alive (record { level = suc more + 3; plane = empty })) (here side side)
    ∙ none_alive (suc more + 3)

-- the squares in a square of a level above 3: those in its quarters, and itself
pub squares_in_quarters : (level : ℕ) (plane : Plane) → 3 < level → squares_in (level - 3) plane ≡
    squares_in (level - 1 - 3) (nw_of (level - 1) plane).plane
    ++ squares_in (level - 1 - 3) (ne_of (level - 1) plane).plane
    ++ squares_in (level - 1 - 3) (sw_of (level - 1) plane).plane
    ++ squares_in (level - 1 - 3) (se_of (level - 1) plane).plane
    ++ if_alive (record { level = level; plane = plane })
unfolding squares_in
squares_in_quarters level plane above =
    let Parts : ℕ → ℕ → ℕ → List Square = λ more lower whole.
    squares_in more (nw_of lower plane).plane ++ squares_in more (ne_of lower plane).plane ++ squares_in more (sw_of lower plane).plane ++ squares_in more (se_of lower plane).plane
    ++ if_alive (record { level = whole; plane = plane }) in
    let e : level - 3 ≡ suc (level - 1 - 3) = omega arith in
    let f : level - 1 - 3 + 3 ≡ level - 1 = omega arith in
    let g : suc (level - 1 - 3) + 3 ≡ level = omega arith in
    ap (λ n. squares_in n plane) e ∙ ap (λ n. Parts (level - 1 - 3) n (suc (level - 1 - 3) + 3)) f ∙ ap (Parts (level - 1 - 3) (level - 1)) g

all_append : (P : Square → Type 0) (first second : List Square) → AllByRecursion P first → AllByRecursion P second → AllByRecursion P (first ++ second)
all_append P [] second a b = b
all_append P (square ∷ first) second a b = (a.0, all_append P first second a.1 b)

alive_level : (square : Square) (most : ℕ) → square.level ≤ most → AllByRecursion (λ other. other.level ≤ most) (if_alive square)
alive_level square most low =
    elim (is_dead square) as (λ t. AllByRecursion (λ (other : Square). other.level ≤ most) (cond t [] (square ∷ []))) [
      | true ↦ tt
      | false ↦ (low, tt)
    ]

-- none of them is of a larger level
pub levels_in : (more : ℕ) (plane : Plane) → AllByRecursion (λ square. square.level ≤ more + 3) (squares_in more plane)
unfolding squares_in
levels_in zero plane = alive_level (record { level = 3; plane = plane }) (0 + 3) (omega arith)
levels_in (suc more) plane =
    let Low : Square → Type 0 = λ square. square.level ≤ suc more + 3 in
    let lower = λ (quarter : Plane). AllByRecursion-weaker (λ (square : Square). square.level ≤ more + 3) Low (λ square low. omega (arith, low)) (squares_in more quarter) (levels_in more quarter) in
    all_append Low _ _ (all_append Low _ _ (all_append Low _ _ (all_append Low _ _ (lower (nw_of (more + 3) plane).plane) (lower (ne_of (more + 3) plane).plane)) (lower (sw_of (more + 3) plane).plane)) (lower (se_of (more + 3) plane).plane))
    (alive_level (record { level = suc more + 3; plane = plane }) (suc more + 3) (omega arith))
